-- Links that are alike but for whether one message's verdict is wanted.
use Rattle.std.specs.Prelude.{◌≡◌, ◌⊎◌, ℕ, ◌==◌, Bool, true, List, [], ◌∷◌, if◌then◌else◌}
use Rattle.driver_model.specs.declared.hearing.Notice.{Notice}
use Rattle.link_core.specs.declared.message.Entry.{Entry}
use Rattle.link_core.specs.declared.message.NoticeAt.{NoticeAt}
use Rattle.link_core.specs.declared.message.Settled.{Settled}
use Rattle.link_core.specs.Dealing.{Dealing}
use Rattle.link_core.specs.Link.{LinkState, Starting, Settling, Reading}
use Rattle.link_core.specs.Row.{silent}

-- the same entry, or that message's, with its verdict not wanted
abbrev pub SameEntry : ℕ → Entry → Entry → Type 0
SameEntry id e f = (e ≡ f) ⊎ ((e.id ≡ id) × (f ≡ silent e))

-- the same messages, with the same items
abbrev pub SameRow : ℕ → List Entry → List Entry → Type 0
SameRow id [] [] = Unit {0}
SameRow id [] (f ∷ fs) = ⊥
SameRow id (e ∷ es) [] = ⊥
SameRow id (e ∷ es) (f ∷ fs) = SameEntry id e f × SameRow id es fs

-- the verdicts of all other messages
abbrev pub others : ℕ → List Settled → List Settled
others id [] = []
others id (s ∷ ss) = if s.id == id then others id ss else s ∷ others id ss

-- the same, but for that message's own verdict
pub record SameDealing (id : ℕ) (d e : Dealing) : Type 0 where
  pub row : SameRow id d.row e.row
  pub out : others id d.out ≡ others id e.out
  pub strange : d.strange ≡ e.strange

-- what is told, in order
abbrev pub told : List NoticeAt → List Notice
told [] = []
told (n ∷ ns) = n.notice ∷ told ns

-- the verdict of a row's first message is wanted, if it has one
abbrev pub is_first_wanted : List Entry → Bool
is_first_wanted [] = true
is_first_wanted (e ∷ es) = e.awaited

-- a link is set up, or is being set up by a message of which the verdict is wanted
abbrev pub SetsUp : Bool → List Entry → Type 0
SetsUp ready row = (ready ≡ true) ⊎ (is_first_wanted row ≡ true)

-- the same link, but for whether that message's verdict is wanted
pub record SameLink (id : ℕ) (s t : LinkState) : Type 0 where
  pub row : SameRow id s.row t.row
  pub rest : t ≡ record s { row = t.row }

-- and the same starts
pub record SameStarting (id : ℕ) (a b : Starting) : Type 0 where
  pub link : SameLink id a.link b.link
  pub out : a.out ≡ b.out

-- and the same verdicts, but for that message's own
pub record SameSettling (id : ℕ) (a b : Settling) : Type 0 where
  pub link : SameLink id a.link b.link
  pub out : others id a.out ≡ others id b.out

-- and what a call with bytes settles, and whether a value ends the link
pub record SameReading (id : ℕ) (a b : Reading) : Type 0 where
  pub link : SameLink id a.link b.link
  pub out : others id a.out ≡ others id b.out
  pub strange : a.strange ≡ b.strange
