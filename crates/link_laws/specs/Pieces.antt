-- Values that come one after another, and bytes that come in two pieces.
use Rattle.std.specs.Prelude.{◌≡◌, ℕ, ◌+◌, ◌==◌, Bool, ◌||◌, not, List, [], ◌∷◌, ◌++◌, length}
use Rattle.resp_value.specs.Data.{Data}
use Rattle.driver_model.specs.declared.hearing.Hearing.{Hearing}
use Rattle.link_core.specs.declared.message.NoticeAt.{NoticeAt}
use Rattle.link_core.specs.Dealing.{Dealing, dealing_with, taken_each}
use Rattle.link_core.specs.Link.{LinkState, Reading, piece_read}

-- what these values made of a link's row, what they settled, and what was told of them
abbrev pub taken_by : Hearing → Bool → LinkState → List Data → Dealing
taken_by h ready s values = taken_each h ready (dealing_with s.row) values

-- notices behind n more settled messages
abbrev pub later_each : ℕ → List NoticeAt → List NoticeAt
later_each n [] = []
later_each n (p ∷ ps) = record p { settled = n + p.settled } ∷ later_each n ps

-- what is read behind this
abbrev pub read_then : Reading → Reading → Reading
read_then r more = record { link = more.link; out = r.out ++ more.out; notices = r.notices ++ later_each (length r.out) more.notices; strange = more.strange }

-- the link is set up behind this
abbrev pub is_set_up_behind : Bool → Reading → Bool
is_set_up_behind ready r = ready || not (length r.out == 0)

-- bytes that come in two pieces
abbrev pub pieces_read : Hearing → Bool → LinkState → List ℕ → List ℕ → Reading
pieces_read h ready s p q = let r = piece_read h ready s p in read_then r (piece_read h (is_set_up_behind ready r) r.link q)

-- a call that ended the link, and one with more bytes: the same row, and the same is settled and told
pub record EndsAlike (r whole : Reading) : Type 0 where
  pub row : whole.link.row ≡ r.link.row
  pub settled : whole.out ≡ r.out
  pub told : whole.notices ≡ r.notices
  pub strange : whole.strange ≡ r.strange
