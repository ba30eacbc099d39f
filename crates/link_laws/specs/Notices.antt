-- What a link tells, and where it stands among what the link settles.
use Rattle.std.specs.Prelude.{◌≡◌, ℕ, suc, nat_lt, List, [], ◌∷◌, Some, slice_get}
use Rattle.driver_model.specs.declared.action.Owner.{Owner}
use Rattle.driver_model.specs.declared.outcome.Shape.{Shape}
use Rattle.driver_model.specs.Shape.{outcome_of}
use Rattle.link_core.specs.declared.message.NoticeAt.{NoticeAt}
use Rattle.link_core.specs.declared.message.Settled.{Settled}
use Rattle.legal_trace.specs.Ledger.{Ledger, Heard, is_full_by}
use Rattle.legal_trace.specs.Owed.{owed_to_message}
use Rattle.link_laws.specs.Settles.{StandsAs}

-- the notices of a call and those that its ledger heard say the same, one by one
abbrev pub SayTheSame : List NoticeAt → List Heard → Type 0
SayTheSame [] [] = Unit {0}
SayTheSame [] (h ∷ hs) = ⊥
SayTheSame (p ∷ ps) [] = ⊥
SayTheSame (p ∷ ps) (h ∷ hs) = (p.notice ≡ h.what) × SayTheSame ps hs

-- the settled message that stands at this place of a call's list comes to what the ledger owes it, and stands before a notice of
-- that call exactly where it was full before what is told came
pub record IsApart (name : ℕ → Owner) (l : Ledger) (notices : List NoticeAt) (heard : List Heard) (place : ℕ) (s : Settled) : Type 0 where
  pub number : ℕ
  pub of_shape : Shape
  pub stands : StandsAs l.starts (name s.id) of_shape number
  pub owes : owed_to_message l number of_shape ≡ Some (outcome_of s.verdict)
  pub apart : (i : ℕ) (p : NoticeAt) (h : Heard) → slice_get notices i ≡ Some p → slice_get heard i ≡ Some h → nat_lt place p.settled ≡ is_full_by l h.after number

-- so do all of these, from this place on
abbrev pub AreApart : (ℕ → Owner) → Ledger → List NoticeAt → List Heard → ℕ → List Settled → Type 0
AreApart name l notices heard place [] = Unit {0}
AreApart name l notices heard place (s ∷ ss) = IsApart name l notices heard place s × AreApart name l notices heard (suc place) ss
