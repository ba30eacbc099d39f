-- Since when a submission has its place.
use Rattle.std.proofs.Common.{◌≡◌, ◌⊎◌, inl, inr, ℕ, ◌≤◌, nat_lt, Bool, true, false, Option, Some, None, refl, sym, ◌∙◌, ap, arith}
use Rattle.containers.proofs.Choices.{lt_from}
use Rattle.legal_trace.specs.Steps.{is_taken_before}

-- a place that was taken in a turn from that one on, where there was none
pub record IsTakenFrom (turn : ℕ) (old new : Option ℕ) : Type 0 where
  pub none : old ≡ None
  pub at : ℕ
  pub is : new ≡ Some at
  pub late : turn ≤ at

-- a place is as it was, or was taken then
abbrev pub StaysOrComes : ℕ → Option ℕ → Option ℕ → Type 0
StaysOrComes turn old new = (new ≡ old) ⊎ IsTakenFrom turn old new

-- whether it was taken before that turn, or an earlier one, is as it was
pub taken_still : (turn since : ℕ) (old new : Option ℕ) → since ≤ turn → StaysOrComes turn old new → is_taken_before since new ≡ is_taken_before since old
taken_still turn since old new less (inl same) = ap (is_taken_before since) same
taken_still turn since old new less (inr h) = ap (is_taken_before since) h.is ∙ late_test (nat_lt h.at since) refl ∙ sym (ap (is_taken_before since) h.none)
  where
    late_test : (x : Bool) → nat_lt h.at since ≡ x → x ≡ false
    late_test true e = absurd (let i = lt_from h.at since e in let late = h.late in omega (arith, less, late, i))
    late_test false e = refl

-- one that was taken is a place
pub place_of_taken : (since : ℕ) (o : Option ℕ) → is_taken_before since o ≡ true → (t : ℕ) × (o ≡ Some t)
place_of_taken since None e = cc
place_of_taken since (Some t) e = (t, refl)
