-- Which submissions are still to start.
use Rattle.std.proofs.Common.{[], false, inl, inr, length, refl, true, ◌∙◌, ◌≡◌, ◌⊎◌}
use Rattle.std.proofs.lemmas.List.{nil_from_length}
use Rattle.std.specs.Prelude.{Bool, ◌==◌, ◌&&◌, ◌||◌}
use Rattle.containers.proofs.Choices.{both_left, both_right, eq_from}
use Rattle.legal_trace.specs.Story.{Story, is_open, is_told, is_unstarted}

-- its message has not started
pub unstarted_tries : (s : Story) → is_unstarted s ≡ true → s.tries ≡ []
unstarted_tries s e = nil_from_length s.tries (eq_from (length s.tries) 0 (both_left (length s.tries == 0) (is_open s || is_told s) e))

-- and it is open, or was told
pub unstarted_alive : (s : Story) → is_unstarted s ≡ true → (is_open s ≡ true) ⊎ (is_told s ≡ true)
unstarted_alive s e = either_one (is_open s) (is_told s) (both_right (length s.tries == 0) (is_open s || is_told s) e)
  where
    either_one : (a b : Bool) → (a || b) ≡ true → (a ≡ true) ⊎ (b ≡ true)
    either_one true b e = inl refl
    either_one false b e = inr e

-- the other way round, for one that is open
pub open_unstarted : (s : Story) → s.tries ≡ [] → is_open s ≡ true → is_unstarted s ≡ true
open_unstarted s none o = λ i. (length (none i) == 0) && (o i || is_told s)

-- what is true in any case
pub or_true : (a : Bool) → (a || true) ≡ true
or_true true = refl
or_true false = refl

-- and for one that was told
pub told_unstarted : (s : Story) → s.tries ≡ [] → is_told s ≡ true → is_unstarted s ≡ true
told_unstarted s none e = (λ i. (length (none i) == 0) && (is_open s || e i)) ∙ or_true (is_open s)
