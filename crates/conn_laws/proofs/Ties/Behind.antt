-- Submissions that can still be answered or started, and their outcomes.
use Rattle.std.proofs.Common.{List, [], ap, arith, inl, inr, length, refl, sym, true, false, ◌==◌, ◌∙◌, ◌∷◌, ◌≡◌, ◌⊎◌}
use Rattle.std.specs.Prelude.{is_some, not, ◌&&◌}
use Rattle.containers.proofs.Choices.{both_left, both_right, by_test, eq_from, not_both}
use Rattle.resp_value.specs.declared.value.Value.TheVariants.{Nil}
use Rattle.redis_error.specs.declared.redis_error.RedisError.{RedisError}
use Rattle.driver_model.specs.declared.outcome.Outcome.{Outcome}
use Rattle.driver_model.specs.declared.outcome.Outcome.TheVariants as outcome
use Rattle.legal_trace.specs.Story.{Story, blank_story, is_awaited, is_no_error, is_open, is_told}

-- a submission that can still be answered or started
abbrev pub IsAlive : Story → Type 0
IsAlive s = (is_open s ≡ true) ⊎ (is_told s ≡ true)

-- what is open has no outcome
no_outcome : (os : List Outcome) → (length os == 0) ≡ true → os ≡ []
no_outcome [] e = refl
no_outcome (o ∷ os) e = absurd (let n = eq_from (length (o ∷ os)) 0 e in omega arith)

-- so an open submission has none
pub open_unanswered : (s : Story) → is_open s ≡ true → s.outcomes ≡ []
open_unanswered s o = no_outcome s.outcomes (both_right (is_some s.submission) (length s.outcomes == 0) (both_left (is_some s.submission && (length s.outcomes == 0)) (not s.cancelled) o))

-- nobody awaits the reply of who was told
pub told_unawaited : (s : Story) → is_told s ≡ true → is_awaited s ≡ false
told_unawaited s e = by_test (is_awaited s) _ (λ t. absurd (not_both (not (is_awaited s)) (ap not t) (both_left (not (is_awaited s)) (is_no_error s.outcomes) e))) (λ f. f)

-- who has one outcome, which is no error
pub told_answered : (s : Story) → is_told s ≡ true → is_no_error s.outcomes ≡ true
told_answered s e = both_right (not (is_awaited s)) (is_no_error s.outcomes) e

-- what is open was not told
pub open_untold : (s : Story) → is_open s ≡ true → is_told s ≡ false
open_untold s o = by_test (is_told s) _ (λ t. absurd (not_both (is_no_error s.outcomes) (ap is_no_error (open_unanswered s o)) (told_answered s t))) (λ f. f)

-- what was answered with Nil, and whose reply nobody awaits, was told
pub nil_told : (s : Story) → is_awaited s ≡ false → s.outcomes ≡ outcome.One Nil ∷ [] → is_told s ≡ true
nil_told s a o = λ i. not (a i) && is_no_error (o i)

-- what was answered with a fault isn't
pub fault_dead : (s : Story) (e : RedisError) → s.outcomes ≡ outcome.Fault e ∷ [] → IsAlive s → ⊥
fault_dead s e is (inl o) = let no : [] ≡ outcome.Fault e ∷ [] = sym (open_unanswered s o) ∙ is in cc
fault_dead s e is (inr told) = not_both (is_no_error s.outcomes) (ap is_no_error is) (told_answered s told)

-- nor what was never handed in
pub blank_dead : (s : Story) → s ≡ blank_story → IsAlive s → ⊥
blank_dead s is (inl o) = not_both (is_open s) (ap is_open is) o
blank_dead s is (inr told) = not_both (is_no_error s.outcomes) (ap (λ (x : Story). is_no_error x.outcomes) is) (told_answered s told)
