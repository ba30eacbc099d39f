-- Links on which what is subscribed is subscribed again: what they are, and what its start leaves.
use Rattle.std.proofs.Common.{◌≡◌, ℕ, suc, ◌+◌, Bool, true, false, ◌&&◌, ◌||◌, not, if◌then◌else◌, List, [], ◌∷◌, ◌++◌, length, Option, Some, None, refl, sym, ap, ◌∙◌, arith}
use Rattle.std.specs.Option.{is_none}
use Rattle.std.proofs.lemmas.Bool.{not-true}
use Rattle.containers.proofs.Choices.{by_test, taken_if, left_if, both_left, both_right}
use Rattle.legal_trace.specs.Ledger.{Ledger, Start, again_among, again_due, again_of, is_answered, is_of_again, is_ready, is_repeating, is_served, is_set_up}
use Rattle.legal_trace.proofs.Moves.{ready_is_set, ready_is_up}
use Rattle.legal_trace.proofs.Plain.{not_none}

-- none is none
is_none_from : {X : Type 0} (o : Option X) → is_none o ≡ true → o ≡ None
is_none_from None e = refl
is_none_from (Some x) e = cc e

-- a link on which it goes on is ready
pub repeating_is_ready : (l : Ledger) → is_repeating l ≡ true → is_ready l ≡ true
repeating_is_ready l h = both_left (is_ready l) (not (is_served l)) h

-- and doesn't take requests
pub repeating_is_unserved : (l : Ledger) → is_repeating l ≡ true → is_served l ≡ false
repeating_is_unserved l h = not-true (is_served l) (both_right (is_ready l) (not (is_served l)) h)

-- where it is to start, it goes on
pub due_repeats : (l : Ledger) → again_due l ≡ true → is_repeating l ≡ true
due_repeats l due = both_left (is_repeating l) (is_none (again_of l)) due

-- so the link is up
pub again_is_up : (l : Ledger) → again_due l ≡ true → l.up ≡ true
again_is_up l due = ready_is_up l (repeating_is_ready l (due_repeats l due))

-- set up
pub again_is_set : (l : Ledger) → again_due l ≡ true → is_set_up l ≡ true
again_is_set l due = ready_is_set l (repeating_is_ready l (due_repeats l due))

-- and it has not started
pub again_is_new : (l : Ledger) → again_due l ≡ true → again_of l ≡ None
again_is_new l due = is_none_from (again_of l) (both_right (is_repeating l) (is_none (again_of l)) due)

-- where nothing is subscribed again, a link that is ready takes requests
pub unwanted_is_served : (l : Ledger) → l.again.wanted ≡ false → is_served l ≡ true
unwanted_is_served l e = ap (λ wanted. not wanted || (l.again.over || is_answered l (again_of l))) e

-- so nothing goes on
pub unwanted_repeats_not : (l : Ledger) → l.again.wanted ≡ false → is_repeating l ≡ false
unwanted_repeats_not l e = ap (λ served. is_ready l && not served) (unwanted_is_served l e) ∙ never (is_ready l)
  where
    never : (p : Bool) → (p && false) ≡ false
    never true = refl
    never false = refl

-- nor is it to start
pub unwanted_is_undue : (l : Ledger) → l.again.wanted ≡ false → again_due l ≡ false
unwanted_is_undue l e = ap (λ repeating. repeating && is_none (again_of l)) (unwanted_repeats_not l e)

-- another start is none that subscribes again
pub again_else : (ss : List Start) (s : Start) (n : ℕ) → is_of_again s.owner ≡ false → again_among (ss ++ s ∷ []) n ≡ again_among ss n
again_else [] s n f = left_if (is_of_again s.owner) (Some n) None f
again_else (x ∷ ss) s n f = ap (λ (o : Option ℕ). if is_of_again x.owner then Some n else o) (again_else ss s (suc n) f)

-- where none was, the one that starts is it
pub again_begun : (ss : List Start) (s : Start) (n : ℕ) → again_among ss n ≡ None → is_of_again s.owner ≡ true → again_among (ss ++ s ∷ []) n ≡ Some (n + length ss)
again_begun [] s n e t = taken_if (is_of_again s.owner) (Some n) None t ∙ ap Some (let k : n ≡ n + 0 = omega arith in k)
again_begun (x ∷ ss) s n e t = by_test (is_of_again x.owner) (again_among ((x ∷ ss) ++ s ∷ []) n ≡ Some (n + suc (length ss)))
    (λ y. absurd (not_none (again_among (x ∷ ss) n) n e (taken_if (is_of_again x.owner) (Some n) (again_among ss (suc n)) y)))
    (λ f. left_if (is_of_again x.owner) (Some n) (again_among (ss ++ s ∷ []) (suc n)) f
    ∙ (again_begun ss s (suc n) (sym (left_if (is_of_again x.owner) (Some n) (again_among ss (suc n)) f) ∙ e) t
    ∙ ap Some (let k : suc n + length ss ≡ n + suc (length ss) = omega arith in k)))
