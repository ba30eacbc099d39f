-- Tests that compute, and what each says: of choices, of lists, of all numbers below another, and of steps.
use Rattle.std.proofs.Common.{◌≡◌, ◌≢◌, ℕ, zero, suc, ◌<◌, ◌==◌, Bool, true, false, ◌&&◌, not, List, [], ◌∷◌, Option, Some, None, refl, ap, ◌∙◌, arith}
use Rattle.std.specs.Option.{is_none}
use Rattle.std.proofs.lemmas.Bool.{not-true}
use Rattle.containers.proofs.Choices.{by_test, eq_from, ne_from, both_left, both_right, not_both}
use Rattle.driver_model.specs.declared.action.WaitKind.{WaitKind}
use Rattle.driver_model.specs.declared.action.WaitKind.TheVariants as wait
use Rattle.legal_trace.specs.Steps.{Step, waits, rounds, takes, asks, tells, starts, nothing}

-- the second test, where the first is true
abbrev pub holds_if : Bool → Bool → Bool
holds_if true q = q
holds_if false q = true

-- what it says
pub held : (p q : Bool) → holds_if p q ≡ true → p ≡ true → q ≡ true
held true q h t = h
held false q h t = cc

-- there is none
pub none_from : {A : Type 0} (x : Option A) → is_none x ≡ true → x ≡ None
none_from None e = refl
none_from (Some x) e = cc

-- there are none
abbrev pub is_empty : {A : Type 0} → List A → Bool
is_empty [] = true
is_empty (x ∷ xs) = false

pub empty_from : {A : Type 0} (xs : List A) → is_empty xs ≡ true → xs ≡ []
empty_from [] e = refl
empty_from (x ∷ xs) e = cc

-- there are some
pub filled_from : {A : Type 0} (xs : List A) → not (is_empty xs) ≡ true → xs ≡ [] → ⊥
filled_from [] e n = cc e
filled_from (x ∷ xs) e n = cc n

-- a test of every number below k
abbrev pub each_below : (ℕ → Bool) → ℕ → Bool
each_below test zero = true
each_below test (suc k) = test k && each_below test k

-- what it says of one of them
pub below : (test : ℕ → Bool) (k n : ℕ) → each_below test k ≡ true → n < k → test n ≡ true
below test zero n e l = absurd (omega arith)
below test (suc k) n e l =
    by_test (n == k) (test n ≡ true) (λ same. ap test (eq_from n k same) ∙ both_left (test k) (each_below test k) e)
    (λ other. let apart = ne_from n k other in below test k n (both_right (test k) (each_below test k) e) (omega arith))

-- two waits of one kind
abbrev pub same_wait : WaitKind → WaitKind → Bool
same_wait wait.Connect wait.Connect = true
same_wait wait.Creds wait.Creds = true
same_wait wait.Setup wait.Setup = true
same_wait wait.Resubscribe wait.Resubscribe = true
same_wait wait.Backoff wait.Backoff = true
same_wait wait.Permit wait.Permit = true
same_wait wait.Place wait.Place = true
same_wait wait.Room wait.Room = true
same_wait _ _ = false

-- what this says
wait_from : (k j : WaitKind) → same_wait k j ≡ true → k ≡ j
wait_from wait.Connect wait.Connect e = refl
wait_from wait.Creds wait.Creds e = refl
wait_from wait.Setup wait.Setup e = refl
wait_from wait.Resubscribe wait.Resubscribe e = refl
wait_from wait.Backoff wait.Backoff e = refl
wait_from wait.Permit wait.Permit e = refl
wait_from wait.Place wait.Place e = refl
wait_from wait.Room wait.Room e = refl
wait_from _ _ e = cc

-- each is of its own kind
wait_is_one : (k : WaitKind) → same_wait k k ≡ true
wait_is_one wait.Connect = refl
wait_is_one wait.Creds = refl
wait_is_one wait.Setup = refl
wait_is_one wait.Resubscribe = refl
wait_is_one wait.Backoff = refl
wait_is_one wait.Permit = refl
wait_is_one wait.Place = refl
wait_is_one wait.Room = refl

-- two steps of one sort
abbrev pub same_step : Step → Step → Bool
same_step (waits k) (waits j) = same_wait k j
same_step rounds rounds = true
same_step (takes m) (takes n) = m == n
same_step (asks m) (asks n) = m == n
same_step tells tells = true
same_step starts starts = true
same_step nothing nothing = true
same_step _ _ = false

-- what this says
pub step_from : (s t : Step) → same_step s t ≡ true → s ≡ t
step_from (waits k) (waits j) e = ap waits (wait_from k j e)
step_from rounds rounds e = refl
step_from (takes m) (takes n) e = ap takes (eq_from m n e)
step_from (asks m) (asks n) e = ap asks (eq_from m n e)
step_from tells tells e = refl
step_from starts starts e = refl
step_from nothing nothing e = refl
step_from _ _ e = cc

-- the wait that was shown, if one was, is of another kind
abbrev pub is_other_wait : Option WaitKind → WaitKind → Bool
is_other_wait None kind = true
is_other_wait (Some shown) kind = not (same_wait shown kind)

-- what this says
pub other_wait : (shown : Option WaitKind) (kind : WaitKind) → is_other_wait shown kind ≡ true → shown ≢ Some kind
other_wait None kind e same = cc same
other_wait (Some shown) kind e same =
    let k : shown ≡ kind = cc same in
    not_both (same_wait shown kind) (not-true (same_wait shown kind) e) (ap (λ x. same_wait x kind) k ∙ wait_is_one kind)
