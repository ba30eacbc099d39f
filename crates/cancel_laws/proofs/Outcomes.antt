-- What traces tell of outcomes, but for those of one submission.
use Rattle.std.proofs.Common.{◌≡◌, ◌≢◌, ℕ, zero, suc, ◌==◌, List, [], ◌∷◌, ◌++◌, Option, Some, None, slice_set, if◌then◌else◌, refl, sym, ap, ◌∙◌}
use Rattle.containers.proofs.Choices.{by_test, chosen, taken_if, left_if, eq_from, ne_from}
use Rattle.containers.proofs.Places.{get_set_other}
use Rattle.driver_model.specs.declared.action.Action.{Action}
use Rattle.driver_model.specs.declared.action.Action.TheVariants as action
use Rattle.driver_model.specs.declared.action.Cause.TheVariants as cause
use Rattle.driver_model.specs.declared.event.EventKind.{EventKind}
use Rattle.driver_model.specs.declared.event.EventKind.TheVariants as event
use Rattle.driver_model.specs.declared.outcome.Outcome.{Outcome}
use Rattle.single_session.specs.Replay.{with_room, told, told_each, if_placed, outcome_at}
use Rattle.cancel_laws.specs.ButFor.{unnumbered, all_unnumbered, shown_of, but_for}
use Rattle.conn_laws.proofs.Changes.Lists.{set_twice, set_apart, set_push_same}

-- what two traces tell one after another
pub told-append : (os : List (Option Outcome)) (xs ys : List Action) → told_each os (xs ++ ys) ≡ told_each (told_each os xs) ys
told-append os [] ys = refl
told-append os (a ∷ xs) ys = told-append (told os a) xs ys

-- the numbers of turns tell nothing of outcomes
--
-- one action
told_unnumbered : (os : List (Option Outcome)) (a : Action) → told os (unnumbered a) ≡ told os a
told_unnumbered os (action.Turn k (cause.Opening config word)) = refl
told_unnumbered os (action.Turn k (cause.Event e)) = refl
told_unnumbered os (action.Connect l host port) = refl
told_unnumbered os (action.Timer t ms what) = refl
told_unnumbered os (action.Took who l count) = refl
told_unnumbered os (action.Push l info) = refl
told_unnumbered os (action.Message m) = refl
told_unnumbered os (action.Monitor v) = refl
told_unnumbered os (action.NeedCreds c l) = refl
told_unnumbered os (action.Generation g) = refl
told_unnumbered os (action.Round who l) = refl
told_unnumbered os (action.Close l) = refl
told_unnumbered os (action.Write l bytes) = refl
told_unnumbered os (action.Wait who kind) = refl
told_unnumbered os (action.Start l k who need len) = refl
told_unnumbered os (action.Created e) = refl
told_unnumbered os (action.Outcome n o) = refl

-- and all
pub all_told_unnumbered : (os : List (Option Outcome)) (xs : List Action) → told_each os (all_unnumbered xs) ≡ told_each os xs
all_told_unnumbered os [] = refl
all_told_unnumbered os (a ∷ xs) = all_told_unnumbered (told os (unnumbered a)) xs ∙ ap (λ (ps : List (Option Outcome)). told_each ps xs) (told_unnumbered os a)

-- the outcomes of all other submissions
--
-- without the outcome of submission n
abbrev pub erased : ℕ → List (Option Outcome) → List (Option Outcome)
erased n os = slice_set os n None

-- any other is the same
pub other_outcome : (os : List (Option Outcome)) (n m : ℕ) → m ≢ n → outcome_at os m ≡ outcome_at (erased n os) m
other_outcome os n m o = ap if_placed (sym (get_set_other os n m None (λ e. o (sym e))))

-- a place for one more
erased_room : (n : ℕ) (os : List (Option Outcome)) (kind : EventKind) → erased n (with_room os kind) ≡ with_room (erased n os) kind
erased_room n os (event.Submit s) = set_push_same os n None
erased_room n os (event.Cancel m) = refl
erased_room n os (event.Connected l) = refl
erased_room n os (event.Refused l f) = refl
erased_room n os (event.Fired t) = refl
erased_room n os (event.Timeout ms) = refl
erased_room n os (event.Creds c auth) = refl
erased_room n os (event.CredsError c text) = refl
erased_room n os (event.CredsEnd c) = refl
erased_room n os (event.Wrote l count) = refl
erased_room n os (event.Bytes l piece) = refl
erased_room n os (event.Ended l) = refl
erased_room n os (event.ReadFault l kind) = refl
erased_room n os (event.WriteFault l kind) = refl
erased_room n os event.Shutdown = refl
erased_room n os event.DropStream = refl

-- an outcome tells nothing where it is submission n's, and else the same
erased_outcome : (n m : ℕ) (os : List (Option Outcome)) (o : Outcome) → erased n (slice_set os m (Some o)) ≡ told_each (erased n os) (if m == n then [] else action.Outcome m o ∷ [])
erased_outcome n m os o =
    by_test (m == n) _
    (λ t.
    ap (λ (k : ℕ). erased n (slice_set os k (Some o))) (eq_from m n t) ∙ set_twice os n (Some o) None
    ∙ sym (ap (told_each (erased n os)) (taken_if (m == n) [] (action.Outcome m o ∷ []) t)))
    (λ f. set_apart os m n (Some o) None (ne_from m n f) ∙ sym (ap (told_each (erased n os)) (left_if (m == n) [] (action.Outcome m o ∷ []) f)))

-- one action
erased_one : (n : ℕ) (os : List (Option Outcome)) (a : Action) → erased n (told os a) ≡ told_each (erased n os) (shown_of n a)
erased_one n os (action.Turn k (cause.Opening config word)) = refl
erased_one n os (action.Turn k (cause.Event e)) = erased_room n os e.kind
erased_one n os (action.Connect l host port) = refl
erased_one n os (action.Timer t ms what) = refl
erased_one n os (action.Took who l count) = refl
erased_one n os (action.Push l info) = refl
erased_one n os (action.Message m) = refl
erased_one n os (action.Monitor v) = refl
erased_one n os (action.NeedCreds c l) = refl
erased_one n os (action.Generation g) = refl
erased_one n os (action.Round who l) = refl
erased_one n os (action.Close l) = refl
erased_one n os (action.Write l bytes) = refl
erased_one n os (action.Wait who kind) = refl
erased_one n os (action.Start l k who need len) = refl
erased_one n os (action.Created e) = refl
erased_one n os (action.Outcome m o) = erased_outcome n m os o

-- and all
pub erased_told : (n : ℕ) (os : List (Option Outcome)) (xs : List Action) → erased n (told_each os xs) ≡ told_each (erased n os) (but_for n xs)
erased_told n os [] = refl
erased_told n os (a ∷ xs) =
    erased_told n (told os a) xs ∙ ap (λ (ps : List (Option Outcome)). told_each ps (but_for n xs)) (erased_one n os a)
    ∙ sym (told-append (erased n os) (shown_of n a) (but_for n xs))

-- what is shown but for a submission's outcomes tells nothing of its own
--
-- the place of one more submission is empty
none_placed : (os : List (Option Outcome)) (n : ℕ) → outcome_at (os ++ None ∷ []) n ≡ outcome_at os n
none_placed [] zero = refl
none_placed [] (suc n) = refl
none_placed (o ∷ os) zero = refl
none_placed (o ∷ os) (suc n) = none_placed os n

-- whatever the event
none_in_room : (os : List (Option Outcome)) (kind : EventKind) (n : ℕ) → outcome_at (with_room os kind) n ≡ outcome_at os n
none_in_room os (event.Submit s) n = none_placed os n
none_in_room os (event.Cancel m) n = refl
none_in_room os (event.Connected l) n = refl
none_in_room os (event.Refused l f) n = refl
none_in_room os (event.Fired t) n = refl
none_in_room os (event.Timeout ms) n = refl
none_in_room os (event.Creds c auth) n = refl
none_in_room os (event.CredsError c text) n = refl
none_in_room os (event.CredsEnd c) n = refl
none_in_room os (event.Wrote l count) n = refl
none_in_room os (event.Bytes l piece) n = refl
none_in_room os (event.Ended l) n = refl
none_in_room os (event.ReadFault l kind) n = refl
none_in_room os (event.WriteFault l kind) n = refl
none_in_room os event.Shutdown n = refl
none_in_room os event.DropStream n = refl

-- one action
none_one : (n : ℕ) (os : List (Option Outcome)) (a : Action) → outcome_at (told_each os (shown_of n a)) n ≡ outcome_at os n
none_one n os (action.Turn k (cause.Opening config word)) = refl
none_one n os (action.Turn k (cause.Event e)) = none_in_room os e.kind n
none_one n os (action.Connect l host port) = refl
none_one n os (action.Timer t ms what) = refl
none_one n os (action.Took who l count) = refl
none_one n os (action.Push l info) = refl
none_one n os (action.Message m) = refl
none_one n os (action.Monitor v) = refl
none_one n os (action.NeedCreds c l) = refl
none_one n os (action.Generation g) = refl
none_one n os (action.Round who l) = refl
none_one n os (action.Close l) = refl
none_one n os (action.Write l bytes) = refl
none_one n os (action.Wait who kind) = refl
none_one n os (action.Start l k who need len) = refl
none_one n os (action.Created e) = refl
none_one n os (action.Outcome m o) =
    chosen (λ (xs : List Action). outcome_at (told_each os xs) n ≡ outcome_at os n) (m == n) [] (action.Outcome m o ∷ []) (λ t. refl)
    (λ f. ap if_placed (get_set_other os m n (Some o) (ne_from m n f)))

-- and all
pub none_told : (n : ℕ) (os : List (Option Outcome)) (xs : List Action) → outcome_at (told_each os (but_for n xs)) n ≡ outcome_at os n
none_told n os [] = refl
none_told n os (a ∷ xs) =
    ap (λ (ps : List (Option Outcome)). outcome_at ps n) (told-append os (shown_of n a) (but_for n xs)) ∙ none_told n (told_each os (shown_of n a)) xs ∙ none_one n os a
