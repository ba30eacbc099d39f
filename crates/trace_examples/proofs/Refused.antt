-- Outcomes that can't be relied on: whatever comes after these fronts, no trace that begins so is legal.
use Rattle.std.proofs.Common.{◌≡◌, ℕ, List, [], ◌∷◌, ◌++◌, None, Some, refl, arith}
use Rattle.std.specs.Fmt.{digits}
use Rattle.redis_error.specs.declared.fault_kind.FaultKind.{FaultKind}
use Rattle.redis_error.specs.declared.fault_kind.FaultKind.TheVariants.{Reset}
use Rattle.redis_error.specs.declared.redis_error.RedisError.{RedisError}
use Rattle.redis_error.specs.declared.redis_error.RedisError.TheVariants as error
use Rattle.resp_value.specs.Data.{Data}
use Rattle.resp_value.specs.Kinds.{kind_of}
use Rattle.resp_value.specs.declared.value.Value.{Value}
use Rattle.resp_read.specs.Grammar.{max_depth}
use Rattle.resp_read.specs.Values.{values, left_over}
use Rattle.resp_read.specs.Items.{items}
use Rattle.driver_model.specs.declared.action.Action.{Action}
use Rattle.driver_model.specs.declared.action.Action.TheVariants as action
use Rattle.driver_model.specs.declared.config.Config.{Config}
use Rattle.driver_model.specs.declared.event.Event.{Event}
use Rattle.driver_model.specs.declared.outcome.Outcome.{Outcome}
use Rattle.driver_model.specs.declared.outcome.Outcome.TheVariants as outcome
use Rattle.legal_trace.specs.Owed.{owed}
use Rattle.legal_trace.specs.Legal.{Legal}
use Rattle.trace_examples.specs.Parts.{command, unawaited, two_together, one_atomic, one_skipped, reply}
use Rattle.trace_examples.specs.Traces.{opening, cut_off_alone, started_one, shut_down, answered_both, answered_alike, pushed, cut_off, told_first, half_filled, refused, left_alone, shut_in_wait}
use Rattle.trace_examples.proofs.Stood.{answer, opens_alone, still_open, other_letter}
use Rattle.trace_examples.proofs.Single.{none_is_some, some_is_none, other_fault, multiplexed_behind, of_multiplexed, of_arrived}

-- two replies swapped
pub swapped : (config : Config) (word : ℕ) (events : List Event) (after : List Action)
    → Legal config word events (answered_both config word ++ action.Outcome 0 (reply 121) ∷ after) → ⊥
unfolding digits items values left_over max_depth
swapped config word events after h =
    of_arrived config word events (answered_both config word) _ (command 71) (λ b. owed b 0 ≡ Some (reply 121) → ⊥) refl h (λ name. other_letter 120 121 refl) (λ name. other_letter 120 121 refl)
    (answer config word events (answered_both config word) after 0 (reply 121) refl h).owes

-- two replies that are alike, in the other order
pub out_of_order : (config : Config) (word : ℕ) (events : List Event) (after : List Action)
    → Legal config word events (answered_alike config word ++ action.Outcome 1 (reply 120) ∷ after) → ⊥
unfolding digits items values left_over max_depth
out_of_order config word events after h =
    let m = answer config word events (answered_alike config word) after 1 (reply 120) refl h in
    of_arrived config word events (answered_alike config word) _ (command 71) (λ b. owed b 0 ≡ None → ⊥) refl h (λ name. some_is_none (reply 120)) (λ name. some_is_none (reply 120)) (m.in_order 0 (omega arith) refl refl)

-- an outcome too many
pub answered_twice : (config : Config) (word : ℕ) (events : List Event) (after : List Action)
    → Legal config word events ((answered_both config word ++ action.Outcome 0 (reply 120) ∷ []) ++ action.Outcome 0 (reply 120) ∷ after) → ⊥
unfolding digits items values left_over max_depth
answered_twice config word events after h = cc (still_open config word events (answered_both config word ++ action.Outcome 0 (reply 120) ∷ []) after 0 (reply 120) h)

-- a push without reply as an answer
pub push_as_answer : (config : Config) (word : ℕ) (events : List Event) (after : List Action) (value : Value)
    → Legal config word events (pushed config word ++ action.Outcome 0 (outcome.One value) ∷ after) → ⊥
unfolding digits items values left_over max_depth kind_of
push_as_answer config word events after value h =
    of_arrived config word events (pushed config word) _ (command 71) (λ b. owed b 0 ≡ Some (outcome.One value) → ⊥) refl h (λ name. none_is_some (outcome.One value)) (λ name. none_is_some (outcome.One value))
    (answer config word events (pushed config word) after 0 (outcome.One value) refl h).owes

-- an outcome whose cause is missing
pub causeless : (config : Config) (word : ℕ) (events : List Event) (after : List Action)
    → Legal config word events (started_one config word ++ action.Outcome 0 (outcome.Fault error.Closed) ∷ after) → ⊥
unfolding digits
causeless config word events after h =
    of_arrived config word events (started_one config word) _ (command 71) (λ b. owed b 0 ≡ Some (outcome.Fault error.Closed) → ⊥) refl h (λ name. none_is_some (outcome.Fault error.Closed)) (λ name. none_is_some (outcome.Fault error.Closed))
    (answer config word events (started_one config word) after 0 (outcome.Fault error.Closed) refl h).owes

-- the fault of its link, given to a pipeline
pub fault_to_a_pipeline : (config : Config) (word : ℕ) (events : List Event) (after : List Action) (kind : FaultKind)
    → Legal config word events (cut_off config word two_together 2 22 ++ action.Outcome 0 (outcome.Fault (error.Io kind)) ∷ after) → ⊥
unfolding digits
fault_to_a_pipeline config word events after kind h =
    of_arrived config word events (cut_off config word two_together 2 22) _ two_together (λ b. owed b 0 ≡ Some (outcome.Fault (error.Io kind)) → ⊥) refl h (λ name. other_fault error.Closed (error.Io kind) (λ e. cc e)) (λ name. other_fault error.Closed (error.Io kind) (λ e. cc e))
    (answer config word events (cut_off config word two_together 2 22) after 0 (outcome.Fault (error.Io kind)) refl h).owes

-- the closed connection, given to the single command that its fault hit
pub closed_to_the_oldest : (config : Config) (word : ℕ) (events : List Event) (after : List Action)
    → Legal config word events (cut_off config word (command 71) 1 11 ++ action.Outcome 0 (outcome.Fault error.Closed) ∷ after) → ⊥
unfolding digits
closed_to_the_oldest config word events after h =
    of_arrived config word events (cut_off config word (command 71) 1 11) _ (command 71) (λ b. owed b 0 ≡ Some (outcome.Fault error.Closed) → ⊥) refl h (λ name. other_fault (error.Io Reset) error.Closed (λ e. cc e)) (λ name. other_fault (error.Io Reset) error.Closed (λ e. cc e))
    (answer config word events (cut_off config word (command 71) 1 11) after 0 (outcome.Fault error.Closed) refl h).owes

-- the item of a command whose reply nobody awaits, given to the next message
pub reply_to_another : (config : Config) (word : ℕ) (events : List Event) (after : List Action)
    → Legal config word events (told_first config word ++ action.Outcome 1 (reply 120) ∷ after) → ⊥
unfolding digits items values left_over max_depth
reply_to_another config word events after h =
    of_arrived config word events (told_first config word) _ (unawaited 71) (λ b. owed b 1 ≡ Some (reply 120) → ⊥) refl h (λ name. other_letter 121 120 refl) (λ name. other_letter 121 120 refl)
    (answer config word events (told_first config word) after 1 (reply 120) refl h).owes

-- a pipeline answered before its need is full
pub before_its_need : (config : Config) (word : ℕ) (events : List Event) (after : List Action) (kept : List Data)
    → Legal config word events (half_filled config word ++ action.Outcome 0 (outcome.Many kept) ∷ after) → ⊥
unfolding digits items values left_over max_depth
before_its_need config word events after kept h =
    of_arrived config word events (half_filled config word) _ one_skipped (λ b. owed b 0 ≡ Some (outcome.Many kept) → ⊥) refl h (λ name. none_is_some (outcome.Many kept)) (λ name. none_is_some (outcome.Many kept))
    (answer config word events (half_filled config word) after 0 (outcome.Many kept) refl h).owes

-- an error is no values
fault_is_many : (e : RedisError) (kept : List Data) → Some (outcome.Fault e) ≡ Some (outcome.Many kept) → ⊥
fault_is_many e kept same = cc same

-- a transaction that was refused, answered as values
pub values_of_the_refused : (config : Config) (word : ℕ) (events : List Event) (after : List Action) (kept : List Data)
    → Legal config word events (refused config word ++ action.Outcome 0 (outcome.Many kept) ∷ after) → ⊥
unfolding digits items values left_over max_depth
values_of_the_refused config word events after kept h =
    of_arrived config word events (refused config word) _ one_atomic (λ b. owed b 0 ≡ Some (outcome.Many kept) → ⊥) refl h (λ name. fault_is_many _ kept) (λ name. fault_is_many _ kept)
    (answer config word events (refused config word) after 0 (outcome.Many kept) refl h).owes

-- the item of a message that was cancelled, given to the next message
pub item_of_the_cancelled : (config : Config) (word : ℕ) (events : List Event) (after : List Action)
    → Legal config word events (left_alone config word ++ action.Outcome 1 (reply 120) ∷ after) → ⊥
unfolding digits items values left_over max_depth
item_of_the_cancelled config word events after h =
    of_arrived config word events (left_alone config word) _ (command 71) (λ b. owed b 1 ≡ Some (reply 120) → ⊥) refl h (λ name. other_letter 121 120 refl) (λ name. other_letter 121 120 refl)
    (answer config word events (left_alone config word) after 1 (reply 120) refl h).owes

-- the fault of the oldest message, which was cancelled, given to the next command
pub fault_of_the_cancelled : (config : Config) (word : ℕ) (events : List Event) (after : List Action) (kind : FaultKind)
    → Legal config word events (cut_off_alone config word ++ action.Outcome 1 (outcome.Fault (error.Io kind)) ∷ after) → ⊥
unfolding digits
fault_of_the_cancelled config word events after kind h =
    of_arrived config word events (cut_off_alone config word) _ (command 71) (λ b. owed b 1 ≡ Some (outcome.Fault (error.Io kind)) → ⊥) refl h (λ name. other_fault error.Closed (error.Io kind) (λ e. cc e)) (λ name. other_fault error.Closed (error.Io kind) (λ e. cc e))
    (answer config word events (cut_off_alone config word) after 1 (outcome.Fault (error.Io kind)) refl h).owes

-- an answer after its cancel
pub answered_after_its_cancel : (config : Config) (word : ℕ) (events : List Event) (after : List Action) (o : Outcome)
    → Legal config word events (left_alone config word ++ action.Outcome 0 o ∷ after) → ⊥
unfolding digits items values left_over max_depth
answered_after_its_cancel config word events after o h = cc (still_open config word events (left_alone config word) after 0 o h)

-- an outcome of the shutdown, before it closed the link
pub answered_before_the_close : (config : Config) (word : ℕ) (events : List Event) (after : List Action) (o : Outcome)
    → Legal config word events (shut_down config word ++ action.Outcome 0 o ∷ after) → ⊥
unfolding digits
answered_before_the_close config word events after o h =
    of_arrived config word events (shut_down config word) _ (command 71) (λ b. owed b 0 ≡ Some o → ⊥) refl h (λ name. none_is_some o) (λ name. none_is_some o)
    (answer config word events (shut_down config word) after 0 o refl h).owes

-- the same where the connect isn't answered
pub answered_before_the_close_in_wait : (config : Config) (word : ℕ) (events : List Event) (after : List Action) (o : Outcome)
    → Legal config word events (shut_in_wait config word ++ action.Outcome 0 o ∷ after) → ⊥
unfolding digits
answered_before_the_close_in_wait config word events after o h =
    of_multiplexed config word (shut_in_wait config word) (λ b. owed b 0 ≡ Some o → ⊥) (multiplexed_behind config word events (opening config word) _ 1 (command 71) refl refl h) (opens_alone config word events _ h) (none_is_some o) (none_is_some o)
    (answer config word events (shut_in_wait config word) after 0 o refl h).owes
