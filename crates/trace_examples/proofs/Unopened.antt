-- Actions around an opening that fails, where they may not stand: whatever comes after these fronts, no trace that begins so
-- is legal.
use Rattle.std.proofs.Common.{◌≡◌, ◌≢◌, ℕ, ◌<◌, Option, Some, None, refl, inl, inr, sym, ◌∙◌, ap, arith}
use Rattle.std.specs.Fmt.{digits}
use Rattle.redis_error.specs.declared.fault_kind.FaultKind.TheVariants.{Reset, TimedOut}
use Rattle.redis_error.specs.declared.redis_error.RedisError.{RedisError}
use Rattle.redis_error.specs.declared.redis_error.RedisError.TheVariants as error
use Rattle.driver_model.specs.Config.{connect_timeout}
use Rattle.driver_model.specs.declared.action.Action.TheVariants as action
use Rattle.driver_model.specs.declared.action.Cause.{Cause}
use Rattle.driver_model.specs.declared.action.Cause.TheVariants as cause
use Rattle.driver_model.specs.declared.action.Purpose.{Purpose}
use Rattle.driver_model.specs.declared.config.Config.{Config}
use Rattle.driver_model.specs.declared.outcome.Outcome.{Outcome}
use Rattle.driver_model.specs.declared.outcome.Outcome.TheVariants as outcome
use Rattle.legal_trace.specs.Book.{Book, blank_book}
use Rattle.legal_trace.specs.Ledger.{failure_in, renewals_asked}
use Rattle.legal_trace.specs.Owed.{owed}
use Rattle.legal_trace.specs.Legal.{FailuresAreShown, MayTurn, MayShowCreation}
use Rattle.trace_examples.specs.Parts.{command}
use Rattle.trace_examples.specs.Traces.{opening}
use Rattle.trace_examples.specs.Openings.{timed_opening, connect_refused, refusal_shown, overdue, timed_out}
use Rattle.trace_examples.specs.Claims.{NoneBegins, NoneBeginsIn}
use Rattle.legal_trace.proofs.Again.{due_repeats, repeating_is_ready}
use Rattle.legal_trace.specs.Managers.{settings_in}
use Rattle.legal_trace.proofs.Plain.{not_none, same_some}
use Rattle.trace_examples.proofs.Bounded.{IsBounded, blank_bounded, bounded_behind}
use Rattle.trace_examples.proofs.Settled.{first_and_idle, failed_idle, idle_unasked}
use Rattle.trace_examples.proofs.Stood.{book_of, may_stand, answer, none_is_ready, created_by_link, opens_alone, opens_at_once}
use Rattle.trace_examples.proofs.Single.{some_is_none, other_fault, multiplexed_behind, of_alone, of_multiplexed}

-- a command that waited, answered with the closed connection
pub closed_in_place : NoneBegins timed_out (action.Outcome 0 (outcome.Fault error.Closed))
unfolding digits
closed_in_place config word events after h =
    let multiplexed = multiplexed_behind config word events (timed_opening config word) _ 1 (command 71) refl refl h in
    of_multiplexed config word (timed_out config word) (λ b. owed b 0 ≡ Some (outcome.Fault error.Closed) → ⊥) multiplexed (opens_alone config word events _ h) (other_fault (error.Io TimedOut) error.Closed (λ e. cc e)) (other_fault (error.Io TimedOut) error.Closed (λ e. cc e))
    (answer config word events (timed_out config word) after 0 (outcome.Fault error.Closed) refl h).owes

-- an outcome before it was shown that the connect failed
pub answered_before_the_failure : (o : Outcome) → NoneBegins connect_refused (action.Outcome 0 o)
unfolding digits
answered_before_the_failure o config word events after h =
    let m = answer config word events (connect_refused config word) after 0 o refl h in
    of_alone config word (connect_refused config word) (λ b. FailuresAreShown b → ⊥) (opens_alone config word events _ h) (λ shown. shown 0 (error.Io Reset) refl refl) (m.after_closes refl).2

-- and an outcome before an earlier one
pub second_before_the_first : (o : Outcome) → NoneBegins refusal_shown (action.Outcome 1 o)
unfolding digits
second_before_the_first o config word events after h =
    let m = answer config word events (refusal_shown config word) after 1 o refl h in
    let multiplexed = multiplexed_behind config word events (opening config word) _ 1 (command 71) refl refl h in
    let hit : Outcome = outcome.Fault (error.Io Reset) in
    of_multiplexed config word (refusal_shown config word) (λ b. owed b 0 ≡ None → ⊥) multiplexed (opens_alone config word events _ h) (some_is_none hit) (some_is_none hit) (m.in_order 0 (omega arith) refl refl)

-- a failed creation, and a second one of any sort
pub shown_again : (e : Option RedisError) → NoneBegins refusal_shown (action.Created e)
shown_again e config word events after h = of_error e (may_stand config word events (refusal_shown config word) after (action.Created e) h)
  where
    of_error : (e : Option RedisError) → MayShowCreation (book_of (refusal_shown config word)) e → ⊥
    of_error None (inl m) = cc m.once
    of_error None (inr m) = cc m.once
    of_error (Some x) m = cc m.once

-- a creation that is shown before the link is closed
pub failed_before_the_close : (e : Option RedisError) → NoneBegins overdue (action.Created e)
failed_before_the_close e config word events after h = of_error e (may_stand config word events (overdue config word) after (action.Created e) h)
  where
    of_error : (e : Option RedisError) → MayShowCreation (book_of (overdue config word)) e → ⊥
    of_error None m =
        let may = created_by_link (book_of (overdue config word)) (opens_at_once config word events _ h) m in
        none_is_ready (book_of (overdue config word)) may.l (bounded_behind blank_book (overdue config word) refl blank_bounded) refl refl may.ready
    of_error (Some x) m = cc (m.ended 0)

-- a failed connect has one link
refused_is_bounded : (config : Config) (word : ℕ) → IsBounded (book_of (connect_refused config word))
refused_is_bounded config word = bounded_behind blank_book (connect_refused config word) refl blank_bounded

-- a connect that failed, shown as one that didn't
pub created_when_refused : NoneBegins connect_refused (action.Created None)
created_when_refused config word events after h =
    let m = created_by_link (book_of (connect_refused config word)) (opens_at_once config word events _ h) (may_stand config word events (connect_refused config word) after (action.Created None) h) in
    none_is_ready (book_of (connect_refused config word)) m.l (refused_is_bounded config word) refl refl m.ready

-- or with another error
pub another_error : NoneBegins connect_refused (action.Created (Some error.Closed))
another_error config word events after h =
    let m = may_stand config word events (connect_refused config word) after (action.Created (Some error.Closed)) h in
    let b = book_of (connect_refused config word) in
    first_and_idle b (λ l. failure_in (b.link l).end ≡ Some error.Closed → ⊥) m.l (refused_is_bounded config word) refl
    (of_alone config word (connect_refused config word) (λ c. failure_in (c.link 0).end ≡ Some error.Closed → ⊥) (opens_alone config word events _ h) (λ fails. cc fails))
    (λ idle fails. failed_idle (b.link m.l) error.Closed idle fails) m.fails

-- a close of a link whose connect failed
pub closed_when_refused : NoneBegins connect_refused (action.Close 0)
closed_when_refused config word events after h = cc (may_stand config word events (connect_refused config word) after (action.Close 0) h).ends

-- where no new credentials are to be told on the first link, a timer for some is asked for nowhere
unrenewed : (b : Book) (l : ℕ) → IsBounded b → b.links ≡ 1 → renewals_asked (b.link 0) ≡ 0 → (b.link l).creds.timed < renewals_asked (b.link l) → ⊥
unrenewed b l bounded one none asked = first_and_idle b (λ m. (b.link m).creds.timed < renewals_asked (b.link m) → ⊥) l bounded one
    (λ i. omega (arith, i, none)) (λ idle i. let zero_is : renewals_asked (b.link l) ≡ 0 = idle_unasked (b.link l) idle in omega (arith, i, zero_is)) asked

-- a timer of a connect that may take any time
pub timer_unasked : (config : Config) (t ms : ℕ) (what : Purpose) → connect_timeout config ≡ None → NoneBeginsIn config opening (action.Timer t ms what)
timer_unasked config t ms what none word events after h = elim (may_stand config word events (opening config word) after (action.Timer t ms what) h) [
  | inl (inl m) ↦
      let same : config ≡ m.config = same_some config m.config m.told in
      let both : ◌≡◌ {A = Option ℕ} None (Some ms) = sym none ∙ (ap connect_timeout same ∙ m.bounded) in cc both
  | inl (inr m) ↦ not_none (settings_in (Some config)) m.settings (opens_alone config word events _ h) m.set
  | inr (inl m) ↦ cc m.unstarted
  | inr (inr (inl m)) ↦ unrenewed (book_of (opening config word)) m.l (bounded_behind blank_book (opening config word) refl blank_bounded) refl refl m.asked
  | inr (inr (inr m)) ↦ none_is_ready (book_of (opening config word)) m.l (bounded_behind blank_book (opening config word) refl blank_bounded) refl refl (repeating_is_ready ((book_of (opening config word)).link m.l) (due_repeats ((book_of (opening config word)).link m.l) m.due))
]

-- a turn behind an opening without a timer, where the time of the connect is bounded
pub timer_left_out : (config : Config) (number : ℕ) (c : Cause) → connect_timeout config ≢ None → NoneBeginsIn config opening (action.Turn number c)
timer_left_out config number c bounded word events after h = of_cause c (may_stand config word events (opening config word) after (action.Turn number c) h)
  where
    of_cause : (c : Cause) → MayTurn (book_of (opening config word)) number c → ⊥
    of_cause (cause.Opening other draws) m = cc m.is_for
    of_cause (cause.Event e) m = let x : 0 ≡ 1 = m.is_for.1.written.moved.begun.applied.timed config refl bounded in omega (arith, x)
