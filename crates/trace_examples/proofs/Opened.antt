-- Traces whose openings fail that can be relied on.
use Rattle.std.proofs.Common.{[], ◌∷◌, Some, None, refl}
use Rattle.std.specs.Fmt.{digits}
use Rattle.redis_error.specs.declared.fault_kind.FaultKind.TheVariants.{Reset, TimedOut}
use Rattle.redis_error.specs.declared.redis_error.RedisError.TheVariants as error
use Rattle.std.specs.Str.Lossy.{utf8_lossy, utf8_valid_len}
use Rattle.url.proofs.OnLiterals.{url_on_literals}
use Rattle.driver_model.specs.declared.action.Action.TheVariants as action
use Rattle.driver_model.specs.declared.event.EventKind.TheVariants as event
use Rattle.driver_model.specs.declared.event.Submission.TheVariants as submission
use Rattle.driver_model.specs.declared.outcome.Outcome.TheVariants as outcome
use Rattle.legal_trace.specs.Managers.{settings_in, is_lazy}
use Rattle.legal_trace.specs.Events.{is_bad_event}
use Rattle.trace_examples.specs.Parts.{turn, command, unbounded, bounded}
use Rattle.trace_examples.specs.Openings.{timed_opening, refusal_shown, refused_at_first, timed_out}
use Rattle.trace_examples.specs.Claims.{IsTraceOf, IsTraceIn}
use Rattle.trace_examples.proofs.Due.{legal}
use Rattle.trace_examples.proofs.Server.{at_h}

-- the time of a connect is over: the link is closed, and the command that waits and the next one get the error of the opening
pub connect_timed_out : IsTraceIn bounded
    (event.Submit (command 71) ∷ event.Fired 0 ∷ event.Submit (command 72) ∷ event.Connected 0 ∷ [])
    timed_out
    (action.Outcome 0 (outcome.Fault (error.Io TimedOut)) ∷ turn 3 (event.Submit (command 72)) ∷ action.Outcome 1 (outcome.Fault (error.Io TimedOut)) ∷ turn 4 (event.Connected 0) ∷ [])
unfolding digits settings_in is_lazy is_bad_event url_on_literals utf8_lossy utf8_valid_len
connect_timed_out word = legal bounded word _ _ refl refl (at_h None, ((refl, refl), (refl, (refl, (refl, tt)))))

-- a connect fails: both commands that wait get its error, and so does the next one
pub all_refused : IsTraceOf
    (event.Submit (command 71) ∷ event.Submit (command 72) ∷ event.Refused 0 Reset ∷ event.Submit (command 73) ∷ [])
    refusal_shown
    (action.Outcome 0 (outcome.Fault (error.Io Reset)) ∷ action.Outcome 1 (outcome.Fault (error.Io Reset)) ∷ turn 4 (event.Submit (command 73)) ∷ action.Outcome 2 (outcome.Fault (error.Io Reset)) ∷ [])
unfolding digits settings_in is_lazy is_bad_event url_on_literals utf8_lossy utf8_valid_len
all_refused word = legal unbounded word _ _ refl refl (at_h (Some None), (refl, (refl, (refl, (refl, tt)))))

-- behind a failed connect a command without words is empty still, and one after the shutdown is closed
pub empty_and_late : IsTraceOf
    (event.Refused 0 Reset ∷ event.Submit (submission.Cmd []) ∷ event.Shutdown ∷ event.Submit (command 71) ∷ [])
    refused_at_first
    (turn 2 (event.Submit (submission.Cmd [])) ∷ action.Outcome 0 (outcome.Fault error.EmptyCommand) ∷ turn 3 event.Shutdown ∷ turn 4 (event.Submit (command 71)) ∷ action.Outcome 1 (outcome.Fault error.Closed) ∷ [])
unfolding digits settings_in is_lazy is_bad_event url_on_literals utf8_lossy utf8_valid_len
empty_and_late word = legal unbounded word _ _ refl refl (at_h (Some None), (refl, (refl, (refl, tt))))

-- once a link is up, its timer and a refusal change nothing
pub up_in_time : IsTraceIn bounded
    (event.Connected 0 ∷ event.Fired 0 ∷ event.Refused 0 Reset ∷ [])
    timed_opening
    (turn 1 (event.Connected 0) ∷ action.Created None ∷ turn 2 (event.Fired 0) ∷ turn 3 (event.Refused 0 Reset) ∷ [])
unfolding settings_in is_lazy is_bad_event url_on_literals utf8_lossy utf8_valid_len
up_in_time word = legal bounded word _ _ refl refl (at_h None, ((refl, refl), tt))
