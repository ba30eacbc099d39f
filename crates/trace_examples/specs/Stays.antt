-- Traces of what stays as it is: of places that are kept, of what comes too late or for nobody, and of managers that don't come back.
use Rattle.std.specs.Prelude.{ℕ, false, List, [], ◌∷◌, ◌++◌, Option, Some, None, codes}
use Rattle.redis_error.specs.declared.fault_kind.FaultKind.TheVariants.{BrokenPipe, Refused, Reset}
use Rattle.redis_error.specs.declared.redis_error.RedisError.TheVariants as error
use Rattle.resp_value.specs.declared.value.Value.TheVariants.{Nil}
use Rattle.manager_config.specs.declared.config.ConnectionManagerConfig.{ConnectionManagerConfig}
use Rattle.manager_config.specs.Backoff.{backoff}
use Rattle.manager_config.specs.Config.{default_manager}
use Rattle.driver_model.specs.declared.action.Action.{Action}
use Rattle.driver_model.specs.declared.action.Action.TheVariants as action
use Rattle.driver_model.specs.declared.action.Owner.TheVariants as owner
use Rattle.driver_model.specs.declared.action.WaitKind.TheVariants as wait
use Rattle.driver_model.specs.declared.config.Config.{Config}
use Rattle.driver_model.specs.Config.{no_manager_words}
use Rattle.driver_model.specs.declared.event.Event.{Event}
use Rattle.driver_model.specs.declared.event.EventKind.{EventKind}
use Rattle.driver_model.specs.declared.event.EventKind.TheVariants as event
use Rattle.driver_model.specs.declared.event.Submission.TheVariants as submission
use Rattle.driver_model.specs.declared.outcome.Outcome.TheVariants as outcome
use Rattle.driver_model.specs.Request.{packed_bytes}
use Rattle.trace_examples.specs.Parts.{behaving, patient, turn, command, unawaited, history, one_reply, okay_line}
use Rattle.trace_examples.specs.Traces.{opening, came_up, sent, cut_off, in_wait}
use Rattle.trace_examples.specs.Pushes.{get, disconnection}
use Rattle.trace_examples.specs.Calls.{call_of_c}
use Rattle.trace_examples.specs.Managers.{manager_to, opened, connect, drawn, resting, left_d, leaving_d}

-- two permits, a queue that holds one message, and a link that any unwritten byte holds back
abbrev pub counted_one_by_one : Config
counted_one_by_one = behaving (record patient { limit = Some 2; buffer = Some 1; boundary = Some 0 })

-- a manager of one attempt with such links, whose permits aren't counted
abbrev pub managed_one_by_one : Config
managed_one_by_one = manager_to false (codes "redis://h:6379") (record patient { buffer = Some 1; boundary = Some 0 }) (record no_manager_words { retries = Some 0 })

-- a command holds its link back, one behind it was told at its place, and a third one came and took the permit of that
abbrev pub told_in_place : Config → ℕ → List Action
told_in_place config word =
    came_up config word ++
    turn 2 (event.Submit (command 71)) ∷ action.Took (owner.Try 0 0) 0 1 ∷ action.Start 0 0 (owner.Try 0 0) 1 11 ∷ action.Write 0 (packed_bytes (command 71)) ∷
    turn 3 (event.Submit (unawaited 72)) ∷ action.Took (owner.Try 1 0) 0 1 ∷ action.Outcome 1 (outcome.One Nil) ∷
    turn 4 (event.Submit (command 73)) ∷ action.Took (owner.Try 2 0) 0 1 ∷ []

-- the link is ready
abbrev pub ready_at_once : Config → ℕ → List Action
ready_at_once config word = opened config word ++ turn 1 (event.Connected 0) ∷ action.Created None ∷ []

-- a command holds it back, one behind it was told at its place, and the link ends, so that the next one is asked for and is ready
abbrev pub left_behind : Config → ℕ → List Action
left_behind config word =
    ready_at_once config word ++
    turn 2 (event.Submit (command 71)) ∷ action.Round (owner.Try 0 0) (Some 0) ∷ action.Start 0 0 (owner.Try 0 0) 1 11 ∷ action.Write 0 (packed_bytes (command 71)) ∷
    turn 3 (event.Submit (unawaited 72)) ∷ action.Round (owner.Try 1 0) (Some 0) ∷ action.Outcome 1 (outcome.One Nil) ∷
    turn 4 (event.Ended 0) ∷ action.Close 0 ∷ action.Outcome 0 (outcome.Fault error.Closed) ∷ action.Generation 2 ∷ connect 1 ∷
    turn 5 (event.Connected 1) ∷ []

-- +y alone
abbrev pub other_reply : List ℕ
other_reply = codes "+y\r\n"

-- a reply came that nobody awaits, and then a command started
abbrev pub unasked : Config → ℕ → List Action
unasked config word =
    came_up config word ++ turn 2 (event.Bytes 0 one_reply) ∷
    turn 3 (event.Submit (command 71)) ∷ action.Start 0 0 (owner.Try 0 0) 1 11 ∷ action.Write 0 (packed_bytes (command 71)) ∷ []

-- a command was hit by a fault of a read, and its outcome shown
abbrev pub hit : Config → ℕ → List Action
hit config word = cut_off config word (command 71) 1 11 ++ action.Outcome 0 (outcome.Fault (error.Io Reset)) ∷ []

-- everything was shut down before the connect
abbrev pub shut_early : Config → ℕ → List Action
shut_early config word = opening config word ++ turn 1 event.Shutdown ∷ action.Close 0 ∷ []

-- a command waits for the connect, another time is set, and the link comes up
abbrev pub set_behind : Config → ℕ → List Action
set_behind config word = in_wait config word (command 71) ++ turn 2 (event.Timeout (Some 7)) ∷ turn 3 (event.Connected 0) ∷ action.Created None ∷ []

-- a command was sent, and a write failed
abbrev pub unwritable : Config → ℕ → List Action
unwritable config word = sent config word (command 71) 1 11 ++ turn 3 (event.WriteFault 0 BrokenPipe) ∷ action.Close 0 ∷ []

-- the link of a manager ended while nothing was open
abbrev pub ended_idle : Config → ℕ → List Action
ended_idle config word = ready_at_once config word ++ turn 2 (event.Ended 0) ∷ action.Close 0 ∷ []

-- a key was asked for, everything was shut down, and that was answered
abbrev pub shut_busy : Config → ℕ → List Action
shut_busy config word =
    ready_at_once config word ++
    turn 2 (event.Submit (get 97)) ∷ action.Round (owner.Try 0 0) (Some 0) ∷ action.Start 0 0 (owner.Try 0 0) 1 20 ∷ action.Write 0 (packed_bytes (get 97)) ∷
    turn 3 event.Shutdown ∷ action.Close 0 ∷ action.Outcome 0 (outcome.Fault error.Closed) ∷ []

-- a key was asked for while a manager waits behind a failed attempt, and everything was shut down
abbrev pub shut_at_rest : Config → ℕ → List Action
shut_at_rest config word =
    resting 250 50 config word ++ turn 2 (event.Submit (get 97)) ∷ action.Wait (owner.Try 0 0) wait.Backoff ∷ turn 3 event.Shutdown ∷ []

-- the events of it
abbrev pub shutting_at_rest : List Event
shutting_at_rest = drawn 250 (event.Refused 0 Refused) ∷ history (event.Submit (get 97) ∷ event.Shutdown ∷ [])

-- what is subscribed is subscribed again, and before that is answered the link ends, which is told
abbrev pub ended_again : Config → ℕ → List Action
ended_again config word = left_d config word ++ action.Start 1 1 owner.Resub 1 26 ∷ turn 16 (event.Ended 1) ∷ action.Close 1 ∷ action.Push 1 disconnection ∷ []

-- the events of it
abbrev pub ending_again : List EventKind
ending_again = leaving_d ++ event.Ended 1 ∷ []

-- a time was set, and then a key asked for
abbrev pub set_in_vain : Config → ℕ → List Action
set_in_vain config word =
    ready_at_once config word ++ turn 2 (event.Timeout (Some 7)) ∷
    turn 3 (event.Submit (get 97)) ∷ action.Round (owner.Try 0 0) (Some 0) ∷ action.Start 0 0 (owner.Try 0 0) 1 20 ∷ action.Write 0 (packed_bytes (get 97)) ∷ []

-- the fronts of the traces that are refused for what comes next
abbrev pub staying_fronts : ℕ → List (List Action)
staying_fronts word =
    told_in_place counted_one_by_one word ∷ left_behind managed_one_by_one word ∷ []

-- delays below a first bound, which grows by a fraction, and of at most so many milliseconds
abbrev pub delaying : ℕ → ℕ × ℕ → Option ℕ → ConnectionManagerConfig
delaying min base max = record default_manager { min_delay = min; exponent_base = base; max_delay = max }

-- the delay of these behind an attempt, by a word
abbrev pub delay_of : ConnectionManagerConfig × ℕ × ℕ → ℕ
delay_of asked = backoff asked.0 asked.1 asked.2

-- below 100, 200, 400 and 800 milliseconds; what is longer than the longest delay is that, and what is shorter stays; a bound that
-- grows by a half is rounded down, and one of 0 or 1 leaves no delay; and a bound stays below 2^64
abbrev pub delays : List ((ConnectionManagerConfig × ℕ × ℕ) × ℕ)
delays =
    ((delaying 100 (2, 1) None, 0, 99), 99)
    ∷ ((delaying 100 (2, 1) None, 0, 100), 0)
    ∷ ((delaying 100 (2, 1) None, 1, 150), 150)
    ∷ ((delaying 100 (2, 1) None, 3, 799), 799)
    ∷ ((delaying 100 (2, 1) None, 3, 800), 0)
    ∷ ((delaying 100 (2, 1) (Some 300), 3, 799), 300)
    ∷ ((delaying 100 (2, 1) (Some 300), 3, 450), 300)
    ∷ ((delaying 100 (2, 1) (Some 300), 3, 299), 299)
    ∷ ((delaying 100 (2, 1) (Some 0), 0, 99), 0)
    ∷ ((delaying 5 (3, 2) None, 1, 6), 6)
    ∷ ((delaying 5 (3, 2) None, 1, 7), 0)
    ∷ ((delaying 5 (3, 2) None, 2, 9), 9)
    ∷ ((delaying 5 (3, 2) None, 2, 10), 0)
    ∷ ((delaying 100 (1, 2) None, 1, 50), 0)
    ∷ ((delaying 0 (2, 1) None, 4, 77), 0)
    ∷ ((delaying 1 (2, 1) None, 0, 77), 0)
    ∷ ((delaying 18_446_744_073_709_551_615 (2, 1) None, 1, 18_446_744_073_709_551_614), 18_446_744_073_709_551_614)
    ∷ ((delaying 18_446_744_073_709_551_615 (2, 1) None, 1, 18_446_744_073_709_551_615), 0)
    ∷ []
