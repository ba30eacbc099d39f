-- Traces of submissions that take permits, and whose timers run.
use Rattle.std.specs.Prelude.{ℕ, List, [], ◌∷◌, ◌++◌, Some, None}
use Rattle.redis_error.specs.declared.fault_kind.FaultKind.TheVariants.{TimedOut}
use Rattle.redis_error.specs.declared.redis_error.RedisError.TheVariants as error
use Rattle.driver_model.specs.declared.action.Action.{Action}
use Rattle.driver_model.specs.declared.action.Action.TheVariants as action
use Rattle.driver_model.specs.declared.action.Owner.TheVariants as owner
use Rattle.driver_model.specs.declared.action.Purpose.TheVariants as purpose
use Rattle.driver_model.specs.declared.action.WaitKind.TheVariants as wait
use Rattle.driver_model.specs.declared.config.Config.{Config}
use Rattle.driver_model.specs.declared.event.EventKind.TheVariants as event
use Rattle.driver_model.specs.declared.outcome.Outcome.TheVariants as outcome
use Rattle.driver_model.specs.Request.{packed_bytes}
use Rattle.trace_examples.specs.Parts.{turn, command, unawaited, two_together, one_reply, unbounded, limited_to}
use Rattle.trace_examples.specs.Traces.{opening, came_up, arrived, in_wait, both_in_wait}

-- one permit, and 100 milliseconds for a request
abbrev pub one_permit : Config
one_permit = limited_to 1 (Some 100)

-- so many permits, and any time for a request
abbrev pub permits_alone : ℕ → Config
permits_alone limit = limited_to limit None

-- a command came, and took its permit
abbrev pub permit_taken : Config → ℕ → List Action
permit_taken config word = arrived config word (command 71) ++ action.Took (owner.Try 0 0) 0 1 ∷ []

-- and its timer of 100 milliseconds was asked for
abbrev pub timer_asked : Config → ℕ → List Action
timer_asked config word = permit_taken config word ++ action.Timer 0 100 (purpose.Response (owner.Try 0 0)) ∷ []

-- it started and was taken, and a second command came
abbrev pub second_came : Config → ℕ → List Action
second_came config word =
    timer_asked config word ++
    action.Start 0 0 (owner.Try 0 0) 1 11 ∷ action.Write 0 (packed_bytes (command 71)) ∷
    turn 3 (event.Wrote 0 11) ∷ turn 4 (event.Submit (command 72)) ∷ []

-- this waits for a permit when the timer of the first fires
abbrev pub time_is_over : Config → ℕ → List Action
time_is_over config word = second_came config word ++ action.Wait (owner.Try 1 0) wait.Permit ∷ turn 5 (event.Fired 0) ∷ []

-- and the first is answered so
abbrev pub permit_is_free : Config → ℕ → List Action
permit_is_free config word = time_is_over config word ++ action.Outcome 0 (outcome.Fault (error.Io TimedOut)) ∷ []

-- the second takes it, and starts, and then the reply to the first comes
abbrev pub replied_late : Config → ℕ → List Action
replied_late config word =
    permit_is_free config word ++
    action.Took (owner.Try 1 0) 0 1 ∷ action.Timer 1 100 (purpose.Response (owner.Try 1 0)) ∷
    action.Start 0 1 (owner.Try 1 0) 1 11 ∷ action.Write 0 (packed_bytes (command 72)) ∷ turn 6 (event.Bytes 0 one_reply) ∷ []

-- a pipeline of two took two permits, and a second one came
abbrev pub two_taken : Config → ℕ → List Action
two_taken config word =
    came_up config word ++
    turn 2 (event.Submit two_together) ∷ action.Took (owner.Try 0 0) 0 2 ∷ action.Start 0 0 (owner.Try 0 0) 2 22 ∷
    action.Write 0 (packed_bytes two_together) ∷ turn 3 (event.Submit two_together) ∷ []

-- two commands waited for the connect, the first without anybody who awaits its reply
abbrev pub unawaited_first : Config → ℕ → List Action
unawaited_first config word =
    in_wait config word (unawaited 71) ++
    turn 2 (event.Submit (command 72)) ∷ action.Wait (owner.Try 1 0) wait.Connect ∷
    turn 3 (event.Connected 0) ∷ action.Created None ∷ []

-- two commands waited for the connect; the first took its permit and was offered, and nothing was shown of the second
abbrev pub connect_left_standing : Config → ℕ → List Action
connect_left_standing config word =
    both_in_wait config word (command 72) ++
    action.Took (owner.Try 0 0) 0 1 ∷ action.Start 0 0 (owner.Try 0 0) 1 11 ∷ action.Write 0 (packed_bytes (command 71)) ∷ []

-- the opening asked for a timer of its connect, and a command came, whose timer is the next
abbrev pub second_timer : Config → ℕ → List Action
second_timer config word =
    opening config word ++
    action.Timer 0 1000 (purpose.Connect 0) ∷ turn 1 (event.Connected 0) ∷ action.Created None ∷
    turn 2 (event.Submit (command 71)) ∷ action.Timer 1 500 (purpose.Response (owner.Try 0 0)) ∷ []

-- a command started; a second one has the one place of the queue, and waits for room, and a third one for the place
abbrev pub three_timers : Config → ℕ → List Action
three_timers config word =
    arrived config word (command 71) ++
    action.Timer 0 100 (purpose.Response (owner.Try 0 0)) ∷ action.Start 0 0 (owner.Try 0 0) 1 11 ∷ action.Write 0 (packed_bytes (command 71)) ∷
    turn 3 (event.Submit (command 72)) ∷ action.Timer 1 100 (purpose.Response (owner.Try 1 0)) ∷ action.Wait (owner.Try 1 0) wait.Room ∷
    turn 4 (event.Submit (command 73)) ∷ action.Timer 2 100 (purpose.Response (owner.Try 2 0)) ∷ action.Wait (owner.Try 2 0) wait.Place ∷ []

-- the fronts of the traces that are refused for what comes next
abbrev pub permit_fronts : ℕ → List (List Action)
permit_fronts word =
    arrived one_permit word (command 71) ∷ arrived unbounded word (command 71) ∷ permit_taken one_permit word ∷
    timer_asked one_permit word ∷ second_came (limited_to 2 (Some 100)) word ∷ time_is_over one_permit word ∷
    permit_is_free one_permit word ∷ replied_late one_permit word ∷ two_taken (permits_alone 3) word ∷
    both_in_wait (permits_alone 2) word (command 72) ∷ connect_left_standing (permits_alone 1) word ∷ []
