-- The fronts of traces whose openings fail.
use Rattle.std.specs.Prelude.{ℕ, List, [], ◌∷◌, ◌++◌, Some}
use Rattle.redis_error.specs.declared.fault_kind.FaultKind.TheVariants.{Reset, TimedOut}
use Rattle.redis_error.specs.declared.redis_error.RedisError.TheVariants.{Io}
use Rattle.driver_model.specs.declared.action.Action.{Action}
use Rattle.driver_model.specs.declared.action.Action.TheVariants as action
use Rattle.driver_model.specs.declared.action.Owner.TheVariants as owner
use Rattle.driver_model.specs.declared.action.Purpose.TheVariants as purpose
use Rattle.driver_model.specs.declared.action.WaitKind.TheVariants as wait
use Rattle.driver_model.specs.declared.config.Config.{Config}
use Rattle.driver_model.specs.declared.event.EventKind.TheVariants as event
use Rattle.trace_examples.specs.Parts.{turn, command}
use Rattle.trace_examples.specs.Traces.{opening, in_wait}

-- the opening, which asks for the first link and for its timer
abbrev pub timed_opening : Config → ℕ → List Action
timed_opening config word = opening config word ++ action.Timer 0 1000 (purpose.Connect 0) ∷ []

-- two commands wait for the connect, and it fails
abbrev pub connect_refused : Config → ℕ → List Action
connect_refused config word =
    in_wait config word (command 71) ++
    turn 2 (event.Submit (command 72)) ∷ action.Wait (owner.Try 1 0) wait.Connect ∷
    turn 3 (event.Refused 0 Reset) ∷ []

-- and this is shown
abbrev pub refusal_shown : Config → ℕ → List Action
refusal_shown config word = connect_refused config word ++ action.Created (Some (Io Reset)) ∷ []

-- the connect fails before anything was handed in, and this is shown
abbrev pub refused_at_first : Config → ℕ → List Action
refused_at_first config word = opening config word ++ turn 1 (event.Refused 0 Reset) ∷ action.Created (Some (Io Reset)) ∷ []

-- a command waits for the connect, and its time is over
abbrev pub overdue : Config → ℕ → List Action
overdue config word =
    timed_opening config word ++
    turn 1 (event.Submit (command 71)) ∷ action.Wait (owner.Try 0 0) wait.Connect ∷
    turn 2 (event.Fired 0) ∷ []

-- the link is closed, and it is shown that its opening failed
abbrev pub timed_out : Config → ℕ → List Action
timed_out config word = overdue config word ++ action.Close 0 ∷ action.Created (Some (Io TimedOut)) ∷ []
