-- Traces of submissions that wait for a place in the queue of their link, or for room on the link.
use Rattle.std.specs.Prelude.{ℕ, List, [], ◌∷◌, ◌++◌}
use Rattle.driver_model.specs.declared.action.Action.{Action}
use Rattle.driver_model.specs.declared.action.Action.TheVariants as action
use Rattle.driver_model.specs.declared.action.Owner.TheVariants as owner
use Rattle.driver_model.specs.declared.action.WaitKind.TheVariants as wait
use Rattle.driver_model.specs.declared.config.Config.{Config}
use Rattle.driver_model.specs.declared.event.EventKind.TheVariants as event
use Rattle.driver_model.specs.declared.event.Submission.{Submission}
use Rattle.driver_model.specs.Request.{packed_bytes}
use Rattle.trace_examples.specs.Parts.{turn, command, unawaited, two_together, held_at}
use Rattle.trace_examples.specs.Traces.{started_one, held_back, both_in_wait, first_of_both}

-- a link that 30 unwritten bytes hold back, and whose queue holds as many messages as where nothing is said
abbrev pub narrow : Config
narrow = held_at 30 50

-- a link that any unwritten byte holds back, and whose queue holds one message
abbrev pub one_at_a_time : Config
one_at_a_time = held_at 0 1

-- a command was started, and a pipeline behind it; then a second command came, and waits for room
abbrev pub third_held : Config → ℕ → List Action
third_held config word =
    started_one config word ++
    turn 3 (event.Submit two_together) ∷ action.Start 0 1 (owner.Try 1 0) 2 22 ∷
    turn 4 (event.Submit (command 72)) ∷ action.Wait (owner.Try 2 0) wait.Room ∷ []

-- a command was started, and a second one has the one place of the queue, and waits for room
abbrev pub second_held : Config → ℕ → List Action
second_held config word = held_back config word ++ action.Wait (owner.Try 1 0) wait.Room ∷ []

-- a third submission came
abbrev pub third_came : Config → ℕ → Submission → List Action
third_came config word s = second_held config word ++ turn 4 (event.Submit s) ∷ []

-- and waits for a place
abbrev pub queue_full : Config → ℕ → Submission → List Action
queue_full config word s = third_came config word s ++ action.Wait (owner.Try 2 0) wait.Place ∷ []

-- two commands waited for the connect; the first started and was offered, and nothing was shown of the second
abbrev pub second_unshown : Config → ℕ → List Action
second_unshown config word = first_of_both config word ++ action.Write 0 (packed_bytes (command 71)) ∷ []

-- the fronts of the traces that are refused for what comes next
abbrev pub place_fronts : ℕ → List (List Action)
place_fronts word =
    held_back one_at_a_time word ∷ held_back narrow word ∷ third_came one_at_a_time word (command 73) ∷
    third_came one_at_a_time word (unawaited 73) ∷ second_unshown one_at_a_time word ∷ both_in_wait narrow word (command 72) ∷ []
