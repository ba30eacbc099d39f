-- The fronts of the traces that are refused for what comes next.
use Rattle.std.specs.Prelude.{ℕ, List, [], ◌∷◌}
use Rattle.driver_model.specs.declared.action.Action.{Action}
use Rattle.driver_model.specs.declared.config.Config.{Config}
use Rattle.legal_trace.specs.Book.{blank_book}
use Rattle.legal_trace.specs.Legal.{AllStand}
use Rattle.trace_examples.specs.Parts.{command, unawaited, two_together}
use Rattle.trace_examples.specs.Traces.{cut_off_alone, taken_in_part, came_up, arrived, started_one, answered_both, answered_first, answered_alike, pushed, cut_off, told_first, half_filled, refused, left_alone, shut_down, shut_in_wait, left_untold, both_in_wait, up_in_wait, spoiled, held_back, first_of_both, started_unoffered, left_out, ended, opening}
use Rattle.trace_examples.specs.Openings.{connect_refused, refusal_shown, overdue, timed_out}

-- the actions of each of these stand where they may
abbrev pub EachStands : List (List Action) → Type 0
EachStands [] = Unit {0}
EachStands (front ∷ more) = AllStand blank_book front × EachStands more

-- those where replies came
abbrev pub answered_fronts : Config → ℕ → List (List Action)
answered_fronts config word = answered_both config word ∷ answered_alike config word ∷ answered_first config word ∷ told_first config word ∷ left_alone config word ∷ []

-- those where a message isn't full, or is full and not answered
abbrev pub unanswered_fronts : Config → ℕ → List (List Action)
unanswered_fronts config word = started_one config word ∷ pushed config word ∷ half_filled config word ∷ refused config word ∷ spoiled config word ∷ []

-- those where the link ended, or must end
abbrev pub ended_fronts : Config → ℕ → List (List Action)
ended_fronts config word = cut_off config word two_together 2 22 ∷ cut_off config word (command 71) 1 11 ∷ ended config word ∷ cut_off_alone config word ∷ shut_down config word ∷ shut_in_wait config word ∷ []

-- those where requests came before the connect
abbrev pub waiting_fronts : Config → ℕ → List (List Action)
waiting_fronts config word = left_out config word ∷ up_in_wait config word (unawaited 71) ∷ both_in_wait config word (unawaited 72) ∷ first_of_both config word ∷ []

-- those where a link is up, and a message is to start or to be offered
abbrev pub begun_fronts : Config → ℕ → List (List Action)
begun_fronts config word = came_up config word ∷ arrived config word (command 71) ∷ left_untold config word ∷ started_unoffered config word ∷ taken_in_part config word ∷ held_back config word ∷ []

-- those where a connect fails, and the opening without a timer
abbrev pub refused_fronts : Config → ℕ → List (List Action)
refused_fronts config word = opening config word ∷ connect_refused config word ∷ refusal_shown config word ∷ []

-- those where the time of a connect is over
abbrev pub overdue_fronts : Config → ℕ → List (List Action)
overdue_fronts config word = overdue config word ∷ timed_out config word ∷ []
