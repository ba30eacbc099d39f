-- The line of an outcome.
use Rattle.std.specs.Prelude.{◌≡◌, ℕ, true, List, [], flat_map, Option, Some, None, is_some}
use Rattle.driver_model.specs.declared.action.Action.TheVariants as action
use Rattle.driver_model.specs.declared.outcome.Outcome.{Outcome}
use Rattle.shared_session.specs.History.{History}
use Rattle.single_session.specs.Replay.{outcome_at, outcomes_in, trace_of}
use Rattle.trace_text.specs.Show.{action_line}

-- the line of this outcome, if there is one
abbrev pub line_with : ℕ → Option Outcome → List ℕ
line_with submission None = []
line_with submission (Some outcome) = action_line (action.Outcome submission outcome)

-- the line of a submission's outcome, if it has one among these: as a trace shows it
abbrev pub outcome_line : List (Option Outcome) → ℕ → List ℕ
outcome_line outcomes submission = line_with submission (outcome_at outcomes submission)

-- the lines of these submissions' outcomes, in this order
abbrev pub outcome_lines : List (Option Outcome) → List ℕ → List ℕ
outcome_lines outcomes submissions = flat_map (outcome_line outcomes) submissions

-- the outcomes by the trace of a session's whole history
abbrev pub outcomes_of : History → List (Option Outcome)
outcomes_of s = outcomes_in (trace_of s.config s.word s.events)

-- a submission of a session has its outcome
abbrev pub HasOutcome : History → ℕ → Type 0
HasOutcome s n = is_some (outcome_at (outcomes_of s) n) ≡ true
