-- What a poll of a submission's outcome answers.
use Rattle.std.specs.Prelude.{◌≡◌, ℕ, Option, Some, None, Result, Ok, Err, IsSome, IfOk}
use Rattle.std.specs.declared.alloc.AllocError.{AllocError}
use Rattle.futures.specs.declared.task.Poll.{Poll}
use Rattle.futures.specs.declared.task.Poll.TheVariants.{Ready, Pending}
use Rattle.driver_model.specs.declared.outcome.Outcome.{Outcome}
use Rattle.single_session.specs.Replay.{trace_of, outcomes_in, outcome_at}
use Rattle.session_callers.specs.declared.board.View.{View}
use Rattle.session_callers.specs.Calls.{IsOutcomeLater}

-- the outcome that the history seen gives the submission, if it gives one
abbrev pub outcome_seen : View → ℕ → Option Outcome
outcome_seen v n = outcome_at (outcomes_in (trace_of v.config v.word v.seen)) n

-- the poll tells this outcome, and is pending exactly where there is none. Memory can be refused to a copy alone
abbrev pub Tells : Option Outcome → Poll (Result Outcome AllocError) → Type 0
Tells told Pending = told ≡ None
Tells told (Ready (Ok outcome)) = told ≡ Some outcome
Tells told (Ready (Err error)) = IsSome told

-- what some later poll may give
abbrev pub Gives : View → ℕ → Result Outcome AllocError → Type 0
Gives v n x = IfOk x (IsOutcomeLater v n)
