use Rattle.std.proofs.Common.{◌≡◌, ◌+◌, ◌≤◌, ◌++◌, length, vec_len, vec_capacity}
use Rattle.session_callers.specs.Rule.{Each}
use Rattle.caller_threads.specs.Jobs.{callers_of, IsNew}
use Rattle.caller_threads.proofs.seating.seat.Given as goal

abbrev pub invariant-loop-caller : goal.invariant-loop-caller
invariant-loop-caller l = (callers_of l.jobs.items ++ l.rest ≡ l.fn.callers.items) × Each IsNew l.jobs.items × (vec_len l.jobs + length l.rest ≤ vec_capacity l.jobs)

abbrev pub decreases-loop-caller : goal.decreases-loop-caller
decreases-loop-caller l = length l.rest
