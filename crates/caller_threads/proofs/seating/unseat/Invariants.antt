use Rattle.std.proofs.Common.{◌≡◌, ◌+◌, ◌≤◌, ◌++◌, length, vec_len, vec_capacity}
use Rattle.caller_threads.specs.Jobs.{callers_of}
use Rattle.caller_threads.proofs.seating.unseat.Given as goal

abbrev pub invariant-loop-job : goal.invariant-loop-job
invariant-loop-job l = (l.callers.items ++ callers_of l.rest ≡ callers_of l.fn.jobs.items) × (vec_len l.callers + length l.rest ≤ vec_capacity l.callers)

abbrev pub decreases-loop-job : goal.decreases-loop-job
decreases-loop-job l = length l.rest
