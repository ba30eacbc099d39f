use Rattle.std.proofs.Common.{◌≡◌, length}
use Rattle.caller_threads.specs.Jobs.{first_error_of}
use Rattle.caller_threads.proofs.gathering.first_error.Given as goal

abbrev pub invariant-loop-jobs : goal.invariant-loop-jobs
invariant-loop-jobs l = first_error_of l.jobs ≡ first_error_of l.initial.jobs

abbrev pub decreases-loop-jobs : goal.decreases-loop-jobs
decreases-loop-jobs l = length l.jobs
