use Rattle.std.proofs.Common.{◌≡◌, length}
use Rattle.caller_threads.specs.Each.{EachAt}
use Rattle.caller_threads.proofs.Jobs.{Left}
use Rattle.caller_threads.proofs.gathering.gather.Given as goal

abbrev pub invariant-loop-i : goal.invariant-loop-i
invariant-loop-i l = (length l.all.items ≡ l.i) × EachAt (Left (length l.fn.jobs) l.all.items) 0 l.fn.jobs l.jobs
