use Rattle.std.proofs.Common.{◌≡◌, ◌++◌, List, length}
use Rattle.caller_threads.specs.Each.{EachAt}
use Rattle.caller_threads.specs.Lines.{share}
use Rattle.caller_threads.specs.Submits.{Line}
use Rattle.caller_threads.specs.Jobs.{Fed}
use Rattle.caller_threads.proofs.dealing.deal.Given as goal

abbrev pub invariant-loop-i : goal.invariant-loop-i
invariant-loop-i l = (done : List Line) × (l.fn.lines.items ≡ done ++ l.rest) × (l.i ≡ length done) × EachAt (λ c. Fed (share (length l.fn.jobs) c done)) 0 l.fn.jobs l.jobs
