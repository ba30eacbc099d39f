use Rattle.std.proofs.Common.{◌≡◌, ◌++◌, List, length}
use Rattle.caller_threads.specs.Submits.{Line, AreAllowed, HasSubmitted}
use Rattle.caller_threads.proofs.job.submit_each.Given as goal

abbrev pub invariant-loop-line : goal.invariant-loop-line
invariant-loop-line g l = (done : List Line) × (l.fn.lines ≡ done ++ l.lines) × HasSubmitted l.fn.caller l.caller done l.turns × AreAllowed l.lines l.caller × (l.caller.table ≡ l.fn.caller.table)

abbrev pub decreases-loop-line : goal.decreases-loop-line
decreases-loop-line g l = length l.lines
