use Rattle.live_run.proofs.Later.{Sought}
use Rattle.live_run.proofs.timers.add_timer.Given as goal

abbrev pub invariant-loop-before : goal.invariant-loop-before
invariant-loop-before l = Sought l.next.due l.place l.fn.timers l.timers

abbrev pub decreases-loop-before : goal.decreases-loop-before
decreases-loop-before l = l.place
