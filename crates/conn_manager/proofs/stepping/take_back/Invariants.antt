use Rattle.std.proofs.Common.{◌≡◌, length}
use Rattle.conn_manager.specs.Manager.{without}
use Rattle.conn_manager.proofs.stepping.take_back.Given as goal

abbrev pub invariant-loop-number : goal.invariant-loop-number
invariant-loop-number l = without l.outcomes l.rest ≡ without l.fn.outcomes l.fn.requests

abbrev pub decreases-loop-number : goal.decreases-loop-number
decreases-loop-number l = length l.rest
