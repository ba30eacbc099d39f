use Rattle.std.proofs.Common.{◌≡◌, ◌++◌, length}
use Rattle.cluster_plan.specs.Connections.{put}
use Rattle.cluster_plan.proofs.entry_order.put.Given as goal

abbrev pub invariant-loop-entry : goal.invariant-loop-entry
invariant-loop-entry l = l.before ++ put l.fn.new.address l.fn.new.state l.rest ≡ put l.fn.new.address l.fn.new.state l.fn.sorted

abbrev pub decreases-loop-entry : goal.decreases-loop-entry
decreases-loop-entry l = length l.rest
