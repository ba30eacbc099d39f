use Rattle.std.proofs.Common.{◌≡◌, ◌++◌, length}
use Rattle.cluster_plan.specs.Steps.{settled_nodes}
use Rattle.cluster_plan.proofs.last_part.settle_nodes.Given as goal

abbrev pub invariant-loop-node : goal.invariant-loop-node
invariant-loop-node l = l.left ++ settled_nodes l.address l.told l.rest ≡ settled_nodes l.address l.told l.fn.nodes

abbrev pub decreases-loop-node : goal.decreases-loop-node
decreases-loop-node l = length l.rest
