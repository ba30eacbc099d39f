use Rattle.std.proofs.Common.{◌≡◌, [], ◌++◌, length}
use Rattle.cluster_plan.specs.Reached.{arrived}
use Rattle.cluster_plan.specs.Steps.{stepped}
use Rattle.cluster_plan.proofs.last_part.reached_entries.Given as goal

abbrev pub invariant-loop-node : goal.invariant-loop-node
invariant-loop-node l = l.entries ++ arrived (stepped l.rest []) ≡ arrived (stepped l.fn.nodes [])

abbrev pub decreases-loop-node : goal.decreases-loop-node
decreases-loop-node l = length l.rest
