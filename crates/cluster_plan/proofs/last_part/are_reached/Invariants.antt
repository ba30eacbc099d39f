use Rattle.std.proofs.Common.{◌≡◌, [], drop}
use Rattle.cluster_plan.specs.Reached.{asked_for}
use Rattle.cluster_plan.specs.Steps.{stepped}
use Rattle.cluster_plan.proofs.last_part.are_reached.Given as goal

abbrev pub invariant-loop-node : goal.invariant-loop-node
invariant-loop-node l = asked_for (stepped (drop l.node-index l.nodes) []) ≡ asked_for (stepped l.nodes [])
