use Rattle.std.proofs.Common.{◌≡◌, ◌++◌, drop, map}
use Rattle.cluster_plan.specs.Progress.{begun}
use Rattle.cluster_plan.proofs.progress.begun.Given as goal

abbrev pub invariant-loop-node : goal.invariant-loop-node
invariant-loop-node l = l.tries.items ++ map begun (drop l.node-index l.nodes) ≡ map begun l.nodes
