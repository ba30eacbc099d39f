use Rattle.std.proofs.Common.{◌≡◌, [], ◌++◌, length}
use Rattle.cluster_plan.specs.declared.asks.Part.TheVariants.{Initial}
use Rattle.cluster_plan.specs.Progress.{go_on}
use Rattle.cluster_plan.specs.Reached.{arrived}
use Rattle.cluster_plan.proofs.connects.connected.Given as goal

abbrev pub invariant-loop-tried : goal.invariant-loop-tried
invariant-loop-tried l = l.entries ++ arrived (go_on Initial l.rest []) ≡ arrived (go_on Initial l.fn.nodes.items [])

abbrev pub decreases-loop-tried : goal.decreases-loop-tried
decreases-loop-tried l = length l.rest
