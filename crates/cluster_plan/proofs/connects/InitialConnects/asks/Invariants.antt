use Rattle.std.proofs.Common.{◌≡◌, [], ◌++◌, drop}
use Rattle.cluster_plan.specs.declared.asks.Part.TheVariants.{Initial}
use Rattle.cluster_plan.specs.Progress.{go_on}
use Rattle.cluster_plan.specs.Reached.{asked_for}
use Rattle.cluster_plan.proofs.connects.InitialConnects.asks.Given as goal

abbrev pub invariant-loop-tried : goal.invariant-loop-tried
invariant-loop-tried l = l.asks ++ asked_for (go_on Initial (drop l.tried-index l.self.nodes.items) []) ≡ asked_for (go_on Initial l.self.nodes.items [])
