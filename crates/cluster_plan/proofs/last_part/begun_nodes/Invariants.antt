use Rattle.std.proofs.Common.{◌≡◌, ◌++◌, drop, map}
use Rattle.mux_routing.specs.Shards.{addresses}
use Rattle.cluster_plan.specs.Steps.{begun_at}
use Rattle.cluster_plan.proofs.Arriving.{looked_up}
use Rattle.cluster_plan.proofs.last_part.begun_nodes.Given as goal

abbrev pub invariant-loop-number : goal.invariant-loop-number
invariant-loop-number l = l.nodes ++ map (begun_at l.entries) (looked_up (addresses l.slots) (drop l.number-index l.number-items)) ≡ map (begun_at l.entries) (looked_up (addresses l.slots) l.number-items)
