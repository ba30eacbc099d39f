use Rattle.std.proofs.Common.{◌≡◌, drop}
use Rattle.cluster_plan.specs.Connections.{state_at}
use Rattle.cluster_plan.proofs.repair.state_at.Given as goal

abbrev pub invariant-loop-entry : goal.invariant-loop-entry
invariant-loop-entry l = state_at l.address (drop l.entry-index l.entries) ≡ state_at l.address l.entries
