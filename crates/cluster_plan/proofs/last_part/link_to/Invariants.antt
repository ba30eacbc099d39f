use Rattle.std.proofs.Common.{◌≡◌, drop}
use Rattle.cluster_plan.specs.Connections.{link_to}
use Rattle.cluster_plan.proofs.last_part.link_to.Given as goal

abbrev pub invariant-loop-entry : goal.invariant-loop-entry
invariant-loop-entry l = link_to l.address (drop l.entry-index l.entries) ≡ link_to l.address l.entries
