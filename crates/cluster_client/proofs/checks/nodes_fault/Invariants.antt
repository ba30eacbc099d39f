use Rattle.std.proofs.Common.{◌≡◌, drop}
use Rattle.cluster_client.specs.Checks.{nodes_fault}
use Rattle.cluster_client.proofs.checks.nodes_fault.Given as goal

-- nothing is refused of the nodes that were passed
abbrev pub invariant-loop-node : goal.invariant-loop-node
invariant-loop-node l = nodes_fault l.params l.first l.nodes ≡ nodes_fault l.params l.first (drop l.node-index l.nodes)
