use Rattle.std.proofs.Common.{◌≡◌, take}
use Rattle.cluster_client.proofs.copies.copy_nodes.Given as goal

abbrev pub invariant-loop-node : goal.invariant-loop-node
invariant-loop-node l = l.copies ≡ take l.node-index l.nodes
