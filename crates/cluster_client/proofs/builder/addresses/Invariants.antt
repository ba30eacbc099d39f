use Rattle.std.proofs.Common.{◌≡◌, map, length}
use Rattle.cluster_client.specs.Client.{all_there}
use Rattle.cluster_client.proofs.Gathering.{onto}
use Rattle.cluster_client.proofs.builder.addresses.Given as goal

-- what was found, and what is left, are all
abbrev pub invariant-loop-one : goal.invariant-loop-one
invariant-loop-one g l =
    onto l.found (all_there (map g.T.IntoConnectionInfo.address l.left)) ≡ all_there (map g.T.IntoConnectionInfo.address l.fn.named.items)

abbrev pub decreases-loop-one : goal.decreases-loop-one
decreases-loop-one g l = length l.left
