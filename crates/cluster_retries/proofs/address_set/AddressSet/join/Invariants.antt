use Rattle.std.proofs.Common.{◌≡◌, length}
use Rattle.mux_routing.specs.Shards.{all_inserted}
use Rattle.cluster_retries.proofs.Unions.{IsPutIn}
use Rattle.cluster_retries.proofs.address_set.AddressSet.join.Given as goal

-- those that are left, put in, make what all of them make, and those before them were put in
abbrev pub invariant-loop-address : goal.invariant-loop-address
invariant-loop-address l = (all_inserted l.self l.rest ≡ all_inserted l.fn.self l.fn.more) × IsPutIn l.fn.self l.fn.more l.rest l.self

abbrev pub decreases-loop-address : goal.decreases-loop-address
decreases-loop-address l = length l.rest
