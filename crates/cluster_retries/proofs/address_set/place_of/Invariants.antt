use Rattle.std.proofs.Common.{◌≡◌, ◌+◌, drop}
use Rattle.mux_routing.specs.Shards.{place_of}
use Rattle.cluster_retries.proofs.address_set.place_of.Given as goal

-- the addresses that were passed stand before it
abbrev pub invariant-loop-i : goal.invariant-loop-i
invariant-loop-i l = place_of l.addresses l.address ≡ l.i + place_of (drop l.i l.addresses) l.address
