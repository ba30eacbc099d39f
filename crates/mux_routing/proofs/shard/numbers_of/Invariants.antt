use Rattle.std.proofs.Common.{◌≡◌, map, take}
use Rattle.mux_routing.specs.Shards.{place_of}
use Rattle.mux_routing.proofs.shard.numbers_of.Given as goal

abbrev pub invariant-loop-address : goal.invariant-loop-address
invariant-loop-address l = l.numbers ≡ map (place_of l.nodes) (take l.address-index l.more)
