use Rattle.std.proofs.Common.{◌≡◌, map, take}
use Rattle.mux_routing.specs.Shards.{shard_of}
use Rattle.mux_routing.proofs.shard.shards_of.Given as goal

abbrev pub invariant-loop-row : goal.invariant-loop-row
invariant-loop-row l = l.shards ≡ map (shard_of l.nodes) (take l.row-index l.rows)
