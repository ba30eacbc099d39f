use Rattle.std.proofs.Common.{◌≡◌}
use Rattle.mux_routing.specs.Shards.{leading_below}
use Rattle.mux_routing.proofs.shard.leading.Given as goal

abbrev pub invariant-loop-i : goal.invariant-loop-i
invariant-loop-i l = l.leading.items ≡ leading_below l.i l.shards
