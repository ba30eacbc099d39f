use Rattle.std.proofs.Common.{◌≡◌}
use Rattle.mux_routing.specs.Shards.{first_numbers}
use Rattle.mux_routing.proofs.shard.first_numbers.Given as goal

abbrev pub invariant-loop-i : goal.invariant-loop-i
invariant-loop-i l = l.numbers.items ≡ first_numbers l.i
