use Rattle.std.proofs.Common.{◌≡◌, ◌<◌, ◌||◌, ℕ, false, length, get_or, drop}
use Rattle.mux_routing.specs.Shards.{leads}
use Rattle.mux_routing.proofs.shard.marks_of.Given as goal

abbrev pub invariant-loop-shard : goal.invariant-loop-shard
invariant-loop-shard l = record {
  count : length l.marks.items ≡ l.count;
  each : (i : ℕ) → i < l.count → (get_or l.marks.items i false || leads i (drop l.shard-index l.shards)) ≡ leads i l.shards;
}
