use Rattle.std.proofs.Common.{◌≡◌, ◌+◌, ◌≤◌, ℕ, None, true, drop}
use Rattle.mux_routing.specs.Kept.{owner_from}
use Rattle.mux_routing.specs.Ranges.{are_apart, are_maximal, row_in}
use Rattle.mux_routing.specs.Reply.{in_range}
use Rattle.mux_routing.proofs.Pushing.{behind}
use Rattle.mux_routing.proofs.row_ranges.ranges_in_turn.Given as goal

abbrev pub invariant-loop-i : goal.invariant-loop-i
invariant-loop-i l = record {
  apart : are_apart l.ranges.items ≡ true;
  maximal : are_maximal l.ranges.items ≡ true;
  last : behind 0 l.ranges.items ≤ l.next;
  slots : l.next ≤ 16_384;
  first : l.i ≡ 0 → l.next ≡ 0;
  range : in_range (drop l.i l.rows) ≡ true;
  each : (slot : ℕ) → owner_from slot (l.base + l.i) (row_in l.ranges.items slot) (drop l.i l.rows) ≡ owner_from slot l.base None l.rows;
}
