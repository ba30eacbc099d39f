use Rattle.std.proofs.Common.{◌≡◌, ◌+◌, ◌-◌, ◌*◌, ◌^◌, ◌≤◌, None, length, take, drop}
use Rattle.mux_routing.specs.Ranges.{row_in}
use Rattle.mux_routing.proofs.range_table.RangeTable.find.Given as goal

abbrev pub invariant-loop-low : goal.invariant-loop-low
invariant-loop-low g l = record {
  order : l.low ≤ l.high;
  bound : l.high ≤ length l.self;
  before : row_in (take l.low l.self) l.slot ≡ None;
  behind : row_in (drop l.high l.self) l.slot ≡ None;
  grows : l.fn.steps ≤ l.steps;
  left : 2 ^ (l.steps - l.fn.steps) * (l.high - l.low) ≤ length l.self;
  spent : 2 ^ (l.steps - l.fn.steps) ≤ 2 * length l.self + 1;
}

abbrev pub decreases-loop-low : goal.decreases-loop-low
decreases-loop-low g l = l.high - l.low
