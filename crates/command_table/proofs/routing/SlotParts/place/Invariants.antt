use Rattle.std.proofs.Common.{◌≡◌, ◌≤◌, true, length}
use Rattle.command_table.proofs.Placing.{is_in_none}
use Rattle.command_table.proofs.routing.SlotParts.place.Given as goal

abbrev pub invariant-loop-k : goal.invariant-loop-k
invariant-loop-k l = record {
  same : l.self ≡ l.fn.self;
  bound : l.k ≤ length l.self;
  none : is_in_none l.slot l.k l.self ≡ true;
}
