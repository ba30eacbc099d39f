use Rattle.std.proofs.Common.{◌≡◌, ◌++◌, length, take}
use Rattle.link_core.specs.Ends.{row_closed}
use Rattle.link_core.proofs.row.Row.close.Given as goal

abbrev pub invariant-loop-entry : goal.invariant-loop-entry
invariant-loop-entry l = record {
  settled : l.out.items ++ row_closed l.self ≡ l.fn.out.items ++ row_closed l.fn.self;
  front : take (length l.fn.out.items) l.out.items ≡ l.fn.out.items;
}

abbrev pub decreases-loop-entry : goal.decreases-loop-entry
decreases-loop-entry l = length l.self
