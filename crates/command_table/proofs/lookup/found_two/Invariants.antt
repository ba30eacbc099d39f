use Rattle.std.proofs.Common.{◌≡◌, length, map}
use Rattle.command_table.specs.Lookup.{found_two}
use Rattle.command_table.proofs.lookup.found_two.Given as goal

abbrev pub invariant-loop-table : goal.invariant-loop-table
invariant-loop-table l = found_two (map (λ c. (c.0.now, c.1.now, c.2)) l.table) l.name l.next ≡ found_two (map (λ c. (c.0.now, c.1.now, c.2)) l.initial.table) l.name l.next

abbrev pub decreases-loop-table : goal.decreases-loop-table
decreases-loop-table l = length l.table
