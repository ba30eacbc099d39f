use Rattle.std.proofs.Common.{◌≡◌, length, map}
use Rattle.command_table.specs.Lookup.{found_one}
use Rattle.command_table.proofs.lookup.found_one.Given as goal

abbrev pub invariant-loop-table : goal.invariant-loop-table
invariant-loop-table l = found_one (map (λ c. (c.0.now, c.1)) l.table) l.name ≡ found_one (map (λ c. (c.0.now, c.1)) l.initial.table) l.name

abbrev pub decreases-loop-table : goal.decreases-loop-table
decreases-loop-table l = length l.table
