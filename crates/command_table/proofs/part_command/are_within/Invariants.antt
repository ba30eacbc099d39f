use Rattle.std.proofs.Common.{◌≡◌, drop}
use Rattle.command_table.specs.Splitting.{are_within}
use Rattle.command_table.proofs.part_command.are_within.Given as goal

-- those that were passed are within
abbrev pub invariant-loop-index : goal.invariant-loop-index
invariant-loop-index l = are_within l.count l.indices ≡ are_within l.count (drop l.index-index l.indices)
