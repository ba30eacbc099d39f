use Rattle.std.proofs.Common.{◌≡◌, drop}
use Rattle.command_table.specs.Routing.{parts_of, placed_all}
use Rattle.command_table.proofs.parts.parts_of.Given as goal

abbrev pub invariant-loop-i : goal.invariant-loop-i
invariant-loop-i l = placed_all l.addr l.i (drop l.i l.slots) l.parts ≡ parts_of l.addr l.slots
