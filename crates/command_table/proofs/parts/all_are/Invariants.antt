use Rattle.std.proofs.Common.{◌≡◌, drop}
use Rattle.command_table.specs.Routing.{all_are}
use Rattle.command_table.proofs.parts.all_are.Given as goal

abbrev pub invariant-loop-other : goal.invariant-loop-other
invariant-loop-other l = all_are l.slot l.slots ≡ all_are l.slot (drop l.other-index l.slots)
