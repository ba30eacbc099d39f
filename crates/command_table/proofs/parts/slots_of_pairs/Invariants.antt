use Rattle.std.proofs.Common.{◌≡◌, ◌++◌, length, map}
use Rattle.slot_hash.specs.Tag.{slot_of}
use Rattle.command_table.specs.Routing.{keys_of_pairs}
use Rattle.command_table.proofs.parts.slots_of_pairs.Given as goal

abbrev pub invariant-loop-args : goal.invariant-loop-args
invariant-loop-args l = l.slots.items ++ map slot_of (keys_of_pairs l.args) ≡ map slot_of (keys_of_pairs l.initial.args)

abbrev pub decreases-loop-args : goal.decreases-loop-args
decreases-loop-args l = length l.args
