use Rattle.std.proofs.Common.{◌≡◌, ◌++◌, true, drop}
use Rattle.command_table.specs.Selection.{chosen, key_count, part_of}
use Rattle.command_table.specs.Splitting.{are_within}
use Rattle.command_table.proofs.selection.command_for_multi_slot_indices.Given as goal

abbrev pub invariant-loop-index : goal.invariant-loop-index
invariant-loop-index l = record {
  args : l.part.args ++ chosen l.width l.args (drop l.index-index l.indices) ≡ part_of l.cmd.args l.indices;
  within : are_within (key_count l.cmd.args) (drop l.index-index l.indices) ≡ true;
  mark : l.part.no_response ≡ l.cmd.no_response;
}
