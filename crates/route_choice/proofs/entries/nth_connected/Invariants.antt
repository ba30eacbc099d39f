use Rattle.std.proofs.Common.{◌≡◌, drop}
use Rattle.std.specs.Prelude.{slice_get}
use Rattle.route_choice.specs.Entries.{connected_nodes}
use Rattle.route_choice.proofs.entries.nth_connected.Given as goal

abbrev pub invariant-loop-entry : goal.invariant-loop-entry
invariant-loop-entry l = slice_get (connected_nodes (drop l.entry-index l.entries)) l.left ≡ slice_get (connected_nodes l.entries) l.number
