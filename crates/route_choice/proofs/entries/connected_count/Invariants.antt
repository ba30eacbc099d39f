use Rattle.std.proofs.Common.{◌≡◌, ◌≤◌, ◌+◌, drop, length}
use Rattle.route_choice.specs.Entries.{connected_nodes}
use Rattle.route_choice.proofs.entries.connected_count.Given as goal

abbrev pub invariant-loop-entry : goal.invariant-loop-entry
invariant-loop-entry l = record {
  sum : l.count + length (connected_nodes (drop l.entry-index l.entries)) ≡ length (connected_nodes l.entries);
  bound : l.count ≤ l.entry-index;
}
