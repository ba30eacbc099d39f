use Rattle.std.proofs.Common.{◌≡◌, ◌+◌, ◌<◌, drop}
use Rattle.mux_routing.specs.Reply.{node_count}
use Rattle.mux_routing.proofs.parsing.are_few.Given as goal

abbrev pub invariant-loop-row : goal.invariant-loop-row
invariant-loop-row l = record {
  count : node_count l.rows ≡ l.count + node_count (drop l.row-index l.rows);
  few : l.count < 4_294_967_296;
}
