use Rattle.std.proofs.Common.{◌≡◌, ◌≤◌, ◌++◌, true, drop}
use Rattle.route_choice.specs.Parts.{are_slots, route_nodes, route_picks, route_reads}
use Rattle.route_choice.proofs.parts.route_nodes.Given as goal

abbrev pub invariant-loop-part : goal.invariant-loop-part
invariant-loop-part g l = record {
  nodes : l.found.items ++ route_nodes g.R.ReadRoutingStrategy.pick_of g.R.ReadRoutingStrategy.picked l.reads l.draws l.used l.entries l.slots (drop l.part-index l.routes) ≡ route_nodes g.R.ReadRoutingStrategy.pick_of g.R.ReadRoutingStrategy.picked l.fn.reads l.draws 0 l.entries l.slots l.routes;
  picks : route_picks g.R.ReadRoutingStrategy.picked l.reads l.draws l.used l.slots (drop l.part-index l.routes) ≡ route_picks g.R.ReadRoutingStrategy.picked l.fn.reads l.draws 0 l.slots l.routes;
  reads : route_reads g.R.ReadRoutingStrategy.picked l.reads l.draws l.used l.slots (drop l.part-index l.routes) ≡ route_reads g.R.ReadRoutingStrategy.picked l.fn.reads l.draws 0 l.slots l.routes;
  slots : are_slots (drop l.part-index l.routes) ≡ true;
  few : l.used ≤ l.part-index;
}
