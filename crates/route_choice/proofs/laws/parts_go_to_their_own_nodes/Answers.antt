use Rattle.route_choice.proofs.Once.{each_node_once}
use Rattle.route_choice.proofs.PartsLinked.{draws_are_few, each_part_is_linked, each_route_has_its_node}
use Rattle.route_choice.proofs.laws.parts_go_to_their_own_nodes.Goals as goal

pub returns : goal.returns
returns g c = record {
  linked = each_part_is_linked g.R.ReadRoutingStrategy.pick_of g.R.ReadRoutingStrategy.picked;
  once = each_node_once g.R.ReadRoutingStrategy.pick_of g.R.ReadRoutingStrategy.picked;
  own = each_route_has_its_node g.R.ReadRoutingStrategy.pick_of g.R.ReadRoutingStrategy.picked;
  draws = draws_are_few g.R.ReadRoutingStrategy.pick_of g.R.ReadRoutingStrategy.picked;
}
