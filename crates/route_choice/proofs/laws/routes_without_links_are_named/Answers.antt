use Rattle.route_choice.proofs.Missing.{names_the_missing}
use Rattle.route_choice.proofs.laws.routes_without_links_are_named.Goals as goal

pub returns : goal.returns
returns g c = names_the_missing g.R.ReadRoutingStrategy.pick_of g.R.ReadRoutingStrategy.picked
