use Rattle.route_choice.proofs.Choosing.{connects_where_named, goes_where_it_may, is_found_where_one_serves}
use Rattle.route_choice.proofs.laws.a_try_goes_where_it_may.Goals as goal

pub returns : goal.returns
returns g c = record {
  may_use = goes_where_it_may g.R.ReadRoutingStrategy.pick_of;
  found = is_found_where_one_serves g.R.ReadRoutingStrategy.pick_of;
  connects = connects_where_named g.R.ReadRoutingStrategy.pick_of;
}
