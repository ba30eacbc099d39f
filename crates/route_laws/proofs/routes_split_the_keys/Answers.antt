use Rattle.route_laws.proofs.Splitting.{each_key_is_counted, have_parts, routes_split}
use Rattle.route_laws.proofs.routes_split_the_keys.Goals as goal

pub returns : goal.returns
returns c = record { split = routes_split; some = have_parts; counted = each_key_is_counted }
