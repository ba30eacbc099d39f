use Rattle.route_choice.proofs.Keeping.{repair_keeps, stays_with, stays_without}
use Rattle.route_choice.proofs.laws.the_map_stays_in_order.Goals as goal

pub returns : goal.returns
returns c = record { with = stays_with; without = stays_without; repair = repair_keeps }
