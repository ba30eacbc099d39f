use Rattle.fan_out.proofs.Tallying.{names_stand_in_order, sums_stand_under_names}
use Rattle.fan_out.proofs.laws.counts_are_added_by_names.Goals as goal

pub returns : goal.returns
returns c = record { sums = sums_stand_under_names; order = names_stand_in_order }
