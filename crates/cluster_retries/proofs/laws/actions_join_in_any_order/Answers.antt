use Rattle.cluster_retries.proofs.Joining.{associates, commutes, initial_takes_all, nothing_adds_nothing, slots_take_addresses}
use Rattle.cluster_retries.proofs.laws.actions_join_in_any_order.Goals as goal

pub returns : goal.returns
returns c = record {
  commutes = commutes;
  associates = associates;
  nothing = nothing_adds_nothing;
  initial = initial_takes_all;
  slots = slots_take_addresses;
}
