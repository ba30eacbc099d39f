use Rattle.trace_examples.proofs.Setups.{starts_once_set_up, the_connect_and_then_the_setup, without_the_user, without_the_user_later, by_the_address_alone, library_unknown, all_in_order}
use Rattle.trace_examples.proofs.these_are_set_up.Goals as goal

pub returns : goal.returns
returns c = record {
  starts_once_set_up = starts_once_set_up;
  the_connect_and_then_the_setup = the_connect_and_then_the_setup;
  without_the_user = without_the_user;
  without_the_user_later = without_the_user_later;
  by_the_address_alone = by_the_address_alone;
  library_unknown = library_unknown;
  all_in_order = all_in_order;
}
