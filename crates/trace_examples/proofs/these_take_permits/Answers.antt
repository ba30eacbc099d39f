use Rattle.trace_examples.proofs.Permits.{timed_out_and_replied, two_of_three, given_back_by_nil, no_time, another_time, the_connect_and_then_a_permit, a_permit_that_was_left, fired_behind_nil, where_nothing_is_said, timed_out_in_wait}
use Rattle.trace_examples.proofs.these_take_permits.Goals as goal

pub returns : goal.returns
returns c = record {
  timed_out_and_replied = timed_out_and_replied;
  two_of_three = two_of_three;
  given_back_by_nil = given_back_by_nil;
  no_time = no_time;
  another_time = another_time;
  the_connect_and_then_a_permit = the_connect_and_then_a_permit;
  a_permit_that_was_left = a_permit_that_was_left;
  fired_behind_nil = fired_behind_nil;
  where_nothing_is_said = where_nothing_is_said;
  timed_out_in_wait = timed_out_in_wait;
}
