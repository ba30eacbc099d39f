use Rattle.trace_examples.proofs.Renewals.{set_up_and_renewed, one_after_another, none_after_the_end, none_after_a_refusal, replied_behind, none_after_its_time, fired_behind_the_reply, in_the_order_of_places, behind_one_that_was_told, beside_a_full_queue, in_the_queue}
use Rattle.trace_examples.proofs.renewing.these_renew_credentials.Goals as goal

pub returns : goal.returns
returns c = record {
  set_up_and_renewed = set_up_and_renewed;
  one_after_another = one_after_another;
  none_after_the_end = none_after_the_end;
  none_after_a_refusal = none_after_a_refusal;
  replied_behind = replied_behind;
  none_after_its_time = none_after_its_time;
  fired_behind_the_reply = fired_behind_the_reply;
  in_the_order_of_places = in_the_order_of_places;
  behind_one_that_was_told = behind_one_that_was_told;
  beside_a_full_queue = beside_a_full_queue;
  in_the_queue = in_the_queue;
}
