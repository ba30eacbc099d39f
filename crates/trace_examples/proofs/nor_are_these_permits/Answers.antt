use Rattle.trace_examples.proofs.Permits.{permit_fronts_stand, started_without_a_permit, started_without_its_timer, taken_uncounted, more_than_are_free, taken_out_of_order, timer_before_the_permit, a_second_timer, timer_of_another_time, closed_when_over, reply_of_the_first, answered_when_over, waits_though_one_is_free, connect_was_shown, permit_is_kept}
use Rattle.trace_examples.proofs.nor_are_these_permits.Goals as goal

pub returns : goal.returns
returns c = record {
  fronts = permit_fronts_stand;
  started_without_a_permit = started_without_a_permit;
  started_without_its_timer = started_without_its_timer;
  taken_uncounted = taken_uncounted;
  more_than_are_free = more_than_are_free;
  taken_out_of_order = taken_out_of_order;
  timer_before_the_permit = timer_before_the_permit;
  a_second_timer = a_second_timer;
  timer_of_another_time = timer_of_another_time;
  closed_when_over = closed_when_over;
  reply_of_the_first = reply_of_the_first;
  answered_when_over = answered_when_over;
  waits_though_one_is_free = waits_though_one_is_free;
  connect_was_shown = connect_was_shown;
  permit_is_kept = permit_is_kept;
}
