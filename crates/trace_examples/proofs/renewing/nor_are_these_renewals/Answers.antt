use Rattle.trace_examples.proofs.Renewals.{renewal_fronts_stand, told_nothing, told_two_at_once, told_after_a_refusal, told_after_its_time, told_untimed, told_otherwise, timed_for_nothing, told_out_of_place, started_before_them, waits_in_their_place, answered_by_it, needed_too_soon, left_untold}
use Rattle.trace_examples.proofs.renewing.nor_are_these_renewals.Goals as goal

pub returns : goal.returns
returns c = record {
  fronts = renewal_fronts_stand;
  told_nothing = told_nothing;
  told_two_at_once = told_two_at_once;
  told_after_a_refusal = told_after_a_refusal;
  told_after_its_time = told_after_its_time;
  told_untimed = told_untimed;
  told_otherwise = told_otherwise;
  timed_for_nothing = timed_for_nothing;
  told_out_of_place = told_out_of_place;
  started_before_them = started_before_them;
  waits_in_their_place = waits_in_their_place;
  answered_by_it = answered_by_it;
  needed_too_soon = needed_too_soon;
  left_untold = left_untold;
}
