use Rattle.trace_examples.proofs.Unopened.{closed_in_place, answered_before_the_failure, second_before_the_first, shown_again, failed_before_the_close, created_when_refused, another_error, closed_when_refused, timer_unasked, timer_left_out}
use Rattle.trace_examples.proofs.nor_are_these_openings.Goals as goal

pub returns : goal.returns
returns c = record {
  closed_in_place = closed_in_place;
  answered_before_the_failure = answered_before_the_failure;
  second_before_the_first = second_before_the_first;
  shown_again = shown_again;
  failed_before_the_close = failed_before_the_close;
  created_when_refused = created_when_refused;
  another_error = another_error;
  closed_when_refused = closed_when_refused;
  timer_unasked = timer_unasked;
  timer_left_out = timer_left_out;
}
