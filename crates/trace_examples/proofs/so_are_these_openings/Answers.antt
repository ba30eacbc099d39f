use Rattle.trace_examples.proofs.Opened.{connect_timed_out, all_refused, empty_and_late, up_in_time}
use Rattle.trace_examples.proofs.so_are_these_openings.Goals as goal

pub returns : goal.returns
returns c = record { timed_out = connect_timed_out; all_refused = all_refused; empty_and_late = empty_and_late; up_in_time = up_in_time }
