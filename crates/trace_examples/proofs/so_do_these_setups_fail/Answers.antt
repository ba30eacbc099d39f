use Rattle.trace_examples.proofs.Setups.{password_is_refused, cut_off_in_setup, timed_out_in_setup, shut_down_in_setup}
use Rattle.trace_examples.proofs.so_do_these_setups_fail.Goals as goal

pub returns : goal.returns
returns c = record {
  password_is_refused = password_is_refused;
  cut_off_in_setup = cut_off_in_setup;
  timed_out_in_setup = timed_out_in_setup;
  shut_down_in_setup = shut_down_in_setup;
}
