use Rattle.trace_examples.proofs.Managers.{replaced_once_failed, created_in_vain, longer_each_time, comes_back, repeats_what_is, goes_on_without}
use Rattle.trace_examples.proofs.returning.these_come_back.Goals as goal

pub returns : goal.returns
returns c = record {
  replaced_once_failed = replaced_once_failed;
  created_in_vain = created_in_vain;
  longer_each_time = longer_each_time;
  comes_back = comes_back;
  repeats_what_is = repeats_what_is;
  goes_on_without = goes_on_without;
}
