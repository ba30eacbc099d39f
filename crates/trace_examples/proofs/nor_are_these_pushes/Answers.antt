use Rattle.trace_examples.proofs.Pushes.{push_fronts_stand, told_twice, told_too_soon, answered_before_the_push, answered_before_another, told_unheard, told_early, early_end_told, no_end_told, end_told_twice, answered_before_the_end, push_left_out}
use Rattle.trace_examples.proofs.nor_are_these_pushes.Goals as goal

pub returns : goal.returns
returns c = record {
  fronts = push_fronts_stand;
  told_twice = told_twice;
  told_too_soon = told_too_soon;
  answered_before_the_push = answered_before_the_push;
  answered_before_another = answered_before_another;
  told_unheard = told_unheard;
  told_early = told_early;
  early_end_told = early_end_told;
  no_end_told = no_end_told;
  end_told_twice = end_told_twice;
  answered_before_the_end = answered_before_the_end;
  push_left_out = push_left_out;
}
