use Rattle.trace_examples.proofs.Stays.{told_keeps_its_place, free_on_the_next, answers_nobody, over_and_past, closed_before_all, time_of_its_coming, hit_by_a_write}
use Rattle.trace_examples.proofs.staying.these_stay.Goals as goal

pub returns : goal.returns
returns c = record {
  told_keeps_its_place = told_keeps_its_place;
  free_on_the_next = free_on_the_next;
  answers_nobody = answers_nobody;
  over_and_past = over_and_past;
  closed_before_all = closed_before_all;
  time_of_its_coming = time_of_its_coming;
  hit_by_a_write = hit_by_a_write;
}
