use Rattle.trace_examples.proofs.Managers.{manager_fronts_stand, begun_unused, asked_unused, number_left_out, asked_before, link_left_out, begun_twice, replaced_twice, begun_for_nothing, begun_in_vain, other_wait, same_wait_again, tried_too_soon, begun_before_outcomes, repetition_left_out, repeated_otherwise, repeated_untimed, round_too_soon, round_elsewhere, started_unrounded, answered_there}
use Rattle.trace_examples.proofs.returning.nor_do_these_come_back.Goals as goal

pub returns : goal.returns
returns c = record {
  fronts = manager_fronts_stand;
  begun_unused = begun_unused;
  asked_unused = asked_unused;
  number_left_out = number_left_out;
  asked_before = asked_before;
  link_left_out = link_left_out;
  begun_twice = begun_twice;
  replaced_twice = replaced_twice;
  begun_for_nothing = begun_for_nothing;
  begun_in_vain = begun_in_vain;
  other_wait = other_wait;
  same_wait_again = same_wait_again;
  tried_too_soon = tried_too_soon;
  begun_before_outcomes = begun_before_outcomes;
  repetition_left_out = repetition_left_out;
  repeated_otherwise = repeated_otherwise;
  repeated_untimed = repeated_untimed;
  round_too_soon = round_too_soon;
  round_elsewhere = round_elsewhere;
  started_unrounded = started_unrounded;
  answered_there = answered_there;
}
