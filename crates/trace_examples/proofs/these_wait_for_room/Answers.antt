use Rattle.trace_examples.proofs.Places.{cut_off_in_wait, started_later, a_place_and_then_room, a_place_that_was_left, the_connect_and_then_room, told_once_it_has_a_place}
use Rattle.trace_examples.proofs.these_wait_for_room.Goals as goal

pub returns : goal.returns
returns c = record {
  cut_off_in_wait = cut_off_in_wait;
  started_later = started_later;
  a_place_and_then_room = a_place_and_then_room;
  a_place_that_was_left = a_place_that_was_left;
  the_connect_and_then_room = the_connect_and_then_room;
  told_once_it_has_a_place = told_once_it_has_a_place;
}
