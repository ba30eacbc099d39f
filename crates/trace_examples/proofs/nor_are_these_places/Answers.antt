use Rattle.trace_examples.proofs.Places.{place_fronts_stand, started_while_held_back, started_without_a_place, told_while_the_queue_is_full, place_where_it_has_one, room_where_there_is_room, room_without_a_place, another_wait_was_shown, second_before_the_first}
use Rattle.trace_examples.proofs.nor_are_these_places.Goals as goal

pub returns : goal.returns
returns c = record {
  fronts = place_fronts_stand;
  started_while_held_back = started_while_held_back;
  started_without_a_place = started_without_a_place;
  told_while_the_queue_is_full = told_while_the_queue_is_full;
  place_where_it_has_one = place_where_it_has_one;
  room_where_there_is_room = room_where_there_is_room;
  room_without_a_place = room_without_a_place;
  another_wait_was_shown = another_wait_was_shown;
  second_before_the_first = second_before_the_first;
}
