use Rattle.trace_examples.proofs.Stays.{staying_fronts_stand, room_without_a_place, begun_on_resp2, begun_behind_a_shutdown, begun_unserved}
use Rattle.trace_examples.proofs.staying.nor_do_these_stay.Goals as goal

pub returns : goal.returns
returns c = record {
  fronts = staying_fronts_stand;
  room_without_a_place = room_without_a_place;
  begun_on_resp2 = begun_on_resp2;
  begun_behind_a_shutdown = begun_behind_a_shutdown;
  begun_unserved = begun_unserved;
}
