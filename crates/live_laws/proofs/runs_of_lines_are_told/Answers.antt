use Rattle.live_laws.proofs.Flights.{flight_front, flight_replays}
use Rattle.live_laws.proofs.runs_of_lines_are_told.Goals as goal

pub returns : goal.returns
returns c = record {
  front = λ plan lines old new f l flight. flight_front plan lines old new f flight l;
  replay = λ plan lines old new f flight. flight_replays plan lines old new f flight;
}
