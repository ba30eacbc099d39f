-- The laws of live runs that callers' lines began.
use Rattle.std.specs.Prelude.{ℕ, List, ◌++◌, Option}
use Rattle.caller_threads.specs.Submits.{Line}
use Rattle.legal_laws.specs.Links.{IsPrefix}
use Rattle.legal_trace.specs.Ledger.{joined}
use Rattle.live_laws.specs.Laws.{calls_of, link_in}
use Rattle.live_laws.specs.Taken.{taken}
use Rattle.live_lines.specs.Flights.{IsFlight}
use Rattle.live_lines.specs.declared.flying.Flight.{Flight}
use Rattle.live_lines.specs.declared.planning.Plan.{Plan}
use Rattle.live_run.specs.Deeds.{IsGood, IsUnspent}
use Rattle.outside.specs.declared.world.Call.{Call}
use Rattle.single_session.specs.Replay.{IsSound}

-- what a link took by the writes of the run, with what it is still offered behind it, is the front of the messages that were
-- started on it
abbrev pub FlightsTakeFront : Type 0
FlightsTakeFront =
    (plan : Plan) (lines : List Line) (old new : Option (List Call)) (f : Flight) (l : ℕ)
    → (flight : IsFlight plan lines old new f)
    → IsPrefix (taken l (calls_of flight.driven.run) ++ (link_in f.session l).offer) (joined (link_in f.session l).starts)

-- a replay of the run's history comes to its end: its configuration is sound, no event is bad, and no step is spent
abbrev pub FlightsReplay : Type 0
FlightsReplay =
    (plan : Plan) (lines : List Line) (old new : Option (List Call)) (f : Flight)
    → IsFlight plan lines old new f
    → IsSound f.session.config × IsGood f.session × IsUnspent f.session
