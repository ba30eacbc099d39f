use Rattle.std.proofs.Common.{◌≡◌, ◌≤◌, ◌++◌, length}
use Rattle.session_program.proofs.Traces.{Streams}
use Rattle.session_program.proofs.replaying.replay_into.Given as goal

-- the events that the session has taken and those that are left are the whole
abbrev pub invariant-loop-event : goal.invariant-loop-event
invariant-loop-event g l = record {
  split : l.session.events ++ l.left ≡ l.fn.events;
  streams : Streams l.fn.config l.fn.word l.session.events l.session (g.K.Sink.held l.fn.sink) (g.K.Sink.held l.sink) l.text;
  later : g.K.Sink.fault_count l.fn.sink ≤ g.K.Sink.fault_count l.sink;
}

abbrev pub decreases-loop-event : goal.decreases-loop-event
decreases-loop-event g l = length l.left
