use Rattle.std.proofs.Common.{◌≡◌, length}
use Rattle.mux_conn.specs.Effects.{behind_first}
use Rattle.mux_conn.proofs.connection.MultiplexedConnection.tell_behind_first.Given as goal

abbrev pub invariant-loop-told : goal.invariant-loop-told
invariant-loop-told l = record {
  same : l.out.items ≡ l.fn.out.items;
  behind : behind_first l.rest ≡ behind_first l.fn.notices.items;
}

abbrev pub decreases-loop-told : goal.decreases-loop-told
decreases-loop-told l = length l.rest
