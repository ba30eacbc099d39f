use Rattle.std.proofs.Common.{◌≡◌, length}
use Rattle.mux_conn.specs.Effects.{noticed_each}
use Rattle.mux_conn.proofs.connection.MultiplexedConnection.tell_each.Given as goal

abbrev pub invariant-loop-told : goal.invariant-loop-told
invariant-loop-told l = record {
  work : noticed_each (record { conn = l.fn.self; acts = l.out.items }) l.notices ≡ noticed_each (record { conn = l.fn.self; acts = l.fn.out.items }) l.fn.notices;
}

abbrev pub decreases-loop-told : goal.decreases-loop-told
decreases-loop-told l = length l.notices
