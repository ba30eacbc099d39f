use Rattle.std.proofs.Common.{◌≡◌, length}
use Rattle.mux_conn.specs.Effects.{told_each}
use Rattle.mux_conn.proofs.connection.MultiplexedConnection.tell.Given as goal

abbrev pub invariant-loop-told : goal.invariant-loop-told
invariant-loop-told l = record {
  work : told_each (record { conn = l.self; acts = l.out.items }) l.answered l.notices l.settled ≡ told_each (record { conn = l.fn.self; acts = l.fn.out.items }) 0 l.fn.notices.items l.fn.settled.items;
  count : length l.self.requests ≡ length l.fn.self.requests;
  failure : l.self.failure ≡ l.fn.self.failure;
}

abbrev pub decreases-loop-told : goal.decreases-loop-told
decreases-loop-told l = length l.notices
