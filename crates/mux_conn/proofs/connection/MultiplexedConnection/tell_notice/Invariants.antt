use Rattle.std.proofs.Common.{◌≡◌, ◌∷◌, ◌-◌, List, length}
use Rattle.link_core.specs.declared.message.NoticeAt.{NoticeAt}
use Rattle.mux_conn.specs.Effects.{told_each}
use Rattle.mux_conn.proofs.connection.MultiplexedConnection.tell_notice.Given as goal

abbrev pub invariant-behind : goal.invariant-behind
invariant-behind l = record {
  work : (later : List NoticeAt) → told_each (record { conn = l.self; acts = l.out.items }) l.answered (l.told ∷ later) l.settled ≡ told_each (record { conn = l.fn.self; acts = l.fn.out.items }) l.fn.answered (l.fn.told ∷ later) l.fn.settled;
  count : length l.self.requests ≡ length l.fn.self.requests;
  failure : l.self.failure ≡ l.fn.self.failure;
}

abbrev pub decreases-behind : goal.decreases-behind
decreases-behind l = l.told.settled - l.answered
