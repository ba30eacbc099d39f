use Rattle.std.proofs.Common.{◌≡◌, length}
use Rattle.mux_conn.specs.Effects.{settled_each}
use Rattle.mux_conn.proofs.connection.MultiplexedConnection.settle_rest.Given as goal

abbrev pub invariant-loop-message : goal.invariant-loop-message
invariant-loop-message l = record {
  work : settled_each (record { conn = l.self; acts = l.out.items }) l.rest ≡ settled_each (record { conn = l.fn.self; acts = l.fn.out.items }) l.fn.rest;
  count : length l.self.requests ≡ length l.fn.self.requests;
  failure : l.self.failure ≡ l.fn.self.failure;
}

abbrev pub decreases-loop-message : goal.decreases-loop-message
decreases-loop-message l = length l.rest
