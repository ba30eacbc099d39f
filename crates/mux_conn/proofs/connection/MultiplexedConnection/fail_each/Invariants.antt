use Rattle.std.proofs.Common.{◌≡◌, length}
use Rattle.mux_conn.specs.Effects.{failed_each}
use Rattle.mux_conn.proofs.connection.MultiplexedConnection.fail_each.Given as goal

abbrev pub invariant-loop-request : goal.invariant-loop-request
invariant-loop-request l = record {
  work : failed_each (record { conn = l.self; acts = l.out.items }) l.error l.rest ≡ failed_each (record { conn = l.fn.self; acts = l.fn.out.items }) l.fn.error l.fn.requests;
  count : length l.self.requests ≡ length l.fn.self.requests;
  failure : l.self.failure ≡ l.fn.self.failure;
}

abbrev pub decreases-loop-request : goal.decreases-loop-request
decreases-loop-request l = length l.rest
