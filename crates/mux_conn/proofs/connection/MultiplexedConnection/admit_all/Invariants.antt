use Rattle.std.proofs.Common.{◌≡◌, [], length}
use Rattle.mux_conn.specs.Passes.{admitted_each}
use Rattle.mux_conn.proofs.connection.MultiplexedConnection.admit_all.Given as goal

abbrev pub invariant-requests : goal.invariant-requests
invariant-requests l = record {
  work : admitted_each (record { conn = l.self; acts = l.out.items }) l.rest ≡ admitted_each (record { conn = record l.fn.self { waiting = [] }; acts = l.fn.out.items }) l.fn.self.waiting;
  count : length l.self.requests ≡ length l.fn.self.requests;
  failure : l.self.failure ≡ l.fn.self.failure;
}

abbrev pub decreases-requests : goal.decreases-requests
decreases-requests l = length l.rest
