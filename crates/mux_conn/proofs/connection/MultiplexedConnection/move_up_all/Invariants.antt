use Rattle.std.proofs.Common.{◌≡◌, [], length}
use Rattle.mux_conn.specs.Passes.{moved_up_each}
use Rattle.mux_conn.proofs.connection.MultiplexedConnection.move_up_all.Given as goal

abbrev pub invariant-requests : goal.invariant-requests
invariant-requests l = record {
  work : moved_up_each (record { conn = l.self; acts = l.out.items }) l.rest ≡ moved_up_each (record { conn = record l.fn.self { admitted = [] }; acts = l.fn.out.items }) l.fn.self.admitted;
  count : length l.self.requests ≡ length l.fn.self.requests;
  failure : l.self.failure ≡ l.fn.self.failure;
}

abbrev pub decreases-requests : goal.decreases-requests
decreases-requests l = length l.rest
