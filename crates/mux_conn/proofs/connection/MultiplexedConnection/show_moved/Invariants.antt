use Rattle.std.proofs.Common.{◌≡◌, [], length}
use Rattle.mux_conn.specs.Turn.{moved_each_shown}
use Rattle.mux_conn.proofs.connection.MultiplexedConnection.show_moved.Given as goal

abbrev pub invariant-loop-number : goal.invariant-loop-number
invariant-loop-number l = record {
  same : l.self ≡ record l.fn.self { moved = [] };
  work : moved_each_shown (record { conn = l.self; acts = l.out.items }) l.rest ≡ moved_each_shown (record { conn = record l.fn.self { moved = [] }; acts = l.fn.out.items }) l.fn.self.moved;
}

abbrev pub decreases-loop-number : goal.decreases-loop-number
decreases-loop-number l = length l.rest
