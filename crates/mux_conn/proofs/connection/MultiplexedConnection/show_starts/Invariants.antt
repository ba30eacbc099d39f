use Rattle.std.proofs.Common.{◌≡◌, length}
use Rattle.mux_conn.specs.Starts.{shown_each}
use Rattle.mux_conn.proofs.connection.MultiplexedConnection.show_starts.Given as goal

abbrev pub invariant-loop-start : goal.invariant-loop-start
invariant-loop-start l = record {
  same : l.self ≡ l.fn.self;
  work : shown_each (record { conn = l.self; acts = l.out.items }) l.rest ≡ shown_each (record { conn = l.fn.self; acts = l.fn.out.items }) l.fn.starts.items;
}

abbrev pub decreases-loop-start : goal.decreases-loop-start
decreases-loop-start l = length l.rest
