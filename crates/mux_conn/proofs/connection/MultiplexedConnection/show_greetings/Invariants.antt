use Rattle.std.proofs.Common.{◌≡◌, length}
use Rattle.mux_conn.specs.Passes.{greeted_each}
use Rattle.mux_conn.proofs.connection.MultiplexedConnection.show_greetings.Given as goal

abbrev pub invariant-loop-start : goal.invariant-loop-start
invariant-loop-start l = record {
  work : greeted_each (record { conn = l.fn.self; acts = l.out.items }) l.greeting l.rest ≡ greeted_each (record { conn = l.self; acts = l.fn.out.items }) l.fn.greeting l.fn.starts.items;
}

abbrev pub decreases-loop-start : goal.decreases-loop-start
decreases-loop-start l = length l.rest
