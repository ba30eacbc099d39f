use Rattle.std.proofs.Common.{◌≡◌, drop, length}
use Rattle.mux_conn.specs.Passes.{rounds_of}
use Rattle.mux_conn.proofs.connection.MultiplexedConnection.begin_each.Given as goal

-- those that are left begin their rounds as all do
abbrev pub invariant-loop-index : goal.invariant-loop-index
invariant-loop-index l = record {
  len_is : l.len ≡ length l.fn.self.fresh;
  same : l.self.fresh ≡ l.fn.self.fresh;
  work : rounds_of (record { conn = l.self; acts = l.out.items }) (drop l.index l.fn.self.fresh) ≡ rounds_of (record { conn = l.fn.self; acts = l.fn.out.items }) l.fn.self.fresh;
  count : length l.self.requests ≡ length l.fn.self.requests;
  failure : l.self.failure ≡ l.fn.self.failure;
}
