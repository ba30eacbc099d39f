use Rattle.std.proofs.Common.{◌≡◌, []}
use Rattle.mux_conn.proofs.Spent.{ahead_spent}
use Rattle.mux_conn.proofs.connection.MultiplexedConnection.start_ahead.Goals as goal

pub returns-in-Err-clause-spent : goal.returns-in-Err-clause-spent
returns-in-Err-clause-spent c is =
    let none : c.take-starts.result.items ≡ [] = c.take-starts.ensures in
    ahead_spent (record { conn = c.args.self.now; acts = c.args.out.now.items }) c.in-Ready.link c.in-Ready.is (rw none at ((rw c.in-Err.is at c.start_ready_to-ready.ensures).spent is))
