use Rattle.mux_conn.proofs.Spent.{spent_moved}
use Rattle.mux_conn.proofs.connection.MultiplexedConnection.pass.Goals as goal

pub returns-in-Err-clause-spent : goal.returns-in-Err-clause-spent
returns-in-Err-clause-spent c is = spent_moved (record { conn = c.args.self.now; acts = c.args.out.now.items }) (c.in-Err.ensures.spent is)
