use Rattle.mux_conn.proofs.Spent.{spent_repeated}
use Rattle.mux_conn.proofs.connection.MultiplexedConnection.say.Goals as goal

pub returns-in-Err-clause-spent : goal.returns-in-Err-clause-spent
returns-in-Err-clause-spent c is = spent_repeated (record { conn = c.args.self.now; acts = c.args.out.now.items }) (c.in-Err.ensures.spent is)
