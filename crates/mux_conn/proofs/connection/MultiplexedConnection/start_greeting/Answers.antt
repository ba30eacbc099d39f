use Rattle.std.proofs.Common.{◌≡◌, []}
use Rattle.mux_conn.proofs.Spent.{greeting_spent}
use Rattle.mux_conn.proofs.connection.MultiplexedConnection.start_greeting.Goals as goal

pub returns-in-Err-clause-spent : goal.returns-in-Err-clause-spent
returns-in-Err-clause-spent c is =
    let none : c.new-starts.result.items ≡ [] = cc in
    greeting_spent (record { conn = c.args.self.now; acts = c.args.out.now.items }) c.in-SettingUp.link c.in-SettingUp.greeting c.in-SettingUp.is (rw none at ((rw c.in-Err.is at c.start_ready.ensures).spent is))
