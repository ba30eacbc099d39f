use Rattle.std.proofs.Common.{◌≡◌, rules}
use Rattle.mux_conn.specs.Connection.{Work}
use Rattle.mux_conn.specs.declared.life.Life.TheVariants.{SettingUp}
use Rattle.mux_conn.proofs.Judged.{read_back}
use Rattle.mux_conn.proofs.connection.MultiplexedConnection.read.Goals as goal

pub returns-clause-work : goal.returns-clause-work
returns-clause-work c =
    let w : Work = record { conn = c.args.self.now; acts = c.args.out.now.items } in
    let v : Work = record { conn = c.read_setup.new.self; acts = c.read_setup.new.out.items } in
    let link = c.in-SettingUp.link in
    let greeting = c.in-SettingUp.greeting in
    let is : c.args.self.now.life ≡ SettingUp link greeting = search rules in
    read_back w v c.replace-life.new.dest link greeting c.args.piece.now is c.in_ok-read_setup-in-SettingUp.ensures.work
