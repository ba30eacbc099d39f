use Rattle.mux_conn.proofs.Entries.{not_seated}
use Rattle.mux_conn.proofs.connection.MultiplexedConnection.seat_alone.Goals as goal

pub returns-in-None-clause-work : goal.returns-in-None-clause-work
returns-in-None-clause-work c =
    not_seated (record { conn = c.args.self.now; acts = c.args.out.now.items }) c.args.number c.take_entry.new.entries c.in_ok-found.found c.in_ok-found.ensures.found c.in_ok-found.ensures.left c.in-None.is
