use Rattle.std.proofs.Common.{sym}
use Rattle.mux_conn.proofs.Entries.{none_leaves}
use Rattle.mux_conn.proofs.advance.take_entry.Goals as goal

pub returns-in-None-clause-left : goal.returns-in-None-clause-left
returns-in-None-clause-left c = sym (none_leaves c.args.number c.args.entries.now c.in-None.ensures)
