use Rattle.std.proofs.Common.{subst}
use Rattle.transactions.specs.Turns.{Ends}
use Rattle.transactions.proofs.watching.transaction.Goals as goal

pub returns-clause-ends : goal.returns-clause-ends
returns-clause-ends g c = λ some. subst (λ watch. Ends g.C.Calls.told g.F.FnMut watch c.args.turns c.args.conn.now c.args.func c.all_turns.result c.all_turns.new.conn) c.in_ok-watch.ensures c.all_turns.ensures
