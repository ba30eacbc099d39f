use Rattle.conn_manager.proofs.Passed.{passed_on, spends_by}
use Rattle.conn_manager.proofs.manager.ConnectionManager.pass_connection.Goals as goal

pub returns-in-Err-clause-spent : goal.returns-in-Err-clause-spent
returns-in-Err-clause-spent c = λ h. spends_by c.args.self.now c.new-acts.result.items c.new-acts.ensures.items (c.in-Err.ensures.spent h)

pub returns-clause-done : goal.returns-clause-done
returns-clause-done c =
    passed_on c.args.self.now c.note_each.new.self c.args.draw c.advance_all.new.self c.advance_all.new.out.items c.new-acts.result.items c.new-acts.ensures.items c.in-Ok.ensures.work c.in_ok-note_each.ensures.done
