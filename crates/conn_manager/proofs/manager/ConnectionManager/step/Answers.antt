use Rattle.std.proofs.Common.{◌++◌, inr, ap, ◌∙◌}
use Rattle.mux_client.specs.Events.{happened}
use Rattle.conn_manager.specs.declared.manager.ConnectionManager.{ConnectionManager}
use Rattle.conn_manager.proofs.Standing.{spends_started, stepped_started, turned_started}
use Rattle.conn_manager.proofs.manager.ConnectionManager.step.Goals as goal

pub returns-in-Err-clause-spent : goal.returns-in-Err-clause-spent
returns-in-Err-clause-spent c = λ h.
    inr (spends_started c.args.self.now c.start.new.self c.args.event.word (happened c.args.event.news) c.start.ensures.done
    (c.in-Err.ensures.spent (let value = c.fail_turn.ensures.value in let is = h in cc)))

pub returns-in-Ok-move_into-clause-manager : goal.returns-in-Ok-move_into-clause-manager
returns-in-Ok-move_into-clause-manager c =
    stepped_started c.args.self.now c.start.new.self c.turn.new.self c.args.event.word (happened c.args.event.news) c.move_into.new.self c.start.ensures.done c.in-Ok.ensures.done
    c.in-Ok-move_into.ensures.emptied

pub returns-in-Ok-move_into-clause-acts : goal.returns-in-Ok-move_into-clause-acts
returns-in-Ok-move_into-clause-acts c =
    c.in-Ok-move_into.ensures.ok
    ∙ ap (λ (m : ConnectionManager). c.args.out.now.items ++ m.generations.acts)
    (turned_started c.args.self.now c.start.new.self c.turn.new.self c.args.event.word (happened c.args.event.news) c.start.ensures.done c.in-Ok.ensures.done)
