use Rattle.std.proofs.Common.{◌++◌, List, ap, ◌∙◌, append_assoc}
use Rattle.mux_client.specs.declared.act.ConnectionAct.{ConnectionAct}
use Rattle.mux_client.specs.Shown.{shown_each}
use Rattle.mux_client.proofs.Late.{spends_late, stepped_late, shown_late}
use Rattle.mux_client.proofs.connection.MultiplexedConnection.step_late.Goals as goal

pub returns-in-Err-step-clause-spent : goal.returns-in-Err-step-clause-spent
returns-in-Err-step-clause-spent c =
    λ h. spends_late c.args.self.now c.args.request.number c.time_out.new.self c.new-acts.result.items c.time_out.new.out.items
    c.new-acts.ensures.items c.in-Ok.ensures.work c.in-Ok.ensures.failure (c.in-Err-step.ensures.spent h)

pub returns-in-Ok-show-clause-conn : goal.returns-in-Ok-show-clause-conn
returns-in-Ok-show-clause-conn c =
    c.in-Ok-show.ensures.conn
    ∙ stepped_late c.args.self.now c.args.request.number c.time_out.new.self c.step.new.self c.new-acts.result.items c.time_out.new.out.items c.step.new.out.items
    c.new-acts.ensures.items c.in-Ok.ensures.work c.in-Ok-step.ensures.conn c.in-Ok-step.ensures.acts

pub returns-in-Ok-show-clause-acts : goal.returns-in-Ok-show-clause-acts
returns-in-Ok-show-clause-acts c =
    c.in-Ok-show.ensures.acts
    ∙ append_assoc c.args.out.now.items c.args.self.now.early (shown_each c.step.new.out.items)
    ∙ ap (λ (acts : List ConnectionAct). c.args.out.now.items ++ acts)
    (shown_late c.args.self.now c.args.request.number c.time_out.new.self c.new-acts.result.items c.time_out.new.out.items c.step.new.out.items
    c.new-acts.ensures.items c.in-Ok.ensures.work c.in-Ok-step.ensures.acts)
