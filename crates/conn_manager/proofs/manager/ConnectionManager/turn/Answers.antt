use Rattle.mux_client.specs.Events.{happened}
use Rattle.conn_manager.proofs.Spent.{spends_pass, spends_behind, turned_by}
use Rattle.conn_manager.proofs.manager.ConnectionManager.turn.Goals as goal

pub returns-in-Err-pass-clause-spent : goal.returns-in-Err-pass-clause-spent
returns-in-Err-pass-clause-spent c =
    λ h. spends_pass c.args.self.now c.apply.new.self c.settle.new.self c.args.draw (happened c.args.news) c.in-Ok.ensures.done c.in-Ok-settle.ensures.done (c.in-Err-pass.ensures.spent h)

pub returns-clause-done : goal.returns-clause-done
returns-clause-done c =
    turned_by c.args.self.now c.apply.new.self c.settle.new.self c.pass.new.self c.flush.new.self c.args.draw (happened c.args.news) c.flush.result
    c.in-Ok.ensures.done c.in-Ok-settle.ensures.done c.in-Ok-pass.ensures.done c.flush.ensures.done

pub returns-clause-spent : goal.returns-clause-spent
returns-clause-spent c =
    λ h. spends_behind c.args.self.now c.apply.new.self c.settle.new.self c.pass.new.self c.args.draw (happened c.args.news)
    c.in-Ok.ensures.done c.in-Ok-settle.ensures.done c.in-Ok-pass.ensures.done (c.flush.ensures.spent h)
