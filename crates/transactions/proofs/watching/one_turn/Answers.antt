use Rattle.std.proofs.Common.{true, refl, ap, ◌∙◌}
use Rattle.std.proofs.lemmas.Fn.{Called-on}
use Rattle.resp_write.specs.Command.{CommandList}
use Rattle.transactions.proofs.Turning.{a_turn}
use Rattle.transactions.proofs.watching.one_turn.Goals as goal

pub returns-clause-turn : goal.returns-clause-turn
returns-clause-turn g c =
    a_turn g.C.Calls.told g.F.FnMut c.args.watch.now c.args.conn.now c.call_watch.new.conn c.func-answer.new.arg2 c.call_unwatch.new.conn c.args.func.now c.func-answer.new.self c.atomic.new.self c.func-answer.result
    c.in_default.ensures
    (Called-on g.F.FnMut c.func-answer.ensures refl)
    (c.atomic.ensures ∙ ap (λ (p : CommandList). record p { atomic = true }) c.pipe-pipeline.ensures)
    c.call_unwatch.ensures
