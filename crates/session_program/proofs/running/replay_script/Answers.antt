use Rattle.std.proofs.Common.{refl, ap, Err}
use Rattle.session_program.proofs.Traces.{told_end, cut_whole, noted_end, same_stop}
use Rattle.session_program.proofs.running.replay_script.Goals as goal

pub returns-in-Ok-clause-stops : goal.returns-in-Ok-clause-stops
returns-in-Ok-clause-stops g c =
    cut_whole c.args.script.config c.args.script.word c.args.script.events c.args.script.events c.replay_into.new.text refl c.in-Ok.ensures.sound c.in-Ok.ensures.good c.in-Ok.ensures.unspent c.in-Ok.ensures.sent c.put.ensures.part

pub returns-clause-stops : goal.returns-clause-stops
returns-clause-stops g c =
    let script = c.args.script in
    let e = c.end_early.ensures in
    told_end _ _ _ script.config script.word script.events c.in-Err.stop c.end_early.result c.replay_into.new.text c.in-Err.ensures.stops e.kept e.told e.same e.cut

pub returns-clause-noted : goal.returns-clause-noted
returns-clause-noted g c n is = noted_end c.in-Err.stop c.end_early.result c.end_early.ensures.kept (λ k was. c.in-Err.ensures.noted k (ap (λ s. Err s) was)) n (same_stop _ _ is)
