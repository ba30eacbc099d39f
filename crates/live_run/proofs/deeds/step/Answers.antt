use Rattle.live_run.proofs.Settling.{stepped}
use Rattle.live_run.proofs.deeds.step.Goals as goal

pub returns-in-Ok-clause-ok : goal.returns-in-Ok-clause-ok
returns-in-Ok-clause-ok g c = stepped c.word-word.result c.args.kind c.word-word.ensures.tells c.in-Ok.ensures.ok c.new-gained.ensures.items c.in-Ok.ensures.actions c.in-Ok.ensures.sound c.in-Ok.ensures.good c.in-Ok.ensures.unspent
