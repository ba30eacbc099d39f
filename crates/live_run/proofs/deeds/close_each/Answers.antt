use Rattle.live_run.proofs.Balance.{closes_more}
use Rattle.live_run.proofs.deeds.close_each.Goals as goal

pub loop-link-preserved : goal.loop-link-preserved
loop-link-preserved g c = closes_more c.loop-link.invariant c.in-Some.ensures c.close.ensures.tells
