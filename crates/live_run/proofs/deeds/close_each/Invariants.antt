use Rattle.std.proofs.Common.{length}
use Rattle.live_run.proofs.Balance.{Closes}
use Rattle.live_run.proofs.deeds.close_each.Given as goal

abbrev pub invariant-loop-link : goal.invariant-loop-link
invariant-loop-link g l = Closes (g.W.World.told l.fn.world) (g.W.World.told l.world) l.fn.links l.links

abbrev pub decreases-loop-link : goal.decreases-loop-link
decreases-loop-link g l = length l.links
