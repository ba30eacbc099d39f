use Rattle.std.proofs.Common.{◌≡◌, length}
use Rattle.live_run.specs.Agenda.{numbers_of}
use Rattle.live_run.specs.Deeds.{Does}
use Rattle.live_run.specs.Endings.{Goes}
use Rattle.live_run.specs.Passes.{InTurn, Offers, IsWriteOf}
use Rattle.live_run.proofs.Stages.{Until}
use Rattle.live_run.proofs.driver.Driver.write_all.Given as goal

-- so much was done so far
abbrev pub invariant-loop-link : goal.invariant-loop-link
invariant-loop-link g l = record {
  does : Does (g.W.World.told l.fn.world) (g.W.World.told l.world) l.fn.session l.session l.fn.self.agenda l.self.agenda
      (Until (InTurn Offers IsWriteOf (numbers_of l.fn.self.agenda.links)) l.fn.self.agenda (InTurn Offers IsWriteOf l.left) l.self.agenda);
  goes : Goes l.fn.session l.session l.fn.self.verdict.submissions;
  same : l.self.verdict.submissions ≡ l.fn.self.verdict.submissions;
  claims : l.self.agenda.claimed ≡ l.fn.self.agenda.claimed;
}

abbrev pub decreases-loop-link : goal.decreases-loop-link
decreases-loop-link g l = length l.left
