use Rattle.std.proofs.Common.{◌≡◌, length}
use Rattle.live_run.specs.Claims.{HasClaimed}
use Rattle.live_run.specs.Deeds.{Does}
use Rattle.live_run.specs.Endings.{Goes}
use Rattle.live_run.specs.Passes.{AreDials}
use Rattle.live_run.proofs.Stages.{Until}
use Rattle.live_run.proofs.driver.Driver.dial_all.Given as goal

-- so much was done so far
abbrev pub invariant-dials : goal.invariant-dials
invariant-dials g l = record {
  does : Does (g.W.World.told l.fn.world) (g.W.World.told l.world) l.fn.session l.session l.fn.self.agenda l.self.agenda
      (Until (AreDials (length l.fn.self.agenda.dials)) l.fn.self.agenda (AreDials l.left) l.self.agenda);
  goes : Goes l.fn.session l.session l.fn.self.verdict.submissions;
  same : l.self.verdict.submissions ≡ l.fn.self.verdict.submissions;
  claims : HasClaimed l.self.agenda.claimed l.keeper;
}

abbrev pub decreases-dials : goal.decreases-dials
decreases-dials g l = l.left
