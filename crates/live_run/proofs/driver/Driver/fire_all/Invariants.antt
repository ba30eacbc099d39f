use Rattle.std.proofs.Common.{◌≡◌, ◌-◌, length}
use Rattle.live_run.specs.Deeds.{Does}
use Rattle.live_run.specs.Endings.{Goes, most_events}
use Rattle.live_run.specs.Passes.{Firing}
use Rattle.live_run.proofs.Stages.{Until}
use Rattle.live_run.proofs.driver.Driver.fire_all.Given as goal

-- so much was done so far
abbrev pub invariant-fires : goal.invariant-fires
invariant-fires g l = record {
  does : Does (g.W.World.told l.fn.world) (g.W.World.told l.world) l.fn.session l.session l.fn.self.agenda l.self.agenda
      (Until Firing l.fn.self.agenda Firing l.self.agenda);
  goes : Goes l.fn.session l.session l.fn.self.verdict.submissions;
  same : l.self.verdict.submissions ≡ l.fn.self.verdict.submissions;
  claims : l.self.agenda.claimed ≡ l.fn.self.agenda.claimed;
}

abbrev pub decreases-fires : goal.decreases-fires
decreases-fires g l = most_events - length l.session.events
