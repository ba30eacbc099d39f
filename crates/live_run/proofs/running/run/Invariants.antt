use Rattle.std.proofs.Common.{◌≡◌, ◌≤◌, ◌+◌, ◌-◌, ◌*◌, length}
use Rattle.live_run.specs.Claims.{HasClaimed}
use Rattle.live_run.specs.Deeds.{Does}
use Rattle.live_run.specs.Endings.{Goes, most_events}
use Rattle.live_run.proofs.Whole.{Sofar}
use Rattle.live_run.proofs.running.run.Given as goal

abbrev pub invariant-passes : goal.invariant-passes
invariant-passes g l = record {
  does : Does (g.W.World.told l.fn.world) (g.W.World.told l.world) l.fn.session l.session l.fn.driver.agenda l.driver.agenda (Sofar l.idle l.fn.driver.agenda);
  goes : Goes l.fn.session l.session l.fn.driver.verdict.submissions;
  same : l.driver.verdict.submissions ≡ l.fn.driver.verdict.submissions;
  within : l.idle ≤ 6_000;
  claims : HasClaimed l.driver.agenda.claimed l.keeper;
}

-- passes that events may come of, and idle ones between them
abbrev pub decreases-passes : goal.decreases-passes
decreases-passes g l = (most_events - length l.session.events) * 6_001 + (6_000 - l.idle)
