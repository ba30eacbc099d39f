use Rattle.live_lines.proofs.Does.{flown, not_flown}
use Rattle.live_lines.proofs.whole_run.live.Goals as goal

pub returns-in-Ok : goal.returns-in-Ok
returns-in-Ok g c = flown _ _ _ _ _ _ _ _ _ c.in-Ok.flight c.in-Ok.ensures.flight c.in-Ok.ensures.plan c.write_outcomes.ensures

pub returns-in-Err : goal.returns-in-Err
returns-in-Err g c = not_flown _ _ _ _ _ _ _ _ _ c.in-Err.refusal c.in-Err.ensures.refused c.refuse.ensures
