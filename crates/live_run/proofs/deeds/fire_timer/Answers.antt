use Rattle.live_run.proofs.Settling.{broke_fire}
use Rattle.live_run.proofs.Turns.{fired_one}
use Rattle.live_run.proofs.deeds.fire_timer.Goals as goal

pub returns-in-Ok-clause-did : goal.returns-in-Ok-clause-did
returns-in-Ok-clause-did g c = fired_one c.args.timer c.requires c.drop_timer.ensures c.in-Ok.ensures.ok

pub returns-in-Err-clause-err : goal.returns-in-Err-clause-err
returns-in-Err-clause-err g c = broke_fire c.args.timer c.requires c.in-Err.ensures.err

pub returns-in-Err-clause-few : goal.returns-in-Err-clause-few
returns-in-Err-clause-few g c = c.in-Err.ensures.few
