use Rattle.live_run.proofs.Whole.{ended, unended}
use Rattle.live_run.proofs.Going.{refused_within}
use Rattle.live_run.proofs.running.end.Goals as goal

pub returns-in-Err-clause-err : goal.returns-in-Err-clause-err
returns-in-Err-clause-err g c = unended c.in-Err.ensures.err

pub returns-clause-did : goal.returns-clause-did
returns-clause-did g c = ended c.args.driver.now.agenda.closes c.args.driver.now.agenda.unclosed c.in-Ok.ensures.ok c.close_each.ensures.told c.close_each-2.ensures.told

pub returns-in-Err-clause-few : goal.returns-in-Err-clause-few
returns-in-Err-clause-few g c = refused_within c.in-Err.ensures.err
