use Rattle.live_run.proofs.Runs.{broke_more}
use Rattle.live_run.proofs.Whole.{driven_with}
use Rattle.live_run.proofs.Going.{goes_then}
use Rattle.live_run.proofs.running.run_out.Goals as goal

pub returns-in-Ok-end-clause-driven : goal.returns-in-Ok-end-clause-driven
returns-in-Ok-end-clause-driven g c early is = driven_with early c.run.new.keeper (rw is at c.in-Ok.ensures.did) c.in-Ok.ensures.goes c.in-Ok-end.ensures.did c.in-Ok.ensures.claims

pub returns-in-Err-end-clause-err : goal.returns-in-Err-end-clause-err
returns-in-Err-end-clause-err g c = broke_more c.in-Ok.ensures.did c.in-Err-end.ensures.err

pub returns-in-Err-end-clause-few : goal.returns-in-Err-end-clause-few
returns-in-Err-end-clause-few g c = goes_then c.in-Ok.ensures.goes c.in-Err-end.ensures.few
