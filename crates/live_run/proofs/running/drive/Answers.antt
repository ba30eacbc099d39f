use Rattle.std.proofs.Common.{arith}
use Rattle.std.proofs.lemmas.Result.{IfOk-weaker}
use Rattle.live_run.proofs.Runs.{broke_nothing}
use Rattle.live_run.proofs.running.drive.Goals as goal

pub returns-in-Err-clause-err : goal.returns-in-Err-clause-err
returns-in-Err-clause-err g c = broke_nothing

pub returns-clause-driven : goal.returns-clause-driven
returns-clause-driven g c =
    IfOk-weaker c.run_out-ended.result _ _ (λ ending driven. rw c.new-driver.ensures.count at driven c.args.actions.items c.new-driver.ensures.agenda) c.run_out-ended.ensures.driven

pub returns-clause-err : goal.returns-clause-err
returns-clause-err g c = rw c.new-driver.ensures.agenda at c.run_out-ended.ensures.err

pub returns-in-Err-clause-few : goal.returns-in-Err-clause-few
returns-in-Err-clause-few g c = omega arith

pub returns-clause-few : goal.returns-clause-few
returns-clause-few g c = c.run_out-ended.ensures.few
