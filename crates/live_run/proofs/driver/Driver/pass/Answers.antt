use Rattle.std.proofs.Common.{arith, ℕ, List, ap}
use Rattle.std.specs.Prelude.{is_none}
use Rattle.live_run.proofs.Going.{goes_more, goes_then}
use Rattle.live_run.proofs.Runs.{broke_none, broke_more}
use Rattle.live_run.specs.Passes.{Pass}
use Rattle.live_run.proofs.Stages.{FromReading, did_now, does_last, pass_begun, pass_closed, pass_dialled, cut_dialling}
use Rattle.live_run.proofs.driver.Driver.pass.Goals as goal

pub returns-in-Err-clause-err : goal.returns-in-Err-clause-err
returns-in-Err-clause-err g c = broke_none (did_now c.now-moment.ensures.tells)

pub returns-in-Ok-Some-clause-did : goal.returns-in-Ok-Some-clause-did
returns-in-Ok-Some-clause-did g c =
    cut_dialling (pass_closed (pass_begun c.now-moment.ensures.tells c.in-Ok.ensures.begun) c.close_each.ensures.told (ap (λ (ls : List ℕ). record c.begin.new.self { closes = ls }) c.close_each.ensures.none)) (rw c.in-Ok-Some.field-0-is at c.in-Ok-Some.ensures.did)

pub returns-in-Err-dial_all-clause-err : goal.returns-in-Err-dial_all-clause-err
returns-in-Err-dial_all-clause-err g c =
    broke_more (pass_closed (pass_begun c.now-moment.ensures.tells c.in-Ok.ensures.begun) c.close_each.ensures.told (ap (λ (ls : List ℕ). record c.begin.new.self { closes = ls }) c.close_each.ensures.none)) c.in-Err-dial_all.ensures.err

pub returns-in-Ok-after_dials-clause-did : goal.returns-in-Ok-after_dials-clause-did
returns-in-Ok-after_dials-clause-did g c =
    does_last Pass FromReading (is_none c.in-Ok-after_dials.ending)
    (pass_dialled (pass_closed (pass_begun c.now-moment.ensures.tells c.in-Ok.ensures.begun) c.close_each.ensures.told (ap (λ (ls : List ℕ). record c.begin.new.self { closes = ls }) c.close_each.ensures.none)) (rw c.in-Ok-None.field-0-is at c.in-Ok-None.ensures.did))
    c.in-Ok-after_dials.ensures.did

pub returns-in-Err-after_dials-clause-err : goal.returns-in-Err-after_dials-clause-err
returns-in-Err-after_dials-clause-err g c =
    broke_more (pass_dialled (pass_closed (pass_begun c.now-moment.ensures.tells c.in-Ok.ensures.begun) c.close_each.ensures.told (ap (λ (ls : List ℕ). record c.begin.new.self { closes = ls }) c.close_each.ensures.none)) (rw c.in-Ok-None.field-0-is at c.in-Ok-None.ensures.did))
    c.in-Err-after_dials.ensures.err

pub returns-in-Ok-after_dials-clause-goes : goal.returns-in-Ok-after_dials-clause-goes
returns-in-Ok-after_dials-clause-goes g c = goes_more c.in-Ok-None.ensures.goes (rw c.in-Ok-None.ensures.same at c.in-Ok-after_dials.ensures.goes)

pub returns-in-Err-clause-few : goal.returns-in-Err-clause-few
returns-in-Err-clause-few g c = omega arith

pub returns-in-Err-dial_all-clause-few : goal.returns-in-Err-dial_all-clause-few
returns-in-Err-dial_all-clause-few g c = c.in-Err-dial_all.ensures.few

pub returns-in-Err-after_dials-clause-few : goal.returns-in-Err-after_dials-clause-few
returns-in-Err-after_dials-clause-few g c = goes_then c.in-Ok-None.ensures.goes c.in-Err-after_dials.ensures.few
