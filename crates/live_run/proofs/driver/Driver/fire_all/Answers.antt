use Rattle.std.proofs.Common.{refl, ◌∙◌, sym}
use Rattle.live_run.proofs.Going.{goes_more, goes_one, goes_then_one}
use Rattle.live_run.proofs.Runs.{broke_more}
use Rattle.live_run.proofs.Stages.{fire_more, fires_cut, fires_done}
use Rattle.live_run.proofs.driver.Driver.fire_all.Goals as goal

pub returns-in-Some-ending-clause-did : goal.returns-in-Some-ending-clause-did
returns-in-Some-ending-clause-did g c = fires_cut c.fires.invariant.does

pub fires-preserved : goal.fires-preserved
fires-preserved g c = record { does = fire_more c.fires.invariant.does c.in-Ok.ensures.did; goes = goes_more c.fires.invariant.goes (goes_one (rw (← c.fires.invariant.same) (c.in_default-ending.ensures.going refl)) c.in-Ok.ensures.did); same = c.ending.ensures.same ∙ c.fires.invariant.same; claims = c.in-Ok.ensures.claims ∙ c.fires.invariant.claims }

pub returns-in-Err-clause-err : goal.returns-in-Err-clause-err
returns-in-Err-clause-err g c = broke_more c.fires.invariant.does c.in-Err.ensures.err

pub returns-clause-did : goal.returns-clause-did
returns-clause-did g c = fires_done (sym c.in_default.ensures) c.fires.invariant.does

pub returns-in-Err-clause-few : goal.returns-in-Err-clause-few
returns-in-Err-clause-few g c = goes_then_one c.fires.invariant.goes (rw (← c.fires.invariant.same) (c.in_default-ending.ensures.going refl)) c.in-Err.ensures.few
