use Rattle.std.specs.Prelude.{false, is_none}
use Rattle.live_run.specs.Passes.{Firing, Reading, Writing}
use Rattle.live_run.proofs.Going.{goes_more, goes_then}
use Rattle.live_run.proofs.Runs.{broke_more}
use Rattle.live_run.proofs.Stages.{FromReading, FromWriting, does_last, does_until, then_cut, then_next}
use Rattle.live_run.proofs.driver.Driver.after_dials.Goals as goal

pub returns-in-Ok-Some-clause-did : goal.returns-in-Ok-Some-clause-did
returns-in-Ok-Some-clause-did g c = then_cut Reading FromWriting (rw c.in-Ok-Some.field-0-is at c.in-Ok-Some.ensures.did)

pub returns-in-Ok-Some-write_all-clause-did : goal.returns-in-Ok-Some-write_all-clause-did
returns-in-Ok-Some-write_all-clause-did g c =
    does_last FromReading FromWriting false (then_next Reading FromWriting (rw c.in-Ok-None.field-0-is at c.in-Ok-None.ensures.did))
    (then_cut Writing Firing (rw c.in-Ok-Some-write_all.field-0-is at c.in-Ok-Some-write_all.ensures.did))

pub returns-in-Err-write_all-clause-err : goal.returns-in-Err-write_all-clause-err
returns-in-Err-write_all-clause-err g c = broke_more (rw c.in-Ok-None.field-0-is at c.in-Ok-None.ensures.did) c.in-Err-write_all.ensures.err

pub returns-in-Ok-clause-did : goal.returns-in-Ok-clause-did
returns-in-Ok-clause-did g c =
    does_last FromReading Firing (is_none c.in-Ok.ending)
    (does_until FromReading FromWriting Firing (then_next Reading FromWriting (rw c.in-Ok-None.field-0-is at c.in-Ok-None.ensures.did)) (then_next Writing Firing (rw c.in-Ok-None-write_all.field-0-is at c.in-Ok-None-write_all.ensures.did)))
    c.in-Ok.ensures.did

pub returns-in-Err-fire_all-clause-err : goal.returns-in-Err-fire_all-clause-err
returns-in-Err-fire_all-clause-err g c =
    broke_more (does_until FromReading FromWriting Firing (then_next Reading FromWriting (rw c.in-Ok-None.field-0-is at c.in-Ok-None.ensures.did)) (then_next Writing Firing (rw c.in-Ok-None-write_all.field-0-is at c.in-Ok-None-write_all.ensures.did)))
    c.in-Err-fire_all.ensures.err

pub returns-in-Ok-Some-write_all-clause-goes : goal.returns-in-Ok-Some-write_all-clause-goes
returns-in-Ok-Some-write_all-clause-goes g c = goes_more c.in-Ok-None.ensures.goes (rw c.in-Ok-None.ensures.same at c.in-Ok-Some-write_all.ensures.goes)

pub returns-in-Ok-clause-goes : goal.returns-in-Ok-clause-goes
returns-in-Ok-clause-goes g c =
    goes_more c.in-Ok-None.ensures.goes (goes_more (rw c.in-Ok-None.ensures.same at c.in-Ok-None-write_all.ensures.goes)
    (rw (c.in-Ok-None-write_all.ensures.same, c.in-Ok-None.ensures.same) at c.in-Ok.ensures.goes))

pub returns-in-Err-write_all-clause-few : goal.returns-in-Err-write_all-clause-few
returns-in-Err-write_all-clause-few g c = goes_then c.in-Ok-None.ensures.goes c.in-Err-write_all.ensures.few

pub returns-in-Err-fire_all-clause-few : goal.returns-in-Err-fire_all-clause-few
returns-in-Err-fire_all-clause-few g c = goes_then c.in-Ok-None.ensures.goes (goes_then c.in-Ok-None-write_all.ensures.goes c.in-Err-fire_all.ensures.few)
