use Rattle.live_run.proofs.Settling.{settled_none, unsettled_step, unsettled_note}
use Rattle.live_run.proofs.Going.{refused_gains, stepped_gains}
use Rattle.live_run.proofs.deeds.settle.Goals as goal

pub returns-in_default-clause-ok : goal.returns-in_default-clause-ok
returns-in_default-clause-ok g c = rw c.in_default.is settled_none

pub returns-in-Err-clause-err : goal.returns-in-Err-clause-err
returns-in-Err-clause-err g c = rw c.in-Some.is (unsettled_step c.in-Err.ensures.err)

pub returns-in-Err-note_all-clause-err : goal.returns-in-Err-note_all-clause-err
returns-in-Err-note_all-clause-err g c = rw c.in-Some.is (unsettled_note c.in-Ok.ensures.ok)

pub returns-in-Err-clause-few : goal.returns-in-Err-clause-few
returns-in-Err-clause-few g c = refused_gains c.in-Err.ensures.err

pub returns-in-Err-note_all-clause-few : goal.returns-in-Err-note_all-clause-few
returns-in-Err-note_all-clause-few g c = stepped_gains c.in-Ok.ensures.ok
