use Rattle.std.proofs.Common.{arith, refl, ◌∙◌}
use Rattle.live_run.proofs.Going.{goes_more, goes_none, goes_then}
use Rattle.live_run.proofs.Runs.{broke_more}
use Rattle.live_run.proofs.Whole.{next_within, ran_over, sofar_more, sofar_none}
use Rattle.live_run.proofs.running.run.Goals as goal

pub passes-init : goal.passes-init
passes-init g c = record { does = sofar_none; goes = goes_none; same = refl; within = omega arith; claims = c.requires.claimed }

pub passes-preserved : goal.passes-preserved
passes-preserved g c =
    let did = rw c.in-Ok-Idle.field-0-is at c.in-Ok-Idle.ensures.did in
    record {
      does = sofar_more c.passes.invariant.does did;
      goes = goes_more c.passes.invariant.goes (rw (c.ending.ensures.same, c.passes.invariant.same) at c.in-Ok-Idle.ensures.goes);
      same = c.in-Ok-Idle.ensures.same ∙ (c.ending.ensures.same ∙ c.passes.invariant.same);
      within = next_within _ _ did c.passes-test.true;
      claims = c.in-Ok-Idle.ensures.claims;
    }

pub returns-in-Ok-Over-clause-did : goal.returns-in-Ok-Over-clause-did
returns-in-Ok-Over-clause-did g c =
    let did = rw c.in-Ok-Over.field-0-is at c.in-Ok-Over.ensures.did in
    let over = rw c.in-Ok-Over.field-0-is at c.in-Ok-Over.ensures.over in
    ran_over c.in-Ok-Over.ending c.passes.invariant.does did (rw (c.ending.ensures.same, c.passes.invariant.same) at over)

pub returns-in-Err-clause-err : goal.returns-in-Err-clause-err
returns-in-Err-clause-err g c = broke_more c.passes.invariant.does c.in-Err.ensures.err

pub returns-in-Ok-Over-clause-goes : goal.returns-in-Ok-Over-clause-goes
returns-in-Ok-Over-clause-goes g c = goes_more c.passes.invariant.goes (rw (c.ending.ensures.same, c.passes.invariant.same) at c.in-Ok-Over.ensures.goes)

pub returns-in-Err-clause-few : goal.returns-in-Err-clause-few
returns-in-Err-clause-few g c = goes_then c.passes.invariant.goes c.in-Err.ensures.few
