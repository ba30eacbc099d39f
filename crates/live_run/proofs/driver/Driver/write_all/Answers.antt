use Rattle.std.proofs.Common.{arith, refl, ◌∙◌}
use Rattle.live_run.specs.Agenda.{numbers_of}
use Rattle.live_run.specs.Passes.{Offers, IsWriteOf}
use Rattle.live_run.proofs.Going.{goes_in_turn, goes_more, goes_none, goes_then_one}
use Rattle.live_run.proofs.Runs.{broke_more, broke_nothing}
use Rattle.live_run.proofs.Stages.{turn_more, turns_cut, turns_done}
use Rattle.live_run.proofs.driver.Driver.write_all.Goals as goal

pub returns-in-Err-clause-err : goal.returns-in-Err-clause-err
returns-in-Err-clause-err g c = broke_nothing

pub returns-in-Some-ending-clause-did : goal.returns-in-Some-ending-clause-did
returns-in-Some-ending-clause-did g c = turns_cut Offers IsWriteOf (numbers_of c.args.self.now.agenda.links) c.loop-link.left c.loop-link.invariant.does

pub loop-link-preserved : goal.loop-link-preserved
loop-link-preserved g c = record {
  does = turn_more Offers IsWriteOf (numbers_of c.args.self.now.agenda.links) c.loop-link.left c.in-Some.ensures c.loop-link.invariant.does c.in-Ok-write_link.ensures.did;
  goes = goes_more c.loop-link.invariant.goes (goes_in_turn Offers IsWriteOf (rw (← c.loop-link.invariant.same) (c.in_default-ending.ensures.going refl)) c.in-Ok-write_link.ensures.did);
  same = c.ending.ensures.same ∙ c.loop-link.invariant.same;
  claims = c.in-Ok-write_link.ensures.claims ∙ c.loop-link.invariant.claims;
}

pub returns-in-Err-write_link-clause-err : goal.returns-in-Err-write_link-clause-err
returns-in-Err-write_link-clause-err g c = broke_more c.loop-link.invariant.does c.in-Err-write_link.ensures.err

pub returns-clause-did : goal.returns-clause-did
returns-clause-did g c = turns_done Offers IsWriteOf (numbers_of c.args.self.now.agenda.links) c.loop-link.left c.in_default.ensures.0 c.loop-link.invariant.does

pub returns-in-Err-clause-few : goal.returns-in-Err-clause-few
returns-in-Err-clause-few g c = omega arith

pub returns-in-Err-write_link-clause-few : goal.returns-in-Err-write_link-clause-few
returns-in-Err-write_link-clause-few g c = goes_then_one c.loop-link.invariant.goes (rw (← c.loop-link.invariant.same) (c.in_default-ending.ensures.going refl)) c.in-Err-write_link.ensures.few
