use Rattle.std.proofs.Common.{arith, ◌≡◌, ◌+◌, ◌-◌, length, inl, refl, ◌∙◌}
use Rattle.live_run.proofs.Going.{goes_dialled, goes_more, goes_none, goes_one, goes_then_one}
use Rattle.live_run.proofs.Stages.{dial_next, dial_broke, dials_cut, dials_done, dials_none}
use Rattle.live_run.proofs.driver.Driver.dial_all.Goals as goal

pub returns-in-Some-clause-did : goal.returns-in-Some-clause-did
returns-in-Some-clause-did g c = dials_cut (length c.args.self.now.agenda.dials) c.dials.left c.dials.invariant.does

pub returns-in_default-pop_front-clause-did : goal.returns-in_default-pop_front-clause-did
returns-in_default-pop_front-clause-did g c = dials_none (length c.args.self.now.agenda.dials) c.dials.left c.in_default-pop_front.ensures c.dials.invariant.does

pub dials-preserved : goal.dials-preserved
dials-preserved g c =
    let next : c.dials.left ≡ (c.dials.left - 1) + 1 = omega (arith, c.dials-test.true) in
    record {
      does = dial_next (length c.args.self.now.agenda.dials) c.dials.left (c.dials.left - 1) next c.in-Some-pop_front.ensures c.dials.invariant.does c.in-Ok.ensures.did;
      goes = goes_more c.dials.invariant.goes (goes_dialled (rw (← c.dials.invariant.same) (c.in_default.ensures.going refl)) c.in-Ok.ensures.did);
      same = c.ending.ensures.same ∙ c.dials.invariant.same;
      claims = c.in-Ok.ensures.claims;
    }

pub returns-in-Err-clause-err : goal.returns-in-Err-clause-err
returns-in-Err-clause-err g c = dial_broke c.in-Some-pop_front.ensures c.dials.invariant.does c.in-Err.ensures.err

pub returns-clause-did : goal.returns-clause-did
returns-clause-did g c =
    let none : c.dials.left ≡ 0 = omega (arith, c.dials-test.false) in
    dials_done (length c.args.self.now.agenda.dials) c.dials.left (inl none) c.dials.invariant.does

pub returns-in-Err-clause-few : goal.returns-in-Err-clause-few
returns-in-Err-clause-few g c = goes_then_one c.dials.invariant.goes (rw (← c.dials.invariant.same) (c.in_default.ensures.going refl)) c.in-Err.ensures.few
