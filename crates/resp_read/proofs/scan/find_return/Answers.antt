use Rattle.std.proofs.Common.{arith, length-drop, sym, ◌∙◌}
use Rattle.resp_read.proofs.LookLaws.{clear_on_at, return_at, all_clear}
use Rattle.resp_read.proofs.scan.find_return.Goals as goal

pub returns-then-at-eq13-clause-found : goal.returns-then-at-eq13-clause-found
returns-then-at-eq13-clause-found g c = (c.loop-i.invariant.past, return_at c.loop-i.i c.args.from c.args.tape.now (omega (arith, c.loop-i-test.true, c.len.ensures)) c.loop-i.invariant.clear (sym c.at.ensures.byte ∙ c.if-at-eq13.true))

pub loop-i-preserved : goal.loop-i-preserved
loop-i-preserved g c =
    let more = c.loop-i-test.true in
    let so_far = c.loop-i.invariant in
    record {
      past = omega (arith, so_far.past);
      fits = omega (arith, more, c.len.ensures);
      clear = clear_on_at c.loop-i.i c.args.from c.args.tape.now (omega (arith, more, c.len.ensures)) so_far.clear (λ is. c.if-at-eq13.false (c.at.ensures.byte ∙ is));
      steps = omega (arith, so_far.steps, c.at.ensures.steps);
    }

pub returns-clause-found : goal.returns-clause-found
returns-clause-found g c = all_clear c.loop-i.i c.args.from c.args.tape.now (omega (arith, c.loop-i-test.false, c.len.ensures)) c.loop-i.invariant.fits c.loop-i.invariant.clear

pub returns-clause-steps : goal.returns-clause-steps
returns-clause-steps g c = omega (arith, c.loop-i.invariant.steps, c.loop-i.invariant.fits, c.loop-i-test.false, c.len.ensures, length-drop c.args.from c.args.tape.now)
