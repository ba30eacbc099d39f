use Rattle.std.proofs.Common.{arith, ◌∙◌}
use Rattle.resp_read.proofs.LookLaws.{clear_on_at}
use Rattle.resp_read.proofs.WholeLaws.{digits_on}
use Rattle.resp_read.proofs.whole.read_numeral.Goals as goal

pub loop-count-preserved : goal.loop-count-preserved
loop-count-preserved g c =
    let more = c.loop-count-test.true in
    let so_far = c.loop-count.invariant in
    record {
      fits = omega (arith, more, c.len.ensures);
      clear = clear_on_at c.loop-count.count c.args.from c.args.tape.now (omega (arith, more, c.len.ensures)) so_far.clear (λ is. c.if-b-eq13.false (c.at-b.ensures.byte ∙ is));
      digits = digits_on c.loop-count.count c.args.from c.args.tape.now c.loop-count.digits c.then-digits.result c.at-b.result (omega (arith, more, c.len.ensures)) c.at-b.ensures.byte so_far.digits c.then-digits.ensures.step;
      kept = c.then-digits.ensures.kept;
      steps = omega (arith, so_far.steps, c.at-b.ensures.steps);
    }
