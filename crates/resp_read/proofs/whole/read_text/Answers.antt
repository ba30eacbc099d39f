use Rattle.std.proofs.Common.{arith, ◌∙◌}
use Rattle.resp_read.proofs.LookLaws.{clear_on_at}
use Rattle.resp_read.proofs.whole.read_text.Goals as goal

pub loop-count-preserved : goal.loop-count-preserved
loop-count-preserved g c =
    let more = c.loop-count-test.true in
    let so_far = c.loop-count.invariant in
    record {
      fits = omega (arith, more, c.len.ensures);
      clear = clear_on_at c.loop-count.count c.args.from c.args.tape.now (omega (arith, more, c.len.ensures)) so_far.clear (λ is. c.if-at-eq13.false (c.at.ensures.byte ∙ is));
      steps = omega (arith, so_far.steps, c.at.ensures.steps);
    }
