use Rattle.std.proofs.Common.{◌++◌, take, drop, sym, ◌∙◌, subst}
use Rattle.script_text.specs.Limits.{Counts}
use Rattle.script_text.proofs.Glued.{kept_by}
use Rattle.script_text.proofs.Limited.{limited_stop, limited_more, one_more}
use Rattle.script_text.proofs.intake.count_in.Goals as goal

pub returns-then-not-keeps_within-clause-limits : goal.returns-then-not-keeps_within-clause-limits
returns-then-not-keeps_within-clause-limits c text h =
    let kept = text ++ take c.loop-count.count c.args.piece.now in
    let so_far = c.loop-count.invariant text h in
    so_far.1 ∙ limited_stop kept (drop c.loop-count.count c.args.piece.now) (kept_by c.loop-count.tally kept so_far.0 ∙ sym c.keeps_within.ensures ∙ c.if-not-keeps_within.true)

pub loop-count-preserved : goal.loop-count-preserved
loop-count-preserved c text h =
    let piece = c.args.piece.now in
    let kept = text ++ take c.loop-count.count piece in
    let so_far = c.loop-count.invariant text h in
    let keeps = kept_by c.loop-count.tally kept so_far.0 ∙ sym c.keeps_within.ensures ∙ c.if-not-keeps_within.false in (
      subst (Counts c.with_byte.result) (sym (one_more text piece c.loop-count.count c.loop-count-test.true)) (c.with_byte.ensures kept so_far.0),
      so_far.1 ∙ limited_more text piece c.loop-count.count c.loop-count-test.true keeps,
    )
