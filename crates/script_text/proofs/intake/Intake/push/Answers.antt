use Rattle.std.proofs.Common.{◌≡◌, sym, ◌∙◌}
use Rattle.script_text.specs.Limits.{limited}
use Rattle.script_text.proofs.Decided.{answer_by}
use Rattle.script_text.proofs.Glued.{kept_by}
use Rattle.script_text.proofs.intake.Intake.push.Goals as goal

pub returns-clause-limits : goal.returns-clause-limits
returns-clause-limits c =
    let counts = c.count_in-count.ensures.counts c.self.inside.kept c.self.invariant in
    rw c.in_ok-extend_from_slice.ensures.ok (c.keeps_within.ensures ∙ sym (kept_by c.count_in-count.new.tally _ counts))

pub returns-clause-answer : goal.returns-clause-answer
returns-clause-answer c =
    let kept = c.self.inside.kept in
    let is : c.extend_from_slice.new.self ≡ limited kept c.args.piece.now = rw c.in_ok-extend_from_slice.ensures.ok (sym (c.count_in-count.ensures.limits kept c.self.invariant)) in
    rw (← c.self.view_is) (answer_by kept c.args.piece.now c.extend_from_slice.new.self c.keeps_within.result is (returns-clause-limits c))
