use Rattle.std.proofs.Common.{◌≡◌, ◌++◌, decimal, ap, ◌∙◌, arith}
use Rattle.std.proofs.lemmas.Result.{on_ok_weaker}
use Rattle.trace_text.proofs.Plain.{fraction_added}
use Rattle.trace_text.proofs.writer.Writer.fraction_behind.Goals as goal

pub returns-clause-ok : goal.returns-clause-ok
returns-clause-ok c =
    let above = c.args.numerator in
    let below = c.args.denominator in
    let named = c.push-2.new.self.line in
    let slash = c.push-3.new.self.line in
    let first : c.digits.new.self.line ≡ named ++ decimal above = c.in_ok-digits.ensures.ok ∙ ap (λ n. named ++ decimal n) c.from.ensures in
    on_ok_weaker c.digits-2.result
    (λ h.
    let last : c.digits-2.new.self.line ≡ slash ++ decimal below = h ∙ ap (λ n. slash ++ decimal n) c.from-2.ensures in
    fraction_added c.args.self.now.line c.push.new.self.line named c.digits.new.self.line slash c.digits-2.new.self.line c.args.front.now above below
    (omega arith) (omega arith) c.requires c.in_ok-push.ensures.ok c.in_ok-push-2.ensures.ok first c.in_ok-push-3.ensures.ok last)
    c.digits-2.ensures.ok
