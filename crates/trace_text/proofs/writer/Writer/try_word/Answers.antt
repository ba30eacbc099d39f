use Rattle.std.proofs.Common.{◌≡◌, ◌++◌, decimal, ap, ◌∙◌, arith}
use Rattle.std.proofs.lemmas.Result.{on_ok_weaker}
use Rattle.trace_text.proofs.Plain.{try_added}
use Rattle.trace_text.proofs.writer.Writer.try_word.Goals as goal

pub returns-clause-ok : goal.returns-clause-ok
returns-clause-ok c =
    let s = c.args.submission in
    let round = c.args.round in
    let named = c.push.new.self.line in
    let point = c.push-2.new.self.line in
    let first : c.digits.new.self.line ≡ named ++ decimal s = c.in_ok-digits.ensures.ok ∙ ap (λ n. named ++ decimal n) c.from.ensures in
    on_ok_weaker c.digits-2.result
    (λ h.
    let last : c.digits-2.new.self.line ≡ point ++ decimal round = h ∙ ap (λ n. point ++ decimal n) c.from-2.ensures in
    try_added c.args.self.now.line named c.digits.new.self.line point c.digits-2.new.self.line s round (omega arith) (omega arith) c.in_ok-push.ensures.ok first c.in_ok-push-2.ensures.ok last)
    c.digits-2.ensures.ok
