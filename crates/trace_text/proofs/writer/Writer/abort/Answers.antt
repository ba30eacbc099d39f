use Rattle.std.proofs.Common.{◌≡◌, ◌++◌, decimal, ap, ◌∙◌, arith}
use Rattle.std.proofs.lemmas.Result.{on_ok_weaker}
use Rattle.trace_text.proofs.Plain.{abort_added}
use Rattle.trace_text.proofs.writer.Writer.abort.Goals as goal

pub returns-clause-ok : goal.returns-clause-ok
returns-clause-ok c =
    let position = c.args.position in
    let space = c.push.new.self.line in
    let named : c.digits.new.self.line ≡ space ++ decimal position = c.in_ok-digits.ensures.ok ∙ ap (λ n. space ++ decimal n) c.from.ensures in
    on_ok_weaker c.server_text.result
    (λ h. abort_added c.args.self.now.line space c.digits.new.self.line c.push-2.new.self.line c.server_text.new.self.line position c.args.error.now (omega arith) c.in_ok-push.ensures.ok named c.in_ok-push-2.ensures.ok h)
    c.server_text.ensures.ok
