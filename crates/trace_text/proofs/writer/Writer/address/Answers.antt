use Rattle.std.proofs.Common.{◌≡◌, ◌++◌, decimal, ap, ◌∙◌, arith}
use Rattle.std.proofs.lemmas.Result.{on_ok_weaker}
use Rattle.trace_text.proofs.Plain.{all_escaped, address_added}
use Rattle.trace_text.proofs.writer.Writer.address.Goals as goal

pub returns-clause-ok : goal.returns-clause-ok
returns-clause-ok c =
    let host = c.args.host.now in
    let port = c.args.port in
    let space = c.push.new.self.line in
    let point = c.push-2.new.self.line in
    let named : c.escaped_bytes.new.self.line ≡ space ++ all_escaped host = c.in_ok-escaped_bytes.ensures.ok ∙ ap (λ x. space ++ all_escaped x) c.as_slice.ensures in
    on_ok_weaker c.digits.result
    (λ h.
    let last : c.digits.new.self.line ≡ point ++ decimal port = h ∙ ap (λ n. point ++ decimal n) c.from.ensures in
    address_added c.args.self.now.line space c.escaped_bytes.new.self.line point c.digits.new.self.line host port (omega arith) c.in_ok-push.ensures.ok named c.in_ok-push-2.ensures.ok last)
    c.digits.ensures.ok
