use Rattle.std.proofs.Common.{decimal, arith}
use Rattle.std.proofs.lemmas.Result.{on_ok_weaker}
use Rattle.trace_text.proofs.Plain.{parts_added, number_behind}
use Rattle.trace_text.proofs.writer.Writer.number_behind.Goals as goal

pub returns-clause-ok : goal.returns-clause-ok
returns-clause-ok c =
    let n = c.args.number in
    let front = c.args.front.now in
    on_ok_weaker c.digits.result
    (λ h. parts_added c.args.self.now.line c.push.new.self.line c.push-2.new.self.line c.digits.new.self.line front (decimal n) (decimal n) c.in_ok-push.ensures.ok c.in_ok-push-2.ensures.ok h (number_behind front n c.requires (omega arith)))
    c.digits.ensures.ok
