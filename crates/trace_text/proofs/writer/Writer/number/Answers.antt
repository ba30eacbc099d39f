use Rattle.std.proofs.Common.{decimal, arith}
use Rattle.std.proofs.lemmas.Result.{on_ok_weaker}
use Rattle.trace_text.proofs.Plain.{word_added, escaped_number}
use Rattle.trace_text.proofs.writer.Writer.number.Goals as goal

pub returns-clause-ok : goal.returns-clause-ok
returns-clause-ok c =
    let n = c.args.number in
    on_ok_weaker c.digits.result (λ h. word_added c.args.self.now.line c.push.new.self.line c.digits.new.self.line (decimal n) (decimal n) c.in_ok-push.ensures.ok h (escaped_number n (omega arith))) c.digits.ensures.ok
