use Rattle.std.proofs.lemmas.Result.{on_ok_weaker}
use Rattle.trace_text.proofs.Plain.{all_escaped, parts_added, escaped_behind}
use Rattle.trace_text.proofs.writer.Writer.word_behind.Goals as goal

pub returns-clause-ok : goal.returns-clause-ok
returns-clause-ok c =
    let front = c.args.front.now in
    let bytes = c.args.bytes.now in
    on_ok_weaker c.escaped_bytes.result
    (λ h. parts_added c.args.self.now.line c.push.new.self.line c.push-2.new.self.line c.escaped_bytes.new.self.line front bytes (all_escaped bytes) c.in_ok-push.ensures.ok c.in_ok-push-2.ensures.ok h (escaped_behind front bytes c.requires))
    c.escaped_bytes.ensures.ok
