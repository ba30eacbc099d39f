use Rattle.std.proofs.lemmas.Result.{on_ok_weaker}
use Rattle.resp_value.specs.Data.{push, items_of}
use Rattle.trace_text.proofs.Canonical.{value_added}
use Rattle.trace_text.proofs.writer.Writer.push_value_word.Goals as goal

pub returns-clause-ok : goal.returns-clause-ok
returns-clause-ok c =
    on_ok_weaker c.push_value.result
    (λ h. value_added (push c.args.info.now.kind (items_of c.args.info.now.parts)) c.args.self.now.line c.push.new.self.line c.push_value.new.self.line c.in_ok-push.ensures.ok h) c.push_value.ensures.ok
