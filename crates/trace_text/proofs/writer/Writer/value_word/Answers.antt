use Rattle.std.proofs.lemmas.Result.{on_ok_weaker}
use Rattle.resp_value.specs.View.{data_of}
use Rattle.trace_text.proofs.Canonical.{value_added}
use Rattle.trace_text.proofs.writer.Writer.value_word.Goals as goal

pub returns-clause-ok : goal.returns-clause-ok
returns-clause-ok c =
    on_ok_weaker c.value.result
    (λ h. value_added (data_of c.args.value.now) c.args.self.now.line c.push.new.self.line c.value.new.self.line c.in_ok-push.ensures.ok h) c.value.ensures.ok
