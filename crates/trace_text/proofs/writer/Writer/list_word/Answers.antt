use Rattle.std.proofs.lemmas.Result.{on_ok_weaker}
use Rattle.resp_value.specs.Data.{array, items_of}
use Rattle.trace_text.proofs.Canonical.{value_added}
use Rattle.trace_text.proofs.writer.Writer.list_word.Goals as goal

pub returns-clause-ok : goal.returns-clause-ok
returns-clause-ok c =
    on_ok_weaker c.list.result
    (λ h. value_added (array (items_of c.args.values.now)) c.args.self.now.line c.push.new.self.line c.list.new.self.line c.in_ok-push.ensures.ok h) c.list.ensures.ok
