use Rattle.std.proofs.Common.{[], ◌∷◌, ◌++◌, codes, decimal, sym, ◌∙◌, append-nil}
use Rattle.std.proofs.lemmas.Result.{on_ok_weaker}
use Rattle.redis_error.specs.Names.{fault_name}
use Rattle.trace_text.specs.Words.{following}
use Rattle.trace_text.proofs.writer.Writer.link_event.Goals as goal

pub returns-in-ReadFault-clause-ok : goal.returns-in-ReadFault-clause-ok
returns-in-ReadFault-clause-ok c =
    let words = codes "read-fault" ∷ decimal c.in-ReadFault.link ∷ fault_name c.in-ReadFault.fault ∷ [] in
    on_ok_weaker c.fault-in-ReadFault.result (λ h. rw c.in-ReadFault.is (h ∙ sym (append-nil (c.args.self.now.line ++ following words)))) c.fault-in-ReadFault.ensures.ok

pub returns-in-WriteFault-clause-ok : goal.returns-in-WriteFault-clause-ok
returns-in-WriteFault-clause-ok c =
    let words = codes "write-fault" ∷ decimal c.in-WriteFault.link ∷ fault_name c.in-WriteFault.fault ∷ [] in
    on_ok_weaker c.fault-in-WriteFault.result (λ h. rw c.in-WriteFault.is (h ∙ sym (append-nil (c.args.self.now.line ++ following words)))) c.fault-in-WriteFault.ensures.ok
