use Rattle.std.proofs.Common.{◌≡◌, ◌+◌, true, false, ◌++◌, length, slice_range, take, get_or, sym, ap, ◌∙◌, append_assoc, arith}
use Rattle.std.proofs.lemmas.Result.{on_ok_weaker}
use Rattle.percent_encoding.specs.Percent.{percent_encode_byte}
use Rattle.trace_text.specs.Words.{is_plain}
use Rattle.trace_text.proofs.Plain.{all_escaped}
use Rattle.trace_text.proofs.Runs.{plain_more, with_escape, no_run, whole}
use Rattle.trace_text.proofs.writer.Writer.escaped_bytes.Goals as goal

pub loop-i-preserved-then-is_plain : goal.loop-i-preserved-then-is_plain
loop-i-preserved-then-is_plain c =
    let bytes = c.args.bytes.now in
    let known = c.loop-i.invariant in
    let plain : is_plain (get_or bytes c.loop-i.i 0) ≡ true = cc in
    (known.0, omega arith, known.2, plain_more bytes c.loop-i.start c.loop-i.i known.1 (omega arith) plain known.3)

pub loop-i-preserved : goal.loop-i-preserved
loop-i-preserved c =
    let bytes = c.args.bytes.now in
    let old = c.args.self.now.line in
    let i = c.loop-i.i in
    let known = c.loop-i.invariant in
    let escape = percent_encode_byte (get_or bytes i 0) in
    let run = slice_range bytes c.loop-i.start i in
    let other : is_plain (get_or bytes i 0) ≡ false = cc in
    let said : c.run_and_escape.new.self.line ≡ c.loop-i.self.line ++ (run ++ escape) = c.in_ok-run_and_escape.ensures.ok in
    let line =
    said
    ∙ ap (λ x. x ++ (run ++ escape)) known.2
    ∙ append_assoc old (all_escaped (take c.loop-i.start bytes)) (run ++ escape)
    ∙ ap (λ x. old ++ x) (sym (with_escape bytes c.loop-i.start i known.1 (omega arith) other known.3)) in
    (c.in_ok-run_and_escape.ensures.before ∙ known.0, omega arith, line, no_run bytes (i + 1))

pub returns-clause-ok : goal.returns-clause-ok
returns-clause-ok c =
    let bytes = c.args.bytes.now in
    let old = c.args.self.now.line in
    let known = c.loop-i.invariant in
    let rest = slice_range bytes c.loop-i.start (length bytes) in
    on_ok_weaker c.push.result
    (λ h.
    let said : c.push.new.self.line ≡ c.loop-i.self.line ++ rest = h in
    said
    ∙ ap (λ x. x ++ rest) known.2
    ∙ append_assoc old (all_escaped (take c.loop-i.start bytes)) rest
    ∙ ap (λ x. old ++ x) (sym (whole bytes c.loop-i.start c.loop-i.i known.1 (omega arith) known.3)))
    c.push.ensures.ok
