use Rattle.std.proofs.Common.{Some, None, sym, ◌∙◌, if◌then◌else◌}
use Rattle.std.proofs.lemmas.Result.{IfOk-weaker}
use Rattle.containers.proofs.Choices.{taken_if, left_if}
use Rattle.script_text.proofs.Cutting.{part_read, last_read}
use Rattle.script_text.proofs.line.Line.read.Goals as goal

pub returns-then-not-branch : goal.returns-then-not-branch
returns-then-not-branch c =
    sym (part_read c.args.bytes.now c.loop-raw.self c.loop-raw.left.now c.loop-raw.invariant c.in-Some.raw.now c.in-Some.rest.now None c.in-Some.ensures.parts (sym (left_if _ (Some c.put.new.self) None c.if-not-branch.true) ∙ c.in_ok-put.ensures))

pub loop-raw-preserved : goal.loop-raw-preserved
loop-raw-preserved c =
    part_read c.args.bytes.now c.loop-raw.self c.loop-raw.left.now c.loop-raw.invariant c.in-Some.raw.now c.in-Some.rest.now (Some c.put.new.self) c.in-Some.ensures.parts (sym (taken_if _ (Some c.put.new.self) None c.if-not-branch.false) ∙ c.in_ok-put.ensures)

pub returns : goal.returns
returns c =
    IfOk-weaker c.put-2.result _ _ (λ is read. last_read c.args.bytes.now c.loop-raw.self c.loop-raw.left.now c.loop-raw.invariant (if is then Some c.put-2.new.self else None) c.in_default.ensures.parts read) c.put-2.ensures
