use Rattle.std.proofs.Common.{drop, length-drop, sym, ap, ◌∙◌, arith}
use Rattle.resp_read.specs.Stages.{part_as}
use Rattle.resp_read.proofs.BodyLaws.{body_comes}
use Rattle.resp_read.proofs.takes.take_body.Goals as goal

pub returns-in-Ok-part_whole-clause-body : goal.returns-in-Ok-part_whole-clause-body
returns-in-Ok-part_whole-clause-body g c =
    let rest = drop c.args.next c.args.tape.now in
    body_comes rest c.args.n c.byte_behind.result (omega (arith, c.requires, length-drop c.args.next c.args.tape.now)) c.byte_behind.ensures.byte c.args.part c.in-Ok-part_whole.begun c.if-byte_behind-ne13.false
    (λ inside bs. ap (λ t. part_as inside c.args.part t bs) (sym c.in-Ok.ensures.text) ∙ c.in-Ok-part_whole.ensures inside bs)
