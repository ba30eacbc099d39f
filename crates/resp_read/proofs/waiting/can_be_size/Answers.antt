use Rattle.std.proofs.Common.{sym, ap, ◌∙◌, arith}
use Rattle.std.specs.Prelude.{is_some}
use Rattle.resp_read.specs.Digits.{natural_in}
use Rattle.resp_read.proofs.HeadLaws.{size_digits}
use Rattle.resp_read.proofs.waiting.can_be_size.Goals as goal

pub returns : goal.returns
returns c = c.is_some.ensures ∙ ap is_some (c.natural.ensures.is ∙ ap (natural_in c.args.most) c.requires.read) ∙ sym (size_digits c.args.most c.requires.most c.args.text.now (omega (arith, c.if-text-le2.false)))
