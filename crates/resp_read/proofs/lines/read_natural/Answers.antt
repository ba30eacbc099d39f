use Rattle.std.proofs.Common.{sym, ap, ◌∙◌}
use Rattle.resp_read.specs.Digits.{natural_in}
use Rattle.resp_read.proofs.DigitLaws.{natural_is}
use Rattle.resp_read.proofs.lines.read_natural.Goals as goal

pub returns-clause-is : goal.returns-clause-is
returns-clause-is c = c.natural.ensures.is ∙ ap (natural_in c.args.most) c.through-read.ensures.run ∙ sym (natural_is c.args.most c.requires c.args.digits.now)
