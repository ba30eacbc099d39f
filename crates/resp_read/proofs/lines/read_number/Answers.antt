use Rattle.std.proofs.Common.{sym, ap, ◌∙◌}
use Rattle.resp_read.specs.Digits.{number_in}
use Rattle.resp_read.proofs.DigitLaws.{number_is}
use Rattle.resp_read.proofs.lines.read_number.Goals as goal

pub returns : goal.returns
returns c = c.number.ensures ∙ ap number_in c.through-read.ensures.run ∙ sym (number_is c.args.line.now)
