use Rattle.std.proofs.Common.{sym, ap, ◌∙◌}
use Rattle.resp_read.specs.Digits.{are_digits}
use Rattle.resp_read.proofs.DigitLaws.{big_digits}
use Rattle.resp_read.proofs.decimals.is_big_number.Goals as goal

pub returns : goal.returns
returns c = c.are_some.ensures ∙ ap are_digits c.through-read.ensures.run ∙ sym (big_digits c.args.line.now)
