use Rattle.std.proofs.Common.{take, drop, refl, sym, ap, ◌∙◌, arith}
use Rattle.resp_read.specs.Digits.{natural_in}
use Rattle.resp_read.proofs.DigitLaws.{natural_is}
use Rattle.resp_read.proofs.whole.read_size.Goals as goal

pub returns-in-Ok-Some-clause-size : goal.returns-in-Ok-Some-clause-size
returns-in-Ok-Some-clause-size g c =
    let end = rw c.in-Ok-Some.field-0-is at c.in-Ok-Some.ensures.end in
    let l = take c.read_numeral-read.result.count (drop c.args.place.now.next c.args.tape.now) in
    let is = natural_is c.args.most c.requires.most l ∙ ap (natural_in c.args.most) (sym c.read_numeral-read.ensures.digits) ∙ sym c.in-Some.ensures.is in
    let moved = end.0 in
    (refl, omega (arith, moved), end.1, c.in-Some.ensures.fits, l, is, end.2)
