use Rattle.std.proofs.lemmas.List.{take_rest}
use Rattle.resp_read.proofs.WaitLaws.{numeral_on}
use Rattle.resp_read.proofs.waiting.Looked.digits.Goals as goal

pub returns-in-Numeral-clause-run : goal.returns-in-Numeral-clause-run
returns-in-Numeral-clause-run c = numeral_on c.args.self c.args.text.now _ c.requires (take_rest c.args.text.now c.args.self.count) c.in-Numeral.digits c.through.result c.in-Numeral.is c.through.ensures.run
