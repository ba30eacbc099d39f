use Rattle.std.proofs.Common.{sym, ap, ◌∙◌}
use Rattle.resp_read.specs.Doubles.{missing}
use Rattle.resp_read.proofs.DoubleLaws.{double_whole, double_never}
use Rattle.resp_read.proofs.decimals.is_whole_double.Goals as goal

pub returns-in-Some : goal.returns-in-Some
returns-in-Some c = sym (double_whole c.args.line.now c.in-Some.n (ap missing (sym c.read_all.ensures) ∙ sym c.in-Some.ensures))

pub returns-in-None : goal.returns-in-None
returns-in-None c = sym (double_never c.args.line.now (ap missing (sym c.read_all.ensures) ∙ sym c.in-None.ensures))
