use Rattle.std.proofs.Common.{sym, ap, ◌∙◌, arith}
use Rattle.std.specs.Prelude.{◌-◌, nat_le}
use Rattle.resp_read.specs.Doubles.{missing}
use Rattle.resp_read.proofs.DoubleLaws.{begun_is, begun_long, begun_never}
use Rattle.resp_read.proofs.decimals.can_be_double.Goals as goal

pub returns-then-size-limits : goal.returns-then-size-limits
returns-then-size-limits c = λ front is len. sym (begun_long c.args.limits front c.in-Some.n (ap missing is ∙ sym c.in-Some.ensures) (omega (arith, len, c.if-size-limits.true)))

pub returns-else-size-limits : goal.returns-else-size-limits
returns-else-size-limits c = λ front is len. ap (λ k. nat_le c.in-Some.n (c.args.limits.line - k)) (sym len) ∙ begun_is c.args.limits front c.in-Some.n (ap missing is ∙ sym c.in-Some.ensures) (omega (arith, len, c.if-size-limits.false))

pub returns-in-None : goal.returns-in-None
returns-in-None c = λ front is len. sym (begun_never c.args.limits front (ap missing is ∙ sym c.in-None.ensures))
