use Rattle.std.proofs.Common.{Some, subst}
use Rattle.resp_value.specs.View.{list_view}
use Rattle.resp_convert.proofs.ByTwos.{IsReadSoFar, whole}
use Rattle.resp_convert.proofs.convert.FromRedisValue.take_values.Goals as goal

pub returns : goal.returns
returns g c =
    let reads = g.Self.FromRedisValue.reads in
    let taken = c.loop-value.taken.items in
    whole reads taken (Some c.args.values) (subst (λ vs. IsReadSoFar reads taken (Some (list_view vs)) (Some c.args.values)) c.in_default.ensures.0 c.loop-value.invariant.0)
