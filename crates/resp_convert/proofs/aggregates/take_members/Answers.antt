use Rattle.std.proofs.Common.{Some, subst}
use Rattle.resp_value.specs.View.{pair_of, pairs_view}
use Rattle.resp_convert.specs.Types.{FitsPair, IsPair}
use Rattle.resp_convert.proofs.ByTwos.{IsReadSoFar, one_taken, whole}
use Rattle.resp_convert.proofs.aggregates.take_members.Goals as goal

pub loop-key-preserved : goal.loop-key-preserved
loop-key-preserved g c =
    let fits = FitsPair g.K.FromRedisValue.fits g.V.FromRedisValue.fits in
    let reads = IsPair g.K.FromRedisValue.reads g.V.FromRedisValue.reads in
    one_taken pair_of fits reads c.loop-key.taken.items c.push.new.self.items c.loop-key.rest c.pop_front.new.self (c.in-Some.key, c.in-Some.value) c.in_ok-take_pair.field-0 (Some c.args.members) c.in-Some.ensures c.in_ok-push.ensures.items c.loop-key.invariant c.in_ok-take_pair.ensures

pub returns : goal.returns
returns g c =
    let reads = IsPair g.K.FromRedisValue.reads g.V.FromRedisValue.reads in
    let taken = c.loop-key.taken.items in
    whole reads taken (Some c.args.members) (subst (λ ps. IsReadSoFar reads taken (Some (pairs_view ps)) (Some c.args.members)) c.in_default.ensures.0 c.loop-key.invariant.0)
