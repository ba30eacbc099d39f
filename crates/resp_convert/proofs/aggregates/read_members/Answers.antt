use Rattle.std.proofs.Common.{subst}
use Rattle.resp_value.specs.View.{pair_of}
use Rattle.resp_convert.specs.Convert.{IsRead}
use Rattle.resp_convert.specs.Types.{IsPair}
use Rattle.resp_convert.proofs.Each.{each_more, none_at}
use Rattle.resp_convert.proofs.aggregates.read_members.Goals as goal

pub returns-in-None : goal.returns-in-None
returns-in-None g c =
    let reads = IsPair g.K.FromRedisValue.reads g.V.FromRedisValue.reads in
    none_at pair_of reads _ c.loop-member.member-index _ c.loop-member-test.true c.member-item.is (subst (λ o. IsRead reads (pair_of c.member-item.result) o) c.in-None.is c.in_ok-pair.ensures)

pub loop-member-preserved : goal.loop-member-preserved
loop-member-preserved g c =
    let reads = IsPair g.K.FromRedisValue.reads g.V.FromRedisValue.reads in
    rw c.in_ok-push-in-Some.ensures.items (
    each_more pair_of reads _ c.loop-member.member-index _ _ _ c.loop-member-test.true c.member-item.is c.loop-member.invariant (subst (λ o. IsRead reads (pair_of c.member-item.result) o) c.in-Some.is c.in_ok-pair.ensures))
