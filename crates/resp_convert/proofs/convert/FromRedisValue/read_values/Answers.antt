use Rattle.std.proofs.Common.{subst}
use Rattle.resp_value.specs.View.{data_of}
use Rattle.resp_convert.specs.Convert.{IsRead}
use Rattle.resp_convert.proofs.Each.{each_more, none_at}
use Rattle.resp_convert.proofs.convert.FromRedisValue.read_values.Goals as goal

pub returns-in-None : goal.returns-in-None
returns-in-None g c =
    let reads = g.Self.FromRedisValue.reads in
    none_at data_of reads _ c.loop-value.value-index _ c.loop-value-test.true c.value-item.is (subst (λ o. IsRead reads (data_of c.value-item.result) o) c.in-None.is c.in_ok-item.ensures)

pub loop-value-preserved : goal.loop-value-preserved
loop-value-preserved g c =
    let reads = g.Self.FromRedisValue.reads in
    rw c.in_ok-push-in-Some.ensures.items (
    each_more data_of reads _ c.loop-value.value-index _ _ _ c.loop-value-test.true c.value-item.is c.loop-value.invariant (subst (λ o. IsRead reads (data_of c.value-item.result) o) c.in-Some.is c.in_ok-item.ensures))
