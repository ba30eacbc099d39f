use Rattle.std.proofs.Common.{subst}
use Rattle.resp_value.specs.View.{data_of}
use Rattle.resp_convert.specs.Convert.{IsRead}
use Rattle.resp_convert.specs.Types.{IsPair}
use Rattle.resp_convert.proofs.ByTwos.{pair_more, no_pair, all_read, one_left}
use Rattle.resp_convert.proofs.aggregates.read_paired.Goals as goal

pub returns-in-None : goal.returns-in-None
returns-in-None g c =
    let reads = IsPair g.K.FromRedisValue.reads g.V.FromRedisValue.reads in
    no_pair reads _ c.loop-items.items.now _ c.key-item.result c.value-item.result c.in-len2-up.len_at_least c.key-item.is c.value-item.is c.loop-items.invariant (subst (λ o. IsRead reads (data_of c.key-item.result, data_of c.value-item.result) o) c.in-None.is c.in_ok-pair.ensures)

pub loop-items-preserved : goal.loop-items-preserved
loop-items-preserved g c =
    let reads = IsPair g.K.FromRedisValue.reads g.V.FromRedisValue.reads in
    rw c.in_ok-push-in-Some.ensures.items (
    pair_more reads _ c.loop-items.items.now _ c.key-item.result c.value-item.result _ c.in-len2-up.len_at_least c.key-item.is c.value-item.is c.loop-items.invariant (subst (λ o. IsRead reads (data_of c.key-item.result, data_of c.value-item.result) o) c.in-Some.is c.in_ok-pair.ensures))

pub returns-then-is_empty : goal.returns-then-is_empty
returns-then-is_empty g c =
    let reads = IsPair g.K.FromRedisValue.reads g.V.FromRedisValue.reads in
    all_read reads _ c.loop-items.items.now _ c.if-is_empty.ensures c.loop-items.invariant

pub returns-else-is_empty : goal.returns-else-is_empty
returns-else-is_empty g c =
    let reads = IsPair g.K.FromRedisValue.reads g.V.FromRedisValue.reads in
    one_left reads _ c.loop-items.items.now _ c.in_default.len_below c.if-is_empty.ensures c.loop-items.invariant
