use Rattle.std.proofs.Common.{IfOk, Some, subst}
use Rattle.resp_convert.specs.Convert.{IsReadEach}
use Rattle.resp_convert.specs.Types.{IsPair}
use Rattle.resp_convert.proofs.Each.{same_pairs}
use Rattle.resp_convert.proofs.aggregates.read_pairs.Goals as goal

pub returns-in-Map : goal.returns-in-Map
returns-in-Map g c =
    let reads = IsPair g.K.FromRedisValue.reads g.V.FromRedisValue.reads in
    rw c.in-Map.is (
    rw (same_pairs c.in-Map.pairs) (
    subst (λ ps. IfOk c.read_members.result (λ read. IsReadEach reads (Some ps) read)) c.as_slice.ensures c.read_members.ensures))
