use Rattle.std.proofs.Common.{length}
use Rattle.resp_value.specs.View.{list_view}
use Rattle.resp_convert.specs.Types.{IsPair, paired}
use Rattle.resp_convert.proofs.ByTwos.{IsReadSoFar}
use Rattle.resp_convert.proofs.aggregates.read_paired.Given as goal

-- what is read and what is left are the whole
abbrev pub invariant-loop-items : goal.invariant-loop-items
invariant-loop-items g l = IsReadSoFar (IsPair g.K.FromRedisValue.reads g.V.FromRedisValue.reads) l.read.items (paired (list_view l.items)) (paired (list_view l.initial.items))

abbrev pub decreases-loop-items : goal.decreases-loop-items
decreases-loop-items g l = length l.items
