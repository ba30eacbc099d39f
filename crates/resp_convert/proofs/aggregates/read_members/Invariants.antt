use Rattle.std.proofs.Common.{take}
use Rattle.resp_value.specs.View.{pairs_view}
use Rattle.resp_convert.specs.Types.{IsEach, IsPair}
use Rattle.resp_convert.proofs.aggregates.read_members.Given as goal

-- the pairs that were passed are read
abbrev pub invariant-loop-member : goal.invariant-loop-member
invariant-loop-member g l = IsEach (IsPair g.K.FromRedisValue.reads g.V.FromRedisValue.reads) (pairs_view (take l.member-index l.members)) l.read.items
