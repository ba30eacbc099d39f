use Rattle.std.proofs.Common.{take}
use Rattle.std.specs.List.{AllByRecursion}
use Rattle.resp_value.specs.View.{pairs_view}
use Rattle.resp_convert.specs.Types.{FitsPair}
use Rattle.resp_convert.proofs.aggregates.look_at_members.Given as goal

-- the pairs that were passed fit
abbrev pub invariant-loop-member : goal.invariant-loop-member
invariant-loop-member g l = AllByRecursion (FitsPair g.K.FromRedisValue.fits g.V.FromRedisValue.fits) (pairs_view (take l.member-index l.members))
