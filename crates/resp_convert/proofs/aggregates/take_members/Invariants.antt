use Rattle.std.proofs.Common.{Some, length}
use Rattle.std.specs.List.{AllByRecursion}
use Rattle.resp_value.specs.View.{pairs_view}
use Rattle.resp_convert.specs.Types.{FitsPair, IsPair}
use Rattle.resp_convert.proofs.ByTwos.{IsReadSoFar}
use Rattle.resp_convert.proofs.aggregates.take_members.Given as goal

-- what was taken and what is left are the whole, and what is left fits
abbrev pub invariant-loop-key : goal.invariant-loop-key
invariant-loop-key g l = IsReadSoFar (IsPair g.K.FromRedisValue.reads g.V.FromRedisValue.reads) l.taken.items (Some (pairs_view l.rest)) (Some l.fn.members) × AllByRecursion (FitsPair g.K.FromRedisValue.fits g.V.FromRedisValue.fits) (pairs_view l.rest)

abbrev pub decreases-loop-key : goal.decreases-loop-key
decreases-loop-key g l = length l.rest
