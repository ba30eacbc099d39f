use Rattle.std.proofs.Common.{Some, length}
use Rattle.std.specs.List.{AllByRecursion}
use Rattle.resp_value.specs.View.{list_view}
use Rattle.resp_convert.proofs.ByTwos.{IsReadSoFar}
use Rattle.resp_convert.proofs.convert.FromRedisValue.take_values.Given as goal

-- what was taken and what is left are the whole, and what is left fits
abbrev pub invariant-loop-value : goal.invariant-loop-value
invariant-loop-value g l = IsReadSoFar g.Self.FromRedisValue.reads l.taken.items (Some (list_view l.rest)) (Some l.fn.values) × AllByRecursion g.Self.FromRedisValue.fits (list_view l.rest)

abbrev pub decreases-loop-value : goal.decreases-loop-value
decreases-loop-value g l = length l.rest
