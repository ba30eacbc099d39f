use Rattle.std.proofs.Common.{take}
use Rattle.std.specs.List.{AllByRecursion}
use Rattle.resp_value.specs.View.{list_view}
use Rattle.resp_convert.proofs.convert.FromRedisValue.look_at_values.Given as goal

-- the values that were passed fit
abbrev pub invariant-loop-value : goal.invariant-loop-value
invariant-loop-value g l = AllByRecursion g.Self.FromRedisValue.fits (list_view (take l.value-index l.values))
