use Rattle.std.proofs.Common.{take}
use Rattle.resp_value.specs.View.{list_view}
use Rattle.resp_convert.specs.Types.{IsEach}
use Rattle.resp_convert.proofs.convert.FromRedisValue.read_values.Given as goal

-- the values that were passed are read
abbrev pub invariant-loop-value : goal.invariant-loop-value
invariant-loop-value g l = IsEach g.Self.FromRedisValue.reads (list_view (take l.value-index l.values)) l.read.items
