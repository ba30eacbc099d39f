use Rattle.std.proofs.Common.{◌≡◌, ◌++◌, length, map}
use Rattle.std.specs.List.{zip}
use Rattle.resp_value.specs.View.{list_view}
use Rattle.fan_out.specs.Arrays.{element_now}
use Rattle.fan_out.proofs.arrays.push_keyed.Given as goal

-- the elements so far with what is left are all
abbrev pub invariant-loop-indices : goal.invariant-loop-indices
invariant-loop-indices l = map element_now l.keyed.items ++ zip l.indices (list_view l.items) ≡ map element_now l.fn.keyed.items ++ zip l.initial.indices (list_view l.initial.items)

abbrev pub decreases-loop-indices : goal.decreases-loop-indices
decreases-loop-indices l = length l.indices
