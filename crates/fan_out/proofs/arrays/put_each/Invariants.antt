use Rattle.std.proofs.Common.{◌≡◌, drop, map}
use Rattle.resp_value.specs.View.{list_view}
use Rattle.fan_out.specs.Arrays.{each_put, element_now}
use Rattle.fan_out.proofs.arrays.put_each.Given as goal

-- what is left is still to be put
abbrev pub invariant-loop-element : goal.invariant-loop-element
invariant-loop-element l = each_put (list_view l.row) (map element_now (drop l.element-index l.keyed)) ≡ each_put (list_view l.fn.row) (map element_now l.keyed)
