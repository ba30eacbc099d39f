use Rattle.std.proofs.Common.{◌≡◌, ◌++◌, drop}
use Rattle.resp_value.specs.View.{list_view}
use Rattle.fan_out.proofs.arrays.push_copies.Given as goal

-- the list with the values that are left is the whole
abbrev pub invariant-loop-item : goal.invariant-loop-item
invariant-loop-item l = l.list ++ list_view (drop l.item-index l.items) ≡ l.fn.list ++ list_view l.items
