use Rattle.std.proofs.Common.{◌≡◌, drop}
use Rattle.std.specs.List.{list_all}
use Rattle.resp_value.specs.View.{list_view}
use Rattle.fan_out.specs.Shapes.{is_integer}
use Rattle.fan_out.proofs.shape.all_integers.Given as goal

-- those that were passed are integers
abbrev pub invariant-loop-item : goal.invariant-loop-item
invariant-loop-item l = list_all is_integer (list_view l.items) ≡ list_all is_integer (list_view (drop l.item-index l.items))
