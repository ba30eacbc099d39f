use Rattle.std.proofs.Common.{◌≡◌, length}
use Rattle.resp_value.specs.View.{list_view}
use Rattle.fan_out.specs.Shapes.{are_by_turns}
use Rattle.fan_out.proofs.shape.are_by_turns.Given as goal

abbrev pub invariant-loop-items : goal.invariant-loop-items
invariant-loop-items l = are_by_turns (list_view l.items) ≡ are_by_turns (list_view l.initial.items)

abbrev pub decreases-loop-items : goal.decreases-loop-items
decreases-loop-items l = length l.items
