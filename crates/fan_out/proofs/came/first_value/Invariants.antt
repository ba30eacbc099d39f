use Rattle.std.proofs.Common.{◌≡◌, drop, map}
use Rattle.fan_out.specs.Came.{came_now, earlier, value_came, first_come}
use Rattle.fan_out.proofs.came.first_value.Given as goal

-- the earliest so far with what is left is the earliest of all
abbrev pub invariant-loop-part : goal.invariant-loop-part
invariant-loop-part l = earlier (came_now l.first) (first_come (map value_came (drop l.part-index l.parts))) ≡ first_come (map value_came l.parts)
