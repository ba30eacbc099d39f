use Rattle.std.proofs.Common.{◌≡◌, drop, map}
use Rattle.fan_out.specs.Came.{came_now, later, error_came, last_come}
use Rattle.fan_out.proofs.came.last_error.Given as goal

-- the latest so far with what is left is the latest of all
abbrev pub invariant-loop-part : goal.invariant-loop-part
invariant-loop-part l = later (came_now l.last) (last_come (map error_came (drop l.part-index l.parts))) ≡ last_come (map error_came l.parts)
