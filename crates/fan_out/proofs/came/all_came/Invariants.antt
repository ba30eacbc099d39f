use Rattle.std.proofs.Common.{◌≡◌, drop}
use Rattle.fan_out.specs.Came.{all_came}
use Rattle.fan_out.proofs.came.all_came.Given as goal

-- those that were passed have come
abbrev pub invariant-loop-part : goal.invariant-loop-part
invariant-loop-part l = all_came l.parts ≡ all_came (drop l.part-index l.parts)
