use Rattle.std.proofs.Common.{◌≡◌, ◌++◌, drop, map}
use Rattle.std.specs.List.{flat_map}
use Rattle.fan_out.specs.Came.{value_list}
use Rattle.fan_out.proofs.came.values.Given as goal

-- the values so far with what is left are all
abbrev pub invariant-loop-part : goal.invariant-loop-part
invariant-loop-part l = map (λ v. v.now) l.values.items ++ flat_map value_list (drop l.part-index l.parts) ≡ flat_map value_list l.parts
