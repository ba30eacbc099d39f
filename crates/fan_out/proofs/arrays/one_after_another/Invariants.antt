use Rattle.std.proofs.Common.{◌≡◌, ◌++◌, drop, map}
use Rattle.std.specs.List.{flat_map}
use Rattle.fan_out.specs.Shapes.{elements}
use Rattle.fan_out.proofs.arrays.one_after_another.Given as goal

-- the list with the elements that are left is the whole
abbrev pub invariant-loop-value : goal.invariant-loop-value
invariant-loop-value l = l.list ++ flat_map elements (map (λ v. v.now) (drop l.value-index l.values)) ≡ flat_map elements (map (λ v. v.now) l.values)
