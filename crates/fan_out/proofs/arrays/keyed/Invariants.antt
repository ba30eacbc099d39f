use Rattle.std.proofs.Common.{◌≡◌, ◌++◌, length, map}
use Rattle.std.specs.List.{zip}
use Rattle.fan_out.specs.Arrays.{element_now, keyed}
use Rattle.fan_out.proofs.arrays.keyed.Given as goal

-- the elements so far with what is left are all
abbrev pub invariant-loop-routes : goal.invariant-loop-routes
invariant-loop-routes l = map element_now l.keyed.items ++ keyed (zip l.routes (map (λ v. v.now) l.values)) ≡ keyed (zip l.initial.routes (map (λ v. v.now) l.initial.values))

abbrev pub decreases-loop-routes : goal.decreases-loop-routes
decreases-loop-routes l = length l.routes
