use Rattle.std.proofs.Common.{◌≡◌, length, map}
use Rattle.std.specs.List.{zip}
use Rattle.fan_out.specs.Arrays.{misfit_of_keys}
use Rattle.fan_out.proofs.arrays.misfit_of_keys.Given as goal

-- those that were passed fit
abbrev pub invariant-loop-routes : goal.invariant-loop-routes
invariant-loop-routes l = misfit_of_keys (zip l.routes (map (λ v. v.now) l.values)) ≡ misfit_of_keys (zip l.initial.routes (map (λ v. v.now) l.initial.values))

abbrev pub decreases-loop-routes : goal.decreases-loop-routes
decreases-loop-routes l = length l.routes
