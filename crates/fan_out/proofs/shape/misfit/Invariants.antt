use Rattle.std.proofs.Common.{◌≡◌, drop, map}
use Rattle.fan_out.specs.Shapes.{misfit}
use Rattle.fan_out.proofs.shape.misfit.Given as goal

-- those that were passed fit
abbrev pub invariant-loop-value : goal.invariant-loop-value
invariant-loop-value l = misfit l.shape (map (λ v. v.now) l.values) ≡ misfit l.shape (map (λ v. v.now) (drop l.value-index l.values))
