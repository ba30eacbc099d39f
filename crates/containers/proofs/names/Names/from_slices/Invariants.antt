use Rattle.std.proofs.Common.{◌≡◌, map, take}
use Rattle.containers.proofs.names.Names.from_slices.Given as goal

abbrev pub invariant-loop-slice : goal.invariant-loop-slice
invariant-loop-slice l = l.names ≡ map (λ s. s.now) (take l.slice-index l.slices)
