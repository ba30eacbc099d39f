use Rattle.std.proofs.Common.{◌≡◌, drop, map, fold}
use Rattle.std.specs.Int.{int_min}
use Rattle.fan_out.specs.Numbers.{number}
use Rattle.fan_out.proofs.numbers.least.Given as goal

-- the least so far with what is left gives the least
abbrev pub invariant-loop-value : goal.invariant-loop-value
invariant-loop-value l = fold int_min l.least (map number (map (λ v. v.now) (drop l.value-index l.others))) ≡ fold int_min l.initial.least (map number (map (λ v. v.now) l.others))
