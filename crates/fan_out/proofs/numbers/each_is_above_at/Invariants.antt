use Rattle.std.proofs.Common.{◌≡◌, drop, map}
use Rattle.std.specs.List.{list_all}
use Rattle.fan_out.specs.Numbers.{above_at}
use Rattle.fan_out.proofs.numbers.each_is_above_at.Given as goal

-- those that were passed are above 0
abbrev pub invariant-loop-value : goal.invariant-loop-value
invariant-loop-value l = list_all (above_at l.place) (map (λ v. v.now) l.values) ≡ list_all (above_at l.place) (map (λ v. v.now) (drop l.value-index l.values))
