use Rattle.std.proofs.Common.{◌≡◌, ◌++◌, drop, map}
use Rattle.std.specs.List.{flat_map}
use Rattle.fan_out.specs.Tallies.{count_now, counts_in}
use Rattle.fan_out.proofs.tallies.counts.Given as goal

-- the counts so far with what is left are all
abbrev pub invariant-loop-value : goal.invariant-loop-value
invariant-loop-value l = map count_now l.counts.items ++ flat_map counts_in (map (λ v. v.now) (drop l.value-index l.values)) ≡ flat_map counts_in (map (λ v. v.now) l.values)
