use Rattle.std.proofs.Common.{◌≡◌, ◌++◌, drop, map}
use Rattle.std.specs.List.{flat_map}
use Rattle.resp_value.specs.View.{pairs_view}
use Rattle.fan_out.specs.Tallies.{count_now, counts_of}
use Rattle.fan_out.proofs.tallies.push_pairs.Given as goal

-- the counts so far with what is left are all
abbrev pub invariant-loop-pair : goal.invariant-loop-pair
invariant-loop-pair l = map count_now l.counts.items ++ flat_map (λ p. counts_of p.0 p.1) (pairs_view (drop l.pair-index l.pairs)) ≡ map count_now l.fn.counts.items ++ flat_map (λ p. counts_of p.0 p.1) (pairs_view l.pairs)
