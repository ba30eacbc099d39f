use Rattle.std.proofs.Common.{◌≡◌, ℕ, List, take, map}
use Rattle.fan_out.specs.Tallies.{count_now, sum_for, tally}
use Rattle.fan_out.proofs.Summing.{IsWithin}
use Rattle.fan_out.proofs.tallies.tally.Given as goal

-- the sums of the counts so far, and that each lies within as many numbers of 64 bits
abbrev pub invariant-loop-count : goal.invariant-loop-count
invariant-loop-count l = record {
  so_far : l.totals ≡ tally (map count_now (take l.count-index l.counts));
  within : (name : List ℕ) → IsWithin l.count-index (sum_for name (map count_now (take l.count-index l.counts)));
}
