use Rattle.std.proofs.Common.{◌≡◌, ◌*◌, ◌^◌, ℤ, pos, ◌+ℤ◌, neg_ℤ, ◌≤ℤ◌, drop, map, fold}
use Rattle.fan_out.specs.Numbers.{number, sum_of}
use Rattle.fan_out.proofs.numbers.total.Given as goal

-- the sum so far with what is left is the sum, and each number has 64 bits
abbrev pub invariant-loop-value : goal.invariant-loop-value
invariant-loop-value l = record {
  sum : fold ◌+ℤ◌ l.total (map number (map (λ v. v.now) (drop l.value-index l.values))) ≡ sum_of (map number (map (λ v. v.now) l.values));
  low : neg_ℤ (pos (2 ^ 63 * l.value-index)) ≤ℤ l.total;
  high : l.total ≤ℤ pos (2 ^ 63 * l.value-index);
}
