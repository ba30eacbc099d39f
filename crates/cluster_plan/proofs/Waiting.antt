-- The waits of a repair.
use Rattle.std.proofs.Common.{◌≡◌, ℕ, suc, zero, ◌+◌, ◌*◌, ◌^◌, ◌-◌, ◌≤◌, min, subst, arith, pow-suc, add-suc}

-- behind six attempts the wait is the longest
doubled : (n : ℕ) → 32 ≤ 2 ^ (5 + n)
doubled zero = omega arith
doubled (suc n) = let h : 32 ≤ 2 ^ (5 + n) = doubled n in rw add-suc (rw pow-suc (omega (arith, h)))

pub longest : (n : ℕ) → 6 ≤ n → min (50 * 2 ^ (n - 1)) 1_000 ≡ 1_000
longest n h =
    let e : 5 + (n - 6) ≡ n - 1 = omega (arith, h) in
    let enough : 32 ≤ 2 ^ (n - 1) = subst (λ m. 32 ≤ 2 ^ m) e (doubled (n - 6)) in
    omega (arith, enough)
