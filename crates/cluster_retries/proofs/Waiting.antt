-- Waits stay between their bounds.
use Rattle.std.proofs.Common.{◌≡◌, ℕ, ◌+◌, ◌-◌, ◌%◌, ◌^◌, ◌<◌, ◌≤◌, ◌==◌, ap, ◌∙◌, arith}
use Rattle.std.proofs.lemmas.Bool.Decides.{nat_tests}
use Rattle.std.proofs.lemmas.Nat.{mod-mul-add, mod_below}
use Rattle.containers.proofs.Choices.{left_if, ne_test}
use Rattle.cluster_retries.specs.declared.retry_params.RetryParams.{RetryParams}
use Rattle.cluster_retries.specs.Waits.{upper_of, wait_of, wait_upper, base_wait}
use Rattle.cluster_retries.specs.WaitLaws.{EachIsDrawn, EachStaysBelow, NoneIsTooLong, NoneIsTooShort}

-- what a wait stays below is above the least wait, and not above the greatest one where that is
above_least : (base least greatest : ℕ) → least < 2 ^ 64 - 1 → least < wait_upper base least greatest
above_least base least greatest h = grind (arith, nat_tests)

within_greatest : (base least greatest : ℕ) → least < greatest → wait_upper base least greatest ≤ greatest
within_greatest base least greatest h = grind (arith, nat_tests)

-- a wait that is drawn
drawn : (params : RetryParams) (retry draw : ℕ) → params.min_wait < 2 ^ 64 - 1 → wait_of params retry draw ≡ params.min_wait + draw % (upper_of params retry - params.min_wait)
drawn params retry draw h =
    left_if (params.min_wait == 2 ^ 64 - 1) params.min_wait (params.min_wait + draw % (upper_of params retry - params.min_wait))
    (ne_test params.min_wait (2 ^ 64 - 1) (λ e. absurd (omega arith)))

pub none_is_too_short : NoneIsTooShort
none_is_too_short params retry draw = grind (arith, nat_tests)

below : (least upper draw : ℕ) → least < upper → least + draw % (upper - least) < upper
below least upper draw h = omega (arith, mod_below draw (upper - least) (omega arith))

pub each_stays_below : EachStaysBelow
each_stays_below params retry draw h =
    let above : params.min_wait < upper_of params retry = above_least (base_wait params retry) params.min_wait params.max_wait h in
    let is = drawn params retry draw h in
    let under = below params.min_wait (upper_of params retry) draw above in
    (above, omega (arith, is, under))

pub none_is_too_long : NoneIsTooLong
none_is_too_long params retry draw h k =
    let under = (each_stays_below params retry draw h).1 in
    let most : upper_of params retry ≤ params.max_wait = within_greatest (base_wait params retry) params.min_wait params.max_wait k in
    omega (arith, under, most)

remainder : (n m : ℕ) → n < m → n % m ≡ n
remainder n m h = ap (λ k. k % m) (omega arith) ∙ mod-mul-add 0 m n h

reached : (least upper wait : ℕ) → least ≤ wait → wait < upper → least + (wait - least) % (upper - least) ≡ wait
reached least upper wait h k = omega (arith, remainder (wait - least) (upper - least) (omega arith))

pub each_is_drawn : EachIsDrawn
each_is_drawn params retry wait h least upper =
    drawn params retry (wait - params.min_wait) h ∙ reached params.min_wait (upper_of params retry) wait least upper
