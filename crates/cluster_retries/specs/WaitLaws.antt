-- What holds of every wait.
use Rattle.std.specs.Prelude.{◌≡◌, ℕ, ◌-◌, ◌<◌, ◌≤◌, ◌^◌}
use Rattle.cluster_retries.specs.declared.retry_params.RetryParams.{RetryParams}
use Rattle.cluster_retries.specs.Waits.{upper_of, wait_of}

-- no wait is shorter than the least one
abbrev pub NoneIsTooShort : Type 0
NoneIsTooShort = (params : RetryParams) (retry draw : ℕ) → params.min_wait ≤ wait_of params retry draw

-- where there is a number of 64 bits above the least wait, what a wait stays below is above the least wait, and the wait stays
-- below it
abbrev pub EachStaysBelow : Type 0
EachStaysBelow =
    (params : RetryParams) (retry draw : ℕ) → params.min_wait < 2 ^ 64 - 1
    → (params.min_wait < upper_of params retry) × (wait_of params retry draw < upper_of params retry)

-- where the greatest wait is above the least one, no wait reaches it
abbrev pub NoneIsTooLong : Type 0
NoneIsTooLong =
    (params : RetryParams) (retry draw : ℕ) → params.min_wait < 2 ^ 64 - 1 → params.min_wait < params.max_wait
    → wait_of params retry draw < params.max_wait

-- every number from the least wait up to what a wait stays below is the wait of some draw
abbrev pub EachIsDrawn : Type 0
EachIsDrawn =
    (params : RetryParams) (retry wait : ℕ) → params.min_wait < 2 ^ 64 - 1 → params.min_wait ≤ wait → wait < upper_of params retry
    → wait_of params retry (wait - params.min_wait) ≡ wait
