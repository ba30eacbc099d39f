-- How long a request waits before it is tried again, in milliseconds.
use Rattle.std.specs.Prelude.{ℕ, ◌+◌, ◌-◌, ◌*◌, ◌%◌, ◌^◌, ◌==◌, nat_lt, min, max, if◌then◌else◌}
use Rattle.cluster_retries.specs.declared.retry_params.RetryParams.{RetryParams}

-- a number, or the greatest of 64 bits where it is more
abbrev pub saturated : ℕ → ℕ
saturated n = min n (2 ^ 64 - 1)

-- a base wait, raised to one more than the least wait, and then lowered to the greatest one
abbrev pub clamped : ℕ → ℕ → ℕ → ℕ
clamped base least greatest = min (max base (saturated (least + 1))) greatest

-- what a wait stays below: the base wait so clamped where it is above the least wait, else one more than that
abbrev pub wait_upper : ℕ → ℕ → ℕ → ℕ
wait_upper base least greatest =
    if nat_lt least (clamped base least greatest) then clamped base least greatest else saturated (least + 1)

-- the base wait before a retry of this number: it grows by the exponent base with each one
abbrev pub base_wait : RetryParams → ℕ → ℕ
base_wait params retry = saturated (params.exponent_base ^ retry * params.factor)

-- what the wait before that retry stays below
abbrev pub upper_of : RetryParams → ℕ → ℕ
upper_of params retry = wait_upper (base_wait params retry) params.min_wait params.max_wait

-- the wait before that retry: drawn from the least wait up to what it stays below
abbrev pub wait_of : RetryParams → ℕ → ℕ → ℕ
wait_of params retry draw =
    if params.min_wait == 2 ^ 64 - 1
    then params.min_wait
    else params.min_wait + draw % (upper_of params retry - params.min_wait)

-- 16 retries, the first after a wait of 1,280 milliseconds, none after one of 655,360 or more; the base wait begins with 10
-- milliseconds and doubles
abbrev pub default_params : RetryParams
default_params = record {
  number_of_retries = 16;
  min_wait = 1_280;
  max_wait = 655_360;
  factor = 10;
  exponent_base = 2;
}
