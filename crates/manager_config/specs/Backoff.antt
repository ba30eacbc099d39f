-- The delays between the attempts to connect.
use Rattle.std.specs.Prelude.{ℕ, zero, suc, ◌-◌, ◌*◌, ◌/◌, ◌%◌, ◌^◌, min, max, Option, Some, None}
use Rattle.manager_config.specs.declared.config.ConnectionManagerConfig.{ConnectionManagerConfig}

-- times the fraction, rounded down, and 2^64 - 1 at most
abbrev pub grown : ℕ × ℕ → ℕ → ℕ
grown base bound = min (2 ^ 64 - 1) (bound * base.0 / base.1)

-- The bound of the delay after attempt n, in milliseconds: it grows with each attempt that failed.
abbrev pub delay_bound : ConnectionManagerConfig → ℕ → ℕ
delay_bound c zero = c.min_delay
delay_bound c (suc n) = grown c.exponent_base (delay_bound c n)

-- at most the maximal delay, where there is one
abbrev pub limited : Option ℕ → ℕ → ℕ
limited None delay = delay
limited (Some most) delay = min most delay

-- The delay after attempt n where this word was drawn: chance picks it below the bound.
abbrev pub backoff : ConnectionManagerConfig → ℕ → ℕ → ℕ
backoff c n draw = limited c.max_delay (draw % max 1 (delay_bound c n))
