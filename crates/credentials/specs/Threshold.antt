-- When credentials are renewed.
use Rattle.std.specs.Prelude.{ℕ, ◌-◌, ◌*◌, ◌/◌, ◌^◌, nat_lt, min, Option, Some, None, if◌then◌else◌}

-- how long after they were received: a part of their lifetime, rounded down, and 2^64 - 1 at most; none where they had
-- expired before
abbrev pub refresh_threshold : ℕ → ℕ → ℕ → ℕ → Option ℕ
refresh_threshold received expires num den =
    if nat_lt expires received then None else Some (min ((expires - received) * num / den) (2 ^ 64 - 1))
