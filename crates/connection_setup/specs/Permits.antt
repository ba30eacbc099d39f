-- How many requests a connection holds at once.
use Rattle.std.specs.Prelude.{◌≡◌, ℕ, max, min, Option, Some}
use Rattle.redis_error.specs.declared.config_name.ConfigName.TheVariants.{Limit}
use Rattle.redis_error.specs.declared.redis_error.RedisError.{RedisError}
use Rattle.redis_error.specs.declared.redis_error.RedisError.TheVariants.{Config}

-- the most permits that a pipeline of so many commands takes
abbrev pub most_permits : ℕ → ℕ → ℕ
most_permits count limit = max 1 (min count limit)

-- a limit of 0 is refused, with its name
abbrev pub RefusesLimit : Option ℕ → RedisError → Type 0
RefusesLimit limit e = (limit ≡ Some 0) × (e ≡ Config Limit)
