-- Where an error of the driver leads.
use Rattle.std.specs.Prelude.{ℕ, Bool, List}
use Rattle.resp_value.specs.Redirect.{IsRedirect}
use Rattle.redis_error.specs.declared.redis_error.RedisError.{RedisError}
use Rattle.redis_error.specs.declared.redis_error.RedisError.TheVariants as error

-- an error of the driver leads there: it is a server's that does
abbrev pub IsRedirected : RedisError → ℕ → List ℕ → Bool → Type 0
IsRedirected (error.Server e) slot address ask = IsRedirect e slot address ask
IsRedirected _ slot address ask = ⊥

-- it leads nowhere
abbrev pub IsNotRedirected : RedisError → Type 0
IsNotRedirected e = (slot : ℕ) (address : List ℕ) (ask : Bool) → IsRedirected e slot address ask → ⊥
