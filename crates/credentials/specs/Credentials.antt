-- Who authenticates, and by what.
use Rattle.std.specs.Prelude.{ℕ, List}

-- a user name and a password
pub record Credentials : Type 0 where
  pub username : List ℕ
  pub password : List ℕ
