-- What a sink holds of a text that is written while it grows.
use Rattle.std.specs.Prelude.{◌≡◌, ℕ, List, ◌++◌, Option}
use Rattle.outside.specs.Ends.{Gained}

-- what a sink has gained, and the rest that is not written yet, are this text
pub record Sent (old new : Option (List ℕ)) (rest text : List ℕ) : Type 0 where
  pub front : List ℕ
  pub gained : Gained old new front
  pub whole : front ++ rest ≡ text
