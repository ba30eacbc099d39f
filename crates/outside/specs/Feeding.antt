-- What a feed has of a source.
use Rattle.std.specs.Prelude.{◌≡◌, ◌<◌, length, ℕ, Bool, true, false, List, ◌++◌, Option, Some, None}
use Rattle.outside.specs.Ends.{Gave}
use Rattle.outside.specs.declared.feeding.Fed.{Fed}
use Rattle.outside.specs.declared.feeding.Fed.TheVariants as fed

-- the feed has gained exactly the piece that the source had before what it has left now
pub record Passed (left rest : Option (List ℕ)) (before kept : List ℕ) : Type 0 where
  pub piece : List ℕ
  pub gained : kept ≡ before ++ piece
  pub gave : Gave left rest piece

-- feeding ended since the feed has enough
abbrev pub is_enough : Fed → Bool
is_enough fed.Ended = false
is_enough fed.Enough = true

-- the feed has enough after one read
abbrev pub has_enough : Option Fed → Bool
has_enough None = false
has_enough (Some fed) = is_enough fed

-- a source that tells has more bytes left than this
abbrev pub HasMore : ℕ → Option (List ℕ) → Type 0
HasMore most left = (bytes : List ℕ) → left ≡ Some bytes → most < length bytes
