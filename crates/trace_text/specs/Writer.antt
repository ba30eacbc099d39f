-- What a writer holds, and what was written to it.
use Rattle.std.specs.Prelude.{◌≡◌, ℕ, List, ◌++◌, flat_map}
use Rattle.trace_text.specs.Words.{escaped_byte, following, separated}

-- the text before this line, and the line as far as it is written
pub record Written : Type 0 where
  pub before : List ℕ
  pub line : List ℕ

-- these bytes were added to the line
abbrev pub Added : Written → Written → List ℕ → Type 0
Added old new bytes = new.line ≡ old.line ++ bytes

-- these bytes were added, each as itself or as its escape
abbrev pub AddedEscaped : Written → Written → List ℕ → Type 0
AddedEscaped old new bytes = Added old new (flat_map escaped_byte bytes)

-- these words were added to the line, each after a space
abbrev pub AddedWords : Written → Written → List (List ℕ) → Type 0
AddedWords old new words = Added old new (following words)

-- these words, and more words behind separators
abbrev pub AddedParts : Written → Written → List (List ℕ) → List (List (List ℕ)) → Type 0
AddedParts old new words more = new.line ≡ old.line ++ following words ++ separated more
