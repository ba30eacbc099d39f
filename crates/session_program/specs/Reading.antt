-- What a script's text has of a source.
use Rattle.std.specs.Prelude.{◌≡◌, ℕ, List, [], ◌++◌, Option, Some, Ok}
use Rattle.outside.specs.Ends.{Gave}
use Rattle.script_text.specs.Script.{script_of}
use Rattle.script_text.specs.Limits.{IsRefused}
use Rattle.script_text.specs.declared.script.Script.{Script}

-- a text that is kept has gained exactly what the source gave
pub record Gains (old new : Option (List ℕ)) (before after : List ℕ) : Type 0 where
  pub piece : List ℕ
  pub gained : after ≡ before ++ piece
  pub gave : Gave old new piece

-- with what the source gave, the text is at fault, in the line in which what is kept of it is
pub record Refuses (old new : Option (List ℕ)) (before after : List ℕ) : Type 0 where
  pub piece : List ℕ
  pub gave : Gave old new piece
  pub refused : IsRefused (before ++ piece) after

-- what is kept says of all that the source had which script it is, and where it is one the source was read to its end
pub record Decides (old new : Option (List ℕ)) (kept : List ℕ) : Type 0 where
  pub same : (bytes : List ℕ) → old ≡ Some bytes → script_of bytes ≡ script_of kept
  pub ended : (bytes : List ℕ) → old ≡ Some bytes → (script : Script) → script_of kept ≡ Ok script → new ≡ Some []
