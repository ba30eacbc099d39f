-- The user name and the password of a URL.
use Rattle.std.specs.Prelude.{ℕ, List, [], ◌∷◌, Option, Some, None, if◌then◌else◌}
use Rattle.std.specs.Str.{is_utf8}
use Rattle.percent_encoding.specs.Percent.{percent_decode}

-- an empty text is none
abbrev pub unless_empty : List ℕ → Option (List ℕ)
unless_empty [] = None
unless_empty (b ∷ bytes) = Some (b ∷ bytes)

-- what a part of a URL stands for, if its escapes stand for UTF-8: a text, or none where it is empty
abbrev pub credential_of : List ℕ → Option (Option (List ℕ))
credential_of part = if is_utf8 (percent_decode part) then Some (unless_empty (percent_decode part)) else None
