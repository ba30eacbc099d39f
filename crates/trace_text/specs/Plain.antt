-- Words that are written as they are.
use Rattle.std.specs.Prelude.{ℕ, Bool, true, false, not, ◌&&◌, ◌==◌, List, [], ◌∷◌}
use Rattle.std.specs.Str.{byte}
use Rattle.trace_text.specs.Words.{is_plain}

-- a byte that stands for itself, also as a word of its own
abbrev pub is_kept : ℕ → Bool
is_kept b = is_plain b && not (b == byte ";")

-- all of them
abbrev pub are_kept : List ℕ → Bool
are_kept [] = true
are_kept (b ∷ bs) = is_kept b && are_kept bs

-- one such byte or more
abbrev pub is_literal : List ℕ → Bool
is_literal [] = false
is_literal (b ∷ bs) = are_kept (b ∷ bs)
