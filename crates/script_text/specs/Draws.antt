-- The word of its draws that a line may begin with.
use Rattle.std.specs.Prelude.{ℕ, Bool, false, ◌==◌, List, [], ◌∷◌, drop, Option, Some, option_map, if◌then◌else◌}
use Rattle.std.specs.Str.{byte}
use Rattle.script_text.specs.Numbers.{number, max_u64}

-- the word begins with `@`
abbrev pub is_draw : List ℕ → Bool
is_draw [] = false
is_draw (b ∷ bs) = b == byte "@"

-- the word of the draws, which is 0 where no `@` says it, and the words behind it
abbrev pub drawn : List (List ℕ) → Option (ℕ × List (List ℕ))
drawn [] = Some (0, [])
drawn (word ∷ words) = if is_draw word then option_map (λ n. (n, words)) (number max_u64 (drop 1 word)) else Some (0, word ∷ words)
