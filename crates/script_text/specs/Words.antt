-- How a text is cut into lines and a line into words, and which bytes a word stands for.
use Rattle.std.specs.Prelude.{ℕ, Bool, true, false, not, ◌&&◌, ◌||◌, ◌==◌, List, [], ◌∷◌, map, Option, Some, None, option_map, option_and_then, bytes_eq, codes, if◌then◌else◌}
use Rattle.std.specs.List.{slice_split}
use Rattle.std.specs.Char.{is_digit}
use Rattle.percent_encoding.specs.Percent.{percent_decode}

-- the parts between the bytes b: one more than there are such bytes
abbrev pub parts : ℕ → List ℕ → List (List ℕ)
parts b bytes = slice_split (λ x. x == b) bytes

-- what stands before the first byte b, and what stands behind it
abbrev pub cut_at : ℕ → List ℕ → Option (List ℕ × List ℕ)
cut_at b [] = None
cut_at b (x ∷ xs) = if x == b then Some ([], xs) else option_map (λ c. (x ∷ c.0, c.1)) (cut_at b xs)

-- two hexadecimal digits, of either case, and anything behind them
abbrev pub begins_with_hex : List ℕ → Bool
begins_with_hex [] = false
begins_with_hex (high ∷ []) = false
begins_with_hex (high ∷ low ∷ rest) = is_digit high 16 && is_digit low 16

-- behind each `%` stand two hexadecimal digits
abbrev pub is_well_escaped : List ℕ → Bool
is_well_escaped [] = true
is_well_escaped (b ∷ rest) = (not (b == 37) || begins_with_hex rest) && is_well_escaped rest

-- the bytes that a word stands for: no byte for `%-`, else each escape is its byte; nothing at all is no word
unfoldable pub unescaped : List ℕ → Option (List ℕ)
unescaped raw =
    if bytes_eq raw [] then None else (
    if bytes_eq raw (codes "%-") then Some [] else (
    if is_well_escaped raw then Some (percent_decode raw) else None))

-- all of them, if none is missing
abbrev pub all_of : {A : Type 0} → List (Option A) → Option (List A)
all_of [] = Some []
all_of (None ∷ rest) = None
all_of (Some x ∷ rest) = option_map (λ xs. x ∷ xs) (all_of rest)

-- `;` as a word of its own separates commands
abbrev pub is_separator : List ℕ → Bool
is_separator raw = bytes_eq raw (codes ";")

-- the words of a line: those before the first separator, and those behind each
pub record LineWords : Type 0 where
  pub words : List (List ℕ)
  pub more : List (List (List ℕ))

-- a line with these words between separators
abbrev pub line_words : List (List (List ℕ)) → Option LineWords
line_words [] = None
line_words (words ∷ more) = Some (record { words = words; more = more })

-- the words between separators
abbrev pub group_of : List (List ℕ) → Option (List (List ℕ))
group_of raws = all_of (map unescaped raws)

-- the words of a line with these parts between its spaces
abbrev pub words_of_parts : List (List ℕ) → Option LineWords
words_of_parts raws = option_and_then line_words (all_of (map group_of (slice_split is_separator raws)))

-- the words of a line
unfoldable pub words_of_line : List ℕ → Option LineWords
words_of_line line = words_of_parts (parts 32 line)
