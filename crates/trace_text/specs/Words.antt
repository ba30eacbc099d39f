-- Words and lines of a text.
use Rattle.std.specs.Prelude.{ℕ, Bool, false, not, ◌&&◌, ◌==◌, nat_lt, List, [], ◌∷◌, ◌++◌, codes, flat_map, if◌then◌else◌}
use Rattle.std.specs.Str.{byte}
use Rattle.percent_encoding.specs.Percent.{percent_encode_byte}

-- a byte that stands for itself: a visible one of ASCII other than `%`
abbrev pub is_plain : ℕ → Bool
is_plain b = nat_lt 0x20 b && nat_lt b 0x7F && not (b == byte "%")

-- any other is `%` and its two upper-case hexadecimal digits
abbrev pub escaped_byte : ℕ → List ℕ
escaped_byte b = if is_plain b then b ∷ [] else percent_encode_byte b

-- `;` as a word of its own separates commands
abbrev pub is_separator : List ℕ → Bool
is_separator (b ∷ []) = b == byte ";"
is_separator _ = false

-- the word of a byte string
unfoldable pub escaped : List ℕ → List ℕ
escaped [] = codes "%-"
escaped (b ∷ bs) = if is_separator (b ∷ bs) then codes "%3B" else flat_map escaped_byte (b ∷ bs)

-- words that follow another, each after a space
abbrev pub following : List (List ℕ) → List ℕ
following words = flat_map (λ word. byte " " ∷ escaped word) words

-- words behind separators: ` ;` before those of each
abbrev pub separated : List (List (List ℕ)) → List ℕ
separated more = flat_map (λ words. codes " ;" ++ following words) more

-- the end of a line, with more words behind separators
abbrev pub ending : List (List (List ℕ)) → List ℕ
ending more = separated more ++ codes "\n"

-- the line of words, and of more words behind separators
abbrev pub line_of : List (List ℕ) → List (List (List ℕ)) → List ℕ
line_of [] more = ending more
line_of (word ∷ words) more = escaped word ++ following words ++ ending more
