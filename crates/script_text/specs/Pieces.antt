-- A line as pieces one behind the other: each of its parts between spaces is one.
use Rattle.std.specs.Prelude.{ℕ, List, [], ◌∷◌, ◌++◌, Option, Some, option_map, if◌then◌else◌}
use Rattle.script_text.specs.Words.{LineWords, is_separator, unescaped}

-- more words behind separators
abbrev pub before : List (List ℕ) → LineWords → LineWords
before words line = record { words = words; more = line.words ∷ line.more }

-- the last of these words go on in the first of the piece
abbrev pub glued : List (List ℕ) → List (List (List ℕ)) → LineWords → LineWords
glued words [] piece = record { words = words ++ piece.words; more = piece.more }
glued words (next ∷ rest) piece = before words (glued next rest piece)

-- a line with a piece behind it
abbrev pub joined : LineWords → LineWords → LineWords
joined line piece = glued line.words line.more piece

-- one word
abbrev pub one_word : List ℕ → LineWords
one_word word = record { words = word ∷ []; more = [] }

-- a separator alone
abbrev pub separator : LineWords
separator = record { words = []; more = [] ∷ [] }

-- what a part between spaces is
abbrev pub piece_of : List ℕ → Option LineWords
piece_of raw = if is_separator raw then Some separator else option_map one_word (unescaped raw)
