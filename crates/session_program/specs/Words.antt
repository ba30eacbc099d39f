-- What the words after the program's name ask for.
use Rattle.std.specs.Prelude.{ℕ, ◌==◌, Bool, false, Option, Some, None, List, [], ◌∷◌, String, string_bytes, bytes_eq, codes, if◌then◌else◌}
use Rattle.script_text.specs.Lines.{texts}
use Rattle.script_text.specs.Numbers.{number}
use Rattle.session_program.specs.declared.command.Command.{Command}
use Rattle.session_program.specs.declared.command.Command.TheVariants.{Replay, Generate, Help, Version, Unknown}

-- one word is a command, or none
abbrev pub word_command : List ℕ → Command
word_command word = if bytes_eq word (codes "replay") then Replay else (if bytes_eq word (codes "--help") then Help else (if bytes_eq word (codes "--version") then Version else Unknown))

-- the most rounds of a script that is made
abbrev pub most_rounds : ℕ
most_rounds = 200000

-- so many rounds, of which there is one at least
abbrev pub generate_command : Option ℕ → Command
generate_command None = Unknown
generate_command (Some n) = if n == 0 then Unknown else Generate n

-- two words are a command: `gen`, and a number in decimal from 1 to that many
abbrev pub two_words_command : List ℕ → List ℕ → Command
two_words_command first second = if bytes_eq first (codes "gen") then generate_command (number most_rounds second) else Unknown

-- one word or two, and a command
abbrev pub command_of : {A : Type 0} → List (String A) → Command
command_of (word ∷ []) = word_command (string_bytes word)
command_of (first ∷ second ∷ []) = two_words_command (string_bytes first) (string_bytes second)
command_of _ = Unknown

-- the first word is `live`
abbrev pub is_live : {A : Type 0} → List (String A) → Bool
is_live [] = false
is_live (word ∷ rest) = bytes_eq (string_bytes word) (codes "live")

-- the words behind the first
abbrev pub words_behind : {A : Type 0} → List (String A) → List (List ℕ)
words_behind [] = []
words_behind (word ∷ rest) = texts rest
