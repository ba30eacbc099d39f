-- Which script a text is, or which of its lines is the first at fault.
use Rattle.std.specs.Prelude.{ℕ, ◌+◌, ◌-◌, Bool, true, false, ◌&&◌, nat_le, nat_lt, List, [], ◌∷◌, length, Option, Some, None, option_and_then, Result, Ok, Err, bytes_eq, codes, if◌then◌else◌}
use Rattle.std.specs.Result.{result_map_both}
use Rattle.driver_model.specs.Config.{kind_of}
use Rattle.driver_model.specs.declared.config.Config.{Config}
use Rattle.driver_model.specs.declared.event.Event.{Event}
use Rattle.driver_model.specs.declared.kind.SessionKind.{SessionKind}
use Rattle.script_text.specs.declared.script.Script.{Script}
use Rattle.script_text.specs.Words.{LineWords, parts, words_of_line}
use Rattle.script_text.specs.EventLine.{event_of}
use Rattle.script_text.specs.ConfigLine.{opening_of}

-- the lines of a text
abbrev pub max_lines : ℕ
max_lines = 1_000_000

-- the bytes of a line, without its LF
abbrev pub max_line : ℕ
max_line = 1_048_576

-- the bytes of a text
abbrev pub max_text : ℕ
max_text = 67_108_864

-- A text is read as its parts between LFs; the last part is what no LF ends. A line has a number, counted from 1, and room is
-- how many bytes the text may still have when it begins.

-- the first part, if an LF ends it and it keeps the limits
abbrev pub line_at : ℕ → ℕ → List (List ℕ) → Option (List ℕ)
line_at number room [] = None
line_at number room (last ∷ []) = None
line_at number room (line ∷ next ∷ rest) = if nat_le number max_lines && nat_le (length line) max_line && nat_lt (length line) room then Some line else None

-- its words, if it is one
abbrev pub words_at : ℕ → ℕ → List (List ℕ) → Option LineWords
words_at number room lines = option_and_then words_of_line (line_at number room lines)

abbrev pub is_end_word : List (List ℕ) → List (List (List ℕ)) → Bool
is_end_word (word ∷ []) [] = bytes_eq word (codes "end")
is_end_word _ more = false

-- these are the words of the last line
abbrev pub is_end : LineWords → Bool
is_end line = is_end_word line.words line.more

-- no byte is left
abbrev pub is_nothing : List (List ℕ) → Bool
is_nothing ([] ∷ []) = true
is_nothing _ = false

-- a line that is this event, or none, before what the lines behind it say
abbrev pub event_then : ℕ → Option Event → Result (List Event) ℕ → Result (List Event) ℕ
event_then number None rest = Err number
event_then number (Some event) rest = result_map_both (λ events. event ∷ events) (λ n. n) rest

-- a line with these words, or none: `end`, behind which no byte stands, or an event of a session of this kind
abbrev pub line_then : SessionKind → ℕ → Option LineWords → Bool → Result (List Event) ℕ → Result (List Event) ℕ
line_then kind number None nothing_behind rest = Err number
line_then kind number (Some words) nothing_behind rest =
    if is_end words then (if nothing_behind then Ok [] else Err (number + 1)) else event_then number (event_of kind words) rest

-- the events of the lines from this one on, or the first line at fault
abbrev pub events_from : SessionKind → ℕ → ℕ → List (List ℕ) → Result (List Event) ℕ
events_from kind number room [] = Err number
events_from kind number room (line ∷ rest) =
    line_then kind number (words_at number room (line ∷ rest)) (is_nothing rest) (events_from kind (number + 1) (room - (length line + 1)) rest)

-- a first line that is this configuration with this word, or none, before the events behind it, which are read as those of its kind
abbrev pub config_then : Option (Config × ℕ) → (SessionKind → Result (List Event) ℕ) → Result Script ℕ
config_then None rest = Err 1
config_then (Some opening) rest = result_map_both (λ events. record { config = opening.0; word = opening.1; events = events }) (λ n. n) (rest (kind_of opening.0))

-- the configuration in the first line, and the events behind it
abbrev pub script_from : List (List ℕ) → Result Script ℕ
script_from [] = Err 1
script_from (first ∷ rest) =
    config_then (option_and_then opening_of (words_at 1 max_text (first ∷ rest))) (λ kind. events_from kind 2 (max_text - (length first + 1)) rest)

-- the script that a text is, or the number of its first line at fault
unfoldable pub script_of : List ℕ → Result Script ℕ
script_of text = script_from (parts 10 text)
