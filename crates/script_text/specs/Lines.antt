-- Which submissions a text of lines is, by the kind of its session, or which of its lines is the first at fault; and which
-- configuration words are.
use Rattle.std.specs.Prelude.{◌≡◌, ℕ, ◌+◌, ◌-◌, Bool, true, false, List, [], ◌∷◌, map, length, Option, Some, None, option_and_then, Result, Ok, Err, String, string_bytes, codes, if◌then◌else◌}
use Rattle.std.specs.Result.{result_map_both}
use Rattle.driver_model.specs.declared.config.Config.{Config}
use Rattle.driver_model.specs.declared.kind.SessionKind.{SessionKind}
use Rattle.driver_model.specs.declared.event.Event.{Event}
use Rattle.driver_model.specs.declared.event.EventKind.{EventKind}
use Rattle.driver_model.specs.declared.event.EventKind.TheVariants as event
use Rattle.driver_model.specs.declared.event.Submission.{Submission}
use Rattle.script_text.specs.ConfigLine.{config_of}
use Rattle.script_text.specs.Cursor.{lines_left}
use Rattle.script_text.specs.EventLine.{event_of}
use Rattle.script_text.specs.declared.script.Cursor.{Cursor}
use Rattle.script_text.specs.Script.{max_text, words_at, is_end, is_nothing}
use Rattle.script_text.specs.Words.{LineWords, parts, words_of_parts}

-- what is submitted, with its word, if that is what happens
abbrev pub submitted_by : ℕ → EventKind → Option (Submission × ℕ)
submitted_by word (event.Submit what) = Some (what, word)
submitted_by word _ = None

abbrev pub submitted : Event → Option (Submission × ℕ)
submitted e = submitted_by e.word e.kind

-- the submission to a session of this kind that the words of a line are
abbrev pub submission_of : SessionKind → LineWords → Option (Submission × ℕ)
submission_of kind words = option_and_then submitted (event_of kind words)

-- a line that is this submission, or none, before what the lines behind it say
abbrev pub submission_then : ℕ → Option (Submission × ℕ) → Result (List (Submission × ℕ)) ℕ → Result (List (Submission × ℕ)) ℕ
submission_then number None rest = Err number
submission_then number (Some line) rest = result_map_both (λ lines. line ∷ lines) (λ n. n) rest

-- a line with these words, or none: `end`, behind which no byte stands, or a submission
abbrev pub words_then : SessionKind → ℕ → Option LineWords → Bool → Result (List (Submission × ℕ)) ℕ → Result (List (Submission × ℕ)) ℕ
words_then kind number None nothing_behind rest = Err number
words_then kind number (Some words) nothing_behind rest =
    if is_end words then (if nothing_behind then Ok [] else Err (number + 1)) else submission_then number (submission_of kind words) rest

-- the submissions of the lines from this one on, or the first line at fault
abbrev pub submissions_from : SessionKind → ℕ → ℕ → List (List ℕ) → Result (List (Submission × ℕ)) ℕ
submissions_from kind number room [] = Err number
submissions_from kind number room (line ∷ rest) =
    words_then kind number (words_at number room (line ∷ rest)) (is_nothing rest) (submissions_from kind (number + 1) (room - (length line + 1)) rest)

-- the submissions to a session of this kind that a text is, whose last line is `end`, or the number of its first line at fault
unfoldable pub lines_of : SessionKind → List ℕ → Result (List (Submission × ℕ)) ℕ
lines_of kind text = submissions_from kind 1 max_text (parts 10 text)

-- the bytes of texts
abbrev pub texts : {A : Type 0} → List (String A) → List (List ℕ)
texts words = map string_bytes words

-- the configuration that a line with the word `config` and these parts behind it is
abbrev pub config_of_parts : List (List ℕ) → Option Config
config_of_parts raws = option_and_then config_of (words_of_parts (codes "config" ∷ raws))

-- the submissions of the lines that a cursor has left
abbrev pub submissions_left : SessionKind → Cursor → Result (List (Submission × ℕ)) ℕ
submissions_left kind cursor = submissions_from kind cursor.number cursor.room (lines_left cursor)

-- a submission before those behind it, or none at the end
abbrev pub PutsBefore : Option (Submission × ℕ) → Result (List (Submission × ℕ)) ℕ → Result (List (Submission × ℕ)) ℕ → Type 0
PutsBefore None old new = old ≡ Ok []
PutsBefore (Some line) old new = old ≡ result_map_both (λ lines. line ∷ lines) (λ n. n) new
