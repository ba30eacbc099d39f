-- What a cursor has left to read.
use Rattle.std.specs.Prelude.{◌≡◌, ℕ, ◌+◌, ◌-◌, ◌<◌, List, [], ◌∷◌, length, Option, Some, None, Result, Ok, Err}
use Rattle.std.specs.Result.{result_map_both}
use Rattle.driver_model.specs.declared.event.Event.{Event}
use Rattle.driver_model.specs.declared.kind.SessionKind.{SessionKind}
use Rattle.script_text.specs.declared.script.Cursor.{Cursor}
use Rattle.script_text.specs.declared.script.ScriptError.{ScriptError}
use Rattle.script_text.specs.declared.script.ScriptError.TheVariants.{Line, NoMemory}
use Rattle.script_text.specs.Words.{LineWords, parts}
use Rattle.script_text.specs.Script.{line_at, words_at, events_from}

-- the lines that are left
abbrev pub lines_left : Cursor → List (List ℕ)
lines_left cursor = parts 10 cursor.left.now

-- the next line
abbrev pub line_left : Cursor → Option (List ℕ)
line_left cursor = line_at cursor.number cursor.room (lines_left cursor)

-- its words
abbrev pub words_left : Cursor → Option LineWords
words_left cursor = words_at cursor.number cursor.room (lines_left cursor)

-- the events of a session of this kind that are left
abbrev pub events_left : SessionKind → Cursor → Result (List Event) ℕ
events_left kind cursor = events_from kind cursor.number cursor.room (lines_left cursor)

-- the cursor went behind this line
pub record Passes (line : List ℕ) (old new : Cursor) : Type 0 where
  pub lines : lines_left old ≡ line ∷ lines_left new
  pub number : new.number ≡ old.number + 1
  pub room : new.room ≡ old.room - (length line + 1)
  pub less : length new.left.now < length old.left.now

-- the cursor went behind some line
abbrev pub Goes : Cursor → Cursor → Type 0
Goes old new = (line : List ℕ) × Passes line old new

-- an event before the events behind it, or none at the end
abbrev pub Continues : Option Event → Result (List Event) ℕ → Result (List Event) ℕ → Type 0
Continues None old new = old ≡ Ok []
Continues (Some event) old new = old ≡ result_map_both (λ events. event ∷ events) (λ n. n) new

-- an error names this line where it is refused
abbrev pub Refuses : {A : Type 0} → ScriptError → ℕ → Option A → Type 0
Refuses (Line number) here found = (number ≡ here) × (found ≡ None)
Refuses NoMemory here found = Unit {0}

-- a line in an error is the first at fault
abbrev pub Tells : {A : Type 0} → ScriptError → Result A ℕ → Type 0
Tells (Line number) answer = answer ≡ Err number
Tells NoMemory answer = Unit {0}
