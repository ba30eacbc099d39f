-- The record of a session: its history as the text of a script.
use Rattle.std.specs.Prelude.{◌≡◌, ℕ, List, Ok, false}
use Rattle.run_record.specs.declared.recording.RecordError.{RecordError}
use Rattle.run_record.specs.declared.recording.RecordError.TheVariants.{NoScript, NoMemory}
use Rattle.script_text.specs.Limits.{keeps_limits}
use Rattle.script_text.specs.Script.{script_of}
use Rattle.shared_session.specs.History.{History}
use Rattle.text_laws.specs.Fits.{HaveForms}
use Rattle.text_laws.specs.Records.{record_text}

-- this text is a script, and it is of this history: the replay of the one is the replay of the other
abbrev pub IsRecordOf : List ℕ → History → Type 0
IsRecordOf text h = script_of text ≡ Ok (record { config = h.config; word = h.word; events = h.events })

-- a submission of the history has no form, or else its text passes a limit of scripts
abbrev pub HasNoRecord : History → Type 0
HasNoRecord h = HaveForms h.config h.events → keeps_limits (record_text h.config h.word h.events) ≡ false

-- only a history that has none is told to have none
abbrev pub IsCause : History → RecordError → Type 0
IsCause h NoScript = HasNoRecord h
IsCause h NoMemory = Unit {0}
