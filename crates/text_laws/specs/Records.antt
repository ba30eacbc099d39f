-- A history as the text of a script, and what a reader finds there.
use Rattle.std.specs.Prelude.{◌≡◌, ℕ, List, ◌++◌, flat_map, codes, Ok, IsErr}
use Rattle.std.specs.Bool.{MatchBool}
use Rattle.driver_model.specs.declared.action.Cause.TheVariants as cause
use Rattle.driver_model.specs.declared.config.Config.{Config}
use Rattle.driver_model.specs.declared.event.Event.{Event}
use Rattle.script_text.specs.Limits.{keeps_limits}
use Rattle.script_text.specs.Script.{script_of}
use Rattle.trace_text.specs.Show.{script_line}
use Rattle.text_laws.specs.Fits.{FitsHistory, HaveForms}

-- the lines of events
abbrev pub event_lines : List Event → List ℕ
event_lines events = flat_map (λ e. script_line (cause.Event e)) events

-- the script of a history
abbrev pub record_text : Config → ℕ → List Event → List ℕ
record_text config word events = script_line (cause.Opening config word) ++ event_lines events ++ codes "end\n"

-- where its text keeps the limits of scripts, it is read as that history, and else it is no script
abbrev pub TellsRecord : Config → ℕ → List Event → Type 0
TellsRecord config word events =
    MatchBool (keeps_limits (record_text config word events))
    (script_of (record_text config word events) ≡ Ok (record { config = config; word = word; events = events }))
    (IsErr (script_of (record_text config word events)))

-- so it is for each history that the types hold, if no submission is without a form
abbrev pub RecordsAreTold : Type 0
RecordsAreTold = (config : Config) (word : ℕ) (events : List Event) → FitsHistory config word events → HaveForms config events → TellsRecord config word events
