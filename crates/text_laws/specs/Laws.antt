-- The laws of a trace's text, each as one statement.
use Rattle.std.specs.Prelude.{◌≡◌, ℕ, List, Some, Ok}
use Rattle.driver_model.specs.declared.config.Config.{Config}
use Rattle.driver_model.specs.declared.event.Event.{Event}
use Rattle.script_text.specs.Script.{script_of}
use Rattle.script_text.specs.declared.script.Script.{Script}
use Rattle.single_session.specs.Replay.{trace_of, AreGood}
use Rattle.trace_text.specs.Show.{show}
use Rattle.text_laws.specs.Fits.{AreBytes, FitsHistory, HaveForms}
use Rattle.text_laws.specs.History.{history_of}

-- the text of a replay's trace
abbrev pub text_of : Config → ℕ → List Event → List ℕ
text_of config word events = show (trace_of config word events)

-- the text of the trace tells the history that the replay is of
abbrev pub TellsHistory : Config → ℕ → List Event → Type 0
TellsHistory config word events =
    history_of (text_of config word events) ≡ Some (record { config = config; word = word; events = events })

-- so it does for each history that the types hold, and in which no event is bad
abbrev pub GoodAreTold : Type 0
GoodAreTold =
    (config : Config) (word : ℕ) (events : List Event) → FitsHistory config word events → AreGood config word events
    → TellsHistory config word events

-- also where an event is bad, if no submission is without a form
abbrev pub AllWithFormsAreTold : Type 0
AllWithFormsAreTold =
    (config : Config) (word : ℕ) (events : List Event) → FitsHistory config word events → HaveForms config events
    → TellsHistory config word events

-- two traces are equal if their texts are
abbrev pub OneText : Config → ℕ → List Event → Config → ℕ → List Event → Type 0
OneText config word events config' word' events' =
    text_of config word events ≡ text_of config' word' events'
    → trace_of config word events ≡ trace_of config' word' events'

-- so it is for histories that the types hold, and in which no event is bad
abbrev pub OneTextOfGood : Type 0
OneTextOfGood =
    (config config' : Config) (word word' : ℕ) (events events' : List Event)
    → FitsHistory config word events → AreGood config word events
    → FitsHistory config' word' events' → AreGood config' word' events'
    → OneText config word events config' word' events'

-- also where an event is bad, if no submission is without a form
abbrev pub OneTextWithForms : Type 0
OneTextWithForms =
    (config config' : Config) (word word' : ℕ) (events events' : List Event)
    → FitsHistory config word events → HaveForms config events
    → FitsHistory config' word' events' → HaveForms config' events'
    → OneText config word events config' word' events'

-- and so of any two scripts
abbrev pub OneTextOfScripts : Type 0
OneTextOfScripts =
    (a b : List ℕ) (s t : Script) → AreBytes a → AreBytes b → script_of a ≡ Ok s → script_of b ≡ Ok t
    → OneText s.config s.word s.events t.config t.word t.events

-- scripts whose traces have the same text are equal
abbrev pub OneScript : Type 0
OneScript =
    (a b : List ℕ) (s t : Script) → AreBytes a → AreBytes b → script_of a ≡ Ok s → script_of b ≡ Ok t
    → text_of s.config s.word s.events ≡ text_of t.config t.word t.events → s ≡ t
