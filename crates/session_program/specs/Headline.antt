-- What a finished replay gives its callers, said of its trace; and so does a script that is made.
use Rattle.std.specs.Prelude.{◌≡◌, ℕ, List, Ok, take}
use Rattle.driver_model.specs.declared.action.Action.{Action}
use Rattle.driver_model.specs.declared.config.Config.{Config}
use Rattle.driver_model.specs.declared.event.Event.{Event}
use Rattle.script_text.specs.Script.{script_of}
use Rattle.script_text.specs.declared.script.Script.{Script}
use Rattle.single_session.specs.Replay.{trace_of, AreGood}
use Rattle.text_laws.specs.Fits.{FitsHistory, HaveForms}
use Rattle.trace_text.specs.Show.{show}
use Rattle.legal_trace.specs.Ledger.{stream, joined}
use Rattle.legal_trace.specs.Book.{blank_book, book}
use Rattle.legal_trace.specs.Legal.{AllStand, IsSettled, Legal}
use Rattle.legal_laws.specs.Answers.{AnswersOnce, AnswersAll}
use Rattle.legal_laws.specs.Links.{IsPrefix}
use Rattle.legal_laws.specs.Segments.{AreInOrder}

-- the bytes that each link took, and then those offered to it, are the first of the messages that started there
abbrev pub IsInOrder : List Action → Type 0
IsInOrder trace = (l : ℕ) → let link = (book trace).link l in IsPrefix (stream link) (joined link.starts)

-- each action stands where it may: each start, offer, wait and close, and each outcome with its cause; and those of each
-- turn stand segment by segment
pub record IsInPlace (trace : List Action) : Type 0 where
  pub each : AllStand blank_book trace
  pub segments : AreInOrder 0 blank_book trace each

-- after its last turn all is settled
abbrev pub EndsSettled : List Action → Type 0
EndsSettled trace = IsSettled (book trace)

-- a history of which the types hold, and whose replay has the text of this trace, has this trace
abbrev pub TellsTrace : List Action → Config → ℕ → List Event → Type 0
TellsTrace trace config word events =
    FitsHistory config word events → show (trace_of config word events) ≡ show trace → trace_of config word events ≡ trace

-- no other trace of a replay has the same text, of all histories that the types hold, and in which no event is bad; also where an
-- event is bad, if no submission is without a form
pub record HasOwnText (trace : List Action) : Type 0 where
  pub of_good : (config : Config) (word : ℕ) (events : List Event) → AreGood config word events → TellsTrace trace config word events
  pub also_of_bad : (config : Config) (word : ℕ) (events : List Event) → HaveForms config events → TellsTrace trace config word events

-- the trace of a script's first events is a legal one of them
abbrev pub IsLegalUpTo : Script → ℕ → Type 0
IsLegalUpTo script index =
    let taken = take index script.events in
    Legal script.config script.word taken (trace_of script.config script.word taken)

-- the headline: what holds of the trace of a history that was taken to its end
pub record HeadlineOf (config : Config) (word : ℕ) (events : List Event) : Type 0 where
  pub legal : Legal config word events (trace_of config word events)
  pub in_order : IsInOrder (trace_of config word events)
  pub in_place : IsInPlace (trace_of config word events)
  pub settled : EndsSettled (trace_of config word events)
  pub answers_once : AnswersOnce (trace_of config word events)
  pub answers_all : AnswersAll (trace_of config word events)
  pub one_trace : HasOwnText (trace_of config word events)

-- these bytes are a script, and that holds where its replay is done
pub record Headline (bytes : List ℕ) : Type 0 where
  pub script : Script
  pub reads : script_of bytes ≡ Ok script
  pub of : HeadlineOf script.config script.word script.events
