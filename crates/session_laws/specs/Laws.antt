-- The laws of sessions, each as one statement.
use Rattle.std.specs.Prelude.{◌≡◌, ℕ, false, true, List, [], ◌∷◌, ◌++◌}
use Rattle.driver_model.specs.declared.action.Cause.TheVariants as cause
use Rattle.driver_model.specs.declared.config.Config.{Config}
use Rattle.driver_model.specs.declared.event.Event.{Event}
use Rattle.single_session.specs.Replay.{IsSound, trace_of, outcomes_in, outcome_at}
use Rattle.single_session.specs.Replay.{AreGood, AreUnspent, is_bad_after, is_spent_after}
use Rattle.legal_trace.specs.Book.{Book, blank_book, book}
use Rattle.legal_trace.specs.Events.{is_bad_event, HasRunOut}
use Rattle.legal_trace.specs.Legal.{AllStand, Legal, causes, event_causes}
use Rattle.session_laws.specs.Outcomes.{last_outcome}

-- the book of the trace of a history
abbrev pub book_of : Config → ℕ → List Event → Book
book_of config word events = book (trace_of config word events)

-- the trace of each history of a sound configuration without a bad event, and in which no step is spent, is legal
abbrev pub ReplaysAreLegal : Type 0
ReplaysAreLegal =
    (config : Config) (word : ℕ) (events : List Event) → IsSound config → AreGood config word events → AreUnspent config word events
    → Legal config word events (trace_of config word events)

-- behind such a history the bad events are those that the book of its trace says are
abbrev pub BadByTheBook : Type 0
BadByTheBook =
    (config : Config) (word : ℕ) (events : List Event) (e : Event) → IsSound config
    → AreGood config word events → AreUnspent config word events
    → is_bad_after config word events e ≡ is_bad_event (book_of config word events) e.kind

-- what the outcome actions of a trace say of a submission is the last outcome of its story
abbrev pub OutcomesByTheBook : Type 0
OutcomesByTheBook =
    (config : Config) (word : ℕ) (events : List Event) (n : ℕ) → IsSound config
    → AreGood config word events → AreUnspent config word events
    → outcome_at (outcomes_in (trace_of config word events)) n
    ≡ last_outcome ((book_of config word events).story n).outcomes

-- the trace of a history has a turn for each event, and its actions stand where they may
pub record AreTurnsOf (config : Config) (word : ℕ) (events : List Event) : Type 0 where
  pub turns : causes (trace_of config word events) ≡ cause.Opening config word ∷ event_causes events
  pub each : AllStand blank_book (trace_of config word events)

-- so it is of such a history with one more good event, whose step may be spent
abbrev pub SpentStands : Type 0
SpentStands =
    (config : Config) (word : ℕ) (events : List Event) (e : Event) → IsSound config
    → AreGood config word events → AreUnspent config word events
    → is_bad_after config word events e ≡ false → AreTurnsOf config word (events ++ e ∷ [])

-- by the end of the turn of a step that is spent, numbers of a sort have run out
abbrev pub SpentHasRunOut : Type 0
SpentHasRunOut =
    (config : Config) (word : ℕ) (events : List Event) (e : Event) → IsSound config
    → AreGood config word events → AreUnspent config word events
    → is_bad_after config word events e ≡ false → is_spent_after config word events e ≡ true
    → HasRunOut (book_of config word (events ++ e ∷ []))

-- and the step of a good event is spent where they have
abbrev pub RunOutIsSpent : Type 0
RunOutIsSpent =
    (config : Config) (word : ℕ) (events : List Event) (e : Event) → IsSound config
    → AreGood config word events → AreUnspent config word events
    → is_bad_after config word events e ≡ false → HasRunOut (book_of config word (events ++ e ∷ []))
    → is_spent_after config word events e ≡ true
