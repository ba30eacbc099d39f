-- When a run is over.
use Rattle.std.specs.Prelude.{◌≡◌, ℕ, ◌+◌, ◌<◌, ◌≤◌, List, [], ◌∷◌, ◌++◌, Option, Some, None, length, max}
use Rattle.driver_model.specs.declared.event.Event.{Event}
use Rattle.live_run.specs.declared.ending.Ending.{Ending}
use Rattle.live_run.specs.declared.ending.Ending.TheVariants.{Answered, Idle, Full}
use Rattle.shared_session.specs.History.{History}
use Rattle.single_session.specs.Replay.{outcome_at, outcomes_in, trace_of}

-- how many events a history holds at most before its shutdown
abbrev pub most_events : ℕ
most_events = 9_999_999

-- the submission has no outcome yet
abbrev pub IsOpen : History → ℕ → Type 0
IsOpen s n = outcome_at (outcomes_in (trace_of s.config s.word s.events)) n ≡ None

-- each of so many submissions has its outcome
abbrev pub AreAnswered : History → ℕ → Type 0
AreAnswered s count = (n : ℕ) → n < count → IsOpen s n → ⊥

-- the history isn't full, and some submission has no outcome yet
pub record IsGoing (s : History) (count : ℕ) : Type 0 where
  pub room : length s.events < most_events
  pub open_one : ℕ
  pub asked : open_one < count
  pub is_open : IsOpen s open_one

-- before each of these events, one after another, the run was still going
abbrev pub AreGoing : History → ℕ → List Event → Type 0
AreGoing s count [] = Unit {0}
AreGoing s count (e ∷ es) = IsGoing s count × AreGoing (record s { events = s.events ++ e ∷ [] }) count es

-- a session has taken events, and the run was still going before each of them
pub record Goes (before after : History) (count : ℕ) : Type 0 where
  pub gained : List Event
  pub grown : after.events ≡ before.events ++ gained
  pub config : after.config ≡ before.config
  pub word : after.word ≡ before.word
  pub going : AreGoing before count gained

-- a session has no more events than it had and one, or than a history may have before its shutdown, or it had
abbrev pub GainsOne : History → History → Type 0
GainsOne before after = length after.events ≤ length before.events + 1

abbrev pub StaysWithin : History → History → Type 0
StaysWithin before after = length after.events ≤ max most_events (length before.events)

-- why a run is over before its passes are all idle, if it is
abbrev pub Over : Option Ending → History → ℕ → Type 0
Over None s count = Unit {0}
Over (Some Answered) s count = AreAnswered s count
Over (Some Full) s count = most_events ≤ length s.events
Over (Some Idle) s count = ⊥
