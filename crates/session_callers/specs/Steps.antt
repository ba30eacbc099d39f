-- What one step of the session is to the callers.
use Rattle.std.specs.Prelude.{◌≡◌, ◌≢◌, List, [], ◌∷◌, ◌++◌, length, true, false}
use Rattle.driver_model.specs.declared.action.Action.{Action}
use Rattle.driver_model.specs.declared.event.Event.{Event}
use Rattle.shared_session.specs.History.{History}
use Rattle.single_session.specs.Turn.{actions_of}
use Rattle.single_session.specs.Replay.{state_after, is_bad_after, is_spent_after}
use Rattle.shared_session.specs.declared.errors.StepError.{StepError}
use Rattle.shared_session.specs.declared.errors.StepError.TheVariants.{BadEvent, Spent, NoMemory}
use Rattle.shared_session.specs.declared.session.Failure.TheVariants as failure
use Rattle.session_callers.specs.declared.board.Home.{Home}
use Rattle.session_callers.specs.Rule.{MaySpend, Grows, submissions_in}

-- the number of submissions beside the session is that of its history, and it may be spent only where a step would be
pub record IsCounted (h : Home) : Type 0 where
  pub submissions : h.submissions ≡ submissions_in h.session.events
  pub spent : MaySpend h.session.config h.session.word h.session.events h.session.failure

-- the session has taken one event more, or none; once it has failed, it stays as it is
pub record Stepped (h k : Home) : Type 0 where
  pub config : (k.session.config ≡ h.session.config) × (k.session.word ≡ h.session.word)
  pub grows : Grows h.session.events k.session.events
  pub kept : h.session.failure ≢ failure.Sound → (k.session.failure ≡ h.session.failure) × (k.session.events ≡ h.session.events)
  pub made : k.made ≡ h.made
  pub counted : IsCounted k

-- the session has taken this event, and shows its turn
pub record HasTaken (h k : Home) (event : Event) (before after : List Action) : Type 0 where
  pub events : k.session.events ≡ h.session.events ++ event ∷ []
  pub sound : k.session.failure ≡ failure.Sound
  pub good : is_bad_after h.session.config h.session.word h.session.events event ≡ false
  pub unspent : is_spent_after h.session.config h.session.word h.session.events event ≡ false
  pub actions : after ≡ before ++ actions_of (state_after h.session.config h.session.word h.session.events) event

-- the event is bad; or numbers have run out, after so many events; or memory was refused
abbrev pub IsRefused : StepError → History → Event → Type 0
IsRefused BadEvent s event = (s.failure ≡ failure.Sound) × (is_bad_after s.config s.word s.events event ≡ true)
IsRefused (Spent n) s event = (s.failure ≡ failure.Spent) × (n ≡ length s.events)
IsRefused NoMemory s event = s.failure ≡ failure.NoMemory

-- nothing was taken, and why
pub record HasRefused (error : StepError) (h k : Home) (event : Event) (before after : List Action) : Type 0 where
  pub events : k.session.events ≡ h.session.events
  pub why : IsRefused error k.session event
  pub actions : after ≡ before
