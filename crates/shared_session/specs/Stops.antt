-- Where a replay stopped, and what it had shown by then.
use Rattle.std.specs.Prelude.{◌≡◌, ◌⊎◌, ℕ, ◌≤◌, true, false, List, ◌++◌, length, take, Some, slice_get}
use Rattle.driver_model.specs.declared.action.Action.{Action}
use Rattle.driver_model.specs.declared.config.Config.{Config}
use Rattle.driver_model.specs.declared.event.Event.{Event}
use Rattle.shared_session.specs.declared.errors.ReplayError.{ReplayError}
use Rattle.shared_session.specs.declared.errors.ReplayError.TheVariants as error
use Rattle.driver_model.specs.Config.{first_fault}
use Rattle.single_session.specs.Replay.{trace_of, AreGood, AreUnspent, is_bad_after, is_spent_after}
use Rattle.shared_session.specs.History.{History}
use Rattle.shared_session.specs.declared.session.Failure.TheVariants.{Sound}

-- the turns of the first n events were shown, behind what stood there before; none of these events is bad, and
-- none of their steps is spent
pub record Shown (config : Config) (word : ℕ) (events : List Event) (before after : List Action) (n : ℕ) : Type 0 where
  pub within : n ≤ length events
  pub shown : after ≡ before ++ trace_of config word (take n events)
  pub good : AreGood config word (take n events)
  pub unspent : AreUnspent config word (take n events)

-- the event at n is bad
pub record IsBadAt (config : Config) (word : ℕ) (events : List Event) (n : ℕ) : Type 0 where
  pub event : Event
  pub stands : slice_get events n ≡ Some event
  pub bad : is_bad_after config word (take n events) event ≡ true

-- the event at n isn't bad, and its step is spent
pub record IsSpentAt (config : Config) (word : ℕ) (events : List Event) (n : ℕ) : Type 0 where
  pub event : Event
  pub stands : slice_get events n ≡ Some event
  pub good : is_bad_after config word (take n events) event ≡ false
  pub spent : is_spent_after config word (take n events) event ≡ true

-- the session hasn't failed, the event isn't bad, and its step is spent
pub record IsSpentBy (s : History) (e : Event) : Type 0 where
  pub sound : s.failure ≡ Sound
  pub good : is_bad_after s.config s.word s.events e ≡ false
  pub spent : is_spent_after s.config s.word s.events e ≡ true

-- a bad event, or a spent step: the turns before it were shown. A configuration that is refused: nothing was shown. Want of
-- memory: the finished turns were shown
abbrev pub Stops : ReplayError → Config → ℕ → List Event → List Action → List Action → Type 0
Stops (error.BadEvent n) config word events before after = Shown config word events before after n × IsBadAt config word events n
Stops (error.Spent n) config word events before after = Shown config word events before after n × IsSpentAt config word events n
Stops (error.Config name) config word events before after = (after ≡ before) × (first_fault config ≡ Some name)
Stops error.NoMemory config word events before after = (after ≡ before) ⊎ ((n : ℕ) × Shown config word events before after n)
