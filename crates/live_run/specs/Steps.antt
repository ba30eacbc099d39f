-- What the step of an event comes to, and what an answer comes to.
use Rattle.std.specs.Prelude.{◌≡◌, ◌⊎◌, ℕ, true, List, [], ◌∷◌, Option, Some, None, length}
use Rattle.driver_model.specs.declared.action.Action.{Action}
use Rattle.driver_model.specs.declared.event.Event.{Event}
use Rattle.driver_model.specs.declared.event.EventKind.{EventKind}
use Rattle.outside.specs.declared.world.Call.{Call}
use Rattle.outside.specs.declared.world.Call.TheVariants as call
use Rattle.shared_session.specs.History.{History}
use Rattle.single_session.specs.Replay.{is_bad_after}
use Rattle.shared_session.specs.Stops.{IsSpentBy}
use Rattle.shared_session.specs.declared.errors.StepError.{StepError}
use Rattle.shared_session.specs.declared.errors.StepError.TheVariants.{BadEvent, Spent, NoMemory}
use Rattle.shared_session.specs.declared.session.Failure.TheVariants as failure
use Rattle.live_run.specs.declared.agenda.Agenda.{Agenda}
use Rattle.live_run.specs.declared.agenda.Target.{Target}
use Rattle.live_run.specs.Agenda.{noted_each}
use Rattle.live_run.specs.Closing.{close_calls}
use Rattle.live_run.specs.Deeds.{Deed, Told, Went, asked, made}
use Rattle.live_run.specs.Driven.{shutdown}

abbrev pub kinds_in : Option EventKind → List EventKind
kinds_in None = []
kinds_in (Some kind) = kind ∷ []

-- a word was asked for, and its event was taken
pub record Stepped (old new : Option (List Call)) (before after : History) (kind : EventKind) (actions : List Action) : Type 0 where
  pub asked_word : ℕ
  pub went : Went old new before after (call.Word asked_word ∷ []) (record { word = asked_word; kind = kind } ∷ []) actions

-- why the event was not taken
abbrev pub Refuses : StepError → History → Event → Type 0
Refuses BadEvent s e = is_bad_after s.config s.word s.events e ≡ true
Refuses (Spent n) s e = (n ≡ length s.events) × ((s.failure ≡ failure.Spent) ⊎ IsSpentBy s e)
Refuses NoMemory s e = Unit {0}

-- a word was asked for, and its event was not taken
pub record Refused (error : StepError) (old new : Option (List Call)) (before after : History) (kind : EventKind) : Type 0 where
  pub asked_word : ℕ
  pub told : Told old new (call.Word asked_word ∷ [])
  pub why : Refuses error before (record { word = asked_word; kind = kind })
  pub kept : after ≡ record before { failure = after.failure }

-- what came of an answer was stepped, if anything did, and what its turn asks was noted
pub record Settled (old new : Option (List Call)) (before after : History) (kinds : List EventKind) (a b : Agenda) : Type 0 where
  pub asked_word : ℕ
  pub actions : List Action
  pub went : Went old new before after (asked asked_word kinds) (made asked_word kinds) actions
  pub leads : b ≡ noted_each a actions

-- its step was refused, or memory to note what its turn asks
pub data Unsettled (error : StepError) (old new : Option (List Call)) (before after : History) (kinds : List EventKind) : Type 0 where
  refused : (kind : EventKind) → kinds ≡ kind ∷ [] → Refused error old new before after kind → Unsettled error old new before after kinds
  unnoted : (word : ℕ) → (actions : List Action) → error ≡ NoMemory → Went old new before after (asked word kinds) (made word kinds) actions → Unsettled error old new before after kinds

-- this link is the first that is to be dialled
abbrev pub to_dial : Target → Agenda → Agenda
to_dial t a = record a { dials = t ∷ a.dials }

-- one deed, and nothing else
abbrev pub One : (Deed → Type 0) → List Deed → Type 0
One Is ds = (d : Deed) × (ds ≡ d ∷ []) × Is d

-- the session was shut down, and then each link was closed that was left
pub record IsEnd (old new : Option (List Call)) (before after : History) (left : List ℕ) : Type 0 where
  pub asked_word : ℕ
  pub actions : List Action
  pub went : Went old new before after (call.Word asked_word ∷ close_calls left) (shutdown asked_word ∷ []) actions
