-- What a driver does, one thing after another: the calls of the world that it makes, the events that it steps, and what their
-- turns ask.
use Rattle.std.specs.Prelude.{◌≡◌, ◌≢◌, ◌⊎◌, ℕ, suc, true, List, [], ◌∷◌, ◌++◌, Option, Some, is_some, length, ◌≤◌}
use Rattle.std.specs.Str.{IsUtf8}
use Rattle.driver_model.specs.declared.action.Action.{Action}
use Rattle.driver_model.specs.declared.config.Config.{Config}
use Rattle.driver_model.specs.declared.event.Event.{Event}
use Rattle.driver_model.specs.declared.event.EventKind.{EventKind}
use Rattle.driver_model.specs.declared.event.EventKind.TheVariants as event
use Rattle.outside.specs.World.{LinkPutWithin}
use Rattle.outside.specs.declared.world.Call.{Call}
use Rattle.outside.specs.declared.world.Call.TheVariants as call
use Rattle.outside.specs.declared.world.Dialed.TheVariants as dialed
use Rattle.outside.specs.declared.world.LinkGot.TheVariants as got
use Rattle.outside.specs.declared.world.LinkPut.TheVariants as put
use Rattle.shared_session.specs.History.{History}
use Rattle.single_session.specs.Replay.{trace_of, AreGood, AreUnspent, is_bad_after}
use Rattle.shared_session.specs.Stops.{IsSpentBy}
use Rattle.shared_session.specs.declared.errors.StepError.{StepError}
use Rattle.shared_session.specs.declared.errors.StepError.TheVariants.{BadEvent, Spent, NoMemory}
use Rattle.shared_session.specs.declared.session.Failure.TheVariants as failure
use Rattle.live_run.specs.declared.agenda.Agenda.{Agenda}
use Rattle.live_run.specs.declared.agenda.Target.{Target}
use Rattle.live_run.specs.Agenda.{offer_of, first_due, first_generation, noted_each, answered, behind}

-- what the answer of a call is to a session: nothing where it has none, or is NotYet
abbrev pub answer_of : Call → List EventKind
answer_of (call.Dial link host port dialed.Yes) = event.Connected link ∷ []
answer_of (call.Dial link host port (dialed.Failed fault)) = event.Refused link fault ∷ []
answer_of (call.Read link room (got.Read n) bytes) = event.Bytes link bytes ∷ []
answer_of (call.Read link room got.NotYet bytes) = []
answer_of (call.Read link room got.Ended bytes) = event.Ended link ∷ []
answer_of (call.Read link room (got.Failed fault) bytes) = event.ReadFault link fault ∷ []
answer_of (call.Write link piece (put.Took n)) = event.Wrote link n ∷ []
answer_of (call.Write link piece put.NotYet) = []
answer_of (call.Write link piece (put.Failed fault)) = event.WriteFault link fault ∷ []
answer_of (call.Close link) = []
answer_of (call.Now moment) = []
answer_of (call.Word word) = []
answer_of (call.Wait ms) = []

-- the name by which a host is dialled: its text; a host that is no text has none
abbrev pub IsNameOf : List ℕ → List ℕ → Type 0
IsNameOf host name = (IsUtf8 host → name ≡ host) × ((IsUtf8 host → ⊥) → name ≡ [])

-- this link, name and port are those of the first connect
abbrev pub IsFirstOf : List Target → ℕ → List ℕ → ℕ → Type 0
IsFirstOf [] l name port = ⊥
IsFirstOf (t ∷ ts) l name port = (l ≡ t.link) × IsNameOf t.host name × (port ≡ t.port)

-- this number is the first
abbrev pub IsFirst : List ℕ → ℕ → Type 0
IsFirst [] l = ⊥
IsFirst (x ∷ xs) l = l ≡ x

-- A call of the world that asks for no word; or a timer that fires; or a number of the dial is claimed. Where an event came of it,
-- with the event's word and the actions of its turn
pub data Deed : Type 0 where
  did : Call → ℕ → List Action → Deed
  fired : ℕ → ℕ → List Action → Deed
  claim : ℕ → Deed

-- what it is to the session
abbrev pub kinds_of : Deed → List EventKind
kinds_of (did c word actions) = answer_of c
kinds_of (fired timer word actions) = event.Fired timer ∷ []
kinds_of (claim number) = []

-- a word is asked for each event
abbrev pub asked : ℕ → List EventKind → List Call
asked word [] = []
asked word (kind ∷ kinds) = call.Word word ∷ asked word kinds

abbrev pub made : ℕ → List EventKind → List Event
made word [] = []
made word (kind ∷ kinds) = record { word = word; kind = kind } ∷ made word kinds

-- its calls of the world, in order
abbrev pub calls_of : Deed → List Call
calls_of (did c word actions) = c ∷ asked word (answer_of c)
calls_of (fired timer word actions) = call.Word word ∷ []
calls_of (claim number) = []

-- the events that it steps
abbrev pub events_of : Deed → List Event
events_of (did c word actions) = made word (answer_of c)
events_of (fired timer word actions) = record { word = word; kind = event.Fired timer } ∷ []
events_of (claim number) = []

-- what the turns of its events ask
abbrev pub actions_of : Deed → List Action
actions_of (did c word actions) = actions
actions_of (fired timer word actions) = actions
actions_of (claim number) = []

abbrev pub calls_in : List Deed → List Call
calls_in [] = []
calls_in (d ∷ ds) = calls_of d ++ calls_in ds

abbrev pub events_in : List Deed → List Event
events_in [] = []
events_in (d ∷ ds) = events_of d ++ events_in ds

abbrev pub actions_in : List Deed → List Action
actions_in [] = []
actions_in (d ∷ ds) = actions_of d ++ actions_in ds

-- what is asked of the world after it
abbrev pub after : Agenda → Deed → Agenda
after a (did c word actions) = noted_each (answered a c) actions
after a (fired timer word actions) = noted_each (record a { timers = behind a.timers }) actions
after a (claim number) = record a { claimed = number }

abbrev pub after_each : Agenda → List Deed → Agenda
after_each a [] = a
after_each a (d ∷ ds) = after_each (after a d) ds

-- What may be done. The first link that is to be dialled is dialled, by the name of its host, where the dial is claimed up to its
-- generation; a link that is up is read, in a room of 65,536 bytes; the whole unanswered offer of a link that is up is written; the
-- first link that is to be closed is closed; a timer that is due fires; the next number of the dial is claimed, as far as the first
-- link that is to be dialled needs it.
abbrev pub MayCall : Agenda → Call → Type 0
MayCall a (call.Dial l host port answer) = IsFirstOf a.dials l host port × (first_generation a.dials ≤ a.claimed)
MayCall a (call.Read l room answer bytes) = (room ≡ 65_536) × (is_some (offer_of l a.links) ≡ true)
MayCall a (call.Write l piece answer) = (piece ≢ []) × (offer_of l a.links ≡ Some piece) × LinkPutWithin (length piece) answer
MayCall a (call.Close l) = IsFirst a.closes l
MayCall a (call.Now moment) = Unit {0}
MayCall a (call.Wait ms) = Unit {0}
MayCall a (call.Word word) = ⊥

abbrev pub May : Agenda → Deed → Type 0
May a (did c word actions) = MayCall a c
May a (fired timer word actions) = first_due a ≡ Some timer
May a (claim number) = (number ≡ suc a.claimed) × (number ≤ first_generation a.dials)

-- each of these may be done behind those before it
abbrev pub AllMay : Agenda → List Deed → Type 0
AllMay a [] = Unit {0}
AllMay a (d ∷ ds) = May a d × AllMay (after a d) ds

-- an answer that may come of what may be done, a timer that is due, and the shutdown
pub data MayStep (a : Agenda) : EventKind → Type 0 where
  of_call : (c : Call) → MayCall a c → (kind : EventKind) → answer_of c ≡ kind ∷ [] → MayStep a kind
  of_timer : (timer : ℕ) → first_due a ≡ Some timer → MayStep a (event.Fired timer)
  of_end : MayStep a event.Shutdown

-- what a world tells now is what it told before, and then these calls
pub record Told (old new : Option (List Call)) (calls : List Call) : Type 0 where
  pub before : (all : List Call) → new ≡ Some all → (before : List Call) × (old ≡ Some before) × (all ≡ before ++ calls)

-- the trace of a session's history
abbrev pub traced : History → List Action
traced s = trace_of s.config s.word s.events

-- no event of a session's history is bad
abbrev pub IsGood : History → Type 0
IsGood s = AreGood s.config s.word s.events

-- no step of them was spent
abbrev pub IsUnspent : History → Type 0
IsUnspent s = AreUnspent s.config s.word s.events

-- the trace gains by each of these deeds the actions of its own turn
abbrev pub AreShown : Config → ℕ → List Event → List Deed → Type 0
AreShown config word events [] = Unit {0}
AreShown config word events (d ∷ ds) = (trace_of config word (events ++ events_of d) ≡ trace_of config word events ++ actions_of d) × AreShown config word (events ++ events_of d) ds

-- The world had these calls, the history gained these events, of which none is bad and no step spent, and the trace these
-- actions. A session takes events only while it is sound.
pub record Went (old new : Option (List Call)) (before after : History) (calls : List Call) (events : List Event) (actions : List Action) : Type 0 where
  pub told : Told old new calls
  pub grown : after.events ≡ before.events ++ events
  pub config : after.config ≡ before.config
  pub word : after.word ≡ before.word
  pub shown : traced after ≡ traced before ++ actions
  pub good : IsGood before → IsGood after
  pub unspent : IsUnspent before → IsUnspent after
  pub same_failure : after.failure ≡ before.failure
  pub sound : (before.failure ≡ failure.Sound) ⊎ (events ≡ [])

-- some deeds were done that may be done, and nothing else; they are as `form` says, and lead from this agenda to that
pub record Does (old new : Option (List Call)) (before after : History) (a b : Agenda) (Form : List Deed → Type 0) : Type 0 where
  pub deeds : List Deed
  pub went : Went old new before after (calls_in deeds) (events_in deeds) (actions_in deeds)
  pub shown : AreShown before.config before.word before.events deeds
  pub may : AllMay a deeds
  pub leads : b ≡ after_each a deeds
  pub form : Form deeds

-- why an event was not taken: it is bad; the session's numbers had run out before, or run out by it; or memory was refused
abbrev pub IsWhy : StepError → History → Agenda → Type 0
IsWhy BadEvent s a = (e : Event) × MayStep a e.kind × (is_bad_after s.config s.word s.events e ≡ true)
IsWhy (Spent n) s a = (n ≡ length s.events) × ((s.failure ≡ failure.Spent) ⊎ ((e : Event) × MayStep a e.kind × IsSpentBy s e))
IsWhy NoMemory s a = Unit {0}

-- deeds were done that may be done, and then the answer of one call, or the step of an event, was refused
pub record Broke (error : StepError) (old new : Option (List Call)) (before after : History) (a : Agenda) : Type 0 where
  pub last : History
  pub deeds : List Deed
  pub lost : List Call
  pub few : length lost ≤ 2
  pub went : Went old new before last (calls_in deeds ++ lost) (events_in deeds) (actions_in deeds)
  pub shown : AreShown before.config before.word before.events deeds
  pub may : AllMay a deeds
  pub why : IsWhy error last (after_each a deeds)
  pub kept : after ≡ record last { failure = after.failure }
