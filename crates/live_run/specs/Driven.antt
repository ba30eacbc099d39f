-- What a whole run is.
use Rattle.std.specs.Prelude.{◌≡◌, ℕ, ◌+◌, ◌≤◌, List, [], ◌∷◌, ◌++◌, Option, length}
use Rattle.driver_model.specs.declared.action.Action.{Action}
use Rattle.driver_model.specs.declared.event.Event.{Event}
use Rattle.driver_model.specs.declared.event.EventKind.TheVariants as event
use Rattle.outside.specs.declared.world.Call.{Call}
use Rattle.outside.specs.declared.world.Call.TheVariants as call
use Rattle.session_callers.specs.Calls.{Kept}
use Rattle.shared_session.specs.History.{History}
use Rattle.live_run.specs.declared.agenda.Agenda.{Agenda}
use Rattle.live_run.specs.declared.ending.Ending.{Ending}
use Rattle.live_run.specs.declared.ending.Ending.TheVariants.{Answered, Idle, Full}
use Rattle.live_run.specs.Agenda.{agenda_of}
use Rattle.live_run.specs.Claims.{HasClaimed}
use Rattle.live_run.specs.Deeds.{Deed, Told, AllMay, AreShown, IsGood, IsUnspent, after_each, calls_in, events_in}
use Rattle.live_run.specs.Passes.{AreRounds, EndsIdle}
use Rattle.live_run.specs.Closing.{close_calls, downs, times, ups}
use Rattle.live_run.specs.Endings.{AreAnswered, AreGoing, most_events}
use Rattle.live_run.specs.Events.{answers_in, words_in, untimed_in, words_of}

-- the shutdown
abbrev pub shutdown : ℕ → Event
shutdown word = record { word = word; kind = event.Shutdown }

-- why a run ended, by the session before its shutdown, and by what was done in its passes
abbrev pub Ends : Ending → History → ℕ → Agenda → List Deed → Type 0
Ends Answered s count a deeds = AreAnswered s count
Ends Full s count a deeds = most_events ≤ length s.events
Ends Idle s count a deeds = EndsIdle 6_000 a deeds

-- the passes of a run that ended so
pub record Ran (ending : Ending) (s : History) (count : ℕ) (a : Agenda) (deeds : List Deed) : Type 0 where
  pub rounds : AreRounds a deeds
  pub cause : Ends ending s count a deeds

-- Passes, one after another, over what the actions of the session ask, these before the first pass, until the run is over; then
-- the shutdown, and then each link is closed that the world has connected and not closed.
pub record Driven (early : List Action) (old new : Option (List Call)) (before after : History) (count : ℕ) (ending : Ending) : Type 0 where
  -- the session before its shutdown
  pub last : History
  -- what was done in the passes, the word of the shutdown, and the links that are closed after it
  pub deeds : List Deed
  pub word : ℕ
  pub closes : List ℕ
  pub told : Told old new (calls_in deeds ++ (call.Word word ∷ close_calls closes))
  pub grown : last.events ≡ before.events ++ events_in deeds
  pub ended : after.events ≡ last.events ++ shutdown word ∷ []
  pub config : last.config ≡ before.config
  pub config_after : after.config ≡ before.config
  pub opening : last.word ≡ before.word
  pub opening_after : after.word ≡ before.word
  -- the deeds have the actions of the trace of their events, turn by turn; none of them is bad, and no step of them spent
  pub shown : AreShown before.config before.word before.events deeds
  pub good : IsGood before → IsGood after
  pub unspent : IsUnspent before → IsUnspent after
  -- each deed may be done behind those before it
  pub may : AllMay (agenda_of early) deeds
  pub rounds : AreRounds (agenda_of early) deeds
  -- the run was still going before each of their events
  pub going : AreGoing before count (events_in deeds)
  pub left : closes ≡ (after_each (agenda_of early) deeds).closes ++ (after_each (agenda_of early) deeds).unclosed
  -- each link is closed as often as a dial of it answered Yes
  pub even : (n : ℕ) → ups n deeds ≡ downs n deeds + times n closes
  pub cause : Ends ending last count (agenda_of early) deeds
  -- none of the answers is left out, and each event has the word that was told for it
  pub answers : untimed_in (events_in deeds) ≡ answers_in (calls_in deeds)
  pub words : words_of (events_in deeds) ≡ words_in (calls_in deeds)

-- A run, and how far this keeper has claimed the dial behind it: as far as the deeds of the run have. Before a link is dialled the
-- number of its generation is claimed, and each below it
pub record DrivenWith (keeper : Kept) (early : List Action) (old new : Option (List Call)) (before after : History) (count : ℕ) (ending : Ending) : Type 0 where
  pub run : Driven early old new before after count ending
  pub claims : HasClaimed (after_each (agenda_of early) run.deeds).claimed keeper
