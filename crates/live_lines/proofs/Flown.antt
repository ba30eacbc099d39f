-- A live run, of what was submitted and what was driven.
use Rattle.std.proofs.Common.{◌≡◌, ℕ, false, List, Option, length, subst}
use Rattle.caller_threads.specs.Submits.{Line}
use Rattle.driver_model.specs.Config.{wants_credentials}
use Rattle.driver_model.specs.declared.action.Action.{Action}
use Rattle.live_run.specs.Agenda.{agenda_of}
use Rattle.live_run.specs.Deeds.{Broke}
use Rattle.live_run.specs.Driven.{DrivenWith}
use Rattle.outside.specs.World.{Adds}
use Rattle.outside.specs.declared.world.Call.{Call}
use Rattle.outside.specs.declared.world.Call.TheVariants as call
use Rattle.shared_session.specs.History.{History}
use Rattle.single_session.specs.Replay.{IsSound, trace_of}
use Rattle.shared_session.specs.declared.errors.StepError.{StepError}
use Rattle.live_lines.specs.Flights.{AreSubmitted, BrokeOff, IsFlight}
use Rattle.live_lines.specs.declared.flying.Flight.{Flight}
use Rattle.live_lines.specs.declared.planning.Plan.{Plan}

pub flown : {old middle new : Option (List Call)} (plan : Plan) (lines : List Line) (f : Flight) (word count : ℕ) (actions : List Action) (opened : History) → IsSound plan.config → wants_credentials plan.config ≡ false
    → Adds old middle (call.Word word) → AreSubmitted plan word lines f.numbers.items opened → actions ≡ trace_of plan.config word opened.events → count ≡ length lines
    → DrivenWith f.keeper actions middle new opened f.session count f.ending → IsFlight plan lines old new f
flown {middle = middle} {new = new} plan lines f word count actions opened sound bare asked submitted told counted driven = record {
  sound = sound;
  bare = bare;
  middle = middle;
  word = word;
  asked = asked;
  opened = opened;
  submitted = submitted;
  driven = subst (λ (n : ℕ). DrivenWith f.keeper (trace_of plan.config word opened.events) middle new opened f.session n f.ending) counted
      (subst (λ (xs : List Action). DrivenWith f.keeper xs middle new opened f.session count f.ending) told driven);
}

-- one that broke off
pub broke_off : {old middle new : Option (List Call)} (plan : Plan) (lines : List Line) (word : ℕ) (numbers : List ℕ) (actions : List Action) (error : StepError) (opened later : History)
    → Adds old middle (call.Word word) → AreSubmitted plan word lines numbers opened → actions ≡ trace_of plan.config word opened.events → Broke error middle new opened later (agenda_of actions) → BrokeOff plan lines old new error
broke_off {middle = middle} {new = new} plan lines word numbers actions error opened later asked submitted told broke = record {
  word = word;
  middle = middle;
  asked = asked;
  numbers = numbers;
  opened = opened;
  submitted = submitted;
  later = later;
  broke = subst (λ (xs : List Action). Broke error middle new opened later (agenda_of xs)) told broke;
}
