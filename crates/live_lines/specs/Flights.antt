-- What a live run is: callers submit its lines, and then the session is driven over the world until it ends.
use mathlib.Core.List.{IsPrefix}
use Rattle.std.specs.Prelude.{◌≡◌, ◌⊎◌, ℕ, ◌<◌, ◌≤◌, false, List, [], length, max, Option, Some, None}
use Rattle.caller_threads.specs.declared.job.Turn.{Turn}
use Rattle.caller_threads.specs.Submits.{Line, AreTurnsOf, event_of, places_of, numbers_of}
use Rattle.driver_model.specs.declared.config.Config.{Config}
use Rattle.driver_model.specs.Config.{wants_credentials}
use Rattle.driver_model.specs.declared.event.Event.{Event}
use Rattle.live_lines.specs.declared.flying.Flight.{Flight}
use Rattle.live_lines.specs.declared.flying.FlightError.{FlightError}
use Rattle.live_lines.specs.declared.flying.FlightError.TheVariants as flight
use Rattle.live_lines.specs.declared.planning.Plan.{Plan}
use Rattle.live_lines.specs.Plans.{refused_of}
use Rattle.live_run.specs.Agenda.{agenda_of}
use Rattle.live_run.specs.Deeds.{Broke}
use Rattle.live_run.specs.Driven.{DrivenWith}
use Rattle.outside.specs.World.{Adds}
use Rattle.outside.specs.declared.world.Call.{Call}
use Rattle.outside.specs.declared.world.Call.TheVariants as call
use Rattle.session_callers.specs.Calls.{Known}
use Rattle.session_callers.specs.Closes.{IsUndialled}
use Rattle.caller_threads.specs.Lines.{share}
use Rattle.session_callers.specs.Rule.{times, total, below, Ascends, Each, MaySpend, SpendsNext}
use Rattle.shared_session.specs.History.{History}
use Rattle.single_session.specs.Replay.{AreGood, AreUnspent, IsSound, trace_of}
use Rattle.shared_session.specs.declared.errors.StepError.{StepError}
use Rattle.shared_session.specs.declared.errors.StepError.TheVariants.{BadEvent, Spent, NoMemory}

-- a caller of a session of this configuration and word, which has submitted and dialled nothing
abbrev pub IsBare : Config → ℕ → Known → Type 0
IsBare config word c = (c.view.config ≡ config) × (c.view.word ≡ word) × (c.view.mine ≡ []) × IsUndialled c

-- how many callers a plan has: one at least
abbrev pub callers_of : Plan → ℕ
callers_of plan = max 1 plan.callers

-- the event hands in a line
abbrev pub IsOfLine : Event → Type 0
IsOfLine e = (line : Line) × (e ≡ event_of line)

-- The callers of a plan have submitted these lines and nothing else: each line stands in the history at the place of its turn,
-- with the number that it was given; each place of the history is that of one line; the lines of one caller, line i being that
-- of caller i modulo their number, stand there in their order; none of the events is bad, and no step of them spent. Numbers may
-- have run out behind them only where the step of some event would be spent.
pub record AreSubmitted (plan : Plan) (word : ℕ) (lines : List Line) (numbers : List ℕ) (s : History) : Type 0 where
  pub config : (s.config ≡ plan.config) × (s.word ≡ word)
  pub turns : List Turn
  pub each : AreTurnsOf plan.config word s.events lines turns
  pub given : numbers ≡ numbers_of turns
  pub once : (p : ℕ) → times p (places_of turns) ≡ below p (length s.events)
  pub order : (c : ℕ) → c < callers_of plan → Ascends 0 (places_of (share (callers_of plan) c turns)) (length s.events)
  pub only : Each IsOfLine s.events
  pub good : AreGood plan.config word s.events
  pub unspent : AreUnspent plan.config word s.events
  pub spent : MaySpend plan.config word s.events s.failure

-- The live run of a plan and these lines, which came to its end: nothing of the plan is refused; the session's word is the
-- world's first; the lines are submitted, and then the session is driven, by what the trace of their history asks. Each
-- generation is dialled with its number claimed of the dial: claimed are the numbers up to the last that was dialled.
pub record IsFlight (plan : Plan) (lines : List Line) (old new : Option (List Call)) (f : Flight) : Type 0 where
  pub sound : IsSound plan.config
  pub bare : wants_credentials plan.config ≡ false
  pub word : ℕ
  pub middle : Option (List Call)
  pub asked : Adds old middle (call.Word word)
  pub opened : History
  pub submitted : AreSubmitted plan word lines f.numbers.items opened
  pub driven : DrivenWith f.keeper (trace_of plan.config word opened.events) middle new opened f.session (length lines) f.ending

-- numbers ran out: behind so many events the step of some event that isn't bad would be spent
pub record RanOut (config : Config) (count : ℕ) : Type 0 where
  pub word : ℕ
  pub events : List Event
  pub number : count ≡ length events
  pub next : SpendsNext config word events

-- the world was asked for one word, and had no other call
pub record AskedWord (old new : Option (List Call)) : Type 0 where
  pub word : ℕ
  pub asked : Adds old new (call.Word word)

-- A live run broke off: the callers of the plan had submitted these lines to a session whose word is the world's first, and then
-- the session was driven by the deeds of passes, until this error
pub record BrokeOff (plan : Plan) (lines : List Line) (old new : Option (List Call)) (error : StepError) : Type 0 where
  pub word : ℕ
  pub middle : Option (List Call)
  pub asked : Adds old middle (call.Word word)
  pub numbers : List ℕ
  pub opened : History
  pub submitted : AreSubmitted plan word lines numbers opened
  pub later : History
  pub broke : Broke error middle new opened later (agenda_of (trace_of plan.config word opened.events))

-- numbers ran out while the lines were submitted: behind a history of lines alone, and of no more than these
pub record RanOutEarly (plan : Plan) (lines : List Line) (count : ℕ) : Type 0 where
  pub word : ℕ
  pub events : List Event
  pub number : count ≡ length events
  pub only : Each IsOfLine events
  pub few : length events ≤ length lines
  pub next : SpendsNext plan.config word events

-- how far a run had come that was stopped by this error: to its lines, so that the world was asked for its word alone; or it broke
-- off. No event is bad
abbrev pub StoppedBy : Plan → List Line → Option (List Call) → Option (List Call) → StepError → Type 0
StoppedBy plan lines old new (Spent count) = (AskedWord old new × RanOutEarly plan lines count) ⊎ BrokeOff plan lines old new (Spent count)
StoppedBy plan lines old new NoMemory = AskedWord old new ⊎ BrokeOff plan lines old new NoMemory
StoppedBy plan lines old new BadEvent = ⊥

-- each caller has seen a front of this history, and each of its places is one caller's own
abbrev pub AreOf : List Event → List Known → Type 0
AreOf log callers = Each (λ (c : Known). IsPrefix c.view.seen log) callers × ((p : ℕ) → total (λ (c : Known). times p c.view.mine) callers ≡ below p (length log))

-- so many lines are more than a source has
abbrev pub HasManyLines : List Line → Type 0
HasManyLines lines = 999_999_999 ≤ length lines

-- Why there was none: what is refused first of the plan, of which the world knows nothing but that its word was asked for; or
-- that numbers ran out, of a plan of which nothing is refused, and behind so many lines; or memory
abbrev pub IsNoFlight : Plan → List Line → Option (List Call) → Option (List Call) → FlightError → Type 0
IsNoFlight plan lines old new (flight.Config name) = (refused_of plan ≡ Some name) × AskedWord old new
IsNoFlight plan lines old new (flight.Spent count) = (refused_of plan ≡ None) × RanOut plan.config count × StoppedBy plan lines old new (Spent count) × HasManyLines lines
IsNoFlight plan lines old new flight.NoMemory = (new ≡ old) ⊎ StoppedBy plan lines old new NoMemory
