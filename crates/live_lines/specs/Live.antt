-- What is written of a live run, and why there is none.
use Rattle.std.specs.Prelude.{◌≡◌, ⊤, ◌⊎◌, ℕ, List, [], Option, Some, None, Ok, Err, codes}
use Rattle.caller_threads.specs.Submits.{Line}
use Rattle.driver_model.specs.Config.{kind_of}
use Rattle.driver_model.specs.declared.kind.SessionKind.{SessionKind}
use Rattle.redis_error.specs.declared.config_name.ConfigName.{ConfigName}
use Rattle.outside.specs.Ends.{Gained, GainedPart}
use Rattle.outside.specs.declared.world.Call.{Call}
use Rattle.program_ends.specs.Lines.{numbered_line, config_line, read_fault_line}
use Rattle.program_ends.specs.Sides.{Side, Fails, IfTold}
use Rattle.program_ends.specs.declared.status.Status.{Status}
use Rattle.program_ends.specs.declared.status.Status.TheVariants as status
use Rattle.script_text.specs.Lines.{lines_of}
use Rattle.shared_session.specs.declared.errors.StepError.TheVariants.{NoMemory}
use Rattle.live_lines.specs.Flights.{AskedWord, IsFlight, StoppedBy}
use Rattle.live_lines.specs.Outcomes.{outcome_lines, outcomes_of}
use Rattle.live_lines.specs.Plans.{plan_of, refused_of}
use Rattle.live_lines.specs.declared.flying.Flight.{Flight}
use Rattle.live_lines.specs.declared.planning.Plan.{Plan}
use Rattle.live_lines.specs.declared.reading.Refusal.{Refusal}
use Rattle.live_lines.specs.declared.reading.Refusal.TheVariants as refusal

-- these are the lines that a source had, as those to a session of this kind, and it has nothing left
pub record AreLines (kind : SessionKind) (old left : Option (List ℕ)) (lines : List Line) : Type 0 where
  pub read : (bytes : List ℕ) → old ≡ Some bytes → lines_of kind bytes ≡ Ok lines
  pub ended : (bytes : List ℕ) → old ≡ Some bytes → left ≡ Some []

-- what was kept of a source's bytes decides which lines they are, to a session of any kind; where they are some, it has nothing left
pub record DecidesLines (old left : Option (List ℕ)) (kept : List ℕ) : Type 0 where
  pub same : (kind : SessionKind) (bytes : List ℕ) → old ≡ Some bytes → lines_of kind bytes ≡ lines_of kind kept
  pub ended : (kind : SessionKind) (bytes : List ℕ) (lines : List Line) → old ≡ Some bytes → lines_of kind kept ≡ Ok lines → left ≡ Some []

-- words are a plan, and a source's bytes the lines for it
pub record IsAsked (words : List (List ℕ)) (bytes : List ℕ) : Type 0 where
  pub plan : Plan
  pub plans : plan_of words ≡ Some plan
  pub lines : List Line
  pub reads : lines_of (kind_of plan.config) bytes ≡ Ok lines

-- words are a plan, and a source's bytes no lines for it: this one is the first at fault
pub record IsAtFault (words : List (List ℕ)) (bytes : List ℕ) (line : ℕ) : Type 0 where
  pub plan : Plan
  pub plans : plan_of words ≡ Some plan
  pub fault : lines_of (kind_of plan.config) bytes ≡ Err line

-- these words and bytes were asked for, the bytes were read to their end, and this is the live run of them
pub record IsLive (words : List (List ℕ)) (bytes : List ℕ) (left : Option (List ℕ)) (old new : Option (List Call)) (f : Flight) : Type 0 where
  pub asked : IsAsked words bytes
  pub ended : left ≡ Some []
  pub flight : IsFlight asked.plan asked.lines old new f

-- they were, and the plan is refused, first for what it says of this name
pub record IsRefusedConfig (words : List (List ℕ)) (bytes : List ℕ) (name : ConfigName) : Type 0 where
  pub asked : IsAsked words bytes
  pub refused : refused_of asked.plan ≡ Some name

-- they were, and memory was refused to their run
pub record IsStopped (words : List (List ℕ)) (bytes : List ℕ) (old new : Option (List Call)) : Type 0 where
  pub asked : IsAsked words bytes
  pub stopped : StoppedBy asked.plan asked.lines old new NoMemory

-- the words are a plan
pub record IsPlan (words : List (List ℕ)) : Type 0 where
  pub plan : Plan
  pub plans : plan_of words ≡ Some plan

-- why a source has no lines to a session of this kind: it failed, this line of its bytes is the first at fault, or memory was refused
abbrev pub HasNoLines : SessionKind → Refusal → Side → Side → Type 0
HasNoLines kind refusal.ReadFault source source' = Fails source source'
HasNoLines kind (refusal.Line n) source source' = IfTold source (λ bytes. lines_of kind bytes ≡ Err n)
HasNoLines kind refusal.NoMemory source source' = ⊤
HasNoLines kind refusal.Usage source source' = ⊥
HasNoLines kind (refusal.Config name) source source' = ⊥

-- Why there was no live run, in this order: the words are no plan; the source failed; this line of its bytes is the first at
-- fault; the configuration is refused. Memory may be refused at any moment. The world had no call before the lines were read, and only its word was asked for where the configuration is refused.
abbrev pub IsRefused : Refusal → List (List ℕ) → Side → Side → Option (List Call) → Option (List Call) → Type 0
IsRefused refusal.Usage words source source' old new = (plan_of words ≡ None) × (new ≡ old)
IsRefused refusal.ReadFault words source source' old new = IsPlan words × Fails source source' × (new ≡ old)
IsRefused (refusal.Line n) words source source' old new = IsPlan words × IfTold source (λ bytes. IsAtFault words bytes n) × (new ≡ old)
IsRefused (refusal.Config name) words source source' old new = IsPlan words × IfTold source (λ bytes. IsRefusedConfig words bytes name) × AskedWord old new
IsRefused refusal.NoMemory words source source' old new = (new ≡ old) ⊎ IfTold source (λ bytes. IsStopped words bytes old new)

-- the line that tells why there was none, where this one tells words that are no plan
abbrev pub refusal_line : List ℕ → Refusal → List ℕ
refusal_line usage refusal.Usage = usage
refusal_line usage (refusal.Line n) = numbered_line (codes "script line") n
refusal_line usage (refusal.Config name) = config_line name
refusal_line usage refusal.ReadFault = read_fault_line
refusal_line usage refusal.NoMemory = []

abbrev pub refusal_status : Refusal → Status
refusal_status refusal.Usage = status.Usage
refusal_status (refusal.Line n) = status.Script
refusal_status (refusal.Config name) = status.Config
refusal_status refusal.ReadFault = status.ReadFault
refusal_status refusal.NoMemory = status.NoMemory

-- a text was written, with which a run ends with its status; or its front, and the sink failed; or its front, and memory was
-- refused
abbrev pub Writes : Status → List ℕ → Status → Side → Side → Type 0
Writes its text s sink sink' =
    ((s ≡ its) × Gained sink.bytes sink'.bytes text)
    ⊎ ((s ≡ status.WriteFault) × GainedPart sink.bytes sink'.bytes text × Fails sink sink')
    ⊎ ((s ≡ status.NoMemory) × GainedPart sink.bytes sink'.bytes text)

-- the outcome of each line of a live run, in the order of the lines, as a trace shows it
abbrev pub flight_text : Flight → List ℕ
flight_text f = outcome_lines (outcomes_of f.session) f.numbers.items
