-- What a live run does, and the status that it ends with.
use Rattle.std.specs.Prelude.{◌≡◌, ◌⊎◌, ℕ, List, Option, None, codes}
use Rattle.outside.specs.Ends.{Gained, GainedPart}
use Rattle.outside.specs.declared.world.Call.{Call}
use Rattle.program_ends.specs.Lines.{numbered_line, config_line, read_fault_line}
use Rattle.program_ends.specs.Sides.{Side, Fails, IfTold}
use Rattle.program_ends.specs.declared.status.Status.{Status}
use Rattle.program_ends.specs.declared.status.Status.TheVariants as status
use Rattle.redis_error.specs.declared.config_name.ConfigName.{ConfigName}
use Rattle.session_callers.specs.Rule.{Each}
use Rattle.live_lines.specs.Flights.{AskedWord}
use Rattle.live_lines.specs.Live.{IsAsked, IsAtFault, IsLive, IsRefused, IsRefusedConfig, flight_text, refusal_line}
use Rattle.live_lines.specs.Outcomes.{HasOutcome}
use Rattle.live_lines.specs.Plans.{plan_of, refused_of}
use Rattle.live_lines.specs.declared.flying.Flight.{Flight}
use Rattle.live_lines.specs.declared.reading.Refusal.{Refusal}

-- the live run of these words and bytes came to its end, each line has an outcome, and the sink gained these, in the order of lines
pub record IsLiveRun (words : List (List ℕ)) (bytes : List ℕ) (left : Option (List ℕ)) (old new : Option (List Call)) (sink sink' : Side) : Type 0 where
  pub flight : Flight
  pub live : IsLive words bytes left old new flight
  pub answered : Each (HasOutcome flight.session) flight.numbers.items
  pub output : Gained sink.bytes sink'.bytes (flight_text flight)

-- a line of the bytes is the first at fault, and the sink gained its number
pub record IsLineRun (words : List (List ℕ)) (bytes : List ℕ) (sink sink' : Side) : Type 0 where
  pub line : ℕ
  pub fault : IsAtFault words bytes line
  pub told : Gained sink.bytes sink'.bytes (numbered_line (codes "script line") line)

-- the configuration is refused, and the sink gained the name of what is refused first
pub record IsConfigRun (words : List (List ℕ)) (bytes : List ℕ) (sink sink' : Side) : Type 0 where
  pub name : ConfigName
  pub refused : IsRefusedConfig words bytes name
  pub told : Gained sink.bytes sink'.bytes (config_line name)

-- all that a live run may write: the outcome of each line, or the line that tells why there was none
abbrev pub IsOutput : List ℕ → List (List ℕ) → List ℕ → Side → Side → Option (List Call) → Option (List Call) → List ℕ → Type 0
IsOutput usage words bytes source source' old new text =
    ((f : Flight) × IsLive words bytes source'.bytes old new f × (text ≡ flight_text f))
    ⊎ ((r : Refusal) × IsRefused r words source source' old new × (text ≡ refusal_line usage r))

-- the sink gained the front of it
pub record IsCutRun (usage : List ℕ) (words : List (List ℕ)) (bytes : List ℕ) (source source' sink sink' : Side) (old new : Option (List Call)) : Type 0 where
  pub text : List ℕ
  pub output : IsOutput usage words bytes source source' old new text
  pub part : GainedPart sink.bytes sink'.bytes text

-- these words and bytes were asked for, and something of the plan is refused
pub record IsRefusedPlan (words : List (List ℕ)) (bytes : List ℕ) : Type 0 where
  pub name : ConfigName
  pub config : IsRefusedConfig words bytes name

-- where the words are a plan of which nothing is refused, the bytes are lines, and no count of faults rose, the run comes to
-- its end, or memory is refused
abbrev pub EndsWell : List (List ℕ) → List ℕ → Status → Side → Side → Side → Side → Type 0
EndsWell words bytes s source source' sink sink' =
    (asked : IsAsked words bytes) → refused_of asked.plan ≡ None → (Fails source source' → ⊥) → (Fails sink sink' → ⊥)
    → (s ≡ status.Done) ⊎ (s ≡ status.NoMemory)

-- where the words are a plan of which something is refused, the bytes are lines, and no count of faults rose, that is the
-- status, or memory was refused
abbrev pub EndsRefused : List (List ℕ) → List ℕ → Status → Side → Side → Side → Side → Type 0
EndsRefused words bytes s source source' sink sink' = IsRefusedPlan words bytes → (Fails source source' → ⊥) → (Fails sink sink' → ⊥) → (s ≡ status.Config) ⊎ (s ≡ status.NoMemory)

-- What a live run does that ends with this status, where this line tells words that are no plan: from its source, its sink and
-- what its world tells as they were to what they come to.
pub record DoesLive (usage : List ℕ) (words : List (List ℕ)) (s : Status) (source source' sink sink' : Side) (old new : Option (List Call)) : Type 0 where
  -- 0
  pub done : s ≡ status.Done → IfTold source (λ bytes. IsLiveRun words bytes source'.bytes old new sink sink')
  -- 1
  pub no_plan : s ≡ status.Usage → plan_of words ≡ None
  pub unknown : plan_of words ≡ None → (s ≡ status.Usage) ⊎ (s ≡ status.WriteFault) ⊎ (s ≡ status.NoMemory)
  pub told : s ≡ status.Usage → Gained sink.bytes sink'.bytes usage
  -- 1, 2 or 6: the world had no call
  pub uncalled : (s ≡ status.Usage) ⊎ (s ≡ status.Script) ⊎ (s ≡ status.ReadFault) → new ≡ old
  -- 2
  pub lines : s ≡ status.Script → IfTold source (λ bytes. IsLineRun words bytes sink sink')
  -- 3
  pub refused : s ≡ status.Config → IfTold source (λ bytes. IsConfigRun words bytes sink sink')
  -- 3: the world was asked for its word, and had no other call
  pub undialled : s ≡ status.Config → AskedWord old new
  -- 4
  pub bad : s ≡ status.BadEvent → ⊥
  -- 5 and 7
  pub cut : (s ≡ status.NoMemory) ⊎ (s ≡ status.WriteFault) → IfTold source (λ bytes. IsCutRun usage words bytes source source' sink sink' old new)
  pub write : s ≡ status.WriteFault → Fails sink sink'
  -- 6
  pub read : s ≡ status.ReadFault → Fails source source'
  pub fault : s ≡ status.ReadFault → Gained sink.bytes sink'.bytes read_fault_line
  -- 8: a run has fewer events than numbers
  pub spent : s ≡ status.Spent → ⊥
  -- 3 or 5
  pub exact : IfTold source (λ bytes. EndsRefused words bytes s source source' sink sink')
  -- 0 or 5
  pub complete : IfTold source (λ bytes. EndsWell words bytes s source source' sink sink')
