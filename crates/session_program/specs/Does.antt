-- What a run of the program does and answers.
use Rattle.std.specs.Prelude.{◌≡◌, ◌⊎◌, ℕ, Bool, true, false, List, []}
use Rattle.outside.specs.Ends.{Gained, GainedPart}
use Rattle.session_program.specs.declared.command.Command.{Command}
use Rattle.session_program.specs.declared.command.Command.TheVariants.{Replay, Generate, Help, Version, Unknown}
use Rattle.program_ends.specs.declared.status.Status.{Status}
use Rattle.program_ends.specs.declared.status.Status.TheVariants as status
use Rattle.script_generator.specs.Script.{generated_config, generated_word, generated_events}
use Rattle.script_generator.specs.Summary.{summary_of, summary_line}
use Rattle.single_session.specs.Replay.{trace_of}
use Rattle.session_program.specs.Headline.{Headline, HeadlineOf}
use Rattle.program_ends.specs.Lines.{read_fault_line, usage_line}
use Rattle.session_program.specs.Lines.{help_text, version_line}
use Rattle.session_program.specs.Runs.{IsReplay, IsRefusal, IsConfigRun, IsBadRun, IsSpentRun, IsWholeRun, IsCutRun, HasRefusedConfig, IsSoundScript}
use Rattle.program_ends.specs.Sides.{Side, Fails, IfTold}

-- the line that says what is counted in the trace of the script of so many rounds
abbrev pub generated_line : ℕ → List ℕ
generated_line n = summary_line (summary_of (trace_of generated_config generated_word (generated_events n)))

-- the sink gained the front of what the command writes; of a replay this is said where the source tells its bytes
abbrev pub IsCut : Command → Side → Side → Side → Side → Type 0
IsCut Replay source source' sink sink' = IfTold source (λ bytes. IsCutRun bytes source source' sink sink')
IsCut (Generate n) source source' sink sink' = GainedPart sink.bytes sink'.bytes (generated_line n)
IsCut Help source source' sink sink' = GainedPart sink.bytes sink'.bytes help_text
IsCut Version source source' sink sink' = GainedPart sink.bytes sink'.bytes version_line
IsCut Unknown source source' sink sink' = GainedPart sink.bytes sink'.bytes usage_line

-- where the bytes are a script of which nothing is refused, without a bad event or a spent step, and no count of faults rose,
-- the replay is done, or memory was refused
abbrev pub EndsWell : List ℕ → Status → Side → Side → Side → Side → Type 0
EndsWell bytes s source source' sink sink' =
    IsSoundScript bytes → (Fails source source' → ⊥) → (Fails sink sink' → ⊥) → (s ≡ status.Done) ⊎ (s ≡ status.NoMemory)

-- where the bytes are a script whose configuration is refused, and no count of faults rose, that is the status, or memory was
-- refused
abbrev pub EndsRefused : List ℕ → Status → Side → Side → Side → Side → Type 0
EndsRefused bytes s source source' sink sink' =
    HasRefusedConfig bytes → (Fails source source' → ⊥) → (Fails sink sink' → ⊥) → (s ≡ status.Config) ⊎ (s ≡ status.NoMemory)

-- the statuses with which only a replay ends: no script, a refused configuration, a bad event, no input, no more numbers
abbrev pub ends_replay : Status → Bool
ends_replay status.Script = true
ends_replay status.Config = true
ends_replay status.BadEvent = true
ends_replay status.ReadFault = true
ends_replay status.Spent = true
ends_replay status.Done = false
ends_replay status.Usage = false
ends_replay status.NoMemory = false
ends_replay status.WriteFault = false

-- What a command does that ends with this status, from its source and its sink as they were to what they come to.
pub record Does (command : Command) (s : Status) (source source' sink sink' : Side) : Type 0 where
  -- 0, of a replay
  pub done : s ≡ status.Done → command ≡ Replay → IfTold source (λ bytes. IsReplay bytes source'.bytes sink.bytes sink'.bytes)
  pub headline : s ≡ status.Done → command ≡ Replay → IfTold source Headline
  -- 0, of a script that is made
  pub generated : (n : ℕ) → s ≡ status.Done → command ≡ Generate n → Gained sink.bytes sink'.bytes (generated_line n)
  pub generated_headline : (n : ℕ) → s ≡ status.Done → command ≡ Generate n → HeadlineOf generated_config generated_word (generated_events n)
  -- 0, 5 or 7, of a script that is made: nothing is read, and want of memory writes nothing
  pub generates : (n : ℕ) → command ≡ Generate n → (s ≡ status.Done) ⊎ (s ≡ status.NoMemory) ⊎ (s ≡ status.WriteFault)
  pub unread : (n : ℕ) → command ≡ Generate n → source' ≡ source
  pub unwritten : (n : ℕ) → s ≡ status.NoMemory → command ≡ Generate n → Gained sink.bytes sink'.bytes []
  -- 0 or 7, of other commands
  pub version : s ≡ status.Done → command ≡ Version → Gained sink.bytes sink'.bytes version_line
  pub help : s ≡ status.Done → command ≡ Help → Gained sink.bytes sink'.bytes help_text
  pub shows_version : command ≡ Version → (s ≡ status.Done) ⊎ (s ≡ status.WriteFault)
  pub shows_help : command ≡ Help → (s ≡ status.Done) ⊎ (s ≡ status.WriteFault)
  -- 1
  pub words : s ≡ status.Usage → command ≡ Unknown
  pub unknown : command ≡ Unknown → (s ≡ status.Usage) ⊎ (s ≡ status.WriteFault)
  pub usage : s ≡ status.Usage → Gained sink.bytes sink'.bytes usage_line
  -- 2
  pub script : s ≡ status.Script → IfTold source (λ bytes. IsRefusal bytes sink.bytes sink'.bytes)
  -- 3
  pub refused : s ≡ status.Config → IfTold source (λ bytes. IsConfigRun bytes sink.bytes sink'.bytes)
  -- 4
  pub bad : s ≡ status.BadEvent → IfTold source (λ bytes. IsBadRun bytes sink.bytes sink'.bytes)
  -- 5
  pub free : s ≡ status.NoMemory → (command ≡ Replay) ⊎ ((n : ℕ) × (command ≡ Generate n))
  pub whole : s ≡ status.NoMemory → IfTold source (λ bytes. IsWholeRun bytes sink.bytes sink'.bytes)
  -- 6
  pub fault : s ≡ status.ReadFault → Gained sink.bytes sink'.bytes read_fault_line
  pub read : s ≡ status.ReadFault → Fails source source'
  -- 7
  pub cut : s ≡ status.WriteFault → IsCut command source source' sink sink'
  pub write : s ≡ status.WriteFault → Fails sink sink'
  -- 8
  pub spent : s ≡ status.Spent → IfTold source (λ bytes. IsSpentRun bytes sink.bytes sink'.bytes)
  -- 2, 3, 4, 6 or 8: only a replay ends so
  pub of_replay : ends_replay s ≡ true → command ≡ Replay
  -- 3 or 5
  pub exact : command ≡ Replay → IfTold source (λ bytes. EndsRefused bytes s source source' sink sink')
  -- 0 or 5
  pub complete : command ≡ Replay → IfTold source (λ bytes. EndsWell bytes s source source' sink sink')
