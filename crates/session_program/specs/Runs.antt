-- What a run of the program did.
use Rattle.std.specs.Prelude.{◌≡◌, ◌⊎◌, ℕ, List, [], Option, Some, Ok, Err, codes}
use Rattle.script_text.specs.Script.{script_of}
use Rattle.script_text.specs.declared.script.Script.{Script}
use Rattle.redis_error.specs.declared.config_name.ConfigName.{ConfigName}
use Rattle.driver_model.specs.Config.{first_fault}
use Rattle.single_session.specs.Replay.{trace_of, AreGood, AreUnspent, IsSound}
use Rattle.trace_text.specs.Show.{show}
use Rattle.outside.specs.Ends.{Gained, GainedPart}
use Rattle.program_ends.specs.Lines.{numbered_line, config_line, read_fault_line}
use Rattle.session_program.specs.Headline.{IsLegalUpTo}
use Rattle.program_ends.specs.Sides.{Side, Fails}
use Rattle.session_program.specs.Stops.{IsToldBad, IsToldSpent, AreTurns, IsReplayText}

-- the bytes are a script of which nothing is refused, without a bad event or a spent step, they were read to their end, and
-- the sink gained the script's trace
pub record IsReplay (bytes : List ℕ) (left old new : Option (List ℕ)) : Type 0 where
  pub script : Script
  pub reads : script_of bytes ≡ Ok script
  pub ended : left ≡ Some []
  pub trace : Gained old new (show (trace_of script.config script.word script.events))
  pub sound : IsSound script.config
  pub good : AreGood script.config script.word script.events
  pub unspent : AreUnspent script.config script.word script.events

-- a line of the bytes is the first at fault, and the sink gained its number
pub record IsRefusal (bytes : List ℕ) (old new : Option (List ℕ)) : Type 0 where
  pub line : ℕ
  pub fault : script_of bytes ≡ Err line
  pub told : Gained old new (numbered_line (codes "script line") line)

-- the bytes are a script whose configuration is refused, first for what it says of this name
pub record HasRefusedConfig (bytes : List ℕ) : Type 0 where
  pub script : Script
  pub reads : script_of bytes ≡ Ok script
  pub name : ConfigName
  pub refused : first_fault script.config ≡ Some name

-- so they are, and the sink gained that name, and nothing else
pub record IsConfigRun (bytes : List ℕ) (old new : Option (List ℕ)) : Type 0 where
  pub config : HasRefusedConfig bytes
  pub told : Gained old new (config_line config.name)

-- an event of the script is the first bad one, and no step before it is spent: the sink gained the turns before it, which
-- are legal, and its number
pub record IsBadRun (bytes : List ℕ) (old new : Option (List ℕ)) : Type 0 where
  pub script : Script
  pub reads : script_of bytes ≡ Ok script
  pub told : IsToldBad script.config script.word script.events old new
  pub legal : IsLegalUpTo script told.index

-- the step of an event of the script is the first spent one, and no event up to it is bad: the sink gained the turns
-- before it, which are legal, and its number
pub record IsSpentRun (bytes : List ℕ) (old new : Option (List ℕ)) : Type 0 where
  pub script : Script
  pub reads : script_of bytes ≡ Ok script
  pub told : IsToldSpent script.config script.word script.events old new
  pub legal : IsLegalUpTo script told.index

-- whole turns of the script that the bytes are, if they are one
pub record AreTurnsOf (bytes text : List ℕ) : Type 0 where
  pub script : Script
  pub reads : script_of bytes ≡ Ok script
  pub turns : AreTurns script.config script.word script.events text

-- the sink gained nothing, or whole turns
pub record IsWholeRun (bytes : List ℕ) (old new : Option (List ℕ)) : Type 0 where
  pub text : List ℕ
  pub turns : (text ≡ []) ⊎ AreTurnsOf bytes text
  pub gained : Gained old new text

-- the text of the replay of the script that the bytes are
pub record IsTextOf (bytes text : List ℕ) : Type 0 where
  pub script : Script
  pub reads : script_of bytes ≡ Ok script
  pub replay : IsReplayText script.config script.word script.events text

-- all that a replay of these bytes may write: that the source failed, if it did; the line of the script that is at fault; or
-- the text of the script's replay
abbrev pub IsOutput : List ℕ → Side → Side → List ℕ → Type 0
IsOutput bytes source source' text =
    ((text ≡ read_fault_line) × Fails source source')
    ⊎ ((line : ℕ) × (script_of bytes ≡ Err line) × (text ≡ numbered_line (codes "script line") line))
    ⊎ IsTextOf bytes text

-- the sink gained the front of what the replay writes
pub record IsCutRun (bytes : List ℕ) (source source' sink sink' : Side) : Type 0 where
  pub text : List ℕ
  pub output : IsOutput bytes source source' text
  pub part : GainedPart sink.bytes sink'.bytes text

-- the bytes are a script, nothing of its configuration is refused, no event is bad, and no step is spent
pub record IsSoundScript (bytes : List ℕ) : Type 0 where
  pub script : Script
  pub reads : script_of bytes ≡ Ok script
  pub sound : IsSound script.config
  pub good : AreGood script.config script.word script.events
  pub unspent : AreUnspent script.config script.word script.events
