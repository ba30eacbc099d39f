-- Where a replay into a sink stopped, and what the sink has of it.
use Rattle.std.specs.Prelude.{◌≡◌, ⊤, ◌⊎◌, ℕ, ◌+◌, ◌≤◌, List, [], ◌++◌, length, Option, Some, take, codes}
use Rattle.redis_error.specs.declared.config_name.ConfigName.{ConfigName}
use Rattle.driver_model.specs.declared.config.Config.{Config}
use Rattle.driver_model.specs.declared.event.Event.{Event}
use Rattle.driver_model.specs.Config.{first_fault}
use Rattle.single_session.specs.Replay.{trace_of, AreGood, AreUnspent, IsSound}
use Rattle.shared_session.specs.Stops.{IsBadAt, IsSpentAt}
use Rattle.trace_text.specs.Show.{show}
use Rattle.outside.specs.Ends.{Gained, GainedPart}
use Rattle.session_program.specs.declared.replaying.Stop.{Stop}
use Rattle.session_program.specs.declared.replaying.Stop.TheVariants as stop
use Rattle.program_ends.specs.Lines.{numbered_line, config_line}
use Rattle.program_ends.specs.Streaming.{Sent}

-- nothing of the configuration is refused, no event before this index is bad, and none of their steps is spent
pub record AreTaken (config : Config) (word : ℕ) (events : List Event) (index : ℕ) : Type 0 where
  pub sound : IsSound config
  pub within : index ≤ length events
  pub good : AreGood config word (take index events)
  pub unspent : AreUnspent config word (take index events)

-- the events before this index are taken, and the one at it is bad
pub record IsFirstBad (config : Config) (word : ℕ) (events : List Event) (index : ℕ) : Type 0 where
  pub before : AreTaken config word events index
  pub bad : IsBadAt config word events index

-- the events before this index are taken, and the step of the one at it, which isn't bad, is spent
pub record IsFirstSpent (config : Config) (word : ℕ) (events : List Event) (index : ℕ) : Type 0 where
  pub before : AreTaken config word events index
  pub spent : IsSpentAt config word events index

-- the text of the opening and the turns of the events before this index
abbrev pub turns_before : Config → ℕ → List Event → ℕ → List ℕ
turns_before config word events index = show (trace_of config word (take index events))

-- nothing, or the text of whole turns: the opening's, and those of the first events, of which none is bad and no step is
-- spent
abbrev pub AreTurns : Config → ℕ → List Event → List ℕ → Type 0
AreTurns config word events text =
    (text ≡ []) ⊎ ((index : ℕ) × AreTaken config word events index × (text ≡ turns_before config word events index))

-- the line of the event at this index. Events are counted from 1
abbrev pub event_line : List ℕ → ℕ → List ℕ
event_line words index = numbered_line words (index + 1)

-- the line that a replay which stopped ends with, if it has one
abbrev pub stop_line : Stop → List ℕ
stop_line (stop.Config name) = config_line name
stop_line (stop.BadEvent number) = numbered_line (codes "bad event") number
stop_line (stop.Spent number) = numbered_line (codes "spent event") number
stop_line stop.NoMemory = []
stop_line stop.WriteFault = []

-- a text of whole turns, and of the line of such a first event
pub record EndsWith (First : ℕ → Type 0) (turns : ℕ → List ℕ) (words text : List ℕ) : Type 0 where
  pub index : ℕ
  pub first : First index
  pub is : text ≡ turns index ++ event_line words index

-- the line of a configuration of which something is refused
pub record IsRefusalText (config : Config) (text : List ℕ) : Type 0 where
  pub name : ConfigName
  pub refused : first_fault config ≡ Some name
  pub is : text ≡ config_line name

-- how all that a replay writes may read: whole turns, and behind them the line of the first bad event, or of the first
-- spent step, or none; or the line of a refused configuration alone
abbrev pub IsReplayText : Config → ℕ → List Event → List ℕ → Type 0
IsReplayText config word events text =
    AreTurns config word events text
    ⊎ EndsWith (IsFirstBad config word events) (turns_before config word events) (codes "bad event") text
    ⊎ EndsWith (IsFirstSpent config word events) (turns_before config word events) (codes "spent event") text
    ⊎ IsRefusalText config text

-- the event of this number, counted from 1, is such a first one, and the sink and the rest have the turns before it
pub record EndsAt (First : ℕ → Type 0) (turns : ℕ → List ℕ) (number : ℕ) (old new : Option (List ℕ)) (rest : List ℕ) : Type 0 where
  pub index : ℕ
  pub counted : number ≡ index + 1
  pub first : First index
  pub sent : Sent old new rest (turns index)

-- of the first bad event
abbrev pub EndsBadly : Config → ℕ → List Event → ℕ → Option (List ℕ) → Option (List ℕ) → List ℕ → Type 0
EndsBadly config word events = EndsAt (IsFirstBad config word events) (turns_before config word events)

-- of the first spent step
abbrev pub EndsSpent : Config → ℕ → List Event → ℕ → Option (List ℕ) → Option (List ℕ) → List ℕ → Type 0
EndsSpent config word events = EndsAt (IsFirstSpent config word events) (turns_before config word events)

-- some event is such a first one, and the sink, if it tells, gained the turns before it and its line
pub record ToldAt (First : ℕ → Type 0) (turns : ℕ → List ℕ) (words : List ℕ) (old new : Option (List ℕ)) : Type 0 where
  pub index : ℕ
  pub first : First index
  pub gained : Gained old new (turns index ++ event_line words index)

-- the first bad event
abbrev pub IsToldBad : Config → ℕ → List Event → Option (List ℕ) → Option (List ℕ) → Type 0
IsToldBad config word events = ToldAt (IsFirstBad config word events) (turns_before config word events) (codes "bad event")

-- the first spent step
abbrev pub IsToldSpent : Config → ℕ → List Event → Option (List ℕ) → Option (List ℕ) → Type 0
IsToldSpent config word events = ToldAt (IsFirstSpent config word events) (turns_before config word events) (codes "spent event")

-- the configuration is refused, first for what it says of this name, and nothing is shown
pub record EndsRefused (config : Config) (name : ConfigName) (old new : Option (List ℕ)) (rest : List ℕ) : Type 0 where
  pub refused : first_fault config ≡ Some name
  pub sent : Sent old new rest []

-- the configuration is refused, first for what it says of this name, and the sink gained the line of that name alone
pub record IsToldRefused (config : Config) (name : ConfigName) (old new : Option (List ℕ)) : Type 0 where
  pub refused : first_fault config ≡ Some name
  pub gained : Gained old new (config_line name)

-- why no session was made: the configuration is refused, first for what it says of this name, or memory was refused
abbrev pub IsNotOpened : Stop → Config → Type 0
IsNotOpened (stop.Config name) config = first_fault config ≡ Some name
IsNotOpened (stop.BadEvent number) config = ⊥
IsNotOpened (stop.Spent number) config = ⊥
IsNotOpened stop.NoMemory config = ⊤
IsNotOpened stop.WriteFault config = ⊥

-- the sink and the rest have whole turns
pub record SentTurns (config : Config) (word : ℕ) (events : List Event) (old new : Option (List ℕ)) (rest : List ℕ) : Type 0 where
  pub text : List ℕ
  pub turns : AreTurns config word events text
  pub sent : Sent old new rest text

-- the sink gained whole turns
pub record GainedTurns (config : Config) (word : ℕ) (events : List Event) (old new : Option (List ℕ)) : Type 0 where
  pub text : List ℕ
  pub turns : AreTurns config word events text
  pub gained : Gained old new text

-- the sink gained the front of what a replay writes
pub record GainedFront (config : Config) (word : ℕ) (events : List Event) (old new : Option (List ℕ)) : Type 0 where
  pub text : List ℕ
  pub is : IsReplayText config word events text
  pub part : GainedPart old new text

-- what a replay into a sink leaves where it stopped
abbrev pub Ends : Stop → Config → ℕ → List Event → Option (List ℕ) → Option (List ℕ) → List ℕ → Type 0
Ends (stop.Config name) config word events old new rest = EndsRefused config name old new rest
Ends (stop.BadEvent number) config word events old new rest = EndsBadly config word events number old new rest
Ends (stop.Spent number) config word events old new rest = EndsSpent config word events number old new rest
Ends stop.NoMemory config word events old new rest = SentTurns config word events old new rest
Ends stop.WriteFault config word events old new rest = GainedFront config word events old new

-- and once its last line is written
abbrev pub Told : Stop → Config → ℕ → List Event → Option (List ℕ) → Option (List ℕ) → Type 0
Told (stop.Config name) config word events old new = IsToldRefused config name old new
Told (stop.BadEvent number) config word events old new = IsToldBad config word events old new
Told (stop.Spent number) config word events old new = IsToldSpent config word events old new
Told stop.NoMemory config word events old new = GainedTurns config word events old new
Told stop.WriteFault config word events old new = GainedFront config word events old new
