-- What is said on the side of a run: what to mend, and what is left open.
use Rattle.std.specs.Prelude.{◌≡◌, ◌⊎◌, ℕ, ◌+◌, ◌<◌, Bool, true, false, ◌&&◌, List, [], ◌∷◌, ◌++◌, decimal, codes, take, length, slice_set, Option, Some, Err, Ok, is_none, if◌then◌else◌}
use Rattle.redis_error.specs.declared.config_name.ConfigName.{ConfigName}
use Rattle.redis_error.specs.declared.config_name.ConfigName.TheVariants as name
use Rattle.redis_error.specs.Names.{config_name}
use Rattle.driver_model.specs.declared.config.Config.{Config}
use Rattle.driver_model.specs.declared.event.Event.{Event}
use Rattle.driver_model.specs.declared.event.EventKind.{EventKind}
use Rattle.driver_model.specs.declared.event.EventKind.TheVariants as event
use Rattle.driver_model.specs.declared.outcome.Outcome.{Outcome}
use Rattle.legal_trace.specs.Book.{Book, book}
use Rattle.legal_trace.specs.Events.{is_no_link}
use Rattle.outside.specs.Ends.{Gained, GainedPart}
use Rattle.script_text.specs.Faults.{IsVisible}
use Rattle.script_text.specs.Script.{script_of}
use Rattle.script_text.specs.declared.script.Script.{Script}
use Rattle.single_session.specs.Replay.{trace_of, outcomes_in, outcome_at}
use Rattle.session_program.specs.declared.bad.BadReason.{BadReason}
use Rattle.session_program.specs.declared.bad.BadReason.TheVariants.{NoName, NoSubmission, NoLink, NoTimer, NoSource, OnlyOffered}
use Rattle.program_ends.specs.declared.status.Status.{Status}
use Rattle.program_ends.specs.declared.status.Status.TheVariants as status
use Rattle.session_program.specs.Runs.{HasRefusedConfig}
use Rattle.program_ends.specs.Sides.{Side, Fails, IfTold}
use Rattle.session_program.specs.Stops.{IsFirstBad}

-- of a line of the script: its number, and why
abbrev pub line_note : ℕ → List ℕ → List ℕ
line_note line why = codes "line " ++ decimal line ++ codes ": " ++ why ++ codes "\n"

-- a note of this line, in visible bytes
pub record IsLineNote (line : ℕ) (text : List ℕ) : Type 0 where
  pub why : List ℕ
  pub visible : IsVisible why
  pub is : text ≡ line_note line why

-- a line of the bytes is the first at fault, and this note is of that very line
pub record IsScriptNote (bytes text : List ℕ) : Type 0 where
  pub line : ℕ
  pub fault : script_of bytes ≡ Err line
  pub note : IsLineNote line text

-- what of a configuration is to be mended, by the name of what is refused
abbrev pub config_words : ConfigName → List ℕ
config_words name.Url = codes "the URL is no address: it has the scheme redis or valkey and a host, and beside them no more than a user, a password, a port, a database and a protocol"
config_words name.Push = codes "pushes come on RESP3 alone: push=on goes with ?protocol=3 in the URL"
config_words name.Resub = codes "what was subscribed is subscribed again where somebody hears pushes: resub=on goes with push=on"
config_words name.Base = codes "delays grow by a fraction: the second number of base is at least 1"
config_words name.Limit = codes "a request holds at least 1 permit: limit=0 leaves none for any"
config_words name.Buffer = codes "the queue of a link holds at least 1 message: buffer=0 leaves no place for any"
config_words other = codes "the configuration is refused for its " ++ config_name other

-- the configuration in the first line is refused, and this note says what to mend
pub record IsConfigNote (bytes text : List ℕ) : Type 0 where
  pub config : HasRefusedConfig bytes
  pub is : text ≡ line_note 1 (config_words config.name)

-- an event, as far as its numbers
abbrev pub event_words : EventKind → List ℕ
event_words (event.Submit what) = codes "submit"
event_words (event.Cancel n) = codes "cancel " ++ decimal n
event_words (event.Connected l) = codes "connected " ++ decimal l
event_words (event.Refused l kind) = codes "refused " ++ decimal l
event_words (event.Wrote l count) = codes "wrote " ++ decimal l ++ codes " " ++ decimal count
event_words (event.Bytes l piece) = codes "bytes " ++ decimal l
event_words (event.Ended l) = codes "ended " ++ decimal l
event_words (event.ReadFault l kind) = codes "read-fault " ++ decimal l
event_words (event.WriteFault l kind) = codes "write-fault " ++ decimal l
event_words (event.Fired t) = codes "fired " ++ decimal t
event_words (event.Creds c auth) = codes "creds " ++ decimal c
event_words (event.CredsError c text) = codes "creds-err " ++ decimal c
event_words (event.CredsEnd c) = codes "creds-end " ++ decimal c
event_words (event.Timeout ms) = codes "timeout"
event_words event.DropStream = codes "drop-stream"
event_words event.Shutdown = codes "shutdown"

-- why an event is bad, in words
abbrev pub bad_words : BadReason → List ℕ
bad_words NoName = codes ": the one command of a list needs a name"
bad_words NoSubmission = codes ": no submission has this number yet"
bad_words NoLink = codes ": no link has this number"
bad_words NoTimer = codes ": no timer has this number"
bad_words NoSource = codes ": no source has this number"
bad_words (OnlyOffered count) = codes ": only " ++ decimal count ++ codes " bytes were offered"

-- why bytes that a link took are too many
abbrev pub wrote_reason : Book → ℕ → BadReason
wrote_reason b l = if is_no_link b l then NoLink else OnlyOffered (length (b.link l).offer)

-- why an event that is bad after what is in this book is bad
abbrev pub bad_reason : Book → EventKind → BadReason
bad_reason b (event.Submit what) = NoName
bad_reason b (event.Cancel n) = NoSubmission
bad_reason b (event.Connected l) = NoLink
bad_reason b (event.Refused l kind) = NoLink
bad_reason b (event.Wrote l count) = wrote_reason b l
bad_reason b (event.Bytes l piece) = NoLink
bad_reason b (event.Ended l) = NoLink
bad_reason b (event.ReadFault l kind) = NoLink
bad_reason b (event.WriteFault l kind) = NoLink
bad_reason b (event.Fired t) = NoTimer
bad_reason b (event.Creds c auth) = NoSource
bad_reason b (event.CredsError c text) = NoSource
bad_reason b (event.CredsEnd c) = NoSource
bad_reason b (event.Timeout ms) = NoLink
bad_reason b event.DropStream = NoLink
bad_reason b event.Shutdown = NoLink

-- an event that is bad after what is in this book, in words
abbrev pub bad_event_words : Book → EventKind → List ℕ
bad_event_words b kind = event_words kind ++ bad_words (bad_reason b kind)

-- an event is the first bad one, and this note says in which line it stands and why it is bad
pub record IsBadNoteOf (config : Config) (word : ℕ) (events : List Event) (text : List ℕ) : Type 0 where
  pub index : ℕ
  pub first : IsFirstBad config word events index
  pub is : text ≡ line_note (index + 2) (bad_event_words (book (trace_of config word (take index events))) first.bad.event.kind)

-- of the script that these bytes are
pub record IsBadNote (bytes text : List ℕ) : Type 0 where
  pub script : Script
  pub reads : script_of bytes ≡ Ok script
  pub note : IsBadNoteOf script.config script.word script.events text

-- which submissions nobody cancelled, after one event more
abbrev pub kept_by : List Bool → EventKind → List Bool
kept_by kept (event.Submit what) = kept ++ true ∷ []
kept_by kept (event.Cancel n) = slice_set kept n false
kept_by kept (event.Connected l) = kept
kept_by kept (event.Refused l kind) = kept
kept_by kept (event.Wrote l count) = kept
kept_by kept (event.Bytes l piece) = kept
kept_by kept (event.Ended l) = kept
kept_by kept (event.ReadFault l kind) = kept
kept_by kept (event.WriteFault l kind) = kept
kept_by kept (event.Fired t) = kept
kept_by kept (event.Creds c auth) = kept
kept_by kept (event.CredsError c text) = kept
kept_by kept (event.CredsEnd c) = kept
kept_by kept (event.Timeout ms) = kept
kept_by kept event.DropStream = kept
kept_by kept event.Shutdown = kept

abbrev pub kept_each : List Bool → List Event → List Bool
kept_each kept [] = kept
kept_each kept (e ∷ more) = kept_each (kept_by kept e.kind) more

-- how many of these submissions, numbered from n on, are kept and have no outcome
abbrev pub open_from : List (Option Outcome) → ℕ → List Bool → ℕ
open_from outcomes n [] = 0
open_from outcomes n (kept ∷ more) = (if kept && is_none (outcome_at outcomes n) then 1 else 0) + open_from outcomes (n + 1) more

-- how many submissions are open after these events: nobody cancelled them, and the trace has no outcome of theirs
abbrev pub open_count : Config → ℕ → List Event → ℕ
open_count config word events = open_from (outcomes_in (trace_of config word events)) 0 (kept_each [] events)

-- of what is open after a replay
abbrev pub open_note : ℕ → List ℕ
open_note count = codes "open submissions: " ++ decimal count ++ codes ", neither answered nor cancelled" ++ codes "\n"

-- of this count, which isn't 0
pub record IsCountNote (count : Option ℕ) (text : List ℕ) : Type 0 where
  pub left : ℕ
  pub counted : count ≡ Some left
  pub some : 0 < left
  pub is : text ≡ open_note left

-- some submissions are open after the script that these bytes are, and this note says how many
pub record IsOpenNote (bytes text : List ℕ) : Type 0 where
  pub script : Script
  pub reads : script_of bytes ≡ Ok script
  pub some : 0 < open_count script.config script.word script.events
  pub is : text ≡ open_note (open_count script.config script.word script.events)

-- what is said of a status whatever the script is; of 0, 2, 3 and 4 nothing
abbrev pub fixed_note : Status → List ℕ
fixed_note status.Done = []
fixed_note status.Usage = codes "the words are replay, gen N, live CONFIG, --help or --version, and N is a number from 1 to 200000" ++ codes "\n"
fixed_note status.Script = []
fixed_note status.Config = []
fixed_note status.BadEvent = []
fixed_note status.NoMemory = codes "memory was refused: standard output has whole turns at most" ++ codes "\n"
fixed_note status.ReadFault = codes "standard input could not be read to its end" ++ codes "\n"
fixed_note status.WriteFault = codes "standard output took no more: what it has is a front of the output" ++ codes "\n"
fixed_note status.Spent = codes "a number of 32 bits has run out: split the script" ++ codes "\n"

-- a note of the script that the source's bytes are
abbrev pub IsTold : Status → Side → List ℕ → Type 0
IsTold status.Done source text = IfTold source (λ bytes. IsOpenNote bytes text)
IsTold status.Usage source text = ⊥
IsTold status.Script source text = IfTold source (λ bytes. IsScriptNote bytes text)
IsTold status.Config source text = IfTold source (λ bytes. IsConfigNote bytes text)
IsTold status.BadEvent source text = IfTold source (λ bytes. IsBadNote bytes text)
IsTold status.NoMemory source text = ⊥
IsTold status.ReadFault source text = ⊥
IsTold status.WriteFault source text = ⊥
IsTold status.Spent source text = ⊥

-- what is said of its script: nothing, also where memory was refused for it, or such a note
abbrev pub IsOwn : Status → Side → List ℕ → Type 0
IsOwn s source own = (own ≡ []) ⊎ IsTold s source own

-- the note of a run that ends with this status
abbrev pub IsNote : Status → Side → List ℕ → Type 0
IsNote s source text = (text ≡ fixed_note s) ⊎ IsTold s source text

-- a text was written to the notes; or its front, and they failed
abbrev pub IsWritten : List ℕ → Side → Side → Type 0
IsWritten text notes notes' = Gained notes.bytes notes'.bytes text ⊎ (GainedPart notes.bytes notes'.bytes text × Fails notes notes')

-- all that is said on the side of a run
pub record Notes (s : Status) (source notes notes' : Side) : Type 0 where
  pub text : List ℕ
  pub note : IsNote s source text
  pub written : IsWritten text notes notes'

-- what is said on the side of a live run, by its status
abbrev pub live_note : Status → List ℕ
live_note status.Done = []
live_note status.Usage = codes "live is followed by callers=K, K from 1 to 8, or nothing, and then by single, manager, lazy, pubsub or monitor, url=redis://HOST:PORT and its settings" ++ codes "\n"
live_note status.Script = codes "each line is a line `submit ..` of a script, and the last one is `end`: nothing was dialled" ++ codes "\n"
live_note status.Config = codes "what standard output names is refused of the configuration: nothing was dialled" ++ codes "\n"
live_note status.BadEvent = []
live_note status.NoMemory = codes "memory was refused: standard output has a front of the outcomes" ++ codes "\n"
live_note status.ReadFault = codes "standard input could not be read to its end" ++ codes "\n"
live_note status.WriteFault = codes "standard output took no more: what it has is a front of the output" ++ codes "\n"
live_note status.Spent = []
