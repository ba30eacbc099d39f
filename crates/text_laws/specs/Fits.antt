-- What the types of a history hold: each number is in the range of its type, and each byte is one. And which histories have
-- lines: those whose submissions have forms.
use Rattle.std.specs.Prelude.{◌≡◌, ℕ, ◌^◌, ◌<◌, false, List, Option, Some, None, IfSome, All}
use Rattle.driver_model.specs.declared.config.Config.{Config}
use Rattle.driver_model.specs.declared.config.Config.TheVariants as config
use Rattle.driver_model.specs.declared.config_words.AddressWords.{AddressWords}
use Rattle.driver_model.specs.declared.config_words.ConnectionWords.{ConnectionWords}
use Rattle.driver_model.specs.declared.config_words.ManagerWords.{ManagerWords}
use Rattle.driver_model.specs.declared.kind.SessionKind.{SessionKind}
use Rattle.driver_model.specs.Config.{kind_of}
use Rattle.driver_model.specs.declared.event.Event.{Event}
use Rattle.driver_model.specs.declared.event.EventKind.{EventKind}
use Rattle.driver_model.specs.declared.event.EventKind.TheVariants as event
use Rattle.driver_model.specs.declared.event.Submission.{Submission}
use Rattle.driver_model.specs.declared.event.Submission.TheVariants as submission
use Rattle.driver_model.specs.Request.{has_no_form}

-- a byte
abbrev pub IsByte : ℕ → Type 0
IsByte b = b < 2 ^ 8

-- each of them is a byte
abbrev pub AreBytes : List ℕ → Type 0
AreBytes bytes = All IsByte bytes

-- the words of these commands are bytes
abbrev pub FitsCommands : List (List (List ℕ)) → Type 0
FitsCommands commands = All (All AreBytes) commands

-- a submission that its type holds
abbrev pub FitsSubmission : Submission → Type 0
FitsSubmission (submission.Cmd args) = All AreBytes args
FitsSubmission (submission.NoReply args) = All AreBytes args
FitsSubmission (submission.Pipe commands) = FitsCommands commands
FitsSubmission (submission.Multi commands) = FitsCommands commands
FitsSubmission (submission.Packed offset count commands) = (offset < 2 ^ 32) × (count < 2 ^ 32) × FitsCommands commands
FitsSubmission (submission.Subscription what names) = All AreBytes names
FitsSubmission (submission.Ping message) = IfSome message AreBytes

-- a number that is less than this, where there is one
abbrev pub FitsNumber : ℕ → Option ℕ → Type 0
FitsNumber bound None = Unit {0}
FitsNumber bound (Some n) = n < bound

-- a kind of event that its type holds
abbrev pub FitsKind : EventKind → Type 0
FitsKind (event.Submit s) = FitsSubmission s
FitsKind (event.Cancel s) = s < 2 ^ 32
FitsKind (event.Connected link) = link < 2 ^ 32
FitsKind (event.Refused link kind) = link < 2 ^ 32
FitsKind (event.Wrote link count) = (link < 2 ^ 32) × (count < 2 ^ 64)
FitsKind (event.Bytes link piece) = (link < 2 ^ 32) × AreBytes piece
FitsKind (event.Ended link) = link < 2 ^ 32
FitsKind (event.ReadFault link kind) = link < 2 ^ 32
FitsKind (event.WriteFault link kind) = link < 2 ^ 32
FitsKind (event.Fired timer) = timer < 2 ^ 32
FitsKind (event.Creds source auth) = (source < 2 ^ 32) × AreBytes auth.username × AreBytes auth.password
FitsKind (event.CredsError source text) = (source < 2 ^ 32) × AreBytes text
FitsKind (event.CredsEnd source) = source < 2 ^ 32
FitsKind (event.Timeout ms) = FitsNumber (2 ^ 64) ms
FitsKind event.DropStream = Unit {0}
FitsKind event.Shutdown = Unit {0}

-- an event that its type holds
pub record FitsEvent (e : Event) : Type 0 where
  pub word : e.word < 2 ^ 64
  pub kind : FitsKind e.kind

-- a number of milliseconds, where there is one, that its type holds
abbrev pub FitsLimit : Option (Option ℕ) → Type 0
FitsLimit limit = IfSome limit (FitsNumber (2 ^ 64))

-- the words of an address that their type holds
abbrev pub FitsAddress : AddressWords → Type 0
FitsAddress words = AreBytes words.url

-- the words of a connection that their type holds
pub record FitsConnection (words : ConnectionWords) : Type 0 where
  pub connect : FitsLimit words.connect
  pub response : FitsLimit words.response
  pub limit : FitsNumber (2 ^ 32) words.limit
  pub buffer : FitsNumber (2 ^ 32) words.buffer
  pub boundary : FitsNumber (2 ^ 64) words.boundary

-- a numerator and a denominator that their type holds
abbrev pub FitsFraction : ℕ × ℕ → Type 0
FitsFraction base = (base.0 < 2 ^ 32) × (base.1 < 2 ^ 32)

-- the words of how a connection comes back that their type holds
pub record FitsManager (words : ManagerWords) : Type 0 where
  pub retries : FitsNumber (2 ^ 32) words.retries
  pub min : FitsNumber (2 ^ 64) words.min
  pub max : FitsLimit words.max
  pub base : IfSome words.base FitsFraction

-- a configuration that its type holds
abbrev pub FitsConfig : Config → Type 0
FitsConfig (config.Single address connection) = FitsAddress address × FitsConnection connection
FitsConfig (config.Manager lazy address connection manager) = FitsAddress address × FitsConnection connection × FitsManager manager
FitsConfig (config.PubSub address) = FitsAddress address
FitsConfig (config.Monitor address) = FitsAddress address

-- a history that the types hold
pub record FitsHistory (c : Config) (w : ℕ) (es : List Event) : Type 0 where
  pub config : FitsConfig c
  pub word : w < 2 ^ 64
  pub events : All FitsEvent es

-- an event that hands in no submission for which a session of this kind has no form
abbrev pub HasForm : SessionKind → EventKind → Type 0
HasForm session (event.Submit s) = has_no_form session s ≡ false
HasForm session (event.Cancel s) = Unit {0}
HasForm session (event.Connected link) = Unit {0}
HasForm session (event.Refused link kind) = Unit {0}
HasForm session (event.Wrote link count) = Unit {0}
HasForm session (event.Bytes link piece) = Unit {0}
HasForm session (event.Ended link) = Unit {0}
HasForm session (event.ReadFault link kind) = Unit {0}
HasForm session (event.WriteFault link kind) = Unit {0}
HasForm session (event.Fired timer) = Unit {0}
HasForm session (event.Creds source auth) = Unit {0}
HasForm session (event.CredsError source text) = Unit {0}
HasForm session (event.CredsEnd source) = Unit {0}
HasForm session (event.Timeout ms) = Unit {0}
HasForm session event.DropStream = Unit {0}
HasForm session event.Shutdown = Unit {0}

-- the same, of the event with its word
abbrev pub WithForm : SessionKind → Event → Type 0
WithForm session e = HasForm session e.kind

-- each submission has a form
abbrev pub HaveForms : Config → List Event → Type 0
HaveForms c es = All (WithForm (kind_of c)) es
