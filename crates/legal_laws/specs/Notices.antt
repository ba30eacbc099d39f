-- What a trace tells of what came on a link once it was set up, beside the replies to requests: pushes, messages of
-- publish/subscribe, and what a server in monitor mode reports.
use Rattle.std.specs.Prelude.{◌≡◌, ℕ, ◌==◌, true, false, ◌&&◌, not, List, [], ◌∷◌, ◌++◌, Some, if◌then◌else◌}
use Rattle.driver_model.specs.declared.action.Action.{Action}
use Rattle.driver_model.specs.declared.action.Action.TheVariants as action
use Rattle.driver_model.specs.declared.action.Cause.TheVariants as cause
use Rattle.driver_model.specs.declared.config.Config.{Config}
use Rattle.driver_model.specs.declared.hearing.Notice.{Notice}
use Rattle.driver_model.specs.declared.hearing.Notice.TheVariants as notice
use Rattle.driver_model.specs.declared.outcome.Outcome.{Outcome}
use Rattle.driver_model.specs.Config.{hearing_of}
use Rattle.driver_model.specs.Hearing.{hears_pushes, hears_messages, is_watching, hears_something}
use Rattle.driver_model.specs.Push.{is_disconnection}
use Rattle.legal_trace.specs.Ledger.{Heard, is_full, is_full_by, next_notice}
use Rattle.legal_trace.specs.Story.{last_of}
use Rattle.legal_trace.specs.Book.{Book, blank_book, book, entered}

-- an action tells something that came on link l: a push names its link, and all else is of the link that submissions go to
abbrev pub Tells : Book → ℕ → Action → Type 0
Tells b l (action.Push m info) = (m ≡ l) × (is_disconnection info.kind ≡ false)
Tells b l (action.Message m) = b.current ≡ l
Tells b l (action.Monitor v) = b.current ≡ l
Tells b l _ = ⊥

-- what it tells of it
abbrev pub told_by : Book → ℕ → Action → List Notice
told_by b l (action.Push m info) = if (m == l) && not (is_disconnection info.kind) then notice.Push info ∷ [] else []
told_by b l (action.Message m) = if b.current == l then notice.Message m ∷ [] else []
told_by b l (action.Monitor v) = if b.current == l then notice.Monitor v ∷ [] else []
told_by b l _ = []

-- what actions tell of it, in order, behind what is in a book
abbrev pub told_each : Book → ℕ → List Action → List Notice
told_each b l [] = []
told_each b l (a ∷ more) = told_by b l a ++ told_each (entered b a) l more

-- and what a trace tells
abbrev pub notices_told : ℕ → List Action → List Notice
notices_told l trace = told_each blank_book l trace

-- what these say
abbrev pub said_by : List Heard → List Notice
said_by [] = []
said_by (h ∷ hs) = h.what ∷ said_by hs

-- here a turn is over: the next event begins one, or nothing comes
abbrev pub IsWhole : List Action → Type 0
IsWhole [] = Unit {0}
IsWhole (action.Turn k (cause.Event e) ∷ more) = Unit {0}
IsWhole _ = ⊥

-- a push, a message, and what a monitor reports
abbrev pub IsPush : Action → Type 0
IsPush (action.Push l info) = Unit {0}
IsPush _ = ⊥

abbrev pub IsMessage : Action → Type 0
IsMessage (action.Message m) = Unit {0}
IsMessage _ = ⊥

abbrev pub IsReport : Action → Type 0
IsReport (action.Monitor v) = Unit {0}
IsReport _ = ⊥

-- no action of a trace is one
abbrev pub HasNone : (Action → Type 0) → List Action → Type 0
HasNone P trace = (front more : List Action) (a : Action) → trace ≡ front ++ a ∷ more → P a → ⊥

-- behind each whole turn all of a link was told that came on it once it was set up, in order, each once
abbrev pub TellsEach : List Action → Type 0
TellsEach trace =
    (front more : List Action) (l : ℕ) → trace ≡ front ++ more → IsWhole more
    → notices_told l front ≡ said_by ((book front).link l).notices

-- nothing is told that nobody hears, and all that somebody does
pub record TellsNotices (config : Config) (trace : List Action) : Type 0 where
  pub pushes : hears_pushes (hearing_of config) ≡ false → HasNone IsPush trace
  pub messages : hears_messages (hearing_of config) ≡ false → HasNone IsMessage trace
  pub reports : is_watching (hearing_of config) ≡ false → HasNone IsReport trace
  pub each : hears_something (hearing_of config) ≡ true → TellsEach trace

-- the last message of submission n that started is number k of link l
abbrev pub HasMessage : Book → ℕ → ℕ → ℕ → Type 0
HasMessage b n l k = last_of (b.story n).tries ≡ Some (record { link = l; message = k })

-- whoever is answered behind what is told takes an item behind it: its message wasn't full when that came
abbrev pub AnswersBehind : List Action → Type 0
AnswersBehind trace =
    (front middle more : List Action) (l n k : ℕ) (a : Action) (o : Outcome) (h : Heard)
    → trace ≡ front ++ a ∷ (middle ++ action.Outcome n o ∷ more) → Tells (book front) l a → next_notice ((book front).link l) ≡ Some h
    → HasMessage (book (front ++ a ∷ middle)) n l k → is_full_by ((book (front ++ a ∷ middle)).link l) h.after k ≡ false

-- whoever is answered before it by its items had them all: its message was full when that came
abbrev pub AnswersBefore : List Action → Type 0
AnswersBefore trace =
    (front middle more : List Action) (l n k : ℕ) (a : Action) (o : Outcome) (h : Heard)
    → trace ≡ front ++ action.Outcome n o ∷ (middle ++ a ∷ more) → Tells (book (front ++ action.Outcome n o ∷ middle)) l a
    → next_notice ((book (front ++ action.Outcome n o ∷ middle)).link l) ≡ Some h
    → HasMessage (book front) n l k → is_full ((book front).link l) k ≡ true
    → is_full_by ((book front).link l) h.after k ≡ true

-- what is told stands before the outcomes of messages that take an item behind it, and behind those of messages that were full
-- before
pub record TellsInOrder (trace : List Action) : Type 0 where
  pub behind : AnswersBehind trace
  pub before : AnswersBefore trace
