-- What each wait says in the terms of the connection: of what the trace has counted and left open so far, and of nothing that a
-- submission does next.
use Rattle.std.specs.Prelude.{◌≡◌, ◌≢◌, ◌⊎◌, ℕ, zero, suc, ◌+◌, ◌-◌, ◌<◌, ◌≤◌, ◌==◌, Bool, true, false, ◌&&◌, List, [], ◌∷◌, ◌++◌, length, take, Some, None, is_some, slice_get, if◌then◌else◌}
use Rattle.std.specs.List.{AllByRecursion}
use Rattle.connection_setup.specs.declared.judgement.SetupResult.TheVariants.{RepeatWithoutUser}
use Rattle.driver_model.specs.declared.action.Action.{Action}
use Rattle.driver_model.specs.declared.action.Action.TheVariants as action
use Rattle.driver_model.specs.declared.action.Cause.TheVariants as cause
use Rattle.driver_model.specs.declared.action.Owner.{Owner}
use Rattle.driver_model.specs.declared.action.Owner.TheVariants as owner
use Rattle.driver_model.specs.declared.action.Purpose.TheVariants as purpose
use Rattle.driver_model.specs.declared.action.WaitKind.{WaitKind}
use Rattle.driver_model.specs.declared.action.WaitKind.TheVariants as wait
use Rattle.driver_model.specs.declared.config.Config.{Config}
use Rattle.driver_model.specs.declared.event.Event.{Event}
use Rattle.driver_model.specs.declared.event.EventKind.TheVariants as event
use Rattle.driver_model.specs.Config.{permits, buffer_size, boundary}
use Rattle.driver_model.specs.Shape.{need_of}
use Rattle.legal_trace.specs.Ledger.{Ledger, Start, renewal_due, result_of, setup_count}
use Rattle.legal_trace.specs.Story.{Story, has_place, is_unstarted}
use Rattle.legal_trace.specs.Book.{Book, book}
use Rattle.legal_trace.specs.Legal.{IsOpen, link_of}

-- how many bytes these messages have
abbrev pub size_of : List Start → ℕ
size_of [] = 0
size_of (s ∷ more) = length s.bytes + size_of more

-- how many bytes of its started messages a link has not taken
abbrev pub untaken : Ledger → ℕ
untaken l = size_of l.starts - length l.taken

-- no message starts on the link: it has not taken as many bytes as the boundary, and at least one
pub record IsHeldBack (config : Config) (l : Ledger) : Type 0 where
  pub some : 0 < untaken l
  pub many : boundary config ≤ untaken l

-- how many items these messages take
abbrev pub needs : List Start → ℕ
needs [] = 0
needs (s ∷ more) = need_of s.shape + needs more

-- a message of this owner has started, and fewer items came than the messages up to it take; all bytes were taken, or an offer is
-- unanswered
pub record IsUnanswered (l : Ledger) (who : Owner) : Type 0 where
  pub k : ℕ
  pub message : Start
  pub started : slice_get l.starts k ≡ Some message
  pub owned : message.owner ≡ who
  pub lacks : length l.dealt < needs (take (k + 1) l.starts)
  pub offered : (untaken l ≡ 0) ⊎ (l.offer ≢ [])

-- connect: the connect was asked for, and is neither answered nor closed
pub record IsConnecting (l : Ledger) : Type 0 where
  pub asked : l.asked ≡ true
  pub unanswered : l.up ≡ false
  pub unclosed : l.end ≡ None

-- credentials: the link is up, and those for its setup are to come of a source, which was asked for and gave none
pub record IsUncredited (l : Ledger) : Type 0 where
  pub up : l.up ≡ true
  pub wanted : l.creds.wanted ≡ true
  pub asked : l.creds.asked ≡ true
  pub none : l.creds.given ≡ false

-- the link is held back, and no setup has started, or the server counts other arguments than those of the one that did
pub record IsSetupHeldBack (config : Config) (l : Ledger) : Type 0 where
  pub held_back : IsHeldBack config l
  pub due : (setup_count l.starts ≡ 0) ⊎ (result_of l 0 ≡ Some RepeatWithoutUser)

-- setup: the link is up and has the credentials that it wants, and the setup isn't answered, or can't start
pub record IsSettingUp (config : Config) (l : Ledger) : Type 0 where
  pub up : l.up ≡ true
  pub given : l.creds.wanted ≡ true → l.creds.given ≡ true
  pub awaited : IsUnanswered l owner.Setup ⊎ IsSetupHeldBack config l

-- the link is held back, and what is subscribed again has not started
pub record IsAgainHeldBack (config : Config) (l : Ledger) : Type 0 where
  pub held_back : IsHeldBack config l
  pub none : (k : ℕ) (s : Start) → slice_get l.starts k ≡ Some s → s.owner ≢ owner.Resub

-- resubscription: the link is up, and what is subscribed again isn't answered, or can't start
pub record IsResubscribing (config : Config) (l : Ledger) : Type 0 where
  pub up : l.up ≡ true
  pub awaited : IsUnanswered l owner.Resub ⊎ IsAgainHeldBack config l

-- an action is other than the firing of timer t
abbrev pub LeavesTimer : ℕ → Action → Type 0
LeavesTimer t (action.Turn k (cause.Event e)) = e.kind ≢ event.Fired t
LeavesTimer t _ = Unit {0}

-- backoff: a timer was asked for the wait behind a failed attempt, and has not fired since
pub record IsResting (trace : List Action) : Type 0 where
  pub before : List Action
  pub after : List Action
  pub t : ℕ
  pub ms : ℕ
  pub g : ℕ
  pub asked : trace ≡ before ++ action.Timer t ms (purpose.Backoff g) ∷ after
  pub runs : AllByRecursion (LeavesTimer t) after

-- how many permits of link l the first n submissions hold together
abbrev pub held_of : (ℕ → Story) → ℕ → ℕ → ℕ
held_of story l zero = 0
held_of story l (suc n) = held_of story l n + (if (story n).link == l then (story n).permits else 0)

-- permit: the submission holds none, and all that the configuration has are held
pub record IsOutOfPermits (config : Config) (b : Book) (n : ℕ) : Type 0 where
  pub none : (b.story n).permits ≡ 0
  pub limit : ℕ
  pub counted : permits config ≡ Some limit
  pub all : held_of b.story (b.story n).link b.submissions ≡ limit

-- a submission has a place in the queue of link l: it was shown to wait for room, or answered at its place, and its message has not
-- started
abbrev pub is_seated : ℕ → Story → Bool
is_seated l s = (s.link == l) && (is_unstarted s && has_place s)

-- how many of the first n submissions have one
abbrev pub seated : (ℕ → Story) → ℕ → ℕ → ℕ
seated story l zero = 0
seated story l (suc n) = seated story l n + (if is_seated l (story n) then 1 else 0)

-- and new credentials that are to be told take one
abbrev pub credentials_in_line : Ledger → ℕ
credentials_in_line l = if is_some (renewal_due l) then 1 else 0

-- place: the submission has none, as many have one before it as the queue of its link holds, and the link is held back
pub record IsOutOfPlaces (config : Config) (b : Book) (n : ℕ) : Type 0 where
  pub none : has_place (b.story n) ≡ false
  pub full : buffer_size config ≤ credentials_in_line (b.link (b.story n).link) + seated b.story (b.story n).link n
  pub held_back : IsHeldBack config (b.link (b.story n).link)

-- room: its link is up, and held back
pub record IsOutOfRoom (config : Config) (l : Ledger) : Type 0 where
  pub up : l.up ≡ true
  pub held_back : IsHeldBack config l

-- what a wait of submission n says behind a trace
abbrev pub IsTrue : Config → List Action → ℕ → WaitKind → Type 0
IsTrue config trace n wait.Connect = IsConnecting (link_of (book trace) n)
IsTrue config trace n wait.Creds = IsUncredited (link_of (book trace) n)
IsTrue config trace n wait.Setup = IsSettingUp config (link_of (book trace) n)
IsTrue config trace n wait.Resubscribe = IsResubscribing config (link_of (book trace) n)
IsTrue config trace n wait.Backoff = IsResting trace
IsTrue config trace n wait.Permit = IsOutOfPermits config (book trace) n
IsTrue config trace n wait.Place = IsOutOfPlaces config (book trace) n
IsTrue config trace n wait.Room = IsOutOfRoom config (link_of (book trace) n)

-- where a trace shows a wait, it is true
abbrev pub ShowsTrue : Config → List Action → Type 0
ShowsTrue config trace =
    (front more : List Action) (n round : ℕ) (kind : WaitKind) → trace ≡ front ++ action.Wait (owner.Try n round) kind ∷ more
    → IsTrue config front n kind

-- the wait of submission n that was shown last is true
pub record IsInWait (config : Config) (trace : List Action) (n : ℕ) : Type 0 where
  pub kind : WaitKind
  pub shown : ((book trace).story n).waiting ≡ Some kind
  pub holds : IsTrue config trace n kind

-- so it is of each open submission whose message has not started
abbrev pub AllWait : Config → List Action → Type 0
AllWait config trace = (n : ℕ) → IsOpen (book trace) n → ((book trace).story n).tries ≡ [] → IsInWait config trace n

-- the waits of a trace are true: where they are shown, as the turn of each event begins, and behind the last turn
pub record WaitsAreTrue (config : Config) (trace : List Action) : Type 0 where
  pub shown : ShowsTrue config trace
  pub between : (front more : List Action) (k : ℕ) (e : Event) → trace ≡ front ++ action.Turn k (cause.Event e) ∷ more → AllWait config front
  pub last : AllWait config trace
