-- How new credentials are told to the servers of a trace's links.
use Rattle.std.specs.Prelude.{◌≡◌, ◌≢◌, ◌<◌, ℕ, ◌+◌, ◌==◌, true, false, List, [], ◌∷◌, ◌++◌, take, Some, None, slice_get, if◌then◌else◌}
use Rattle.credentials.specs.Credentials.{Credentials}
use Rattle.credentials.specs.Message.{auth_bytes}
use Rattle.driver_model.specs.declared.action.Action.{Action}
use Rattle.driver_model.specs.declared.action.Action.TheVariants as action
use Rattle.driver_model.specs.declared.action.Cause.TheVariants as cause
use Rattle.driver_model.specs.declared.action.Owner.TheVariants as owner
use Rattle.driver_model.specs.declared.action.Purpose.TheVariants as purpose
use Rattle.driver_model.specs.declared.config.Config.{Config}
use Rattle.driver_model.specs.Config.{response_timeout}
use Rattle.driver_model.specs.declared.event.EventKind.{EventKind}
use Rattle.driver_model.specs.declared.event.EventKind.TheVariants as event
use Rattle.legal_trace.specs.Ledger.{Ledger, Start, is_full, is_of_renewal, is_set_up, is_taken, renewal_count}
use Rattle.legal_trace.specs.Book.{book}

-- the number of the source of credentials that an action asks for, for link l
abbrev pub asked_by : ℕ → Action → List ℕ
asked_by l (action.NeedCreds c m) = if m == l then c ∷ [] else []
asked_by l _ = []

-- those that a trace asks for, in order
abbrev pub sources_asked : ℕ → List Action → List ℕ
sources_asked l [] = []
sources_asked l (a ∷ more) = asked_by l a ++ sources_asked l more

-- the credentials that an event brings of source c
abbrev pub given_by : ℕ → EventKind → List Credentials
given_by c (event.Creds s auth) = if s == c then auth ∷ [] else []
given_by c _ = []

-- and those that an action does
abbrev pub brought_by : ℕ → Action → List Credentials
brought_by c (action.Turn k (cause.Event e)) = given_by c e.kind
brought_by c _ = []

-- those that the events of a trace bring of it, in order
abbrev pub brought : ℕ → List Action → List Credentials
brought c [] = []
brought c (a ∷ more) = brought_by c a ++ brought c more

-- these are the credentials of number k that events bring of the second source that a trace asks for, for link l
pub record Comes (trace : List Action) (l k : ℕ) (credentials : Credentials) : Type 0 where
  pub source : ℕ
  pub second : slice_get (sources_asked l trace) 1 ≡ Some source
  pub brings : slice_get (brought source trace) k ≡ Some credentials

-- message j of a link is this, and tells new credentials
pub record IsRenewal (l : Ledger) (j : ℕ) (s : Start) : Type 0 where
  pub stands : slice_get l.starts j ≡ Some s
  pub renews : is_of_renewal s.owner ≡ true

-- behind each front of a trace each message of a link that tells new credentials is the AUTH of those that came of its second
-- source, of as many as are told before it on the link: so they are told in their order, each once
abbrev pub TellsEachNext : List Action → Type 0
TellsEachNext trace =
    (front more : List Action) (l j : ℕ) (s : Start) → trace ≡ front ++ more → IsRenewal ((book front).link l) j s
    → (c : Credentials) × Comes front l (renewal_count (take j ((book front).link l).starts)) c × (s.bytes ≡ auth_bytes c.username c.password)

-- an action tells new credentials on link l
abbrev pub Renews : ℕ → Action → Type 0
Renews l (action.Start m message owner.Auth count len) = m ≡ l
Renews l _ = ⊥

-- where it does, the link is set up
abbrev pub TellsWhereSet : List Action → Type 0
TellsWhereSet trace =
    (front more : List Action) (a : Action) (l : ℕ) → trace ≡ front ++ a ∷ more → Renews l a
    → is_set_up ((book front).link l) ≡ true

-- and each message before that told some on the link was answered without an error
abbrev pub TellsOnceTaken : List Action → Type 0
TellsOnceTaken trace =
    (front more : List Action) (a : Action) (l j : ℕ) (s : Start) → trace ≡ front ++ a ∷ more → Renews l a
    → IsRenewal ((book front).link l) j s → is_taken ((book front).link l) (Some j) ≡ true

-- no two of these on a link are unanswered at once
abbrev pub TellsOneAtOnce : List Action → Type 0
TellsOneAtOnce trace =
    (front more : List Action) (l i j : ℕ) (s t : Start) → trace ≡ front ++ more → IsRenewal ((book front).link l) i s
    → IsRenewal ((book front).link l) j t → is_full ((book front).link l) i ≡ false → is_full ((book front).link l) j ≡ false → i ≡ j

-- new credentials are told in turn
pub record TellsInTurn (trace : List Action) : Type 0 where
  pub next : TellsEachNext trace
  pub set : TellsWhereSet trace
  pub taken : TellsOnceTaken trace
  pub alone : TellsOneAtOnce trace

-- a timer that an action asks for, for new credentials of link l
abbrev pub timed_by : ℕ → Action → ℕ
timed_by l (action.Timer t ms (purpose.Renewal m k)) = if m == l then 1 else 0
timed_by l _ = 0

-- how many a trace asks for
abbrev pub timers_asked : ℕ → List Action → ℕ
timers_asked l [] = 0
timers_asked l (a ∷ more) = timed_by l a + timers_asked l more

-- timers for new credentials are asked for one after another, one for each, and within the time of the configuration
abbrev pub AsksEachNext : Config → List Action → Type 0
AsksEachNext config trace =
    (front more : List Action) (t ms l k : ℕ) → trace ≡ front ++ action.Timer t ms (purpose.Renewal l k) ∷ more
    → (response_timeout config ≡ Some ms) × (k ≡ timers_asked l front)

-- where it has such a time, new credentials are told only once those have been asked for that are told with them
abbrev pub TellsTimed : Config → List Action → Type 0
TellsTimed config trace =
    (front more : List Action) (a : Action) (l : ℕ) → trace ≡ front ++ a ∷ more → Renews l a → response_timeout config ≢ None
    → renewal_count ((book front).link l).starts < timers_asked l front

-- new credentials have their timers
pub record TimesRenewals (config : Config) (trace : List Action) : Type 0 where
  pub next : AsksEachNext config trace
  pub told : TellsTimed config trace
