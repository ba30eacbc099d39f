-- Where messages start in a trace, and where they start no more.
use Rattle.std.specs.Prelude.{◌≡◌, ◌⊎◌, ◌<◌, ℕ, true, List, [], ◌∷◌, ◌++◌, length}
use Rattle.driver_model.specs.declared.action.Action.{Action}
use Rattle.driver_model.specs.declared.action.Action.TheVariants as action
use Rattle.driver_model.specs.declared.action.Cause.TheVariants as cause
use Rattle.driver_model.specs.declared.action.Owner.TheVariants as owner
use Rattle.driver_model.specs.declared.config.Config.{Config}
use Rattle.driver_model.specs.declared.event.EventKind.TheVariants as event
use Rattle.driver_model.specs.declared.outcome.Outcome.{Outcome}
use Rattle.driver_model.specs.declared.outcome.Outcome.TheVariants as outcome
use Rattle.driver_model.specs.Config.{permits, buffer_size, boundary}
use Rattle.legal_trace.specs.Ledger.{unwritten}
use Rattle.legal_trace.specs.Story.{is_no_error}
use Rattle.legal_trace.specs.Book.{Book, book}
use Rattle.legal_trace.specs.Steps.{line_before}
use Rattle.legal_trace.specs.Legal.{IsOpen}

-- a message starts on link l, of its setup, of MONITOR, of new credentials or of a submission
abbrev pub StartsOn : ℕ → Action → Type 0
StartsOn l (action.Start m k who count len) = m ≡ l
StartsOn l _ = ⊥

-- a message of submission n starts on link l
abbrev pub IsStart : ℕ → ℕ → Action → Type 0
IsStart l n (action.Start m message (owner.Try i round) count len) = (m ≡ l) × (i ≡ n)
IsStart l n _ = ⊥

-- submission n has a place: fewer stand in line before it than the queue of its link holds
abbrev pub HasPlace : Config → Book → ℕ → Type 0
HasPlace config b n = line_before (permits config) b.story (b.story n).link n < buffer_size config

-- where a message starts, whosever it is, no bytes of its link were unwritten, or fewer than the boundary
abbrev pub StartsWithin : Config → List Action → Type 0
StartsWithin config trace =
    (front more : List Action) (a : Action) (l : ℕ) → trace ≡ front ++ a ∷ more → StartsOn l a
    → (length (unwritten ((book front).link l)) ≡ 0) ⊎ (length (unwritten ((book front).link l)) < boundary config)

-- and where it is of a submission, this has a place
abbrev pub StartsInPlace : Config → List Action → Type 0
StartsInPlace config trace =
    (front more : List Action) (a : Action) (l n : ℕ) → trace ≡ front ++ a ∷ more → IsStart l n a
    → HasPlace config (book front) n

-- so has one that is answered without a message and without an error
abbrev pub TellsInPlace : Config → List Action → Type 0
TellsInPlace config trace =
    (front more : List Action) (n : ℕ) (o : Outcome) → trace ≡ front ++ action.Outcome n o ∷ more
    → ((book front).story n).tries ≡ [] → is_no_error (o ∷ []) ≡ true → HasPlace config (book front) n

-- no message starts past the boundary of the configuration, and nobody starts or is told without a place
pub record StaysWithin (config : Config) (trace : List Action) : Type 0 where
  pub bytes : StartsWithin config trace
  pub starts : StartsInPlace config trace
  pub tells : TellsInPlace config trace

-- of two messages of a link the one that starts first is of an earlier submission
abbrev pub StartsRise : List Action → Type 0
StartsRise trace =
    (front middle more : List Action) (a c : Action) (l m n : ℕ) → trace ≡ front ++ a ∷ (middle ++ c ∷ more)
    → IsStart l m a → IsStart l n c → m < n

-- submission n leaves: its outcome is an error, or its caller goes while it is open
abbrev pub Leaves : Book → ℕ → Action → Type 0
Leaves b n (action.Outcome m (outcome.Fault e)) = m ≡ n
Leaves b n (action.Turn k (cause.Event e)) = (e.kind ≡ event.Cancel n) × IsOpen b n
Leaves b n _ = ⊥

-- behind that none of its messages starts
abbrev pub LeftStartNoMore : List Action → Type 0
LeftStartNoMore trace =
    (front middle more : List Action) (a c : Action) (l n : ℕ) → trace ≡ front ++ a ∷ (middle ++ c ∷ more)
    → Leaves (book front) n a → IsStart l n c → ⊥
