-- The permits that a trace takes, and the timers of its submissions.
use Rattle.std.specs.Prelude.{◌≡◌, ◌⊎◌, ℕ, ◌<◌, ◌≤◌, List, ◌∷◌, ◌++◌, Some, None, true, slice_get}
use Rattle.redis_error.specs.declared.fault_kind.FaultKind.TheVariants as kind
use Rattle.redis_error.specs.declared.redis_error.RedisError.TheVariants as error
use Rattle.driver_model.specs.declared.action.Action.{Action}
use Rattle.driver_model.specs.declared.action.Action.TheVariants as action
use Rattle.driver_model.specs.declared.action.Cause.TheVariants as cause
use Rattle.driver_model.specs.declared.action.Owner.{Owner}
use Rattle.driver_model.specs.declared.action.Owner.TheVariants as owner
use Rattle.driver_model.specs.declared.action.Purpose.TheVariants as purpose
use Rattle.driver_model.specs.declared.config.Config.{Config}
use Rattle.driver_model.specs.declared.event.Event.{Event}
use Rattle.driver_model.specs.declared.event.EventKind.TheVariants as event
use Rattle.driver_model.specs.declared.event.Submission.{Submission}
use Rattle.driver_model.specs.declared.outcome.Outcome.TheVariants as outcome
use Rattle.driver_model.specs.Config.{permits}
use Rattle.legal_trace.specs.Book.{book, is_clock_of}
use Rattle.legal_trace.specs.Steps.{permits_held}
use Rattle.legal_trace.specs.Legal.{IsOpen}
use Rattle.legal_laws.specs.Starts.{IsStart}

-- behind each front of a trace its submissions hold no more permits of a link than its configuration has
abbrev pub HoldsWithin : Config → List Action → Type 0
HoldsWithin config trace =
    (front more : List Action) (limit l : ℕ) → trace ≡ front ++ more → permits config ≡ Some limit
    → permits_held (book front).story l (book front).submissions ≤ limit

-- and none is taken where they aren't counted
abbrev pub TakesWhereCounted : Config → List Action → Type 0
TakesWhereCounted config trace =
    (front more : List Action) (who : Owner) (l count : ℕ) → trace ≡ front ++ action.Took who l count ∷ more
    → permits config ≡ None → ⊥

-- both of a trace
pub record KeepsPermits (config : Config) (trace : List Action) : Type 0 where
  pub within : HoldsWithin config trace
  pub counted : TakesWhereCounted config trace

-- a timer of submission n is asked for
abbrev pub IsAsking : ℕ → Action → Type 0
IsAsking n (action.Timer t ms (purpose.Response (owner.Try m round))) = m ≡ n
IsAsking n _ = ⊥

-- each submission has one at most
abbrev pub AsksOnce : List Action → Type 0
AsksOnce trace =
    (front middle more : List Action) (a c : Action) (n : ℕ) → trace ≡ front ++ a ∷ (middle ++ c ∷ more)
    → IsAsking n a → IsAsking n c → ⊥

-- it is of the time that was in force where the submission was handed in
abbrev pub AsksInForce : List Action → Type 0
AsksInForce trace =
    (front middle more : List Action) (k t ms round : ℕ) (e : Event) (s : Submission)
    → trace ≡ front ++ action.Turn k (cause.Event e) ∷
    (middle ++ action.Timer t ms (purpose.Response (owner.Try (book front).submissions round)) ∷ more)
    → e.kind ≡ event.Submit s → (book front).timeout ≡ Some ms

-- and the submission holds its permits, where they are counted
abbrev pub AsksHolding : Config → List Action → Type 0
AsksHolding config trace =
    (front more : List Action) (t ms n round : ℕ)
    → trace ≡ front ++ action.Timer t ms (purpose.Response (owner.Try n round)) ∷ more
    → (permits config ≡ None) ⊎ (0 < ((book front).story n).permits)

-- all three of a trace
pub record AsksTimers (config : Config) (trace : List Action) : Type 0 where
  pub once : AsksOnce trace
  pub in_force : AsksInForce trace
  pub holding : AsksHolding config trace

-- behind the outcome that its time is over no message of a submission starts
abbrev pub TimedOutStartNoMore : List Action → Type 0
TimedOutStartNoMore trace =
    (front middle more : List Action) (c : Action) (l n : ℕ)
    → trace ≡ front ++ action.Outcome n (outcome.Fault (error.Io kind.TimedOut)) ∷ (middle ++ c ∷ more) → IsStart l n c → ⊥

-- nor once its timer fired while it was open
abbrev pub FiredStartNoMore : List Action → Type 0
FiredStartNoMore trace =
    (front middle more : List Action) (k t : ℕ) (e : Event) (c : Action) (l n : ℕ)
    → trace ≡ front ++ action.Turn k (cause.Event e) ∷ (middle ++ c ∷ more) → e.kind ≡ event.Fired t
    → is_clock_of n (slice_get (book front).timers t) ≡ true → IsOpen (book front) n → IsStart l n c → ⊥
