-- What events and actions make of a submission's story: a fact that each of these steps keeps stays so.
use Rattle.std.proofs.Common.{◌≡◌, ℕ, ◌==◌, true, None, refl, ap, max}
use Rattle.std.specs.Prelude.{slice_get}
use Rattle.containers.proofs.Choices.{chosen, eq_from}
use Rattle.driver_model.specs.declared.action.Action.{Action}
use Rattle.driver_model.specs.declared.action.Action.TheVariants as action
use Rattle.driver_model.specs.declared.action.Cause.TheVariants as cause
use Rattle.driver_model.specs.declared.action.Owner.TheVariants as owner
use Rattle.driver_model.specs.declared.action.Purpose.{Purpose}
use Rattle.driver_model.specs.declared.action.WaitKind.{WaitKind}
use Rattle.driver_model.specs.declared.event.EventKind.{EventKind}
use Rattle.driver_model.specs.declared.event.EventKind.TheVariants as event
use Rattle.driver_model.specs.declared.event.Submission.{Submission}
use Rattle.driver_model.specs.declared.outcome.Outcome.{Outcome}
use Rattle.legal_trace.specs.Story.{Story, answered, fires, handed_in, holds, is_open, left, rounds, tried, waits}
use Rattle.legal_trace.specs.Book.{Book, after_event, after_timer, entered, is_clock_of, is_unspoken}

-- the steps by events: it is handed in, its caller leaves, and its timer fires
pub record KeptByEvents (P : Story → Type 0) (b : Book) (n : ℕ) : Type 0 where
  pub handed : (what : Submission) → (b.submissions == n) ≡ true → P (handed_in (b.story n) what b.shut (is_unspoken b what) (max 1 b.generation) b.current b.timeout)
  pub left : P (left (b.story n))
  pub fired : (t : ℕ) → is_clock_of n (slice_get b.timers t) ≡ true → P (fires (b.story n))

-- the steps by this action
pub record KeptBy (P : Story → Type 0) (b : Book) (a : Action) (n : ℕ) : Type 0 where
  pub events : KeptByEvents P b n
  pub timed : (t ms : ℕ) (what : Purpose) → a ≡ action.Timer t ms what → P (after_timer b n t what)
  pub held : (l count round : ℕ) → a ≡ action.Took (owner.Try n round) l count → P (holds (b.story n) count)
  pub rounded : P (rounds (b.story n))
  pub waited : (kind : WaitKind) → P (waits (b.story n) kind)
  pub started : (l k round count len : ℕ) → a ≡ action.Start l k (owner.Try n round) count len → P (tried (b.story n) l k)
  pub answered : (o : Outcome) → a ≡ action.Outcome n o → P (answered (b.story n) o)

-- one that isn't open stays as it is where its caller leaves
pub left_keeps : (P : Story → Type 0) (s : Story) → (is_open s ≡ true → P (record s { cancelled = true; permits = 0; waiting = None })) → P s → P (left s)
left_keeps P s leaves h = chosen P (is_open s) (record s { cancelled = true; permits = 0; waiting = None }) s leaves (λ f. h)

-- and where its timer fires
pub fires_keeps : (P : Story → Type 0) (s : Story) → (is_open s ≡ true → P (record s { overdue = true })) → P s → P (fires s)
fires_keeps P s over h = chosen P (is_open s) (record s { overdue = true }) s over (λ f. h)

-- it stays with each event
pub event_keeps : (P : Story → Type 0) (b : Book) (n : ℕ) (kind : EventKind) → KeptByEvents P b n → P (b.story n) → P (after_event b n kind)
event_keeps P b n (event.Submit what) kept h = chosen P (b.submissions == n) (handed_in (b.story n) what b.shut (is_unspoken b what) (max 1 b.generation) b.current b.timeout) (b.story n) (kept.handed what) (λ f. h)
event_keeps P b n (event.Cancel m) kept h = chosen P (m == n) (left (b.story n)) (b.story n) (λ t. kept.left) (λ f. h)
event_keeps P b n (event.Fired t) kept h = chosen P (is_clock_of n (slice_get b.timers t)) (fires (b.story n)) (b.story n) (kept.fired t) (λ f. h)
event_keeps P b n (event.Connected l) kept h = h
event_keeps P b n (event.Refused l f) kept h = h
event_keeps P b n (event.Wrote l count) kept h = h
event_keeps P b n (event.Bytes l piece) kept h = h
event_keeps P b n (event.Ended l) kept h = h
event_keeps P b n (event.ReadFault l kind) kept h = h
event_keeps P b n (event.WriteFault l kind) kept h = h
event_keeps P b n (event.Timeout ms) kept h = h
event_keeps P b n (event.Creds c auth) kept h = h
event_keeps P b n (event.CredsError c text) kept h = h
event_keeps P b n (event.CredsEnd c) kept h = h
event_keeps P b n event.DropStream kept h = h
event_keeps P b n event.Shutdown kept h = h

-- so it stays with each action whose steps keep it
pub action_keeps : (P : Story → Type 0) (b : Book) (a : Action) (n : ℕ) → KeptBy P b a n → P (b.story n) → P ((entered b a).story n)
action_keeps P b (action.Turn k (cause.Opening config word)) n kept h = h
action_keeps P b (action.Turn k (cause.Event e)) n kept h = event_keeps P b n e.kind kept.events h
action_keeps P b (action.Connect l host port) n kept h = h
action_keeps P b (action.Timer t ms what) n kept h = kept.timed t ms what refl
action_keeps P b (action.Took owner.Setup l count) n kept h = h
action_keeps P b (action.Took owner.Auth l count) n kept h = h
action_keeps P b (action.Took owner.Resub l count) n kept h = h
action_keeps P b (action.Took owner.Monitor l count) n kept h = h
action_keeps P b (action.Took (owner.Try m round) l count) n kept h = chosen P (m == n) (holds (b.story n) count) (b.story n)
    (λ t. kept.held l count round (ap (λ (j : ℕ). action.Took (owner.Try j round) l count) (eq_from m n t))) (λ f. h)
action_keeps P b (action.Push l info) n kept h = h
action_keeps P b (action.Message msg) n kept h = h
action_keeps P b (action.Monitor v) n kept h = h
action_keeps P b (action.NeedCreds c l) n kept h = h
action_keeps P b (action.Generation g) n kept h = h
action_keeps P b (action.Round owner.Setup on) n kept h = h
action_keeps P b (action.Round owner.Auth on) n kept h = h
action_keeps P b (action.Round owner.Resub on) n kept h = h
action_keeps P b (action.Round owner.Monitor on) n kept h = h
action_keeps P b (action.Round (owner.Try m round) on) n kept h = chosen P (m == n) (rounds (b.story n)) (b.story n) (λ t. kept.rounded) (λ f. h)
action_keeps P b (action.Close l) n kept h = h
action_keeps P b (action.Write l bytes) n kept h = h
action_keeps P b (action.Wait owner.Setup kind) n kept h = h
action_keeps P b (action.Wait owner.Auth kind) n kept h = h
action_keeps P b (action.Wait owner.Resub kind) n kept h = h
action_keeps P b (action.Wait owner.Monitor kind) n kept h = h
action_keeps P b (action.Wait (owner.Try m round) kind) n kept h = chosen P (m == n) (waits (b.story n) kind) (b.story n) (λ t. kept.waited kind) (λ f. h)
action_keeps P b (action.Start l k owner.Setup count len) n kept h = h
action_keeps P b (action.Start l k owner.Auth count len) n kept h = h
action_keeps P b (action.Start l k owner.Resub count len) n kept h = h
action_keeps P b (action.Start l k owner.Monitor count len) n kept h = h
action_keeps P b (action.Start l k (owner.Try m round) count len) n kept h = chosen P (m == n) (tried (b.story n) l k) (b.story n)
    (λ t. kept.started l k round count len (ap (λ (j : ℕ). action.Start l k (owner.Try j round) count len) (eq_from m n t))) (λ f. h)
action_keeps P b (action.Created e) n kept h = h
action_keeps P b (action.Outcome m o) n kept h = chosen P (m == n) (answered (b.story n) o) (b.story n)
    (λ t. kept.answered o (ap (λ (j : ℕ). action.Outcome j o) (eq_from m n t))) (λ f. h)
