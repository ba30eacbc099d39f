-- Why the laws of `ConnectionLike` hold of a manager: proofs, and nothing to believe.
use Rattle.std.specs.Prelude.{◌≡◌, ◌≢◌, ℕ, ◌+◌, ◌<◌, Bool, List, length, Option, Some, None, slice_get}
use Rattle.std.proofs.Common.{refl, sym, ap, ◌∙◌, arith}
use Rattle.std.proofs.lemmas.List.{length-append, length-set}
use Rattle.containers.proofs.Choices.{chosen}
use Rattle.containers.proofs.Places.{get_set_other}
use Rattle.redis_error.specs.declared.redis_error.RedisError.{RedisError}
use Rattle.redis_error.specs.declared.redis_error.RedisError.TheVariants as error
use Rattle.driver_model.specs.declared.outcome.Outcome.{Outcome}
use Rattle.driver_model.specs.declared.outcome.Outcome.TheVariants as outcome
use Rattle.driver_model.specs.declared.outcome.Shape.{Shape}
use Rattle.mux_client.specs.Connection.{if_placed}
use Rattle.mux_client.specs.LikeLaws.{place_added}
use Rattle.manager_generations.specs.declared.phase.Phase.{Phase}
use Rattle.manager_generations.specs.declared.phase.Phase.TheVariants.{Idle, Opening, Resting, Resubscribing, Ready, Lost, Failed}
use Rattle.manager_generations.specs.Generations.{begins_next}
use Rattle.conn_manager.specs.declared.manager.ConnectionManager.{ConnectionManager}
use Rattle.conn_manager.specs.declared.request.Call.{Call}
use Rattle.conn_manager.specs.declared.request.HeldRequest.{HeldRequest}
use Rattle.conn_manager.specs.declared.request.Stage.{Stage}
use Rattle.conn_manager.specs.declared.request.Stage.TheVariants as stage
use Rattle.conn_manager.specs.Manager.{is_current, is_missing, is_open_at, filled, answered}
use Rattle.conn_manager.specs.Turn.{succeeded}
use Rattle.conn_manager.specs.Calls.{next_number, entered, answered_at_once, placed_at, request_of, sent, left_at, cancelled, outcome_of}

-- the same requests, and of all but this one the same outcomes
record Spares (q : ℕ) (old new : ConnectionManager) : Type 0 where
  pub count : length new.stages ≡ length old.stages
  pub others : (p : ℕ) → p ≢ q → outcome_of new p ≡ outcome_of old p

alike : (q : ℕ) (m n : ConnectionManager) → n.stages ≡ m.stages → n.outcomes ≡ m.outcomes → Spares q m n
alike q m n s o = record {
  count = ap length s;
  others = λ p other. ap (λ (os : List (Option Outcome)). if_placed (slice_get os p)) o;
}

onward : (q : ℕ) (m n o : ConnectionManager) → Spares q m n → Spares q n o → Spares q m o
onward q m n o first second = record {
  count = second.count ∙ first.count;
  others = λ p other. second.others p other ∙ first.others p other;
}

succeeds : (q : ℕ) (m : ConnectionManager) → Spares q m (succeeded m)
succeeds q m = chosen (Spares q m) (begins_next m.generations) _ _ (λ _. alike q m _ refl refl) (λ _. alike q m m refl refl)

-- an outcome in its place is that of no other request
pub filled_other : (os : List (Option Outcome)) (q p : ℕ) (o : Outcome) → q ≢ p → slice_get (filled os q o) p ≡ slice_get os p
filled_other os q p o other = chosen (λ (xs : List (Option Outcome)). slice_get xs p ≡ slice_get os p) (is_missing (slice_get os q)) _ _
    (λ _. get_set_other os q p (Some o) other) (λ _. refl)

-- an answer is that of its own request
answers : (m : ConnectionManager) (q : ℕ) (e : RedisError) → Spares q m (answered m q (outcome.Fault e))
answers m q e = chosen (Spares q m) (is_open_at m.stages q) _ _
    (λ _. record {
      count = length-set m.stages q stage.Closed;
      others = λ p other. ap if_placed (filled_other m.outcomes q p (outcome.Fault e) (λ same. other (sym same)));
    })
    (λ _. alike q m m refl refl)

answers_at_once : (m : ConnectionManager) (q : HeldRequest) (e : RedisError) → Spares q.number m (answered_at_once m q e)
answers_at_once m q e =
    let next = answered m q.number (outcome.Fault e) in
    onward q.number m next (succeeded next) (answers m q.number e) (succeeds q.number next)

places : (m : ConnectionManager) (q : HeldRequest) (phase : Phase) → Spares q.number m (placed_at m q phase)
places m q Idle = alike q.number m _ refl refl
places m q Opening = alike q.number m _ refl refl
places m q Resting = alike q.number m _ refl refl
places m q Resubscribing = alike q.number m _ refl refl
places m q Ready = record { count = length-set m.stages q.number _; others = λ p other. refl }
places m q Lost = answers_at_once m q error.Closed
places m q (Failed e) = answers_at_once m q e

-- a send gives its request the next number
pub numbers_rise : (m : ConnectionManager) (packed : List ℕ) (shape : Shape) (awaited : Bool) (call : Option Call) → next_number (sent m packed shape awaited call) ≡ next_number m + 1
numbers_rise m packed shape awaited call = (places (entered m call) (request_of m packed shape awaited) m.generations.phase).count ∙ length-append m.stages _

-- and changes no outcome of those before it
pub sends_keep : (m : ConnectionManager) (packed : List ℕ) (shape : Shape) (awaited : Bool) (call : Option Call) (p : ℕ) → p < next_number m → outcome_of (sent m packed shape awaited call) p ≡ outcome_of m p
sends_keep m packed shape awaited call p before =
    (places (entered m call) (request_of m packed shape awaited) m.generations.phase).others p (λ same. omega (arith, before, same))
    ∙ place_added m.outcomes p

leaves : (q : ℕ) (m : ConnectionManager) (s : Option Stage) → Spares q m (left_at m s)
leaves q m None = alike q m m refl refl
leaves q m (Some stage.Held) = alike q m m refl refl
leaves q m (Some (stage.Sent link number)) = chosen (Spares q m) (is_current m.generations link) _ _ (λ _. alike q m _ refl refl) (λ _. alike q m m refl refl)
leaves q m (Some stage.Closed) = alike q m m refl refl

-- the leave of a caller gives and takes no number
pub cancels_count : (m : ConnectionManager) (p : ℕ) → next_number (cancelled m p) ≡ next_number m
cancels_count m p = chosen (λ (n : ConnectionManager). length n.stages ≡ length m.stages) (is_open_at m.stages p) _ _
    (λ _. (leaves 0 _ (slice_get m.stages p)).count ∙ length-set m.stages p stage.Closed) (λ _. refl)

left_outcomes : (m : ConnectionManager) (s : Option Stage) → (left_at m s).outcomes ≡ m.outcomes
left_outcomes m None = refl
left_outcomes m (Some stage.Held) = refl
left_outcomes m (Some (stage.Sent link number)) = chosen (λ (n : ConnectionManager). n.outcomes ≡ m.outcomes) (is_current m.generations link) _ _ (λ _. refl) (λ _. refl)
left_outcomes m (Some stage.Closed) = refl

-- and changes the outcome of nobody
pub cancels_keep : (m : ConnectionManager) (p q : ℕ) → outcome_of (cancelled m p) q ≡ outcome_of m q
cancels_keep m p q = chosen (λ (n : ConnectionManager). outcome_of n q ≡ outcome_of m q) (is_open_at m.stages p) _ _
    (λ _. ap (λ (os : List (Option Outcome)). if_placed (slice_get os q)) (left_outcomes _ (slice_get m.stages p))) (λ _. refl)
