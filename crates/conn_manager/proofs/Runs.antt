-- One walk over a run: what each single change keeps, whatever is called and whatever happens keeps.
use Rattle.std.proofs.Common.{◌≡◌, ℕ, Bool, true, List, [], ◌∷◌, ◌++◌, length, Option, None, Some, slice_get, slice_set, refl, arith}
use Rattle.containers.proofs.Choices.{chosen}
use Rattle.redis_error.specs.declared.redis_error.RedisError.{RedisError}
use Rattle.redis_error.specs.declared.redis_error.RedisError.TheVariants as error
use Rattle.driver_model.specs.declared.outcome.Outcome.TheVariants as outcome
use Rattle.driver_model.specs.declared.outcome.Shape.{Shape}
use Rattle.manager_generations.specs.declared.phase.Phase.{Phase}
use Rattle.manager_generations.specs.declared.phase.Phase.TheVariants.{Idle, Opening, Resting, Resubscribing, Ready, Lost, Failed}
use Rattle.manager_generations.specs.Generations.{begins_next}
use Rattle.mux_client.specs.Events.{Happening}
use Rattle.conn_manager.specs.declared.manager.ConnectionManager.{ConnectionManager}
use Rattle.conn_manager.specs.declared.request.Call.{Call}
use Rattle.conn_manager.specs.declared.request.HeldRequest.{HeldRequest}
use Rattle.conn_manager.specs.declared.request.Stage.{Stage}
use Rattle.conn_manager.specs.declared.request.Stage.TheVariants as stage
use Rattle.conn_manager.specs.Calls.{entered, answered_at_once, placed_at, request_of, sent, cancelled, left_at}
use Rattle.conn_manager.specs.Manager.{is_current, is_open_at, is_held_at, answered, loss_answered}
use Rattle.conn_manager.specs.Once.{after_each}
use Rattle.conn_manager.specs.Runs.{Step, sends, calls, leaves, turns, after}
use Rattle.conn_manager.specs.Turn.{started, applied, succeeded, resubscription_begun, settled, passed, flushed, stepped}
use Rattle.conn_manager.proofs.Links.{Adds, begun_adds}
use Rattle.conn_manager.proofs.Walk.{Walks, answers_one, applies, answers_loss, subscribes_again, passes_on, flushes}

-- A relation of a manager and what becomes of it, which a turn keeps, and also the calls between turns. It speaks of requests, their
-- outcomes and the number of links alone.
pub record Steps (R : ConnectionManager → ConnectionManager → Type 0) : Type 0 where
  pub walk : Walks R
  pub same : (m n : ConnectionManager) → n.stages ≡ m.stages → n.outcomes ≡ m.outcomes → Adds m.generations n.generations → R m n
  pub enters : (m : ConnectionManager) (call : Option Call) → R m (entered m call)
  pub closes : (m : ConnectionManager) (p : ℕ) → is_open_at m.stages p ≡ true → R m (record m { stages = slice_set m.stages p stage.Closed })

held_last : (stages : List Stage) → is_held_at (stages ++ stage.Held ∷ []) (length stages) ≡ true
held_last [] = refl
held_last (s ∷ ss) = held_last ss

module _ {R : ConnectionManager → ConnectionManager → Type 0} (steps : Steps R) where
  onward : (m n o : ConnectionManager) → R m n → R n o → R m o
  onward = steps.walk.onward

  itself : (m : ConnectionManager) → R m m
  itself = steps.walk.itself

  succeeds : (m : ConnectionManager) → R m (succeeded m)
  succeeds m = chosen (R m) (begins_next m.generations) _ _ (λ _. steps.same m _ refl refl (begun_adds m.generations)) (λ _. itself m)

  settles : (m : ConnectionManager) → R m (settled m)
  settles m =
      let first = loss_answered m in
      let second = succeeded first in
      onward m first (resubscription_begun second) (answers_loss steps.walk m m.generations.phase)
      (onward first second (resubscription_begun second) (succeeds first) (subscribes_again steps.walk second))

  turns_once : (m : ConnectionManager) (draw : ℕ) (what : Happening) → R m (stepped m draw what)
  turns_once m draw what =
      let begun = started m in
      let first = applied begun draw what in
      let second = settled first in
      let third = passed second draw in
      let fourth = flushed third draw in
      onward m begun (stepped m draw what) (steps.same m begun refl refl (omega arith))
      (onward begun first (stepped m draw what) (applies steps.walk begun draw what)
      (onward first second (stepped m draw what) (settles first)
      (onward second third (stepped m draw what) (passes_on steps.walk second draw)
      (onward third fourth (stepped m draw what) (flushes steps.walk third draw) (steps.same fourth _ refl refl (omega arith))))))

  -- a request is answered as it comes
  answers_at_once : (m : ConnectionManager) (q : HeldRequest) (e : RedisError) → R m (answered_at_once m q e)
  answers_at_once m q e =
      let next = answered m q.number (outcome.Fault e) in
      onward m next (succeeded next) (answers_one steps.walk m q.number (outcome.Fault e)) (succeeds next)

  places : (m : ConnectionManager) (q : HeldRequest) (p : Phase) → is_held_at m.stages q.number ≡ true → R m (placed_at m q p)
  places m q Idle there = steps.same m (placed_at m q Idle) refl refl (begun_adds m.generations)
  places m q Opening there = steps.same m (placed_at m q Opening) refl refl (omega arith)
  places m q Resting there = steps.same m (placed_at m q Resting) refl refl (omega arith)
  places m q Resubscribing there = steps.same m (placed_at m q Resubscribing) refl refl (omega arith)
  places m q Ready there = steps.walk.hands m q there
  places m q Lost there = answers_at_once m q error.Closed
  places m q (Failed e) there = answers_at_once m q e

  sends_one : (m : ConnectionManager) (packed : List ℕ) (shape : Shape) (awaited : Bool) (call : Option Call) → R m (sent m packed shape awaited call)
  sends_one m packed shape awaited call =
      let next = entered m call in
      onward m next (sent m packed shape awaited call) (steps.enters m call)
      (places next (request_of m packed shape awaited) m.generations.phase (held_last m.stages))

  -- a caller leaves
  leaves_at : (m : ConnectionManager) (s : Option Stage) → R m (left_at m s)
  leaves_at m None = itself m
  leaves_at m (Some stage.Held) = itself m
  leaves_at m (Some (stage.Sent link number)) = chosen (R m) (is_current m.generations link) _ _ (λ _. steps.same m _ refl refl (omega arith)) (λ _. itself m)
  leaves_at m (Some stage.Closed) = itself m

  cancels : (m : ConnectionManager) (p : ℕ) → R m (cancelled m p)
  cancels m p =
      let next = record m { stages = slice_set m.stages p stage.Closed } in
      chosen (R m) (is_open_at m.stages p) _ _
      (λ there. onward m next (left_at next (slice_get m.stages p)) (steps.closes m p there) (leaves_at next (slice_get m.stages p))) (λ _. itself m)

  goes_on : (m : ConnectionManager) (s : Step) → R m (after m s)
  goes_on m (sends packed shape awaited) = sends_one m packed shape awaited None
  goes_on m (calls what names) = sends_one m _ _ _ _
  goes_on m (leaves p) = cancels m p
  goes_on m (turns draw what) = turns_once m draw what

  pub goes_through : (m : ConnectionManager) (run : List Step) → R m (after_each m run)
  goes_through m [] = itself m
  goes_through m (s ∷ more) = onward m (after m s) (after_each (after m s) more) (goes_on m s) (goes_through (after m s) more)
