-- Why the laws of `ConnectionLike` hold of a connection: proofs, and nothing to believe.
use Rattle.std.specs.Prelude.{◌≡◌, ℕ, zero, suc, ◌+◌, Bool, List, [], ◌∷◌, ◌++◌, length, Option, None, slice_get, Result, Ok, Err, OnErr}
use Rattle.std.proofs.Common.{refl, ap}
use Rattle.std.proofs.lemmas.List.{length-append, length-set}
use Rattle.containers.proofs.Choices.{chosen}
use Rattle.driver_model.specs.declared.outcome.Outcome.{Outcome}
use Rattle.driver_model.specs.declared.outcome.Shape.{Shape}
use Rattle.mux_conn.specs.declared.connection.MultiplexedConnection as core
use Rattle.mux_conn.specs.Requests.{is_open_at}
use Rattle.mux_client.specs.declared.connection.MultiplexedConnection.{MultiplexedConnection}
use Rattle.mux_client.specs.Connection.{if_placed, outcome_of}
use Rattle.mux_client.specs.Calls.{next_number, sent, cancelled}

-- a send gives its request the next number
pub numbers_rise : (c : MultiplexedConnection) (packed : List ℕ) (shape : Shape) (awaited : Bool) → next_number (sent c packed shape awaited) ≡ next_number c + 1
numbers_rise c packed shape awaited = length-append c.core.requests _

-- a place for an outcome is none
pub place_added : (os : List (Option Outcome)) (p : ℕ) → if_placed (slice_get (os ++ None ∷ []) p) ≡ if_placed (slice_get os p)
place_added [] zero = refl
place_added [] (suc p) = refl
place_added (o ∷ os) zero = refl
place_added (o ∷ os) (suc p) = place_added os p

-- and changes no outcome
pub sends_keep : (c : MultiplexedConnection) (packed : List ℕ) (shape : Shape) (awaited : Bool) (p : ℕ) → outcome_of (sent c packed shape awaited) p ≡ outcome_of c p
sends_keep c packed shape awaited p = place_added c.outcomes p

-- the same outcomes, behind an error, are the same of each request
pub outcomes_kept : {T E : Type 0} (r : Result T E) (c d : MultiplexedConnection) → OnErr r (d.outcomes ≡ c.outcomes) → OnErr r ((p : ℕ) → outcome_of d p ≡ outcome_of c p)
outcomes_kept (Ok x) c d h = h
outcomes_kept (Err e) c d h = λ p. ap (λ (os : List (Option Outcome)). if_placed (slice_get os p)) h

-- nor does the leave of a caller give or take a number
pub cancels_keep : (c : MultiplexedConnection) (p : ℕ) → next_number (cancelled c p) ≡ next_number c
cancels_keep c p = chosen (λ (d : core.MultiplexedConnection). length d.requests ≡ length c.core.requests) (is_open_at c.core.requests p) _ _ (λ _. length-set c.core.requests p _) (λ _. refl)
