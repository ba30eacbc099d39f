-- What is kept where a caller has gone, and where the time of a request is over.
use Rattle.std.proofs.Common.{ℕ, List, [], Option, ◌∷◌, ◌++◌, if◌then◌else◌}
use Rattle.containers.proofs.Choices.{chosen}
use Rattle.redis_error.specs.declared.redis_error.RedisError.TheVariants as error
use Rattle.redis_error.specs.declared.fault_kind.FaultKind.TheVariants as kinds
use Rattle.driver_model.specs.declared.outcome.Outcome.{Outcome}
use Rattle.driver_model.specs.declared.outcome.Outcome.TheVariants as outcome
use Rattle.mux_conn.specs.declared.act.LinkAct.{LinkAct}
use Rattle.mux_conn.specs.declared.act.LinkAct.TheVariants as act
use Rattle.mux_conn.specs.declared.connection.MultiplexedConnection.{MultiplexedConnection}
use Rattle.mux_conn.specs.declared.life.Life.{Life}
use Rattle.mux_conn.specs.declared.request.Progress.TheVariants as progress
use Rattle.mux_conn.specs.declared.request.Request.{Request}
use Rattle.mux_conn.specs.Connection.{Work, at_life}
use Rattle.mux_conn.specs.Requests.{is_open_at}
use Rattle.mux_conn.specs.Effects.{cancelled_in, left, timed_out}
use Rattle.conn_laws.proofs.Changes.Kept.{IsKept, At, answered_kept}

-- a fact that the next submission, of that number, keeps too
pub record CanAsk (P : Option ℕ → List Request → Life → List ℕ → List LinkAct → Type 0) (m : ℕ) : Type 0 where
  pub ask : (lim : Option ℕ) (r : List Request) (life : Life) (ms : List ℕ) (xs : List LinkAct) → P lim r life ms xs → P lim (r ++ record { name = m; progress = progress.Waiting; permits = 0 } ∷ []) life ms xs
  pub refuse : (lim : Option ℕ) (r : List Request) (life : Life) (ms : List ℕ) (xs : List LinkAct) (o : Outcome) → P lim r life ms xs → P lim r life ms (xs ++ act.Outcome m o ∷ [])

-- a request is left
pub left_kept : {P : Option ℕ → List Request → Life → List ℕ → List LinkAct → Type 0} → IsKept P → (c : MultiplexedConnection) (xs : List LinkAct) (q : ℕ) → P c.limit c.requests c.life c.moved xs → P (left c q).limit (left c q).requests (left c q).life (left c q).moved xs
left_kept {P = P} k c xs q h = chosen (λ (x : MultiplexedConnection). P x.limit x.requests x.life x.moved xs) (is_open_at c.requests q) _ c (λ t. k.cancel c.limit c.requests c.life c.moved xs q t h) (λ f. h)

-- the time of a request is over
pub timed_out_kept : {P : Option ℕ → List Request → Life → List ℕ → List LinkAct → Type 0} → IsKept P → (w : Work) (q : ℕ) → At P w → At P (timed_out w q)
timed_out_kept {P = P} k w q h =
    let d = at_life w (cancelled_in w.conn.life q) in
    answered_kept k (if is_open_at w.conn.requests q then d else w) q (outcome.Fault (error.Io kinds.TimedOut))
    (chosen (At P) (is_open_at w.conn.requests q) d w (λ t. k.hush w.conn.limit w.conn.requests w.conn.life w.conn.moved w.acts q h) (λ f. h))
