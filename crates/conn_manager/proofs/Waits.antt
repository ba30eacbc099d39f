-- What those were told that wait for their generation.
use Rattle.std.proofs.Common.{◌≡◌, ℕ, List, [], ◌∷◌, Option, Some, None, refl, sym, ap, ◌∙◌}
use Rattle.containers.proofs.Choices.{chosen}
use Rattle.driver_model.specs.declared.action.WaitKind.{WaitKind}
use Rattle.mux_conn.specs.declared.connection.MultiplexedConnection.{MultiplexedConnection}
use Rattle.mux_conn.specs.Connection.{work_with}
use Rattle.mux_conn.specs.Turn as conn_turn
use Rattle.manager_generations.specs.declared.phase.Phase.{Phase}
use Rattle.conn_manager.specs.declared.manager.ConnectionManager.{ConnectionManager}
use Rattle.conn_manager.specs.Hearing.{moved_on}
use Rattle.conn_manager.specs.Manager.{is_held_at}
use Rattle.conn_manager.specs.Turn.{started, applied, settled, passed, held_wait, wait_shown, wait_shown_each, to_show, with_wait, held_shown_as, held_shown}
use Rattle.conn_manager.specs.Waits.{IsTold, WaitsAreTold}

-- what stays as some are told
record Stays (old new : ConnectionManager) : Type 0 where
  pub fresh : new.fresh ≡ old.fresh
  pub wait : new.wait ≡ old.wait
  pub phase : new.generations.phase ≡ old.generations.phase
  pub conn : new.conn ≡ old.conn

itself : (m : ConnectionManager) → Stays m m
itself m = record { fresh = refl; wait = refl; phase = refl; conn = refl }

told_one : (m : ConnectionManager) (kind : WaitKind) (p : ℕ) → Stays m (wait_shown m kind p)
told_one m kind p = chosen (Stays m) (is_held_at m.stages p) _ _ (λ _. record { fresh = refl; wait = refl; phase = refl; conn = refl }) (λ _. itself m)

told_each : (m : ConnectionManager) (kind : WaitKind) (ps : List ℕ) → Stays m (wait_shown_each m kind ps)
told_each m kind [] = itself m
told_each m kind (p ∷ ps) =
    let first = told_one m kind p in
    let rest = told_each (wait_shown m kind p) kind ps in
    record {
      fresh = rest.fresh ∙ first.fresh;
      wait = rest.wait ∙ first.wait;
      phase = rest.phase ∙ first.phase;
      conn = rest.conn ∙ first.conn;
    }

told_as : (m : ConnectionManager) (kind : Option WaitKind) → Stays (with_wait m kind) (held_shown_as m kind)
told_as m None = itself (with_wait m None)
told_as m (Some kind) = told_each (with_wait m (Some kind)) kind (to_show m kind)

told : (m : ConnectionManager) → IsTold (held_shown m)
told m =
    let is = told_as m (held_wait m.generations.phase m.conn.life) in
    record {
      all = is.fresh;
      last = is.wait
          ∙ ap (λ (p : Phase). held_wait p m.conn.life) (sym is.phase)
          ∙ ap (λ (c : MultiplexedConnection). held_wait (held_shown m).generations.phase c.life) (sym is.conn);
    }

pub waits_are_told : WaitsAreTold
waits_are_told m draw what =
    let before = passed (settled (applied (started m) draw what)) draw in
    let is = told (moved_on before draw (conn_turn.flushed (work_with before.conn []))) in
    record { all = is.all; last = is.last }
