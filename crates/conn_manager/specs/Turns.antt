-- What turns of a manager are to its generations.
use Rattle.std.specs.Prelude.{◌≡◌, ℕ, List}
use Rattle.manager_generations.specs.Moves.{Move, moved_each, turn}
use Rattle.conn_manager.specs.declared.manager.ConnectionManager.{ConnectionManager}
use Rattle.mux_client.specs.Events.{Happening}
use Rattle.conn_manager.specs.Manager.{loss_answered}
use Rattle.conn_manager.specs.Turn.{applied, succeeded, resubscription_begun, passed, flushed}

-- What happens, and the answers that follow of it, move the generations, and then the next one begins where a cause came: all that
-- holds of such a turn of generations holds of a turn of the manager.
abbrev pub TurnsMoveGenerations : Type 0
TurnsMoveGenerations =
    (m : ConnectionManager) (draw : ℕ) (what : Happening)
    → (moves : List Move) × ((succeeded (loss_answered (applied m draw what))).generations ≡ turn m.generations moves)

-- The rest of a turn moves them too, but begins none.
abbrev pub PassesBeginNone : Type 0
PassesBeginNone =
    (m : ConnectionManager) (draw : ℕ)
    → (moves : List Move) × ((flushed (passed (resubscription_begun m) draw) draw).generations ≡ moved_each m.generations moves)
