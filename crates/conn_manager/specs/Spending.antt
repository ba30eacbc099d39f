-- When a turn of a manager gives out the number 2^32 - 1, in the order of its parts.
use Rattle.std.specs.Prelude.{◌≡◌, ◌⊎◌, ◌≤◌, ℕ, ◌-◌, ◌^◌, true, List, [], ◌∷◌, length, Some}
use Rattle.mux_conn.specs.declared.errors.ConnectionError.TheVariants as failure
use Rattle.mux_conn.specs.Connection as conn
use Rattle.mux_conn.specs.Passes as passes
use Rattle.conn_manager.specs.declared.manager.ConnectionManager.{ConnectionManager}
use Rattle.conn_manager.specs.declared.request.HeldRequest.{HeldRequest}
use Rattle.mux_client.specs.Events.{Happening}
use Rattle.manager_generations.specs.Generations.{runs_out}
use Rattle.conn_manager.specs.Manager.{nobody_held, loss_answered}
use Rattle.conn_manager.specs.Turn.{applied, succeeded, settled, handed, round, connection_passed, passed}

-- its connection was spent before
abbrev pub IsSpent : ConnectionManager → Type 0
IsSpent m = m.conn.failure ≡ Some failure.Spent

-- a message of its link is given it where request p of the connection is moved
abbrev pub SpendsAdvance : ConnectionManager → ℕ → Type 0
SpendsAdvance m p = IsSpent m ⊎ (conn.runs_out (passes.advanced (conn.work_with m.conn []) p) ≡ true)

-- it is given to a request of the connection, or to the message of that request
abbrev pub SpendsRound : ConnectionManager → HeldRequest → Type 0
SpendsRound m q = (2 ^ 32 - 1 ≤ length m.conn.requests) ⊎ SpendsAdvance (handed m q) (length m.conn.requests)

abbrev pub SpendsRounds : ConnectionManager → ℕ → List HeldRequest → Type 0
SpendsRounds m draw [] = ⊥
SpendsRounds m draw (q ∷ qs) = SpendsRound m q ⊎ SpendsRounds (round m draw q) draw qs

abbrev pub SpendsPass : ConnectionManager → Type 0
SpendsPass m = IsSpent m ⊎ (conn.uses_up (passes.passed (conn.work_with m.conn [])) ≡ true)

-- the parts of a turn: the effect of what happened and the next generation give it to a link or a generation; a pass and the rounds
-- behind it to a request, a message or new credentials of the connection
pub data Spends (m : ConnectionManager) (draw : ℕ) (what : Happening) : Type 0 where
  before : IsSpent m → Spends m draw what
  in_effect : runs_out (applied m draw what).generations ≡ true → Spends m draw what
  in_next : runs_out (succeeded (loss_answered (applied m draw what))).generations ≡ true → Spends m draw what
  in_pass : SpendsPass (settled (applied m draw what)) → Spends m draw what
  in_rounds : SpendsRounds (nobody_held (connection_passed (settled (applied m draw what)) draw)) draw (connection_passed (settled (applied m draw what)) draw).held → Spends m draw what
  behind : IsSpent (passed (settled (applied m draw what)) draw) → Spends m draw what
