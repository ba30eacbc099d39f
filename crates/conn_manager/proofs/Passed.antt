-- A pass of the connection, whose acts the manager hears.
use Rattle.std.proofs.Common.{◌≡◌, ◌⊎◌, ℕ, List, [], true, subst, ap, ◌∙◌}
use Rattle.conn_manager.specs.declared.manager.ConnectionManager.{ConnectionManager}
use Rattle.conn_manager.specs.Hearing.{moved_on}
use Rattle.conn_manager.specs.Spending.{IsSpent, SpendsPass}
use Rattle.conn_manager.specs.Turn.{connection_passed}
use Rattle.mux_conn.specs.declared.act.LinkAct.{LinkAct}
use Rattle.mux_conn.specs.declared.connection.MultiplexedConnection.{MultiplexedConnection}
use Rattle.mux_conn.specs.Connection.{work_with, uses_up}
use Rattle.mux_conn.specs.Passes as passes

-- which begins with no acts
pub passed_on : (m n : ConnectionManager) (draw : ℕ) (c : MultiplexedConnection) (acts items : List LinkAct)
    → items ≡ [] → work_with c acts ≡ passes.passed (work_with m.conn items) → n ≡ moved_on m draw (work_with c acts) → n ≡ connection_passed m draw
passed_on m n draw c acts items none moved is =
    is ∙ ap (moved_on m draw) (subst (λ (xs : List LinkAct). work_with c acts ≡ passes.passed (work_with m.conn xs)) none moved)

-- what gives out the last number
pub spends_by : (m : ConnectionManager) (items : List LinkAct) → items ≡ [] → IsSpent m ⊎ (uses_up (passes.passed (work_with m.conn items)) ≡ true) → SpendsPass m
spends_by m items none h = subst (λ (xs : List LinkAct). IsSpent m ⊎ (uses_up (passes.passed (work_with m.conn xs)) ≡ true)) none h
