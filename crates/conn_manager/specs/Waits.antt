-- What those were told that wait for their generation.
use Rattle.std.specs.Prelude.{◌≡◌, ℕ, []}
use Rattle.mux_client.specs.Events.{Happening}
use Rattle.conn_manager.specs.declared.manager.ConnectionManager.{ConnectionManager}
use Rattle.conn_manager.specs.Turn.{held_wait, stepped}

-- nobody is still to be told, and what was told last is what the generation has come to
pub record IsTold (m : ConnectionManager) : Type 0 where
  pub all : m.fresh ≡ []
  pub last : m.wait ≡ held_wait m.generations.phase m.conn.life

-- So it is behind each turn: whoever waits for a generation truly waits for what was shown.
abbrev pub WaitsAreTold : Type 0
WaitsAreTold = (m : ConnectionManager) (draw : ℕ) (what : Happening) → IsTold (stepped m draw what)
