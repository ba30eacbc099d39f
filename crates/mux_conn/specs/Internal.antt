-- Requests that the driver itself makes.
use Rattle.std.specs.Prelude.{ℕ, true, List, [], ◌∷◌, ◌++◌, length, None}
use Rattle.driver_model.specs.declared.outcome.Shape.{Shape}
use Rattle.mux_conn.specs.declared.connection.MultiplexedConnection.{MultiplexedConnection}
use Rattle.mux_conn.specs.declared.request.Progress.TheVariants as progress
use Rattle.mux_conn.specs.Requests.{waiting_of}

-- one more request, which needs no permit: it waits for a place, behind all that do
abbrev pub asked_inside : MultiplexedConnection → ℕ → List ℕ → Shape → MultiplexedConnection
asked_inside c name packed shape = record c {
  requests = c.requests ++ record { name = name; progress = progress.Admitted; permits = 0 } ∷ [];
  admitted = c.admitted ++ waiting_of (length c.requests) packed shape true None ∷ [];
  moved = c.moved ++ length c.requests ∷ [];
}
