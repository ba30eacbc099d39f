-- How far requests have come, by their numbers.
use Rattle.std.specs.Prelude.{ℕ, ◌+◌, min, Bool, true, false, List, [], ◌∷◌, ◌++◌, length, Option, Some, None, unwrap_or, slice_get, slice_set, if◌then◌else◌}
use Rattle.driver_model.specs.declared.outcome.Outcome.{Outcome}
use Rattle.driver_model.specs.declared.outcome.Shape.{Shape}
use Rattle.mux_conn.specs.declared.act.LinkAct.TheVariants as act
use Rattle.mux_conn.specs.declared.connection.MultiplexedConnection.{MultiplexedConnection}
use Rattle.mux_conn.specs.declared.request.Progress.{Progress}
use Rattle.mux_conn.specs.declared.request.Progress.TheVariants as progress
use Rattle.mux_conn.specs.declared.request.Request.{Request}
use Rattle.mux_conn.specs.declared.request.Waiting.{Waiting}
use Rattle.mux_conn.specs.Connection.{Work, acted}

-- neither answered nor left by its caller
abbrev pub is_open : Progress → Bool
is_open progress.Waiting = true
is_open progress.Begun = true
is_open progress.Admitted = true
is_open progress.Placed = true
is_open progress.Closed = false

-- it waits for the connection, or for a permit of it
abbrev pub is_waiting : Progress → Bool
is_waiting progress.Waiting = true
is_waiting progress.Begun = true
is_waiting progress.Admitted = false
is_waiting progress.Placed = false
is_waiting progress.Closed = false

-- it waits, and its round hasn't begun
abbrev pub is_unbegun : Progress → Bool
is_unbegun progress.Waiting = true
is_unbegun progress.Begun = false
is_unbegun progress.Admitted = false
is_unbegun progress.Placed = false
is_unbegun progress.Closed = false

-- it waits for a place
abbrev pub is_admitted : Progress → Bool
is_admitted progress.Waiting = false
is_admitted progress.Begun = false
is_admitted progress.Admitted = true
is_admitted progress.Placed = false
is_admitted progress.Closed = false

-- it is in the queue, or started
abbrev pub is_placed : Progress → Bool
is_placed progress.Waiting = false
is_placed progress.Begun = false
is_placed progress.Admitted = false
is_placed progress.Placed = true
is_placed progress.Closed = false

abbrev pub if_there : (Progress → Bool) → Option Request → Bool
if_there test None = false
if_there test (Some r) = test r.progress

abbrev pub is_open_at : List Request → ℕ → Bool
is_open_at requests p = if_there is_open (slice_get requests p)

abbrev pub is_waiting_at : List Request → ℕ → Bool
is_waiting_at requests p = if_there is_waiting (slice_get requests p)

abbrev pub is_unbegun_at : List Request → ℕ → Bool
is_unbegun_at requests p = if_there is_unbegun (slice_get requests p)

abbrev pub is_admitted_at : List Request → ℕ → Bool
is_admitted_at requests p = if_there is_admitted (slice_get requests p)

abbrev pub is_placed_at : List Request → ℕ → Bool
is_placed_at requests p = if_there is_placed (slice_get requests p)

abbrev pub name_or_none : Option Request → ℕ
name_or_none None = 0
name_or_none (Some r) = r.name

-- the name of request p
abbrev pub name_at : List Request → ℕ → ℕ
name_at requests p = name_or_none (slice_get requests p)

abbrev pub permits_or_none : Option Request → ℕ
permits_or_none None = 0
permits_or_none (Some r) = r.permits

-- how many permits request p holds
abbrev pub permits_at : List Request → ℕ → ℕ
permits_at requests p = permits_or_none (slice_get requests p)

-- request p has come so far, and holds so many permits
abbrev pub with_permits : List Request → ℕ → Progress → ℕ → List Request
with_permits requests p now count = slice_set requests p (record { name = name_at requests p; progress = now; permits = count })

-- request p has come so far, and holds as many permits as before
abbrev pub at_progress : List Request → ℕ → Progress → List Request
at_progress requests p now = with_permits requests p now (permits_at requests p)

abbrev pub progressed : Work → ℕ → Progress → Work
progressed w p now = record w { conn = record w.conn { requests = at_progress w.conn.requests p now } }

-- so many permits are free after so many more have come back: no more than there are, where they are counted
abbrev pub given_back : Option ℕ → ℕ → ℕ → ℕ
given_back limit free count = min (unwrap_or limit 0) (free + count)

-- request p is closed, and its permits are free
abbrev pub closed : MultiplexedConnection → ℕ → MultiplexedConnection
closed c p = record c { requests = with_permits c.requests p progress.Closed 0; free = given_back c.limit c.free (permits_at c.requests p) }

-- an open request is answered, and any other stays as it is
abbrev pub answered : Work → ℕ → Outcome → Work
answered w p o = if is_open_at w.conn.requests p then acted (record w { conn = closed w.conn p }) (act.Outcome (name_at w.conn.requests p) o) else w

abbrev pub waiting_of : ℕ → List ℕ → Shape → Bool → Option ℕ → Waiting
waiting_of p packed shape awaited timeout = record { number = p; packed = packed; shape = shape; awaited = awaited; timeout = timeout }

-- one more request, which waits for the connection
abbrev pub asked : MultiplexedConnection → ℕ → List ℕ → Shape → Bool → Option ℕ → MultiplexedConnection
asked c name packed shape awaited timeout = record c {
  requests = c.requests ++ record { name = name; progress = progress.Waiting; permits = 0 } ∷ [];
  waiting = c.waiting ++ waiting_of (length c.requests) packed shape awaited timeout ∷ [];
  fresh = c.fresh ++ length c.requests ∷ [];
}
