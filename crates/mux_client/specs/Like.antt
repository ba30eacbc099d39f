-- What a connection is to whoever asks it as anything like a connection.
use Rattle.std.specs.Prelude.{◌≡◌, ◌⊎◌, true, List, Some}
use Rattle.mux_conn.specs.declared.errors.ConnectionError.TheVariants as failure
use Rattle.mux_conn.specs.Connection.{uses_up}
use Rattle.mux_conn.specs.Effects.{IsWithin}
use Rattle.mux_client.specs.declared.act.ConnectionAct.{ConnectionAct}
use Rattle.mux_client.specs.declared.connection.MultiplexedConnection.{MultiplexedConnection}
use Rattle.mux_client.specs.Calls.{late, turn_of, stepped, acts_of}
use Rattle.mux_client.specs.Events.{Happening, nothing, on_link, late_request, late_resubscription, rest_over, closing, seen_on}

-- the time of a request is over, where that is what happened
abbrev pub timed : MultiplexedConnection → Happening → MultiplexedConnection
timed c (late_request p) = late c p
timed c nothing = c
timed c (on_link link news) = c
timed c (late_resubscription link) = c
timed c (rest_over generation attempt) = c
timed c closing = c

-- a whole turn of whatever happened: what happens to other links is nothing to it
abbrev pub behind : MultiplexedConnection → Happening → MultiplexedConnection
behind c what = stepped (timed c what) (seen_on c.link what)

-- what such a turn shows
abbrev pub shown_by : MultiplexedConnection → Happening → List ConnectionAct
shown_by c what = acts_of (timed c what) (seen_on c.link what)

-- what may be told it: of its own link, that no more bytes are taken than were offered
abbrev pub Fits : MultiplexedConnection → Happening → Type 0
Fits c what = IsWithin c.core.life (seen_on c.link what)

-- such a turn would give the number 2^32 - 1
abbrev pub Spends : MultiplexedConnection → Happening → Type 0
Spends c what = ((timed c what).core.failure ≡ Some failure.Spent) ⊎ (uses_up (turn_of (timed c what) (seen_on c.link what)) ≡ true)
