-- The time in which what is subscribed again was to be answered is over: the ledger of its link, and the connection.
use Rattle.std.proofs.Common.{◌≡◌, ℕ, refl}
use Rattle.driver_model.specs.declared.action.Owner.{Owner}
use Rattle.driver_model.specs.News.{unrepeated}
use Rattle.link_core.specs.Link.{LinkState}
use Rattle.link_laws.proofs.TiedLink.{TiedLink}
use Rattle.mux_conn.specs.declared.again.Again.TheVariants as again
use Rattle.mux_conn.specs.declared.connection.MultiplexedConnection.{MultiplexedConnection}
use Rattle.mux_conn.specs.Effects.{numbers_of}
use Rattle.legal_trace.specs.Ledger.{Ledger, is_set_up, unrepeated_by}
use Rattle.conn_laws.proofs.Links.SameSaid.{set_alike}

-- the ledger of a link on which it is given up
abbrev pub given_up : Ledger → Ledger
given_up l = record (unrepeated_by l) { heard = unrepeated }

-- its messages stand as they did
pub given_up_tied : (name : ℕ → Owner) (l : Ledger) (link : LinkState) → TiedLink name l link → TiedLink name (given_up l) link
given_up_tied name l link h = record {
  sent = h.sent;
  offer = h.offer;
  bound = h.bound;
  rest = h.rest;
  broken = h.broken;
  started = h.started;
  within = h.within;
  bytes = h.bytes;
  row = h.row;
}

-- it is set up as it was
pub given_up_set : (l : Ledger) → is_set_up (given_up l) ≡ is_set_up l
given_up_set l = set_alike l (given_up l) (record { starts = refl; dealt = refl; info = refl; hearing = refl; wanted = refl; given = refl })

-- the connection then
abbrev pub serving : MultiplexedConnection → MultiplexedConnection
serving c = record c { again = again.Nothing; fresh = numbers_of c.waiting }
