-- While a connection has no link, what is subscribed again is of no account for waits.
use Rattle.std.proofs.Common.{ℕ, List}
use Rattle.mux_conn.specs.declared.again.Again.{Again}
use Rattle.mux_conn.specs.declared.life.Life.TheVariants.{Resting}
use Rattle.conn_laws.proofs.Ties.Tied.{TiedWaits}
use Rattle.legal_trace.specs.Story.{Story}
use Rattle.mux_conn.specs.declared.request.Request.{Request}

-- behind none
--
-- while the connection has no link, what is subscribed again is of no account for waits
pub resting_waits : (story : ℕ → Story) (requests : List Request) (a next : Again) (fresh moved : List ℕ) → TiedWaits story requests a Resting fresh moved → TiedWaits story requests next Resting fresh moved
resting_waits story requests a next fresh moved h = record {
  early = h.early;
  backoff = h.backoff;
  connect = λ p w e. cc;
  creds = λ p link w e. cc;
  setup = λ p link u w e. cc;
  resubscribe = λ p link w e goes. cc;
  permit = λ p link w e answered. cc;
  place = h.place;
  room = h.room;
  newer = h.newer;
  rising = h.rising;
  no_backoff = h.no_backoff;
  no_connect = λ p i w e. cc;
  no_creds = λ p link i w e. cc;
  no_setup = λ p link u i w e. cc;
  no_resubscribe = λ p link i w e goes. cc;
  unpermitted = λ p link w e goes. cc;
  no_permit = λ p link i w e answered. cc;
  no_place = h.no_place;
  seatless = h.seatless;
  no_room = h.no_room;
}
