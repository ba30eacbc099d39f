-- Another stage of what is subscribed again leaves the waits.
use Rattle.std.proofs.Common.{List, sym, ℕ, ◌∙◌, ◌≡◌}
use Rattle.mux_conn.specs.Connection.{is_outstanding}
use Rattle.mux_conn.specs.declared.again.Again.{Again}
use Rattle.mux_conn.specs.declared.life.Life.{Life}
use Rattle.legal_trace.specs.Story.{Story}
use Rattle.mux_conn.specs.declared.request.Request.{Request}
use Rattle.conn_laws.proofs.Ties.Tied.{TiedWaits}

-- another stage of it, which isn't answered either, leaves the waits
pub again_waits : (story : ℕ → Story) (requests : List Request) (a c : Again) (life : Life) (fresh moved : List ℕ) → is_outstanding c ≡ is_outstanding a → TiedWaits story requests a life fresh moved → TiedWaits story requests c life fresh moved
again_waits story requests a c life fresh moved same h = record {
  early = h.early;
  backoff = h.backoff;
  connect = h.connect;
  creds = h.creds;
  setup = h.setup;
  resubscribe = λ p link w e goes. h.resubscribe p link w e (sym same ∙ goes);
  permit = λ p link w e served. h.permit p link w e (sym same ∙ served);
  place = h.place;
  room = h.room;
  newer = h.newer;
  rising = h.rising;
  no_backoff = h.no_backoff;
  no_connect = h.no_connect;
  no_creds = h.no_creds;
  no_setup = h.no_setup;
  no_resubscribe = λ p link i w e goes. h.no_resubscribe p link i w e (sym same ∙ goes);
  unpermitted = λ p link w e goes. h.unpermitted p link w e (sym same ∙ goes);
  no_permit = λ p link i w e served. h.no_permit p link i w e (sym same ∙ served);
  no_place = h.no_place;
  seatless = h.seatless;
  no_room = h.no_room;
}
