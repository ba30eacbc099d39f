-- The opening of the connection's link ends: its connect succeeds, is refused, or isn't answered in time.
use Rattle.std.proofs.Common.{◌≡◌, ℕ, Bool, true, false, ◌&&◌, not, None, is_some, refl, sym, ap, ◌∙◌, if◌then◌else◌, ◌≢◌}
use Rattle.containers.proofs.Choices.{taken_if, left_if}
use Rattle.redis_error.specs.declared.fault_kind.FaultKind.{FaultKind}
use Rattle.redis_error.specs.declared.redis_error.RedisError.TheVariants as error
use Rattle.driver_model.specs.declared.action.Owner.{Owner}
use Rattle.driver_model.specs.declared.action.WaitKind.{WaitKind}
use Rattle.driver_model.specs.declared.action.WaitKind.TheVariants as wait
use Rattle.driver_model.specs.News.{connected, refused}
use Rattle.link_core.specs.Link.{fresh}
use Rattle.link_laws.proofs.TiedLink.{TiedLink}
use Rattle.mux_conn.specs.declared.life.Life.{Life}
use Rattle.mux_conn.specs.declared.life.Life.TheVariants.{Dialing}
use Rattle.mux_conn.specs.Connection.{is_ready, is_resting}
use Rattle.mux_conn.specs.Turn.{early_wait}
use Rattle.legal_trace.specs.Ledger.{Ledger, hears, noted, is_over, dials, refused_in}
use Rattle.conn_laws.proofs.Ties.Tied.{link_in, TiedLife, has_ended}
use Rattle.conn_laws.proofs.Links.ComeUp.{IsEarly}

-- a connect that succeeds
--
-- the ledger of a link whose connect succeeds
pub connects : (l : Ledger) (turn : ℕ) → is_over l ≡ false → noted l (hears turn connected) ≡ record l { up = true; heard = connected }
connects l turn f = left_if_over (is_over l) f
  where
    left_if_over : (b : Bool) → b ≡ false → (record (if b then l else record l { up = true }) { heard = connected }) ≡ record l { up = true; heard = connected }
    left_if_over true e = cc
    left_if_over false e = refl

-- one that is up stays so
pub again_is : (l : Ledger) (turn : ℕ) → l.up ≡ true → l.end ≡ None → noted l (hears turn connected) ≡ record l { heard = connected }
again_is l turn up alive = connects l turn (ap is_some alive) ∙ ap (λ (u : Bool). record l { up = u; heard = connected }) (sym up)

-- a new link
--
-- what ties a link without messages to its ledger speaks neither of the size of its queue nor of its boundary
pub resized : (name : ℕ → Owner) (l : Ledger) (size bound other another : ℕ) → TiedLink name l (fresh size bound) → TiedLink name l (fresh other another)
resized name l size bound other another h = record {
  sent = h.sent;
  offer = h.offer;
  bound = h.bound;
  rest = h.rest;
  broken = h.broken;
  started = h.started;
  within = h.within;
  bytes = h.bytes;
  row = h.row;
}

-- what was waited for then
pub early_dialing : (life : Life) (after : WaitKind) → life ≡ Dialing → wait.Connect ≢ after → IsEarly life after
early_dialing life after e other = record { bare = ap link_in e; unready = ap is_ready e; alive = ap has_ended e; there = ap is_resting e; other = λ same. other (sym (ap early_wait e) ∙ same) }

-- a connect that is refused
--
-- a link whose connect isn't answered dials
is_dialing : (l : Ledger) (created : ℕ) → TiedLife l created Dialing → dials l ≡ true
is_dialing l created h = (λ i. h.0 i && not (h.1 i) && not (is_some (h.2 i)))

-- its ledger is over then
pub refused_is : (l : Ledger) (turn created : ℕ) (f : FaultKind) → TiedLife l created Dialing → noted l (hears turn (refused f)) ≡ record (refused_in l turn (error.Io f)) { heard = refused f }
refused_is l turn created f h = ap (λ (x : Ledger). record x { heard = refused f }) (taken_if (dials l) (refused_in l turn (error.Io f)) l (is_dialing l created h))

-- a link that is up doesn't dial
up_dials : (l : Ledger) → l.up ≡ true → dials l ≡ false
up_dials l up = ap (λ u. l.asked && not u && not (is_over l)) up ∙ none_of l.asked (is_over l)
  where
    none_of : (a b : Bool) → (a && false && not b) ≡ false
    none_of true b = refl
    none_of false b = refl

-- a refusal leaves it
pub up_refused : (l : Ledger) (turn : ℕ) (f : FaultKind) → l.up ≡ true → noted l (hears turn (refused f)) ≡ record l { heard = refused f }
up_refused l turn f up = ap (λ (x : Ledger). record x { heard = refused f }) (left_if (dials l) (refused_in l turn (error.Io f)) l (up_dials l up))
