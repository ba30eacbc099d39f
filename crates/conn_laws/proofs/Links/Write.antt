-- All bytes of a link are offered.
use Rattle.std.proofs.Common.{Bool, List, [], ap, false, length, not, refl, true, ℕ, ◌++◌, ◌∙◌, ◌∷◌, ◌≡◌}
use Rattle.std.specs.Prelude.{◌&&◌, ◌==◌}
use Rattle.driver_model.specs.declared.action.Owner.TheVariants as owner
use Rattle.link_core.specs.Link.{LinkState}
use Rattle.link_core.specs.Outbox.{all_offered, can_offer}
use Rattle.link_core.specs.declared.outbox.Outbox.{Outbox}
use Rattle.link_laws.proofs.TiedLink.{TiedLink}
use Rattle.mux_conn.specs.Connection.{is_resting}
use Rattle.mux_conn.specs.declared.life.Greeting.{Greeting}
use Rattle.mux_conn.specs.declared.life.Life.{Life}
use Rattle.mux_conn.specs.declared.life.Life.TheVariants.{Resting, Dialing, Ended, Ready, Wanting, SettingUp}
use Rattle.legal_trace.specs.Ledger.{Ledger, joined}
use Rattle.conn_laws.proofs.Ties.States.{IsStopped}
use Rattle.conn_laws.proofs.Ties.Tied.{whole_link}
use Rattle.mux_conn.specs.declared.request.Waiting.{Waiting}

-- what may be offered is
--
pub all_offered_can : (o : Outbox) → can_offer (all_offered o) ≡ false
all_offered_can o = none_of (length o.unwritten == 0)
  where
    none_of : (x : Bool) → (not x && x) ≡ false
    none_of true = refl
    none_of false = refl

-- a link that is up can't offer, nor can one that is set up
abbrev pub IsOfferedIn : Life → Type 0
IsOfferedIn life = can_offer (whole_link life).outbox ≡ false

-- where everything was shut down, nobody waits for a link
pub hushed_in : (life : Life) (waiting : List Waiting) → IsStopped life waiting → is_resting life ≡ true → waiting ≡ []
hushed_in Resting waiting stopped rests = stopped
hushed_in Dialing waiting stopped rests = cc
hushed_in (Wanting link) waiting stopped rests = cc
hushed_in (SettingUp link greeting) waiting stopped rests = cc
hushed_in (Ready link) waiting stopped rests = cc
hushed_in (Ended e) waiting stopped rests = cc

-- the link of a life
pub same_link : (link other : LinkState) → Ready link ≡ Ready other → link ≡ other
same_link link other e = cc

-- the link of a life that is set up
pub same_set : (link other : LinkState) (u v : Greeting) → SettingUp link u ≡ SettingUp other v → link ≡ other
same_set link other u v e = cc

-- what follows a front of nothing is nothing
none_behind : (xs ys : List ℕ) → xs ++ ys ≡ [] → ys ≡ []
none_behind [] ys e = e
none_behind (x ∷ xs) ys e = cc

-- a link on which nothing has started has nothing to offer
pub none_offered : (l : Ledger) (link : LinkState) → TiedLink (λ (p : ℕ). owner.Setup) l link → l.starts ≡ [] → can_offer link.outbox ≡ false
none_offered l link tied none =
    ap (λ (bs : List ℕ). not (length bs == 0) && (link.outbox.offered == 0)) (none_behind l.taken link.outbox.unwritten (tied.sent ∙ ap joined none))
