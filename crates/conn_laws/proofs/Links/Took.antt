-- Offered bytes were taken.
use Rattle.std.proofs.Common.{◌≡◌, ℕ, Bool, List, [], ◌++◌, None, refl, subst, take}
use Rattle.containers.proofs.Choices.{chosen}
use Rattle.driver_model.specs.News.{took}
use Rattle.link_core.specs.Link.{LinkState, wrote_of}
use Rattle.link_laws.specs.Settles.{awaited_ids}
use Rattle.mux_conn.specs.declared.life.Greeting.{Greeting}
use Rattle.mux_conn.specs.declared.life.Life.{Life}
use Rattle.mux_conn.specs.declared.life.Life.TheVariants.{Wanting, SettingUp, Ready}
use Rattle.mux_conn.specs.declared.request.Request.{Request}
use Rattle.mux_conn.specs.declared.request.Waiting.{Waiting}
use Rattle.legal_trace.specs.Ledger.{Ledger, hears, noted, ending}
use Rattle.legal_trace.specs.Story.{Story}
use Rattle.mux_conn.specs.declared.renewal.Renewal.{Renewal}
use Rattle.conn_laws.proofs.Internal.Renewals.{renewal_alike}
use Rattle.conn_laws.proofs.Ties.Numbers.{IsIn}
use Rattle.conn_laws.proofs.Links.Server.{TiedCreds, TiedRenewal}
use Rattle.conn_laws.proofs.Ties.Tied.{TiedLife, TiedLines, TiedWaits}
use Rattle.conn_laws.proofs.Ties.States.{IsFit}
use Rattle.conn_laws.proofs.Links.Said.{mild_end}
use Rattle.mux_conn.specs.declared.again.Again.{Again}

-- it need not end
pub took_no_end : (l : Ledger) (turn count : ℕ) → ending l ≡ None → ending (noted l (hears turn (took count))) ≡ None
took_no_end l turn count none =
    chosen (λ (x : Ledger). ending (record x { heard = took count }) ≡ None) l.up (record l { taken = l.taken ++ take count l.offer; offer = [] }) l
    (λ t. mild_end l (l.taken ++ take count l.offer) [] (took count) tt none)
    (λ f. mild_end l l.taken l.offer (took count) tt none)

-- and is as far as it was
pub took_life : (l : Ledger) (created turn count : ℕ) (link after : LinkState) → TiedLife l created (Ready link) → TiedLife (noted l (hears turn (took count))) created (Ready after)
took_life l created turn count link after h = chosen (λ (x : Ledger). TiedLife (record x { heard = took count }) created (Ready after)) l.up _ l (λ t. h) (λ f. h)

-- also while it waits for credentials
pub took_wanting : (l : Ledger) (created turn count : ℕ) (link after : LinkState) → TiedLife l created (Wanting link) → TiedLife (noted l (hears turn (took count))) created (Wanting after)
took_wanting l created turn count link after h = chosen (λ (x : Ledger). TiedLife (record x { heard = took count }) created (Wanting after)) l.up _ l (λ t. h) (λ f. h)

-- and while it is set up
pub took_setting : (l : Ledger) (created turn count : ℕ) (link after : LinkState) (greeting : Greeting) → TiedLife l created (SettingUp link greeting) → TiedLife (noted l (hears turn (took count))) created (SettingUp after greeting)
took_setting l created turn count link after greeting h = chosen (λ (x : Ledger). TiedLife (record x { heard = took count }) created (SettingUp after greeting)) l.up _ l (λ t. h) (λ f. h)

-- its credentials have come as far
pub took_creds : (l : Ledger) (wants : Bool) (turn count : ℕ) (life : Life) → TiedCreds l.creds wants life → TiedCreds (noted l (hears turn (took count))).creds wants life
took_creds l wants turn count life h = chosen (λ (x : Ledger). TiedCreds x.creds wants life) l.up (record l { taken = l.taken ++ take count l.offer; offer = [] }) l (λ t. h) (λ f. h)

-- and so have new ones
pub took_renewal : (l : Ledger) (r : Renewal) (turn count : ℕ) (life : Life) → TiedRenewal l r life → TiedRenewal (noted l (hears turn (took count))) r life
took_renewal l r turn count life h =
    let more : Ledger = record l { taken = l.taken ++ take count l.offer; offer = [] } in
    renewal_alike l (noted l (hears turn (took count))) r life
    (chosen (λ (x : Ledger). x.creds ≡ l.creds) l.up more l (λ t. refl) (λ f. refl))
    (chosen (λ (x : Ledger). x.starts ≡ l.starts) l.up more l (λ t. refl) (λ f. refl))
    (chosen (λ (x : Ledger). x.dealt ≡ l.dealt) l.up more l (λ t. refl) (λ f. refl)) h

-- the lines stay
pub wrote_lines : (story : ℕ → Story) (requests : List Request) (link : LinkState) (count : ℕ) (waiting admitted : List Waiting) (pending started : List ℕ) → TiedLines story requests link waiting admitted pending started
    → TiedLines story requests (wrote_of link count) waiting admitted pending started
wrote_lines story requests link count waiting admitted pending started h = record { line = h.line; queued = h.queued; entries = h.entries; packs = h.packs; packed_in = h.packed_in; there = h.there }

-- and so do the waits, on a link with the same queue
pub queue_waits : (story : ℕ → Story) (requests : List Request) (a : Again) (link after : LinkState) (fresh moved : List ℕ) → ((p : ℕ) → IsIn p (awaited_ids after.queue) → IsIn p (awaited_ids link.queue)) → TiedWaits story requests a (Ready link) fresh moved
    → TiedWaits story requests a (Ready after) fresh moved
queue_waits story requests a link after fresh moved same h = record {
  early = h.early;
  backoff = λ p w d. cc;
  connect = λ p w d. cc;
  creds = λ p x w d. cc;
  setup = λ p x u w d. cc;
  resubscribe = λ p x w r goes. h.resubscribe p link w refl goes;
  permit = λ p x w r none. h.permit p link w refl none;
  place = h.place;
  room = λ p i. h.room p (same p i);
  newer = h.newer;
  rising = h.rising;
  no_backoff = λ p i w d. cc;
  no_connect = λ p i w d. cc;
  no_creds = λ p x i w d. cc;
  no_setup = λ p x u i w d. cc;
  no_resubscribe = λ p x i w r goes. h.no_resubscribe p link i w refl goes;
  unpermitted = λ p x w r goes. h.unpermitted p link w refl goes;
  no_permit = λ p x i w r none. h.no_permit p link i w refl none;
  no_place = h.no_place;
  seatless = h.seatless;
  no_room = λ p i r. h.no_room p i (same p r);
}

-- the link is fit
pub wrote_fit : (size bound : ℕ) (link : LinkState) (count : ℕ) → IsFit size bound link → (x : LinkState) → Ready (wrote_of link count) ≡ Ready x → IsFit size bound x
wrote_fit size bound link count h x e = let same : wrote_of link count ≡ x = cc in subst (IsFit size bound) same (record { sound = h.sound; size_is = h.size_is; bound_is = h.bound_is; within = h.within })

-- also while it waits for credentials
pub wrote_fit_want : (size bound : ℕ) (link : LinkState) (count : ℕ) → IsFit size bound link → (x : LinkState) → Wanting (wrote_of link count) ≡ Wanting x → IsFit size bound x
wrote_fit_want size bound link count h x e = let same : wrote_of link count ≡ x = cc in subst (IsFit size bound) same (record { sound = h.sound; size_is = h.size_is; bound_is = h.bound_is; within = h.within })

-- and while it is set up
pub wrote_fit_set : (size bound : ℕ) (link : LinkState) (count : ℕ) (greeting : Greeting) → IsFit size bound link → (x : LinkState) (u : Greeting) → SettingUp (wrote_of link count) greeting ≡ SettingUp x u → IsFit size bound x
wrote_fit_set size bound link count greeting h x u e = let same : wrote_of link count ≡ x = cc in subst (IsFit size bound) same (record { sound = h.sound; size_is = h.size_is; bound_is = h.bound_is; within = h.within })
