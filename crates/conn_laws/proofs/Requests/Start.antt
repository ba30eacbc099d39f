-- The first message of the queue starts.
use Rattle.std.proofs.Common.{List, None, [], ap, arith, false, inl, inr, length, refl, suc, sym, true, zero, ℕ, ◌+◌, ◌++◌, ◌<◌, ◌∙◌, ◌∷◌, ◌≡◌, ◌⊎◌}
use Rattle.std.proofs.lemmas.List.{append-nil}
use Rattle.std.specs.Prelude.{Bool, if◌then◌else◌}
use Rattle.driver_model.specs.declared.action.Owner.{Owner}
use Rattle.driver_model.specs.declared.action.Owner.TheVariants as owner
use Rattle.link_core.specs.Link.{LinkState, entry_of}
use Rattle.link_core.specs.declared.message.Entry.{Entry}
use Rattle.link_core.specs.declared.message.Queued.{Queued}
use Rattle.link_laws.proofs.Once.{wanted-append}
use Rattle.link_laws.specs.Settles.{awaited_ids, wanted}
use Rattle.mux_conn.specs.Requests.{is_admitted_at, is_waiting_at}
use Rattle.mux_conn.specs.declared.life.Greeting.{Greeting}
use Rattle.mux_conn.specs.declared.life.Life.TheVariants.{Dialing, Ready, Wanting, SettingUp, Resting}
use Rattle.mux_conn.specs.declared.request.Request.{Request}
use Rattle.mux_conn.specs.declared.request.Waiting.{Waiting}
use Rattle.legal_trace.specs.Ledger.{Start}
use Rattle.legal_trace.specs.Story.{Story, tried}
use Rattle.conn_laws.proofs.Ties.InLine.{first_is_apart, kept_ids}
use Rattle.conn_laws.proofs.Ties.Numbers.{IsIn, in_left, in_right, rising_apart, rising_in, rising_right, requests_in, request_in, requests_in-append, requests_first, is_own}
use Rattle.conn_laws.proofs.Links.Server.{owners_of, setup_owners}
use Rattle.conn_laws.proofs.Ties.Tied.{IsRequest, TiedLines, TiedWaits, owner_of, owners_each, queue_ids, shown_wait}
use Rattle.mux_conn.specs.declared.again.Again.{Again}
use Rattle.conn_laws.proofs.Requests.Closing.{one_of}

-- a link with this queue
abbrev pub with_queue : LinkState → List Queued → LinkState
with_queue link qs = record link { queue = qs }

-- the first of a queue is within, and has not started
pub first_within : (story : ℕ → Story) (requests : List Request) (link : LinkState) (waiting admitted : List Waiting) (started : List ℕ) (q : Queued) (qs : List Queued) → TiedLines story requests (with_queue link (q ∷ qs)) waiting admitted [] started
    → q.id < length requests
first_within story requests link waiting admitted started q qs h =
    let later = q.id ∷ (queue_ids qs ++ kept_ids admitted waiting) in
    (rising_in 0 (requests_in started ++ later) (length requests) q.id h.line (in_right q.id (requests_in started) later (inl refl))).1

-- nor has it started
pub first_new : (story : ℕ → Story) (requests : List Request) (link : LinkState) (waiting admitted : List Waiting) (started : List ℕ) (q : Queued) (qs : List Queued) → TiedLines story requests (with_queue link (q ∷ qs)) waiting admitted [] started → is_own q.id ≡ false → IsIn q.id started
    → ⊥
first_new story requests link waiting admitted started q qs h other i =
    let k = rising_apart 0 (requests_in started) (q.id ∷ (queue_ids qs ++ kept_ids admitted waiting)) (length requests) q.id q.id h.line (request_in q.id started other i) (inl refl) in
    omega arith

-- nor is it behind itself
pub first_apart : (story : ℕ → Story) (requests : List Request) (link : LinkState) (waiting admitted : List Waiting) (started : List ℕ) (q : Queued) (qs : List Queued) → TiedLines story requests (with_queue link (q ∷ qs)) waiting admitted [] started
    → IsIn q.id (queue_ids qs) → ⊥
first_apart story requests link waiting admitted started q qs h i =
    let kept = kept_ids admitted waiting in
    first_is_apart 0 q.id (queue_ids qs ++ kept) (length requests) (rising_right 0 (requests_in started) (q.id ∷ (queue_ids qs ++ kept)) (length requests) h.line) (in_left q.id (queue_ids qs) kept i)

-- the owners of starts, and of others
pub owners-append : (xs ys : List Start) → owners_of (xs ++ ys) ≡ owners_of xs ++ owners_of ys
owners-append [] ys = refl
owners-append (x ∷ xs) ys = ap (λ os. x.owner ∷ os) (owners-append xs ys)

-- the owners of requests, and of others
pub owners_each-append : (requests : List Request) (xs ys : List ℕ) → owners_each requests (xs ++ ys) ≡ owners_each requests xs ++ owners_each requests ys
owners_each-append requests [] ys = refl
owners_each-append requests (x ∷ xs) ys = ap (λ os. owner_of requests x ∷ os) (owners_each-append requests xs ys)

-- and so behind setups
pub setup_owners-append : (n : ℕ) (xs ys : List Owner) → setup_owners n xs ++ ys ≡ setup_owners n (xs ++ ys)
setup_owners-append zero xs ys = refl
setup_owners-append (suc n) xs ys = ap (λ os. owner.Setup ∷ os) (setup_owners-append n xs ys)

-- as many started as have started, where no setup has
owners_first : (starts : List Start) (requests : List Request) (started : List ℕ) → owners_of starts ≡ owners_each requests started → length starts ≡ length started
owners_first [] requests [] e = refl
owners_first [] requests (p ∷ ps) e = cc
owners_first (s ∷ ss) requests [] e = cc
owners_first (s ∷ ss) requests (p ∷ ps) e = ap suc (owners_first ss requests ps (cc))

-- and behind so many setups
pub owners_length : (starts : List Start) (requests : List Request) (started : List ℕ) (n : ℕ) → owners_of starts ≡ setup_owners n (owners_each requests started) → length starts ≡ n + length started
owners_length starts requests started zero e = let long = owners_first starts requests started e in omega arith
owners_length [] requests started (suc n) e = cc
owners_length (s ∷ ss) requests started (suc n) e = let long = owners_length ss requests started n (cc) in omega arith

-- the line, and what is shown of waits
--
-- a request's number, or none, is a request's
pub requests_own : (b : Bool) (n : ℕ) → is_own n ≡ false → requests_in (if b then n ∷ [] else []) ≡ (if b then n ∷ [] else [])
requests_own true n other = requests_first n [] other
requests_own false n other = refl

-- one more entry of a request whose verdict is wanted, or not
pub requests_wanted : (row : List Entry) (q : Queued) → is_own q.id ≡ false → requests_in (wanted (row ++ entry_of q ∷ [])) ≡ requests_in (wanted row) ++ (if q.awaited then q.id ∷ [] else [])
requests_wanted row q other =
    let own = if q.awaited then q.id ∷ [] else [] in
    ap requests_in (wanted-append row (entry_of q ∷ []) ∙ ap (λ ns. wanted row ++ ns) (append-nil own)) ∙ requests_in-append (wanted row) own ∙ ap (λ ns. requests_in (wanted row) ++ ns) (requests_own q.awaited q.id other)

-- a link that is up is not dialing
pub not_resting : (link : LinkState) → Ready link ≡ Resting → ⊥
not_resting link e = cc

pub not_dialing : (link : LinkState) → Ready link ≡ Dialing → ⊥
not_dialing link e = cc

-- nor does it wait for credentials
pub not_wanting : (link link' : LinkState) → Ready link ≡ Wanting link' → ⊥
not_wanting link link' e = cc

-- nor is it being set up
pub not_setting : (link link' : LinkState) (greeting : Greeting) → Ready link ≡ SettingUp link' greeting → ⊥
not_setting link link' greeting e = cc

-- what is shown of a submission's wait is the same, or nothing is shown any more
abbrev pub LosesWaits : (ℕ → Story) → (ℕ → Story) → Type 0
LosesWaits f g = (n : ℕ) → ((g n).waiting ≡ None) ⊎ ((g n).waiting ≡ (f n).waiting)

-- what is shown of waits is true still, where it is the same of those that wait for a place and of those in the queue
pub waits_up : (f g : ℕ → Story) (requests : List Request) (a : Again) (link link' : LinkState) (fresh moved : List ℕ) → LosesWaits f g
    → ((p : ℕ) → is_waiting_at requests p ≡ true → shown_wait g requests p ≡ shown_wait f requests p)
    → ((p : ℕ) → is_admitted_at requests p ≡ true → shown_wait g requests p ≡ shown_wait f requests p)
    → ((p : ℕ) → IsIn p (awaited_ids link'.queue) → IsIn p (awaited_ids link.queue) × (shown_wait g requests p ≡ shown_wait f requests p))
    → TiedWaits f requests a (Ready link) fresh moved → TiedWaits g requests a (Ready link') fresh moved
waits_up f g requests a link link' fresh moved lost waiting admitted queued h = record {
  early = λ p w. one_of (shown_wait g requests p) (shown_wait f requests p) (waiting p w) (h.early p w);
  backoff = λ p w e. absurd (not_resting link' e);
  connect = λ p w e. absurd (not_dialing link' e);
  creds = λ p l w e. absurd (not_wanting link' l e);
  setup = λ p l u w e. absurd (not_setting link' l u e);
  resubscribe = λ p l w e goes. elim (h.resubscribe p link w refl goes) [ inl i ↦ inl i | inr k ↦ inr (waiting p w ∙ k) ];
  permit = λ p l w e none. elim (h.permit p link w refl none) [ inl i ↦ inl i | inr k ↦ inr (waiting p w ∙ k) ];
  place = λ p a. elim (h.place p a) [ inl i ↦ inl i | inr k ↦ inr (admitted p a ∙ k) ];
  room = λ p i. let q = queued p i in elim (h.room p q.0) [ inl j ↦ inl j | inr k ↦ inr (q.1 ∙ k) ];
  newer = h.newer;
  rising = h.rising;
  no_backoff = λ p i w e. absurd (not_resting link' e);
  no_connect = λ p i w e. absurd (not_dialing link' e);
  no_creds = λ p l i w e. absurd (not_wanting link' l e);
  no_setup = λ p l u i w e. absurd (not_setting link' l u e);
  no_resubscribe = λ p l i w e goes k. h.no_resubscribe p link i w refl goes (sym (waiting p w) ∙ k);
  unpermitted = λ p l w e goes k. h.unpermitted p link w refl goes (sym (waiting p w) ∙ k);
  no_permit = λ p l i w e none k. h.no_permit p link i w refl none (sym (waiting p w) ∙ k);
  no_place = λ p i a e. h.no_place p i a (sym (admitted p a) ∙ e);
  seatless = λ p a e. h.seatless p a (sym (admitted p a) ∙ e);
  no_room = λ p i j e. let q = queued p j in h.no_room p i q.0 (sym q.1 ∙ e);
}

-- a request is one still
pub tried_request : (s : Story) (requests : List Request) (link p k l : ℕ) → IsRequest s requests link p → IsRequest (tried s k l) requests link p
tried_request s requests link p k l h = record { what = h.what; handed_in = h.handed_in; in_time = h.in_time; spoken = h.spoken; on = h.on; some = h.some; open_is = h.open_is; permits_is = h.permits_is }
