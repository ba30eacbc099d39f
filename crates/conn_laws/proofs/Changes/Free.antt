-- A request that is asked on a link that is ready, and which nothing holds back, has started.
use Rattle.std.proofs.Common.{◌≡◌, ◌+◌, nat_le, ℕ, not, true, false, List, [], ◌∷◌, ◌++◌, length, Some, slice_get, refl, sym, ap, ◌∙◌, subst, arith, ◌&&◌}
use Rattle.containers.proofs.Choices.{chosen, if_true, if_false, left_if, both_right}
use Rattle.containers.proofs.Places.{get_set_same, get_within, get_set_other}
use Rattle.driver_model.specs.declared.outcome.Outcome.TheVariants as outcome
use Rattle.resp_value.specs.declared.value.Value.TheVariants.{Nil}
use Rattle.link_core.specs.declared.message.Queued.{Queued}
use Rattle.link_core.specs.Link.{LinkState, Starting, enqueued, is_full, holds_back, offered_of, started_one, started_each, started_all}
use Rattle.link_core.specs.Outbox.{can_offer}
use Rattle.link_core.specs.Waiting.{without}
use Rattle.mux_conn.specs.declared.connection.MultiplexedConnection.{MultiplexedConnection}
use Rattle.mux_conn.specs.declared.act.LinkAct.TheVariants as act
use Rattle.mux_conn.specs.declared.life.Greeting.{Greeting}
use Rattle.mux_conn.specs.declared.life.Life.{Life}
use Rattle.mux_conn.specs.declared.life.Life.TheVariants.{Resting, Dialing, Wanting, SettingUp, Ready, Ended}
use Rattle.mux_conn.specs.declared.request.Progress.TheVariants as progress
use Rattle.mux_conn.specs.declared.request.Request.{Request}
use Rattle.mux_conn.specs.declared.request.Waiting.{Waiting}
use Rattle.mux_conn.specs.declared.renewal.Renewal.{Renewal}
use Rattle.mux_conn.specs.Connection.{Work, with_link, has_room, has_room_at, in_front, is_due, acted, is_serving}
use Rattle.mux_conn.specs.Requests.{if_there, name_at, permits_at, answered, is_unbegun, is_unbegun_at, progressed}
use Rattle.mux_conn.specs.Passes.{started, message_of, placed_at, told_at_place, seated, put_behind, seated_or_behind, permits_taken, holding, let_in, admitted_at, round_begun, rounds_of, rounds_begun}
use Rattle.mux_conn.specs.Turn.{written_at, written, flushed}
use Rattle.conn_laws.proofs.Changes.Kept.{let_in_conn}
use Rattle.conn_laws.proofs.Changes.Requests.{other_test}
use Rattle.conn_laws.proofs.Changes.Rest.{conn_shown, waits_conn}
use Rattle.conn_laws.proofs.Links.Write.{same_link}

-- request p has had its place, and its message has left the queue of the link, which is up
pub record IsStarted (p : ℕ) (c : MultiplexedConnection) : Type 0 where
  pub request : Request
  pub known : slice_get c.requests p ≡ Some request
  pub placed : request.progress ≡ progress.Placed
  pub link : LinkState
  pub up : c.life ≡ Ready link
  pub gone : without link.queue p ≡ link.queue

-- and not one that is set up
not_set_up : (k l : LinkState) (greeting : Greeting) → Ready k ≡ SettingUp l greeting → ⊥
not_set_up k l greeting e = cc

-- nor does it wait for credentials
not_wanting : (k l : LinkState) → Ready k ≡ Wanting l → ⊥
not_wanting k l e = cc

-- bytes are offered
written_from : (p : ℕ) (w : Work) (life : Life) → w.conn.life ≡ life → IsStarted p w.conn → IsStarted p (written_at w life).conn
written_from p w (Ready l) e h =
    let same = same_link h.link l (sym h.up ∙ e) in
    chosen (λ (x : Work). IsStarted p x.conn) (can_offer l.outbox) _ w
    (λ t. record {
      request = h.request;
      known = h.known;
      placed = h.placed;
      link = offered_of l;
      up = refl;
      gone = subst (λ (x : LinkState). without x.queue p ≡ x.queue) same h.gone;
    })
    (λ f. h)
written_from p w Resting e h = h
written_from p w Dialing e h = h
written_from p w (Wanting l) e h = absurd (not_wanting h.link l (sym h.up ∙ e))
written_from p w (SettingUp l greeting) e h = absurd (not_set_up h.link l greeting (sym h.up ∙ e))
written_from p w (Ended x) e h = h

-- what a turn ends with leaves a started message as it is
pub all_flushed : (p : ℕ) (w : Work) → IsStarted p w.conn → IsStarted p (flushed w).conn
all_flushed p w h =
    let d = written w in
    let g = written_from p w w.conn.life refl h in
    subst (IsStarted p) (sym (waits_conn d))
    (record { request = g.request; known = g.known; placed = g.placed; link = g.link; up = g.up; gone = g.gone })

-- its place
--
-- the one message of a queue starts where nothing holds the link back, and none is left
all_gone : (l : LinkState) (q : Queued) → l.queue ≡ [] → holds_back l ≡ false → (started_all (record { link = enqueued l q; out = [] })).link.queue ≡ []
all_gone l q none goes =
    subst (λ (qs : List Queued). (started_each (record { link = enqueued l q; out = [] }) (qs ++ q ∷ [])).link.queue ≡ []) (sym none)
    (if_false (λ (x : Starting). x.link.queue ≡ []) (holds_back l) _ (started_each (started_one (record { link = enqueued l q; out = [] }) q) []) goes refl)

-- so a request that is known has started where it takes its place
place_starts : (w : Work) (q : Waiting) (l : LinkState) (x : Request) → slice_get w.conn.requests q.number ≡ Some x → w.conn.life ≡ Ready l → l.queue ≡ [] → holds_back l ≡ false → q.awaited ≡ true
    → IsStarted q.number (seated w q).conn
place_starts w q l x known up none goes awaited =
    let p = q.number in
    let r = w.conn.requests in
    let d = placed_at w q (Ready l) in
    let s = started_all (record { link = enqueued l (message_of q); out = [] }) in
    let y : Request = record { name = name_at r p; progress = progress.Placed; permits = permits_at r p } in
    let empty = all_gone l (message_of q) none goes in
    let done : IsStarted p (with_link d s.link).conn =
    record {
      request = y;
      known = get_set_same r p y (get_within r p x known);
      placed = refl;
      link = s.link;
      up = refl;
      gone = subst (λ (qs : List Queued). without qs p ≡ qs) (sym empty) refl;
    } in
    let shows : IsStarted p (started d).conn = subst (IsStarted p) (sym (conn_shown (with_link d s.link) s.out)) done in
    let told : IsStarted p (started (told_at_place d q)).conn = if_true (λ (z : Work). IsStarted p (started z).conn) q.awaited d (answered d p (outcome.One Nil)) awaited shows in
    subst (λ (life : Life). IsStarted p (started (told_at_place (placed_at w q life) q)).conn) (sym up) told

-- a queue that holds less than its size has room, where no new credentials are to be told
room_alone : (r : Renewal) (l : LinkState) → is_due r ≡ false → is_full l ≡ false → has_room_at (Ready l) (in_front r) ≡ true
room_alone r l none room =
    let count : in_front r ≡ 0 = left_if (is_due r) 1 0 none in
    let same : in_front r + length l.queue ≡ length l.queue = omega (arith, count) in
    ap (λ (k : ℕ). not (nat_le l.size k)) same ∙ ap not room

-- a request that is let in takes its place
let_in_starts : (w : Work) (q : Waiting) (l : LinkState) (x : Request) → slice_get w.conn.requests q.number ≡ Some x → w.conn.life ≡ Ready l → l.queue ≡ [] → holds_back l ≡ false → is_full l ≡ false → is_due w.conn.renewal ≡ false → q.awaited ≡ true
    → IsStarted q.number (seated_or_behind (let_in w q) q).conn
let_in_starts w q l x known up none goes room alone awaited =
    let p = q.number in
    let count = permits_taken w.conn.limit w.conn.free q.shape in
    let d = let_in w q in
    let same : d.conn ≡ holding w.conn p count = let_in_conn w q in
    let y : Request = record { name = name_at w.conn.requests p; progress = progress.Admitted; permits = count } in
    let life : d.conn.life ≡ Ready l = ap (λ (c : MultiplexedConnection). c.life) same ∙ up in
    let there : slice_get d.conn.requests p ≡ Some y = ap (λ (c : MultiplexedConnection). slice_get c.requests p) same ∙ get_set_same w.conn.requests p y (get_within w.conn.requests p x known) in
    let fits : has_room d.conn ≡ true = ap has_room same ∙ ap (λ (life : Life). has_room_at life (in_front w.conn.renewal)) up ∙ room_alone w.conn.renewal l alone room in
    if_true (λ (z : Work). IsStarted p z.conn) (has_room d.conn) (seated d q) (put_behind d q) fits (place_starts d q l y there life none goes awaited)

-- and one that waits is let in, once its round has begun
pub admitted_starts : (w : Work) (q : Waiting) (l : LinkState) (x : Request) → slice_get w.conn.requests q.number ≡ Some x → w.conn.life ≡ Ready l → l.queue ≡ [] → holds_back l ≡ false → is_full l ≡ false → is_due w.conn.renewal ≡ false → q.awaited ≡ true
    → IsStarted q.number (admitted_at w q w.conn.life).conn
admitted_starts w q l x known up none goes room alone awaited =
    let p = q.number in
    let r = w.conn.requests in
    let y : Request = record { name = name_at r p; progress = progress.Begun; permits = permits_at r p } in
    let v = acted (progressed w p progress.Begun) (act.Round (name_at r p)) in
    let begins : IsStarted p (seated_or_behind (let_in (round_begun w p) q) q).conn =
    chosen (λ (u : Work). IsStarted p (seated_or_behind (let_in u q) q).conn) (w.conn.rounds && is_unbegun_at r p) v w
    (λ t. let_in_starts v q l y (get_set_same r p y (get_within r p x known)) up none goes room alone awaited)
    (λ f. let_in_starts w q l x known up none goes room alone awaited) in
    subst (λ (life : Life). IsStarted p (admitted_at w q life).conn) (sym up) begins

-- a round that begins leaves a message that has started
round_started : (p : ℕ) (w : Work) (m : ℕ) → IsStarted p w.conn → IsStarted p (round_begun w m).conn
round_started p w m h =
    let r = w.conn.requests in
    let past : is_unbegun_at r p ≡ false = ap (if_there is_unbegun) h.known ∙ ap is_unbegun h.placed in
    chosen (λ (x : Work). IsStarted p x.conn) (w.conn.rounds && is_unbegun_at r m) (acted (progressed w m progress.Begun) (act.Round (name_at r m))) w
    (λ t. record {
      request = h.request;
      known = get_set_other r m p (record { name = name_at r m; progress = progress.Begun; permits = permits_at r m }) (other_test is_unbegun r m p (both_right w.conn.rounds (is_unbegun_at r m) t) past) ∙ h.known;
      placed = h.placed;
      link = h.link;
      up = h.up;
      gone = h.gone;
    })
    (λ f. h)

-- so do more of them
rounds_started : (p : ℕ) (w : Work) (ms : List ℕ) → IsStarted p w.conn → IsStarted p (rounds_of w ms).conn
rounds_started p w [] h = h
rounds_started p w (m ∷ ms) h = rounds_started p (round_begun w m) ms (round_started p w m h)

-- and those of all that go on waiting
pub all_rounds_started : (p : ℕ) (w : Work) → IsStarted p w.conn → IsStarted p (rounds_begun w).conn
all_rounds_started p w h = chosen (λ (x : Work). IsStarted p x.conn) (w.conn.rounds && is_serving w.conn) (rounds_of w w.conn.fresh) w (λ t. rounds_started p w w.conn.fresh h) (λ f. h)

-- nor do rounds that begin change who waits
rounds_waiting : (w : Work) (ms : List ℕ) → (rounds_of w ms).conn.waiting ≡ w.conn.waiting
rounds_waiting w [] = refl
rounds_waiting w (m ∷ ms) =
    rounds_waiting (round_begun w m) ms
    ∙ chosen (λ (x : Work). x.conn.waiting ≡ w.conn.waiting) (w.conn.rounds && is_unbegun_at w.conn.requests m) (acted (progressed w m progress.Begun) (act.Round (name_at w.conn.requests m))) w (λ t. refl) (λ f. refl)

pub all_rounds_waiting : (w : Work) → (rounds_begun w).conn.waiting ≡ w.conn.waiting
all_rounds_waiting w = chosen (λ (x : Work). x.conn.waiting ≡ w.conn.waiting) (w.conn.rounds && is_serving w.conn) (rounds_of w w.conn.fresh) w (λ t. rounds_waiting w w.conn.fresh) (λ f. refl)

-- it has started, and nobody waits
abbrev pub HasEmptied : ℕ → MultiplexedConnection → Type 0
HasEmptied p c = IsStarted p c × (c.waiting ≡ [])
