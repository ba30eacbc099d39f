-- Requests are moved on a link that is up: each takes its place where the queue has room, and messages start.
use Rattle.std.proofs.Common.{Bool, List, [], ap, append_assoc, arith, false, inl, inr, length, refl, subst, sym, true, ℕ, ◌+◌, ◌-◌, ◌++◌, ◌∙◌, ◌∷◌, ◌≡◌, ◌⊎◌}
use Rattle.std.proofs.lemmas.List.{length_push}
use Rattle.std.specs.Prelude.{not}
use Rattle.containers.proofs.Choices.{chosen, not_le_from}
use Rattle.resp_value.specs.declared.value.Value.TheVariants.{Nil}
use Rattle.driver_model.specs.declared.outcome.Outcome.TheVariants as outcome
use Rattle.link_core.specs.Link.{LinkState, enqueued, holds_back, is_full_beside, started_all}
use Rattle.link_core.specs.declared.message.Queued.{Queued}
use Rattle.mux_conn.specs.Connection.{Work, has_room, with_link, with_setup, has_room_at, in_front}
use Rattle.mux_conn.specs.Passes.{holding, let_in, message_of, permits_taken, moved_up, moved_up_each, noted, placed_at, seated, started, started_at, still_admitted, told_at_place}
use Rattle.mux_conn.specs.Requests.{answered, at_progress, is_admitted_at, is_open_at, is_waiting_at, permits_at, with_permits, is_unbegun_at}
use Rattle.mux_conn.specs.declared.connection.MultiplexedConnection.{MultiplexedConnection}
use Rattle.mux_conn.specs.declared.life.Life.{Life}
use Rattle.mux_conn.specs.declared.life.Life.TheVariants.{Resting, Dialing, Ended, Ready, Wanting, SettingUp}
use Rattle.mux_conn.specs.declared.renewal.Renewal.{Renewal}
use Rattle.mux_conn.specs.declared.request.Progress.{Progress}
use Rattle.mux_conn.specs.declared.request.Progress.TheVariants as progress
use Rattle.mux_conn.specs.declared.request.Request.{Request}
use Rattle.mux_conn.specs.declared.request.Waiting.{Waiting}
use Rattle.conn_laws.proofs.Changes.Requests.{waiting_open, progress_twice as permits_twice}
use Rattle.conn_laws.proofs.Ties.Ahead.{HasSeats}
use Rattle.conn_laws.proofs.Requests.Going.{HasRenewed}
use Rattle.conn_laws.proofs.Changes.Kept.{let_in_conn}
use Rattle.conn_laws.proofs.Ties.Names.{length_still, open_within, permits_with}
use Rattle.conn_laws.proofs.Ties.Numbers.{IsIn, Rising}
use Rattle.conn_laws.proofs.Links.SetsUp.{greeted_conn}
use Rattle.conn_laws.proofs.Requests.Settle.{answered_leaves}
use Rattle.conn_laws.proofs.Requests.Starts.{shown_is}
use Rattle.conn_laws.proofs.Ties.States.{IsFit}
use Rattle.conn_laws.proofs.Ties.Tied.{link_in}

-- what the moves leave of a connection
--
pub record Keeps (w v : Work) : Type 0 where
  pub admitted : v.conn.admitted ≡ w.conn.admitted
  pub waiting : v.conn.waiting ≡ w.conn.waiting
  pub last : v.conn.last ≡ w.conn.last

-- one after another
keeps_on : (u v w : Work) → Keeps u v → Keeps v w → Keeps u w
keeps_on u v w h k = record { admitted = k.admitted ∙ h.admitted; waiting = k.waiting ∙ h.waiting; last = k.last ∙ h.last }

-- starts leave those that wait
pub started_keeps : (w : Work) (life : Life) → Keeps w (started_at w life)
started_keeps w Resting = record { admitted = refl; waiting = refl; last = refl }
started_keeps w Dialing = record { admitted = refl; waiting = refl; last = refl }
started_keeps w (Wanting link) = record { admitted = refl; waiting = refl; last = refl }
started_keeps w (SettingUp link greeting) =
    let s = started_all (record { link = link; out = [] }) in
    let same = greeted_conn (with_setup w s.link greeting) greeting s.out in
    record { admitted = ap (λ (c : MultiplexedConnection). c.admitted) same; waiting = ap (λ (c : MultiplexedConnection). c.waiting) same; last = ap (λ (c : MultiplexedConnection). c.last) same }
started_keeps w (Ready link) =
    let s = started_all (record { link = link; out = [] }) in
    let same = shown_is (with_link w s.link) s.out in
    record { admitted = ap (λ (x : Work). x.conn.admitted) same; waiting = ap (λ (x : Work). x.conn.waiting) same; last = ap (λ (x : Work). x.conn.last) same }
started_keeps w (Ended e) = record { admitted = refl; waiting = refl; last = refl }

-- so does the place of another
placed_keeps : (w : Work) (q : Waiting) (life : Life) → Keeps w (placed_at w q life)
placed_keeps w q Resting = record { admitted = refl; waiting = refl; last = refl }
placed_keeps w q Dialing = record { admitted = refl; waiting = refl; last = refl }
placed_keeps w q (Wanting link) = record { admitted = refl; waiting = refl; last = refl }
placed_keeps w q (SettingUp link greeting) = record { admitted = refl; waiting = refl; last = refl }
placed_keeps w q (Ready link) = record { admitted = refl; waiting = refl; last = refl }
placed_keeps w q (Ended e) = record { admitted = refl; waiting = refl; last = refl }

-- and the answer at it
told_keeps : (w : Work) (q : Waiting) → Keeps w (told_at_place w q)
told_keeps w q =
    let nil = outcome.One Nil in
    chosen (Keeps w) q.awaited w (answered w q.number nil) (λ t. record { admitted = refl; waiting = refl; last = refl })
    (λ f. let l = answered_leaves w q.number nil in record {
      admitted = l.admitted;
      waiting = l.waiting;
      last = chosen (λ (x : Work). x.conn.last ≡ w.conn.last) (is_open_at w.conn.requests q.number) _ w (λ t. refl) (λ f. refl);
    })

-- and so all of it
pub seated_keeps : (w : Work) (q : Waiting) → Keeps w (seated w q)
seated_keeps w q =
    let v = placed_at w q w.conn.life in
    let u = told_at_place v q in
    keeps_on w v (started u) (placed_keeps w q w.conn.life) (keeps_on v u (started u) (told_keeps v q) (started_keeps u u.conn.life))

-- one takes its place
--
-- a message more in the queue holds no link back
pub renewed_enqueued : (r : Renewal) (link : LinkState) (m : Queued) → HasRenewed r (Ready link) → HasRenewed r (Ready (enqueued link m))
renewed_enqueued r link m h x e due = let k = h link refl due in (k.0, ap (λ (life : Life). holds_back (link_in life)) (sym e) ∙ k.1)

-- a link that had room is fit with one more in its queue
pub fit_enqueued : (size bound front : ℕ) (link : LinkState) (m : Queued) → is_full_beside link front ≡ false → IsFit size bound link → IsFit size bound (enqueued link m)
fit_enqueued size bound front link m room h =
    let free = not_le_from link.size (front + length link.queue) room in
    let long = length_push link.queue m in
    let same = h.size_is in
    record { sound = h.sound; size_is = h.size_is; bound_is = h.bound_is; within = omega arith }

-- and so does who takes a place find one
pub seats_enqueued : (size bound front : ℕ) (moved : List ℕ) (link : LinkState) (m : Queued) → is_full_beside link front ≡ false → IsFit size bound link → HasSeats moved front (enqueued link m) size
seats_enqueued size bound front moved link m room h p i j =
    let free = not_le_from link.size (front + length link.queue) room in
    let long = length_push link.queue m in
    let same = h.size_is in
    omega arith

-- those that are still to be moved are above it
pub order_next : (moved : List ℕ) (p : ℕ) (next : List ℕ) (requests : List Request) (now : Progress) → Rising 0 (moved ++ p ∷ next) (length requests) → Rising 0 ((moved ++ p ∷ []) ++ next) (length (at_progress requests p now))
order_next moved p next requests now h = subst (Rising 0 ((moved ++ p ∷ []) ++ next)) (sym (length_still requests p now)) (subst (λ ns. Rising 0 ns (length requests)) (sym (append_assoc moved (p ∷ []) next)) h)

-- those that wait for a place
--
-- what has room isn't full
not_full : (x : Bool) → not x ≡ true → x ≡ false
not_full true e = cc
not_full false e = refl

-- so it is where the connection has room
pub free_link : (c : MultiplexedConnection) (link : LinkState) → c.life ≡ Ready link → has_room c ≡ true → is_full_beside link (in_front c.renewal) ≡ false
free_link c link e room = not_full (is_full_beside link (in_front c.renewal)) (ap (λ (life : Life). has_room_at life (in_front c.renewal)) (sym e) ∙ room)

-- where a connection that is up has no room, its queue is full
no_room : (c : MultiplexedConnection) (link : LinkState) → c.life ≡ Ready link → has_room c ≡ false → is_full_beside link (in_front c.renewal) ≡ true
no_room c link e none = full (is_full_beside link (in_front c.renewal)) (ap (λ (life : Life). has_room_at life (in_front c.renewal)) (sym e) ∙ none)
  where
    full : (x : Bool) → not x ≡ false → x ≡ true
    full true e = refl
    full false e = cc

-- so where those that wait for a place still have found no room, they find it full
pub found_full : (c : MultiplexedConnection) (link : LinkState) → c.life ≡ Ready link → (c.admitted ≡ []) ⊎ (has_room c ≡ false) → (c.admitted ≡ []) ⊎ (is_full_beside link (in_front c.renewal) ≡ true)
found_full c link e found = elim found [ inl empty ↦ inl empty | inr none ↦ inr (no_room c link e none) ]

-- which leaves those that wait for the connection
pub moved_up_waits : (w : Work) (qs : List Waiting) → (moved_up_each w qs).conn.waiting ≡ w.conn.waiting
moved_up_waits w [] = refl
moved_up_waits w (q ∷ qs) =
    let one = chosen (λ (x : Work). x.conn.waiting ≡ w.conn.waiting) (is_admitted_at w.conn.requests q.number) (seated w q) w (λ a. (seated_keeps w q).waiting) (λ n. refl) in
    chosen (λ (x : Work). x.conn.waiting ≡ w.conn.waiting) (has_room w.conn) (moved_up_each (moved_up w q) qs) (still_admitted w (q ∷ qs)) (λ r. moved_up_waits (moved_up w q) qs ∙ one) (λ n. refl)

-- a request that is let in
--
-- the connection while it is, as one that waits still, behind its round
abbrev pub being_admitted : Work → Waiting → Work
being_admitted w q =
    let count = permits_taken w.conn.limit w.conn.free q.shape in
    record { conn = record w.conn { requests = with_permits w.conn.requests q.number progress.Begun count; free = w.conn.free - count }; acts = (let_in w q).acts }

-- and then, where it waits for a place or has one
abbrev pub entering : Work → Waiting → Work
entering w q = record { conn = holding w.conn q.number (permits_taken w.conn.limit w.conn.free q.shape); acts = (let_in w q).acts }

-- that is what it is
pub let_in_is : (w : Work) (q : Waiting) → let_in w q ≡ entering w q
let_in_is w q = ap (λ (c : MultiplexedConnection). record { conn = c; acts = (let_in w q).acts }) (let_in_conn w q)

-- one that has a place at once is as one that waited for it
pub seated_once : (w : Work) (q : Waiting) (link : LinkState) → w.conn.life ≡ Ready link → is_waiting_at w.conn.requests q.number ≡ true → seated (entering w q) q ≡ seated (being_admitted w q) q
seated_once w q link e wt =
    let p = q.number in
    let count = permits_taken w.conn.limit w.conn.free q.shape in
    let v = entering w q in
    let g = being_admitted w q in
    let u = with_link (noted g p) (enqueued link (message_of q)) in
    let within = open_within w.conn.requests p (waiting_open w.conn.requests p wt) in
    let placed : (now : Progress) → at_progress (with_permits w.conn.requests p now count) p progress.Placed ≡ with_permits w.conn.requests p progress.Placed count = λ now.
    permits_twice w.conn.requests p now progress.Placed count (permits_at (with_permits w.conn.requests p now count) p) ∙ ap (with_permits w.conn.requests p progress.Placed) (permits_with w.conn.requests p now count within) in
    ap (λ (x : Life). started (told_at_place (placed_at v q x) q)) e
    ∙ ap (λ (x : List Request). started (told_at_place (record u { conn = record u.conn { requests = x } }) q)) (placed progress.Admitted ∙ sym (placed progress.Begun))
    ∙ sym (ap (λ (x : Life). started (told_at_place (placed_at g q x) q)) e)

-- those that go on waiting
--
-- whose rounds have not begun are among these
abbrev pub AreAmong : Work → List ℕ → Type 0
AreAmong w ps = (p : ℕ) → is_unbegun_at w.conn.requests p ≡ true → IsIn p ps
