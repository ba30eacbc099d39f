-- A connection moves its requests, and tells new credentials, the same where one request's outcome is looked away from, once its
-- message has left the queue.
use Rattle.std.proofs.Common.{◌≡◌, ◌≢◌, ℕ, ◌-◌, ◌<◌, ◌==◌, ◌&&◌, Bool, true, false, List, [], ◌∷◌, ◌++◌, length, if◌then◌else◌, refl, sym, ap, ◌∙◌, Option, Some, None, arith, inl, inr, ◌||◌, not}
use Rattle.containers.proofs.Choices.{by_test, chosen, either, either_by, left_if, eq_from, ne_from, both_right}
use Rattle.redis_error.specs.declared.fault_kind.FaultKind.TheVariants as kinds
use Rattle.redis_error.specs.declared.redis_error.RedisError.TheVariants as error
use Rattle.credentials.specs.Credentials.{Credentials}
use Rattle.resp_value.specs.declared.value.Value.TheVariants.{Nil}
use Rattle.driver_model.specs.declared.action.WaitKind.{WaitKind}
use Rattle.driver_model.specs.declared.action.WaitKind.TheVariants as wait
use Rattle.driver_model.specs.declared.outcome.Outcome.TheVariants as outcome
use Rattle.driver_model.specs.declared.outcome.Shape.{Shape}
use Rattle.link_core.specs.declared.message.Started.{Started}
use Rattle.link_core.specs.Link.{LinkState, enqueued, begun, start_of, holds_back, Starting, started_all, started_to, offered_of}
use Rattle.link_core.specs.Outbox.{can_offer}
use Rattle.link_laws.proofs.Cancels.{start_alike}
use Rattle.mux_conn.specs.declared.act.LinkAct.TheVariants as act
use Rattle.mux_conn.specs.declared.again.Again.{Again}
use Rattle.mux_conn.specs.declared.again.Again.TheVariants as again
use Rattle.mux_conn.specs.declared.connection.MultiplexedConnection.{MultiplexedConnection}
use Rattle.mux_conn.specs.declared.life.Life.{Life}
use Rattle.mux_conn.specs.declared.life.Life.TheVariants.{Resting, Dialing, Wanting, SettingUp, Ready, Ended}
use Rattle.mux_conn.specs.declared.request.Progress.TheVariants as progress
use Rattle.mux_conn.specs.declared.request.Request.{Request}
use Rattle.mux_conn.specs.declared.request.Waiting.{Waiting}
use Rattle.mux_conn.specs.Connection.{Work, acted, at_life, with_link, with_setup, has_no_permit, admits_none_at, admits_none, has_room, has_room_at, in_front, is_due, is_ready, first_queued, last_queued, is_outstanding, is_serving}
use Rattle.mux_conn.specs.Requests.{is_waiting, is_admitted, is_placed, is_open_at, is_waiting_at, is_admitted_at, is_placed_at, name_at, permits_at, with_permits, given_back, closed, answered, waiting_of, asked, is_unbegun, is_unbegun_at, progressed}
use Rattle.mux_conn.specs.Effects.{cancelled_in, left, timed_out}
use Rattle.mux_conn.specs.Renewals as renewals
use Rattle.mux_conn.specs.Renewals.{renewing, renewal_id, renewal_queued, asked_next, told_next, renewal_act, renewal_timed, renewal_asked, started_ahead_at, started_ahead, renewal_told, renewal_moved}
use Rattle.mux_conn.specs.Starts.{shown_each, starts_with}
use Rattle.mux_conn.specs.Passes.{started_at, started, message_of, placed_at, told_at_place, seated, still_admitted, moved_up, moved_up_each, moved_up_all, put_behind, seated_or_behind, permits_taken, holding, took_shown, took as holds, timer_asked, let_in, admitted_at, admitted, still_waiting, admitted_each, admitted_all, passed, round_begun, rounds_of, rounds_begun, moved_all, said}
use Rattle.mux_conn.specs.Turn.{written_at, written, is_from, moved_wait, early_wait, fresh_wait, wait_shown, moved_each_shown, moved_shown, fresh_each_shown, fresh_shown, waits_shown, flushed}
use Rattle.cancel_laws.specs.ButFor.{hushed_link, hushed_life}
use Rattle.conn_laws.proofs.Changes.Requests.{names, name_stays, progress_apart, progress_push, progress_count, permits_other, permits_push, goes_apart, own_closed, test_other, same_test, other_test, unbegun_waits, unbegun_not}
use Rattle.conn_laws.proofs.Changes.Names.{IsOwn}
use Rattle.conn_laws.proofs.Changes.Links.{none_leaves}
use Rattle.cancel_laws.proofs.Links.{alike_hushed, hushed_begun, hushed_started, hushed_ahead, hushed_cancelled, own_cancelled}
use Rattle.conn_laws.proofs.Changes.Kept.{At, There, started_kept, told_kept, moved_up_kept, moved_up_all_kept, let_in_admitted, let_in_kept, admitted_kept, unlimited_kept, round_kept, round_waits, moved_all_kept, repeated_kept, said_kept, renewal_asked_kept}
use Rattle.conn_laws.proofs.Changes.KeptEnds.{written_kept, wait_kept, moved_shown_kept}
use Rattle.conn_laws.proofs.Changes.Gone.{NoneQueued, NoneIs, IsGone, gone_kept, IsAway, away_kept}
use Rattle.conn_laws.proofs.Changes.Bare.{open_same, closed_stays, closed_twice, closed_apart}
use Rattle.cancel_laws.proofs.Bare.{bare_conn, bare, bare_acted, answered_own, answered_other, bare_answered, ready_same, repeating_same}
use Rattle.mux_conn.specs.Repeats.{is_to_start, is_untimed, with_timer, repeating, repeat_id, repeat_queued, repeat_timed, repeat_asked, repeat_act, repeat_told, repeat_moved, repeated}

-- requests
--
-- one more request
pub bare_asked : (p : ℕ) (c : MultiplexedConnection) (name : ℕ) (packed : List ℕ) (shape : Shape) (awaited : Bool) (timeout : Option ℕ) → p < length c.requests
    → bare_conn p (asked c name packed shape awaited timeout) ≡ asked (bare_conn p c) name packed shape awaited timeout
bare_asked p c name packed shape awaited timeout l =
    let x : Request = record { name = name; progress = progress.Waiting; permits = 0 } in
    let r = progress_push c.requests p progress.Closed 0 x l in
    let k = sym (progress_count c.requests p progress.Closed 0) in
    let f = ap (given_back c.limit c.free) (permits_push c.requests p x l) in
    λ i. record (bare_conn p c) { requests = r i; free = f i; waiting = c.waiting ++ waiting_of (k i) packed shape awaited timeout ∷ []; fresh = c.fresh ++ k i ∷ [] }

-- the cancel of request p itself
own_life : (p : ℕ) (life : Life) → NoneQueued p life → hushed_life p (cancelled_in life p) ≡ hushed_life p life
own_life p Resting h = refl
own_life p Dialing h = refl
own_life p (Wanting l) h = refl
own_life p (SettingUp l greeting) h = refl
own_life p (Ready l) h = ap Ready (own_cancelled p l (none_leaves p l.queue h))
own_life p (Ended e) h = refl

-- so nothing else changes
pub own_left : (p : ℕ) (c : MultiplexedConnection) → NoneQueued p c.life → bare_conn p (left c p) ≡ bare_conn p c
own_left p c none =
    let d = closed_twice p c in
    let l = own_life p c.life none in
    own_case (is_open_at c.requests p) (λ i. record (d i) { life = l i })
  where
    own_case : (b : Bool) → bare_conn p (record (closed c p) { life = cancelled_in c.life p }) ≡ bare_conn p c
        → bare_conn p (if b then record (closed c p) { life = cancelled_in c.life p } else c) ≡ bare_conn p c
    own_case true e = e
    own_case false e = refl

-- the cancel of another request, on the link
other_life : (p q : ℕ) (life : Life) → hushed_life p (cancelled_in life q) ≡ cancelled_in (hushed_life p life) q
other_life p q Resting = refl
other_life p q Dialing = refl
other_life p q (Wanting l) = refl
other_life p q (SettingUp l greeting) = refl
other_life p q (Ready l) = ap Ready (hushed_cancelled p q l)
other_life p q (Ended e) = refl

-- and in the connection
other_left : (p q : ℕ) (c : MultiplexedConnection) → q ≢ p → bare_conn p (left c q) ≡ left (bare_conn p c) q
other_left p q c apart =
    let d = closed_apart p q c apart in
    let l = other_life p q c.life in
    either_by (bare_conn p) (is_open_at c.requests q) (is_open_at (with_permits c.requests p progress.Closed 0) q) _ c _ (bare_conn p c) (open_same c.requests p q apart)
    (λ t. λ i. record (d i) { life = l i })
    (λ g. refl)

-- request p is closed already
left_stays : (p : ℕ) (c : MultiplexedConnection) → left (bare_conn p c) p ≡ bare_conn p c
left_stays p c = left_if (is_open_at (with_permits c.requests p progress.Closed 0) p) _ (bare_conn p c) (own_closed c.requests p)

-- any cancel
pub bare_left : (p q : ℕ) (c : MultiplexedConnection) → NoneQueued p c.life → bare_conn p (left c q) ≡ left (bare_conn p c) q
bare_left p q c none =
    by_test (q == p) _
    (λ t. let e = eq_from q p t in ap (λ (k : ℕ). bare_conn p (left c k)) e ∙ own_left p c none ∙ sym (left_stays p c) ∙ ap (left (bare_conn p c)) (sym e))
    (λ f. other_left p q c (ne_from q p f))

-- the time of request p itself is over
own_late : (n p : ℕ) (w : Work) → At (There (IsGone n p)) w → bare n p (timed_out w p) ≡ timed_out (bare n p w) p
own_late n p w h =
    let o = outcome.Fault (error.Io kinds.TimedOut) in
    let d = at_life w (cancelled_in w.conn.life p) in
    let f = own_closed w.conn.requests p in
    let same : bare n p (if is_open_at w.conn.requests p then d else w) ≡ bare n p w = own_case (is_open_at w.conn.requests p) in
    let own : IsOwn n p (names (if is_open_at w.conn.requests p then d else w).conn.requests) =
    chosen (λ (x : Work). IsOwn n p (names x.conn.requests)) (is_open_at w.conn.requests p) d w (λ t. h.own) (λ g. h.own) in
    answered_own n p (if is_open_at w.conn.requests p then d else w) o own ∙ same
    ∙ sym (ap (λ (x : Work). answered x p o) (left_if (is_open_at (with_permits w.conn.requests p progress.Closed 0) p) (at_life (bare n p w) (cancelled_in (hushed_life p w.conn.life) p)) (bare n p w) f)
    ∙ closed_stays (bare n p w) p o f)
  where
    own_case : (b : Bool) → bare n p (if b then at_life w (cancelled_in w.conn.life p) else w) ≡ bare n p w
    own_case true = ap (at_life (bare n p w)) (own_life p w.conn.life h.none)
    own_case false = refl

-- the time of another
other_late : (n p q : ℕ) (w : Work) → q ≢ p → At (There (IsGone n p)) w → bare n p (timed_out w q) ≡ timed_out (bare n p w) q
other_late n p q w apart h =
    let o = outcome.Fault (error.Io kinds.TimedOut) in
    let d = at_life w (cancelled_in w.conn.life q) in
    let own : IsOwn n p (names (if is_open_at w.conn.requests q then d else w).conn.requests) =
    chosen (λ (x : Work). IsOwn n p (names x.conn.requests)) (is_open_at w.conn.requests q) d w (λ t. h.own) (λ g. h.own) in
    answered_other n p (if is_open_at w.conn.requests q then d else w) q o own apart
    ∙ ap (λ (x : Work). answered x q o)
    (either_by (bare n p) (is_open_at w.conn.requests q) (is_open_at (with_permits w.conn.requests p progress.Closed 0) q) d w _ (bare n p w) (open_same w.conn.requests p q apart)
    (λ t. ap (at_life (bare n p w)) (other_life p q w.conn.life))
    (λ g. refl))

-- and of any
pub bare_late : (n p q : ℕ) (w : Work) → At (There (IsGone n p)) w → bare n p (timed_out w q) ≡ timed_out (bare n p w) q
bare_late n p q w h =
    by_test (q == p) _
    (λ t. let e = eq_from q p t in ap (λ (k : ℕ). bare n p (timed_out w k)) e ∙ own_late n p w h ∙ ap (timed_out (bare n p w)) (sym e))
    (λ f. other_late n p q w (ne_from q p f) h)

-- moves
--
-- starts are shown by names, which stay
bare_shown : (n p : ℕ) (w : Work) (ss : List Started) → bare n p (shown_each w ss) ≡ shown_each (bare n p w) ss
bare_shown n p w [] = refl
bare_shown n p w (s ∷ ss) =
    let a = act.Start s.msg (name_at w.conn.requests s.id) s.need s.len in
    bare_shown n p (acted w a) ss
    ∙ ap (λ (x : Work). shown_each x ss) (bare_acted n p w a (λ m. refl)
    ∙ ap (λ (m : ℕ). acted (bare n p w) (act.Start s.msg m s.need s.len)) (sym (name_stays w.conn.requests p s.id progress.Closed 0)))

-- messages start
bare_started_at : (n p : ℕ) (w : Work) (life : Life) → NoneQueued p life → bare n p (started_at w life) ≡ started_at (bare n p w) (hushed_life p life)
bare_started_at n p w (Ready l) none =
    let s = started_all (record { link = l; out = [] }) in
    let t = started_all (record { link = hushed_link p l; out = [] }) in
    let link = hushed_started p l none in
    let out = (start_alike p l (hushed_link p l) [] (alike_hushed p l)).out in
    bare_shown n p (with_link w s.link) s.out ∙ (λ i. starts_with (bare n p w) (record { link = link i; out = out i }))
bare_started_at n p w Resting none = refl
bare_started_at n p w Dialing none = refl
bare_started_at n p w (Wanting l) none = absurd none
bare_started_at n p w (SettingUp l greeting) none = absurd none
bare_started_at n p w (Ended e) none = refl

-- on the link that the connection has
bare_started : (n p : ℕ) (w : Work) → At (There (IsGone n p)) w → bare n p (started w) ≡ started (bare n p w)
bare_started n p w h = bare_started_at n p w w.conn.life h.none

-- what is subscribed again is
--
-- its message starts before all others
bare_repeat_moved : (n p : ℕ) (w : Work) (life : Life) (x : Again) → repeat_id ≢ p → bare n p (repeat_moved w life x) ≡ repeat_moved (bare n p w) (hushed_life p life) x
bare_repeat_moved n p w (Ready l) (again.Due packed of_shape timed) apart =
    let q = repeat_queued packed of_shape in
    let a = repeat_act (start_of l.started q) in
    let d = with_link (repeating w again.Sent) (begun l q) in
    either (bare n p) (holds_back l) w (repeat_told w l packed of_shape) (bare n p w) (repeat_told (bare n p w) (hushed_link p l) packed of_shape) (λ t. refl)
    (λ f. bare_acted n p d a (λ m. refl) ∙ ap (λ (k : LinkState). acted (with_link (repeating (bare n p w) again.Sent) k) a) (hushed_begun p l q apart))
bare_repeat_moved n p w (Ready l) again.Nothing apart = refl
bare_repeat_moved n p w (Ready l) again.Sent apart = refl
bare_repeat_moved n p w Resting x apart = refl
bare_repeat_moved n p w Dialing x apart = refl
bare_repeat_moved n p w (Wanting l) x apart = refl
bare_repeat_moved n p w (SettingUp l greeting) x apart = refl
bare_repeat_moved n p w (Ended e) x apart = refl

-- its timer
bare_repeat_timed : (n p : ℕ) (w : Work) (within : Option ℕ) → bare n p (repeat_timed w within) ≡ repeat_timed (bare n p w) within
bare_repeat_timed n p w None = refl
bare_repeat_timed n p w (Some ms) = bare_acted n p w (act.RepeatTimer ms) (λ m. refl)

-- which is asked for once
bare_repeat_asked : (n p : ℕ) (w : Work) → bare n p (repeat_asked w) ≡ repeat_asked (bare n p w)
bare_repeat_asked n p w =
    let a = w.conn.again in
    let d = repeating w (with_timer a) in
    either (bare n p) (is_untimed a) (repeat_timed d w.conn.renewal.within) d (repeat_timed (bare n p d) w.conn.renewal.within) (bare n p d) (λ t. bare_repeat_timed n p d w.conn.renewal.within) (λ f. refl)

-- so all of it
bare_repeated : (n p : ℕ) (w : Work) → At (There (IsGone n p)) w → bare n p (repeated w) ≡ repeated (bare n p w)
bare_repeated n p w h =
    let a = w.conn.again in
    either_by (bare n p) (is_ready w.conn.life && is_to_start a) (is_ready (hushed_life p w.conn.life) && is_to_start a) (repeat_moved (repeat_asked w) w.conn.life a) w
    (repeat_moved (repeat_asked (bare n p w)) (hushed_life p w.conn.life) a) (bare n p w) (ap (λ (b : Bool). b && is_to_start a) (ready_same p w.conn.life))
    (λ t. bare_repeat_moved n p (repeat_asked w) w.conn.life a (h.apart repeat_id (inr refl)) ∙ ap (λ (x : Work). repeat_moved x (hushed_life p w.conn.life) a) (bare_repeat_asked n p w))
    (λ f. refl)

-- new credentials are told
--
-- their message starts before the queue
bare_renewal_moved : (n p : ℕ) (w : Work) (life : Life) (cs : List Credentials) → renewal_id ≢ p → bare n p (renewal_moved w life cs) ≡ renewal_moved (bare n p w) (hushed_life p life) cs
bare_renewal_moved n p w (Ready l) (c ∷ cs) apart =
    let q = renewal_queued c in
    let a = renewal_act (start_of l.started q) in
    let d = with_link (renewing w (told_next w.conn.renewal cs)) (begun l q) in
    either (bare n p) (holds_back l) w (renewal_told w l c cs) (bare n p w) (renewal_told (bare n p w) (hushed_link p l) c cs) (λ t. refl)
    (λ f. bare_acted n p d a (λ m. refl) ∙ ap (λ (k : LinkState). acted (with_link (renewing (bare n p w) (told_next w.conn.renewal cs)) k) a) (hushed_begun p l q apart))
bare_renewal_moved n p w (Ready l) [] apart = refl
bare_renewal_moved n p w Resting cs apart = refl
bare_renewal_moved n p w Dialing cs apart = refl
bare_renewal_moved n p w (Wanting l) cs apart = refl
bare_renewal_moved n p w (SettingUp l greeting) cs apart = refl
bare_renewal_moved n p w (Ended e) cs apart = refl

-- their timer
bare_renewal_timed : (n p : ℕ) (w : Work) (number : ℕ) (within : Option ℕ) → bare n p (renewal_timed w number within) ≡ renewal_timed (bare n p w) number within
bare_renewal_timed n p w number None = refl
bare_renewal_timed n p w number (Some ms) = bare_acted n p w (act.RenewalTimer number ms) (λ m. refl)

-- the last of the queue is the same
last_same : (p : ℕ) (life : Life) → last_queued life ≡ last_queued (hushed_life p life)
last_same p (Ready l) = refl
last_same p Resting = refl
last_same p Dialing = refl
last_same p (Wanting l) = refl
last_same p (SettingUp l greeting) = refl
last_same p (Ended e) = refl

-- the timer is asked for once
bare_renewal_asked : (n p : ℕ) (w : Work) → bare n p (renewal_asked w) ≡ renewal_asked (bare n p w)
bare_renewal_asked n p w =
    let r = w.conn.renewal in
    let d = renewing w (asked_next r (last_queued w.conn.life)) in
    let e = renewing (bare n p w) (asked_next r (last_queued (hushed_life p w.conn.life))) in
    either (bare n p) r.pending w (renewal_timed d r.asked r.within) (bare n p w) (renewal_timed e r.asked r.within) (λ t. refl)
    (λ f. bare_renewal_timed n p d r.asked r.within ∙ ap (λ (last : Option ℕ). renewal_timed (renewing (bare n p w) (asked_next r last)) r.asked r.within) (last_same p w.conn.life))

-- those that took their places before them start
bare_ahead_at : (n p : ℕ) (w : Work) (life : Life) → NoneQueued p life → bare n p (started_ahead_at w life) ≡ started_ahead_at (bare n p w) (hushed_life p life)
bare_ahead_at n p w (Ready l) none =
    let last = w.conn.renewal.last in
    let one : Starting = record { link = l; out = [] } in
    let s = started_to last one in
    bare_shown n p (with_link w s.link) s.out ∙ ap (starts_with (bare n p w)) (hushed_ahead p last one l.queue none)
bare_ahead_at n p w Resting none = refl
bare_ahead_at n p w Dialing none = refl
bare_ahead_at n p w (Wanting l) none = refl
bare_ahead_at n p w (SettingUp l greeting) none = refl
bare_ahead_at n p w (Ended e) none = refl

-- behind their timer
bare_ahead : (n p : ℕ) (w : Work) → At (There (IsGone n p)) w → bare n p (started_ahead (renewal_asked w)) ≡ started_ahead (renewal_asked (bare n p w))
bare_ahead n p w h =
    let v = renewal_asked w in
    bare_ahead_at n p v v.conn.life (renewal_asked_kept (gone_kept n p) w h).none ∙ ap started_ahead (bare_renewal_asked n p w)

-- so all of it
bare_renewed : (n p : ℕ) (w : Work) → At (There (IsGone n p)) w → bare n p (renewals.renewed w) ≡ renewals.renewed (bare n p w)
bare_renewed n p w h =
    let r = w.conn.renewal in
    let a = started_ahead (renewal_asked w) in
    let b = started_ahead (renewal_asked (bare n p w)) in
    either_by (bare n p) (is_ready w.conn.life && is_due r) (is_ready (hushed_life p w.conn.life) && is_due r) (renewal_moved a a.conn.life a.conn.renewal.waiting) w
    (renewal_moved b b.conn.life b.conn.renewal.waiting) (bare n p w) (ap (λ (b : Bool). b && is_due r) (ready_same p w.conn.life))
    (λ t. bare_renewal_moved n p a a.conn.life a.conn.renewal.waiting (h.apart renewal_id (inl refl)) ∙ ap (λ (x : Work). renewal_moved x x.conn.life x.conn.renewal.waiting) (bare_ahead n p w h))
    (λ f. refl)

-- and all that the driver says itself
bare_said : (n p : ℕ) (w : Work) → At (There (IsGone n p)) w → bare n p (said w) ≡ said (bare n p w)
bare_said n p w h = bare_renewed n p (repeated w) (repeated_kept (gone_kept n p) w h) ∙ ap renewals.renewed (bare_repeated n p w h)

-- requests take places
--
-- a request takes its place
bare_placed : (n p : ℕ) (w : Work) (q : Waiting) (l : LinkState) → q.number ≢ p → bare n p (placed_at w q (Ready l)) ≡ placed_at (bare n p w) q (Ready (hushed_link p l))
bare_placed n p w q l o =
    let r = goes_apart w.conn.requests q.number p progress.Placed o in
    let f = ap (given_back w.conn.limit w.conn.free) (permits_other w.conn.requests q.number p progress.Placed (permits_at w.conn.requests q.number) o) in
    λ i. record (bare n p w) {
      conn = record (bare_conn p w.conn) { requests = r i; free = f i; life = Ready (enqueued (hushed_link p l) (message_of q)); moved = w.conn.moved ++ q.number ∷ [] };
    }

-- and is answered there, if nobody awaits its reply
bare_told : (n p : ℕ) (w : Work) (q : Waiting) → At (There (IsGone n p)) w → bare n p (told_at_place w q) ≡ told_at_place (bare n p w) q
bare_told n p w q h =
    either (bare n p) q.awaited w (answered w q.number (outcome.One Nil)) (bare n p w) (answered (bare n p w) q.number (outcome.One Nil)) (λ t. refl) (λ f. bare_answered n p w q.number (outcome.One Nil) h)

-- and messages start
bare_seated_at : (n p : ℕ) (w : Work) (q : Waiting) (life : Life) → is_admitted_at w.conn.requests q.number ≡ true → IsGone n p w.conn.requests life → At (There (IsGone n p)) w
    → bare n p (started (told_at_place (placed_at w q life) q)) ≡ started (told_at_place (placed_at (bare n p w) q (hushed_life p life)) q)
bare_seated_at n p w q (Ready l) t g h =
    let d = placed_at w q (Ready l) in
    let k : At (There (IsGone n p)) d = (gone_kept n p).place w.conn.limit w.conn.requests l (w.conn.moved ++ q.number ∷ []) w.acts q t g in
    bare_started n p (told_at_place d q) (told_kept (gone_kept n p) d q k) ∙ ap started (bare_told n p d q k)
    ∙ ap (λ (x : Work). started (told_at_place x q)) (bare_placed n p w q l (other_test is_admitted w.conn.requests q.number p t g.seated))
bare_seated_at n p w q Resting t g h = bare_started n p (told_at_place w q) (told_kept (gone_kept n p) w q h) ∙ ap started (bare_told n p w q h)
bare_seated_at n p w q Dialing t g h = bare_started n p (told_at_place w q) (told_kept (gone_kept n p) w q h) ∙ ap started (bare_told n p w q h)
bare_seated_at n p w q (Wanting l) t g h = bare_started n p (told_at_place w q) (told_kept (gone_kept n p) w q h) ∙ ap started (bare_told n p w q h)
bare_seated_at n p w q (SettingUp l greeting) t g h = bare_started n p (told_at_place w q) (told_kept (gone_kept n p) w q h) ∙ ap started (bare_told n p w q h)
bare_seated_at n p w q (Ended e) t g h = bare_started n p (told_at_place w q) (told_kept (gone_kept n p) w q h) ∙ ap started (bare_told n p w q h)

-- on the link that the connection has
bare_seated : (n p : ℕ) (w : Work) (q : Waiting) → is_admitted_at w.conn.requests q.number ≡ true → At (There (IsGone n p)) w → bare n p (seated w q) ≡ seated (bare n p w) q
bare_seated n p w q t h = bare_seated_at n p w q w.conn.life t h h

-- one that waits for a place takes it
bare_moved_up : (n p : ℕ) (w : Work) (q : Waiting) → At (There (IsGone n p)) w → bare n p (moved_up w q) ≡ moved_up (bare n p w) q
bare_moved_up n p w q h =
    either_by (bare n p) (is_admitted_at w.conn.requests q.number) (is_admitted_at (with_permits w.conn.requests p progress.Closed 0) q.number) (seated w q) w _ (bare n p w)
    (same_test is_admitted w.conn.requests p q.number refl h.seated)
    (λ t. bare_seated n p w q t h)
    (λ f. refl)

-- whether the queue has room doesn't depend on the row
room_same : (p count : ℕ) (life : Life) → has_room_at life count ≡ has_room_at (hushed_life p life) count
room_same p count Resting = refl
room_same p count Dialing = refl
room_same p count (Wanting l) = refl
room_same p count (SettingUp l greeting) = refl
room_same p count (Ready l) = refl
room_same p count (Ended e) = refl

-- more of them take theirs
bare_moved_up_each : (n p : ℕ) (w : Work) (qs : List Waiting) → At (There (IsGone n p)) w → bare n p (moved_up_each w qs) ≡ moved_up_each (bare n p w) qs
bare_moved_up_each n p w [] h = refl
bare_moved_up_each n p w (q ∷ qs) h =
    either_by (bare n p) (has_room w.conn) (has_room (bare_conn p w.conn)) _ _ _ _ (room_same p (in_front w.conn.renewal) w.conn.life)
    (λ t. bare_moved_up_each n p (moved_up w q) qs (moved_up_kept (gone_kept n p) w q h) ∙ ap (λ (x : Work). moved_up_each x qs) (bare_moved_up n p w q h))
    (λ f. refl)

-- a request takes its place, or goes behind those that wait for one
bare_seated_or_behind : (n p : ℕ) (w : Work) (q : Waiting) → is_admitted_at w.conn.requests q.number ≡ true → At (There (IsGone n p)) w
    → bare n p (seated_or_behind w q) ≡ seated_or_behind (bare n p w) q
bare_seated_or_behind n p w q t h =
    either_by (bare n p) (has_room w.conn) (has_room (bare_conn p w.conn)) (seated w q) (put_behind w q) (seated (bare n p w) q) (put_behind (bare n p w) q) (room_same p (in_front w.conn.renewal) w.conn.life)
    (λ u. bare_seated n p w q t h)
    (λ f. refl)

-- rounds
--
-- one begins, which is shown by a name, which stays
bare_round : (n p : ℕ) (w : Work) (q : ℕ) → At (There (IsGone n p)) w → bare n p (round_begun w q) ≡ round_begun (bare n p w) q
bare_round n p w q h =
    let r = w.conn.requests in
    let d = progressed w q progress.Begun in
    let a = act.Round (name_at r q) in
    let there = with_permits r p progress.Closed 0 in
    either_by (bare n p) (w.conn.rounds && is_unbegun_at r q) (w.conn.rounds && is_unbegun_at there q) (acted d a) w (acted (progressed (bare n p w) q progress.Begun) (act.Round (name_at there q))) (bare n p w)
    (ap (λ (b : Bool). w.conn.rounds && b) (same_test is_unbegun r p q refl (unbegun_not r p h.past)))
    (λ t.
    let o = other_test is_waiting r q p (unbegun_waits r q (both_right w.conn.rounds (is_unbegun_at r q) t)) h.past in
    let goes = goes_apart r q p progress.Begun o in
    let free = ap (given_back w.conn.limit w.conn.free) (permits_other r q p progress.Begun (permits_at r q) o) in
    bare_acted n p d a (λ m. refl)
    ∙ (λ i. acted (record (bare n p w) { conn = record (bare_conn p w.conn) { requests = goes i; free = free i } }) (act.Round (sym (name_stays r p q progress.Closed 0) i))))
    (λ f. refl)

-- more of them begin
bare_rounds_of : (n p : ℕ) (w : Work) (qs : List ℕ) → At (There (IsGone n p)) w → bare n p (rounds_of w qs) ≡ rounds_of (bare n p w) qs
bare_rounds_of n p w [] h = refl
bare_rounds_of n p w (q ∷ qs) h = bare_rounds_of n p (round_begun w q) qs (round_kept (gone_kept n p) w q h) ∙ ap (λ (x : Work). rounds_of x qs) (bare_round n p w q h)

-- and those of all that go on waiting
bare_rounds : (n p : ℕ) (w : Work) → At (There (IsGone n p)) w → bare n p (rounds_begun w) ≡ rounds_begun (bare n p w)
bare_rounds n p w h =
    either_by (bare n p) (w.conn.rounds && is_serving w.conn) (w.conn.rounds && is_serving (bare_conn p w.conn)) (rounds_of w w.conn.fresh) w (rounds_of (bare n p w) w.conn.fresh) (bare n p w)
    (ap (λ (b : Bool). w.conn.rounds && (b && not (is_outstanding w.conn.again))) (ready_same p w.conn.life)) (λ t. bare_rounds_of n p w w.conn.fresh h) (λ f. refl)

-- permits
--
-- where permits aren't counted, none are taken
none_taken : (lim : Option ℕ) (free : ℕ) (shape : Shape) → lim ≡ None → permits_taken lim free shape ≡ 0
none_taken None free shape e = refl
none_taken (Some most) free shape e = cc

-- a request holds none then, and as many are free as were
bare_holding : (p : ℕ) (c : MultiplexedConnection) (q : Waiting) → c.limit ≡ None → q.number ≢ p
    → bare_conn p (holding c q.number (permits_taken c.limit c.free q.shape)) ≡ holding (bare_conn p c) q.number (permits_taken c.limit (bare_conn p c).free q.shape)
bare_holding p c q none o =
    let i = none_taken c.limit c.free q.shape none in
    let j = none_taken c.limit (bare_conn p c).free q.shape none in
    ap (λ (k : ℕ). bare_conn p (holding c q.number k)) i ∙ none_held ∙ ap (holding (bare_conn p c) q.number) (sym j)
  where
    none_held : bare_conn p (holding c q.number 0) ≡ holding (bare_conn p c) q.number 0
    none_held =
        let r = progress_apart c.requests q.number p progress.Admitted progress.Closed 0 0 o in
        let k = permits_other c.requests q.number p progress.Admitted 0 o in
        let f : given_back c.limit (c.free - 0) (permits_at (with_permits c.requests q.number progress.Admitted 0) p) ≡ given_back c.limit c.free (permits_at c.requests p) - 0 = omega (arith, k) in
        λ i. record (bare_conn p c) { requests = r i; free = f i }

-- what is shown of permits is shown by names, which stay
bare_took : (n p : ℕ) (w : Work) (q count : ℕ) (lim : Option ℕ) → bare n p (took_shown w q count lim) ≡ took_shown (bare n p w) q count lim
bare_took n p w q count None = refl
bare_took n p w q count (Some most) =
    bare_acted n p w (act.Took (name_at w.conn.requests q) count) (λ m. refl)
    ∙ ap (λ (m : ℕ). acted (bare n p w) (act.Took m count)) (sym (name_stays w.conn.requests p q progress.Closed 0))

-- and so is a timer
bare_timer : (n p : ℕ) (w : Work) (q : ℕ) (timeout : Option ℕ) → bare n p (timer_asked w q timeout) ≡ timer_asked (bare n p w) q timeout
bare_timer n p w q None = refl
bare_timer n p w q (Some ms) =
    bare_acted n p w (act.Timer (name_at w.conn.requests q) ms) (λ m. refl)
    ∙ ap (λ (m : ℕ). acted (bare n p w) (act.Timer m ms)) (sym (name_stays w.conn.requests p q progress.Closed 0))

-- a request is let in
bare_let_in : (n p : ℕ) (w : Work) (q : Waiting) → w.conn.limit ≡ None → q.number ≢ p → bare n p (let_in w q) ≡ let_in (bare n p w) q
bare_let_in n p w q none o =
    let lim = w.conn.limit in
    let count = permits_taken lim w.conn.free q.shape in
    let count_too = permits_taken lim (bare_conn p w.conn).free q.shape in
    let d = record w { conn = holding w.conn q.number count } in
    let taken : count ≡ count_too = none_taken lim w.conn.free q.shape none ∙ sym (none_taken lim (bare_conn p w.conn).free q.shape none) in
    bare_timer n p (holds w q.number count) q.number q.timeout
    ∙ ap (λ (x : Work). timer_asked x q.number q.timeout)
    (bare_took n p d q.number count lim
    ∙ ap (λ (c : MultiplexedConnection). took_shown (record (bare n p w) { conn = c }) q.number count lim) (bare_holding p w.conn q none o)
    ∙ ap (λ (k : ℕ). took_shown (record (bare n p w) { conn = holding (bare_conn p w.conn) q.number count_too }) q.number k lim) taken)

-- a request that waits for the connection is moved
bare_admitted_at : (n p : ℕ) (w : Work) (q : Waiting) (life : Life) → is_waiting_at w.conn.requests q.number ≡ true → w.conn.limit ≡ None → At (There (IsGone n p)) w
    → bare n p (admitted_at w q life) ≡ admitted_at (bare n p w) q (hushed_life p life)
bare_admitted_at n p w q (Ready l) t none h =
    let v = round_begun w q.number in
    let u = round_waits w q.number t in
    bare_seated_or_behind n p (let_in v q) q (let_in_admitted v q u) (let_in_kept (gone_kept n p) v q u (round_kept (gone_kept n p) w q.number h))
    ∙ ap (λ (x : Work). seated_or_behind x q) (bare_let_in n p v q (round_kept unlimited_kept w q.number none) (other_test is_waiting w.conn.requests q.number p t h.past))
    ∙ ap (λ (x : Work). seated_or_behind (let_in x q) q) (bare_round n p w q.number h)
bare_admitted_at n p w q (Ended e) t none h = bare_answered n p w q.number (outcome.Fault e) h
bare_admitted_at n p w q Resting t none h = refl
bare_admitted_at n p w q Dialing t none h = refl
bare_admitted_at n p w q (Wanting l) t none h = refl
bare_admitted_at n p w q (SettingUp l greeting) t none h = refl

-- and any other stays
bare_admitted : (n p : ℕ) (w : Work) (q : Waiting) → w.conn.limit ≡ None → At (There (IsGone n p)) w → bare n p (admitted w q) ≡ admitted (bare n p w) q
bare_admitted n p w q none h =
    either_by (bare n p) (is_waiting_at w.conn.requests q.number) (is_waiting_at (with_permits w.conn.requests p progress.Closed 0) q.number) (admitted_at w q w.conn.life) w _ (bare n p w)
    (same_test is_waiting w.conn.requests p q.number refl h.past)
    (λ t. bare_admitted_at n p w q w.conn.life t none h)
    (λ f. refl)

-- where permits aren't counted, whether requests can be moved at all depends neither on the row nor on permits
stuck_same : (p : ℕ) (life : Life) (x : Bool) (lim : Option ℕ) (j k : ℕ) → lim ≡ None → admits_none_at life (x || has_no_permit lim j) ≡ admits_none_at (hushed_life p life) (x || has_no_permit lim k)
stuck_same p Resting x lim j k none = refl
stuck_same p Dialing x lim j k none = refl
stuck_same p (Wanting l) x lim j k none = refl
stuck_same p (SettingUp l greeting) x lim j k none = refl
stuck_same p (Ready l) x None j k none = refl
stuck_same p (Ready l) x (Some most) j k none = cc
stuck_same p (Ended e) x lim j k none = refl

-- all that wait for the connection are moved
bare_admitted_each : (n p : ℕ) (w : Work) (qs : List Waiting) → w.conn.limit ≡ None → At (There (IsGone n p)) w → bare n p (admitted_each w qs) ≡ admitted_each (bare n p w) qs
bare_admitted_each n p w [] none h = refl
bare_admitted_each n p w (q ∷ qs) none h =
    either_by (bare n p) (admits_none w.conn) (admits_none (bare_conn p w.conn)) _ _ _ _ (stuck_same p w.conn.life (is_outstanding w.conn.again) w.conn.limit w.conn.free (bare_conn p w.conn).free none) (λ t. refl)
    (λ f. bare_admitted_each n p (admitted w q) qs (admitted_kept unlimited_kept w q none) (admitted_kept (gone_kept n p) w q h)
    ∙ ap (λ (x : Work). admitted_each x qs) (bare_admitted n p w q none h))

-- what a turn moves, where permits aren't counted
bare_moved_all : (n p : ℕ) (w : Work) → w.conn.limit ≡ None → At (There (IsGone n p)) w → bare n p (moved_all w) ≡ moved_all (bare n p w)
bare_moved_all n p w none h =
    let v = said w in
    let d = started v in
    let e = moved_up_all d in
    let g : At (There (IsGone n p)) v = said_kept (gone_kept n p) w h in
    let free = started_kept unlimited_kept v (said_kept unlimited_kept w none) in
    let k : At (There (IsGone n p)) d = started_kept (gone_kept n p) v g in
    bare_admitted_each n p (still_waiting e []) e.conn.waiting (moved_up_all_kept unlimited_kept d free) (moved_up_all_kept (gone_kept n p) d k)
    ∙ ap admitted_all (bare_moved_up_each n p (still_admitted d []) d.conn.admitted k)
    ∙ ap (λ (x : Work). admitted_all (moved_up_all x)) (bare_started n p v g)
    ∙ ap (λ (x : Work). admitted_all (moved_up_all (started x))) (bare_said n p w h)

-- and the rounds that begin behind that
pub bare_passed : (n p : ℕ) (w : Work) → w.conn.limit ≡ None → At (There (IsGone n p)) w → bare n p (passed w) ≡ passed (bare n p w)
bare_passed n p w none h = bare_rounds n p (moved_all w) (moved_all_kept (gone_kept n p) w h) ∙ ap rounds_begun (bare_moved_all n p w none h)

-- what a turn ends with
--
-- bytes are offered
bare_written_at : (n p : ℕ) (w : Work) (life : Life) → bare n p (written_at w life) ≡ written_at (bare n p w) (hushed_life p life)
bare_written_at n p w (Ready l) =
    either (bare n p) (can_offer l.outbox) _ w _ (bare n p w) (λ t. bare_acted n p (with_link w (offered_of l)) (act.Write l.outbox.unwritten) (λ m. refl)) (λ f. refl)
bare_written_at n p w (Wanting l) = refl
bare_written_at n p w (SettingUp l greeting) =
    either (bare n p) (can_offer l.outbox) _ w _ (bare n p w) (λ t. bare_acted n p (with_setup w (offered_of l) greeting) (act.Write l.outbox.unwritten) (λ m. refl)) (λ f. refl)
bare_written_at n p w Resting = refl
bare_written_at n p w Dialing = refl
bare_written_at n p w (Ended e) = refl

-- nor does it what a request waits for that waits for the connection
early_same : (p : ℕ) (life : Life) → early_wait life ≡ early_wait (hushed_life p life)
early_same p Resting = refl
early_same p Dialing = refl
early_same p (Wanting l) = refl
early_same p (SettingUp l greeting) = refl
early_same p (Ready l) = refl
early_same p (Ended e) = refl

-- a wait is shown
bare_wait : (n p : ℕ) (w : Work) (q : ℕ) (kind : Option WaitKind) → bare n p (wait_shown w q kind) ≡ wait_shown (bare n p w) q kind
bare_wait n p w q None = refl
bare_wait n p w q (Some kind) =
    bare_acted n p w (act.Wait (name_at w.conn.requests q) kind) (λ m. refl)
    ∙ ap (λ (m : ℕ). acted (bare n p w) (act.Wait m kind)) (sym (name_stays w.conn.requests p q progress.Closed 0))

-- nor does who is the first of the queue depend on the row
first_same : (p : ℕ) (life : Life) → first_queued life ≡ first_queued (hushed_life p life)
first_same p Resting = refl
first_same p Dialing = refl
first_same p (Wanting l) = refl
first_same p (SettingUp l greeting) = refl
first_same p (Ready l) = refl
first_same p (Ended e) = refl

-- what another request that was moved waits for
moved_wait_same : (n p : ℕ) (c : MultiplexedConnection) (q : ℕ) → q ≢ p → IsGone n p c.requests c.life → moved_wait c q ≡ moved_wait (bare_conn p c) q
moved_wait_same n p c q o h =
    let a = same_test is_admitted c.requests p q refl h.seated in
    let b : is_placed_at c.requests q ≡ is_placed_at (with_permits c.requests p progress.Closed 0) q = sym (test_other is_placed c.requests p q progress.Closed 0 (λ e. o (sym e))) in
    let f = first_same p c.life in
    λ i. if a i then Some wait.Place else if b i && is_from (f i) q then Some wait.Room else None

-- what one that came waits for
fresh_wait_same : (n p : ℕ) (c : MultiplexedConnection) (q : ℕ) → IsGone n p c.requests c.life → fresh_wait c q ≡ fresh_wait (bare_conn p c) q
fresh_wait_same n p c q h =
    let a = same_test is_waiting c.requests p q refl h.past in
    let g = repeating_same p c in
    let d = early_same p c.life in
    λ i. if a i then Some (if g i then wait.Resubscribe else d i) else None

-- all waits of those that were moved
bare_moved_each_shown : (n p : ℕ) (w : Work) (qs : List ℕ) → NoneIs p qs → At (There (IsGone n p)) w → bare n p (moved_each_shown w qs) ≡ moved_each_shown (bare n p w) qs
bare_moved_each_shown n p w [] o h = refl
bare_moved_each_shown n p w (q ∷ qs) o h =
    let kind = moved_wait w.conn q in
    bare_moved_each_shown n p (wait_shown w q kind) qs o.1 (wait_kept (gone_kept n p) w q kind h)
    ∙ ap (λ (x : Work). moved_each_shown x qs) (bare_wait n p w q kind ∙ ap (wait_shown (bare n p w) q) (moved_wait_same n p w.conn q o.0 h))

-- of whom none is request p
bare_moved_shown : (n p : ℕ) (w : Work) → At (IsAway n p) w → bare n p (moved_shown w) ≡ moved_shown (bare n p w)
bare_moved_shown n p w h = bare_moved_each_shown n p (record w { conn = record w.conn { moved = [] } }) w.conn.moved h.unmoved h.gone

-- and all waits of those that came
bare_fresh_each_shown : (n p : ℕ) (w : Work) (qs : List ℕ) → At (There (IsGone n p)) w → bare n p (fresh_each_shown w qs) ≡ fresh_each_shown (bare n p w) qs
bare_fresh_each_shown n p w [] h = refl
bare_fresh_each_shown n p w (q ∷ qs) h =
    let kind = fresh_wait w.conn q in
    bare_fresh_each_shown n p (wait_shown w q kind) qs (wait_kept (gone_kept n p) w q kind h)
    ∙ ap (λ (x : Work). fresh_each_shown x qs) (bare_wait n p w q kind ∙ ap (wait_shown (bare n p w) q) (fresh_wait_same n p w.conn q h))

-- what a turn ends with
pub bare_flushed : (n p : ℕ) (w : Work) → At (IsAway n p) w → bare n p (flushed w) ≡ flushed (bare n p w)
bare_flushed n p w h =
    let d = written w in
    let k : At (IsAway n p) d = written_kept (away_kept n p) w h in
    let e = moved_shown d in
    let m : At (IsAway n p) e = moved_shown_kept (away_kept n p) d k in
    bare_fresh_each_shown n p (record e { conn = record e.conn { fresh = [] } }) e.conn.fresh m.gone ∙ ap fresh_shown (bare_moved_shown n p d k)
    ∙ ap waits_shown (bare_written_at n p w w.conn.life)
