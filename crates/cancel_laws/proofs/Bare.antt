-- A connection does the same where one request's outcome is looked away from, once its message has left the queue.
use Rattle.std.proofs.Common.{◌≡◌, ◌≢◌, inl, ℕ, ◌==◌, ◌&&◌, ◌||◌, Bool, true, false, List, [], ◌∷◌, ◌++◌, if◌then◌else◌, refl, sym, ap, ◌∙◌, Option, Some, arith}
use Rattle.std.specs.Prelude.{◌+◌, min, unwrap_or}
use Rattle.containers.proofs.Choices.{by_test, either, either_by, eq_from, ne_from}
use Rattle.redis_error.specs.declared.fault_kind.FaultKind.TheVariants as kinds
use Rattle.redis_error.specs.declared.fault_kind.FaultKind.{FaultKind}
use Rattle.redis_error.specs.declared.redis_error.RedisError.TheVariants as error
use Rattle.redis_error.specs.declared.redis_error.RedisError.{RedisError}
use Rattle.credentials.specs.Credentials.{Credentials}
use Rattle.resp_value.specs.Data.{Data}
use Rattle.resp_value.specs.declared.push_kind.PushKind.TheVariants.{Disconnection}
use Rattle.resp_read.specs.Values.{values}
use Rattle.driver_model.specs.declared.news.LinkFault.{LinkFault}
use Rattle.driver_model.specs.declared.news.LinkFault.TheVariants as fault
use Rattle.driver_model.specs.declared.outcome.Outcome.{Outcome}
use Rattle.driver_model.specs.declared.outcome.Outcome.TheVariants as outcome
use Rattle.driver_model.specs.Hearing.{felt, hears_messages, hears_pushes}
use Rattle.driver_model.specs.declared.hearing.Hearing.{Hearing}
use Rattle.driver_model.specs.declared.hearing.Notice.{Notice}
use Rattle.driver_model.specs.declared.hearing.Notice.TheVariants as notice
use Rattle.driver_model.specs.News.{News, silence, connected, took, failed, shut, refused, overdue, authorized, denied, deserted, renewed, unrenewed, late, unrepeated, dropped, came}
use Rattle.driver_model.specs.Shape.{outcome_of}
use Rattle.link_core.specs.declared.message.Entry.{Entry}
use Rattle.link_core.specs.declared.message.NoticeAt.{NoticeAt}
use Rattle.link_core.specs.declared.message.Settled.{Settled}
use Rattle.link_core.specs.Dealing.{is_awaiting}
use Rattle.link_core.specs.Link.{LinkState, Reading, piece_read}
use Rattle.link_laws.specs.Alike.{SameRow, others}
use Rattle.link_laws.proofs.Alike.{same_awaiting}
use Rattle.link_laws.proofs.Cancels.{bytes_alike, close_alike, fault_alike}
use Rattle.mux_conn.specs.declared.act.LinkAct.{LinkAct}
use Rattle.mux_conn.specs.declared.act.LinkAct.TheVariants as act
use Rattle.mux_conn.specs.declared.again.Again.TheVariants as again
use Rattle.mux_conn.specs.declared.connection.MultiplexedConnection.{MultiplexedConnection}
use Rattle.mux_conn.specs.declared.life.Life.{Life}
use Rattle.mux_conn.specs.declared.life.Life.TheVariants.{Resting, Dialing, Wanting, SettingUp, Ready, Ended}
use Rattle.mux_conn.specs.declared.request.Progress.TheVariants as progress
use Rattle.mux_conn.specs.declared.request.Waiting.{Waiting}
use Rattle.mux_conn.specs.Connection.{Work, acted, at_life, with_link, is_ready, is_outstanding, is_repeating}
use Rattle.mux_conn.specs.Requests.{is_open_at, name_at, permits_at, with_permits, closed, answered}
use Rattle.mux_conn.specs.Effects.{afresh, creation_told, given_up, settled_one, settled_each, failed_each, nobody_waits, waiting_failed, notice_act, noticed, noticed_each, told_each, greeting_error, dropped_at, dropped_by, cut_short, all_answered, ended, parted, opening_failed, authorized_at, connected_at, unauthorized_at, refused_at, overdue_at, taken_at, failed_at, broken_at, read_to, read_at, shut_at, applied, all_fresh, served, settled_other}
use Rattle.mux_conn.specs.Renewals.{renewing, with_renewal, expecting, expected, takes_more, late_for, is_unanswered, is_done, replied, renewal_id}
use Rattle.cancel_laws.specs.ButFor.{hushed_each, hushed_link, hushed_life}
use Rattle.conn_laws.proofs.Changes.Requests.{names, name_stays, own_closed}
use Rattle.conn_laws.proofs.Changes.Names.{IsOwn, own_name, other_name}
use Rattle.cancel_laws.proofs.Links.{alike_hushed, hushed_came}
use Rattle.conn_laws.proofs.Changes.Kept.{creation_kept, IsPlain, notice_plain, At, There, answered_kept, settled_one_kept, settled_kept, telling_kept, failed_each_kept, over_kept, parted_kept}
use Rattle.conn_laws.proofs.Changes.Values.{by_value, told_of, value_told, value_read, values_read, came_by_values, same_by_value}
use Rattle.conn_laws.proofs.Changes.Gone.{NoneQueued, IsGone, gone_kept}
use Rattle.mux_conn.specs.Repeats.{repeating, repeat_id}
use Rattle.conn_laws.proofs.Changes.Bare.{acts_other, acts_own, acts_plain, closed_apart, closed_stays, closed_twice, noticed_same, open_same, other_acts, others_settled}

-- all of a connection, but for how far request p has come and whether its verdict is wanted, where its permits are free
abbrev pub bare_conn : ℕ → MultiplexedConnection → MultiplexedConnection
bare_conn p c = record (closed c p) { life = hushed_life p c.life }

-- and but for the outcomes of submission n, whose request it is
abbrev pub bare : ℕ → ℕ → Work → Work
bare n p w = record { conn = bare_conn p w.conn; acts = other_acts n w.acts }

-- acts
--
-- one more act that answers nobody
pub bare_acted : (n p : ℕ) (w : Work) (a : LinkAct) → IsPlain a → bare n p (acted w a) ≡ acted (bare n p w) a
bare_acted n p w a plain = ap (λ (xs : List LinkAct). record (bare n p w) { acts = xs }) (acts_plain n w.acts a plain)

-- answers
--
-- an answer of request p counts for nothing
pub answered_own : (n p : ℕ) (w : Work) (o : Outcome) → IsOwn n p (names w.conn.requests) → bare n p (answered w p o) ≡ bare n p w
answered_own n p w o own = own_case (is_open_at w.conn.requests p) (λ t. same t)
  where
    once : Work
    once = acted (record w { conn = closed w.conn p }) (act.Outcome (name_at w.conn.requests p) o)

    same : is_open_at w.conn.requests p ≡ true → bare n p once ≡ bare n p w
    same t =
        let c = closed_twice p w.conn in
        let xs = acts_own n (name_at w.conn.requests p) w.acts o (own_name n p w.conn.requests own t) in
        λ i. record { conn = record (c i) { life = hushed_life p w.conn.life }; acts = xs i }

    own_case : (b : Bool) → (b ≡ true → bare n p once ≡ bare n p w) → bare n p (if b then once else w) ≡ bare n p w
    own_case true e = e refl
    own_case false e = refl

-- any other answer counts
pub answered_other : (n p : ℕ) (w : Work) (q : ℕ) (o : Outcome) → IsOwn n p (names w.conn.requests) → q ≢ p → bare n p (answered w q o) ≡ answered (bare n p w) q o
answered_other n p w q o own apart =
    either_by (bare n p) (is_open_at w.conn.requests q) (is_open_at (with_permits w.conn.requests p progress.Closed 0) q) _ w _ (bare n p w) (open_same w.conn.requests p q apart)
    (λ t. same t)
    (λ f. refl)
  where
    same : is_open_at w.conn.requests q ≡ true
        → bare n p (acted (record w { conn = closed w.conn q }) (act.Outcome (name_at w.conn.requests q) o))
        ≡ acted (record (bare n p w) { conn = closed (bare_conn p w.conn) q }) (act.Outcome (name_at (bare n p w).conn.requests q) o)
    same t =
        let c = closed_apart p q w.conn apart in
        let xs = acts_other n (name_at w.conn.requests q) w.acts o (other_name n p q w.conn.requests own t apart)
        ∙ ap (λ (m : ℕ). other_acts n w.acts ++ act.Outcome m o ∷ []) (sym (name_stays w.conn.requests p q progress.Closed 0)) in
        λ i. record { conn = record (c i) { life = hushed_life p w.conn.life }; acts = xs i }

-- an answer
pub bare_answered : (n p : ℕ) (w : Work) (q : ℕ) (o : Outcome) → At (There (IsGone n p)) w → bare n p (answered w q o) ≡ answered (bare n p w) q o
bare_answered n p w q o h =
    by_test (q == p) _
    (λ t.
    let e = eq_from q p t in
    ap (λ (k : ℕ). bare n p (answered w k o)) e ∙ answered_own n p w o h.own ∙ sym (closed_stays (bare n p w) p o (own_closed w.conn.requests p)) ∙ ap (λ (k : ℕ). answered (bare n p w) k o) (sym e))
    (λ f. answered_other n p w q o h.own (ne_from q p f))

-- whether a link is set up doesn't depend on its row
pub ready_same : (p : ℕ) (life : Life) → is_ready life ≡ is_ready (hushed_life p life)
ready_same p Resting = refl
ready_same p Dialing = refl
ready_same p (Wanting l) = refl
ready_same p (SettingUp l greeting) = refl
ready_same p (Ready l) = refl
ready_same p (Ended e) = refl

-- nor whether it goes on that something is subscribed again
pub repeating_same : (p : ℕ) (c : MultiplexedConnection) → is_repeating c ≡ is_repeating (bare_conn p c)
repeating_same p c = ap (λ (b : Bool). b && is_outstanding c.again) (ready_same p c.life)

-- what is subscribed again is answered, or the time for it is over
bare_served : (n p : ℕ) (w : Work) → bare n p (served w) ≡ served (bare n p w)
bare_served n p w =
    either_by (bare n p) (is_repeating w.conn) (is_repeating (bare_conn p w.conn)) (all_fresh (repeating w again.Nothing)) w (all_fresh (repeating (bare n p w) again.Nothing)) (bare n p w) (repeating_same p w.conn) (λ t. refl) (λ f. refl)

-- a message that the link settled
bare_settled_one : (n p : ℕ) (w : Work) (s : Settled) → At (There (IsGone n p)) w → bare n p (settled_one w s) ≡ settled_one (bare n p w) s
bare_settled_one n p w s h =
    let r = replied w.conn.renewal (is_done s.verdict) in
    let o = outcome_of s.verdict in
    either (bare n p) (s.id == renewal_id) (renewing w r) (settled_other w s) (renewing (bare n p w) r) (settled_other (bare n p w) s) (λ t. refl)
    (λ f. either (bare n p) (s.id == repeat_id) (served w) (answered w s.id o) (served (bare n p w)) (answered (bare n p w) s.id o) (λ t. bare_served n p w) (λ g. bare_answered n p w s.id o h))

-- what the link settled
bare_settled : (n p : ℕ) (w : Work) (ss : List Settled) → At (There (IsGone n p)) w → bare n p (settled_each w ss) ≡ settled_each (bare n p w) ss
bare_settled n p w [] h = refl
bare_settled n p w (s ∷ ss) h =
    bare_settled n p (settled_one w s) ss (settled_one_kept (gone_kept n p) w s h) ∙ ap (λ (x : Work). settled_each x ss) (bare_settled_one n p w s h)

-- what one link settled, and what another did that settled the same for all other messages
bare_settled_same : (n p : ℕ) (w : Work) (ss later : List Settled) → At (There (IsGone n p)) w → others p ss ≡ others p later → bare n p (settled_each w ss) ≡ settled_each (bare n p w) later
bare_settled_same n p w ss later h e =
    let f = own_closed w.conn.requests p in
    bare_settled n p w ss h ∙ sym (others_settled (bare n p w) p ss h.apart f) ∙ ap (settled_each (bare n p w)) e ∙ others_settled (bare n p w) p later h.apart f

-- requests that get an error
bare_failed_each : (n p : ℕ) (w : Work) (e : RedisError) (qs : List Waiting) → At (There (IsGone n p)) w → bare n p (failed_each w e qs) ≡ failed_each (bare n p w) e qs
bare_failed_each n p w e [] h = refl
bare_failed_each n p w e (q ∷ qs) h =
    bare_failed_each n p (answered w q.number (outcome.Fault e)) e qs (answered_kept (gone_kept n p) w q.number (outcome.Fault e) h)
    ∙ ap (λ (x : Work). failed_each x e qs) (bare_answered n p w q.number (outcome.Fault e) h)

-- those that wait
bare_waiting : (n p : ℕ) (w : Work) (e : RedisError) → At (There (IsGone n p)) w → bare n p (waiting_failed w e) ≡ waiting_failed (bare n p w) e
bare_waiting n p w e h =
    let d = failed_each (nobody_waits w) e w.conn.admitted in
    bare_failed_each n p d e w.conn.waiting (failed_each_kept (gone_kept n p) (nobody_waits w) e w.conn.admitted h)
    ∙ ap (λ (x : Work). failed_each x e w.conn.waiting) (bare_failed_each n p (nobody_waits w) e w.conn.admitted h)

-- those that a link settled are answered, and then those that wait
bare_all_answered : (n p : ℕ) (w : Work) (ss later : List Settled) → At (There (IsGone n p)) w → others p ss ≡ others p later → bare n p (all_answered w ss) ≡ all_answered (bare n p w) later
bare_all_answered n p w ss later h e =
    bare_waiting n p (settled_each w ss) error.Closed (settled_kept (gone_kept n p) w ss h) ∙ ap (λ (x : Work). waiting_failed x error.Closed) (bare_settled_same n p w ss later h e)

-- the link is closed
bare_cut_short : (n p : ℕ) (w : Work) → bare n p (cut_short w) ≡ cut_short (bare n p w)
bare_cut_short n p w = bare_acted n p (at_life w (Ended error.Closed)) act.Close (λ m. refl)

-- the end of a link
bare_ended : (n p : ℕ) (w : Work) (ss later : List Settled) → At (There (IsGone n p)) w → others p ss ≡ others p later → bare n p (ended w ss) ≡ ended (bare n p w) later
bare_ended n p w ss later h e =
    bare_all_answered n p (cut_short w) ss later (over_kept (gone_kept n p) w error.Closed act.Close (λ m. refl) h) e ∙ ap (λ (x : Work). all_answered x later) (bare_cut_short n p w)

-- something is told
bare_noticed : (n p : ℕ) (w : Work) (what : Notice) → bare n p (noticed w what) ≡ noticed (bare n p w) what
bare_noticed n p w what = bare_acted n p w (notice_act what) (notice_plain what)

-- and so is more
bare_noticed_each : (n p : ℕ) (w : Work) (ps : List NoticeAt) → bare n p (noticed_each w ps) ≡ noticed_each (bare n p w) ps
bare_noticed_each n p w [] = refl
bare_noticed_each n p w (x ∷ ps) = bare_noticed_each n p (noticed w x.notice) ps ∙ ap (λ (y : Work). noticed_each y ps) (bare_noticed n p w x.notice)

-- which is told where somebody hears pushes
bare_parted : (n p : ℕ) (w : Work) → bare n p (parted w) ≡ parted (bare n p w)
bare_parted n p w =
    let end = notice.Push (record { kind = Disconnection; parts = [] }) in
    either (bare n p) (hears_pushes w.conn.hears) (noticed w end) w (noticed (bare n p w) end) (bare n p w) (λ t. bare_noticed n p w end) (λ f. refl)

-- so at its end by a fault
bare_faulted : (n p : ℕ) (w : Work) (ss later : List Settled) → At (There (IsGone n p)) w → others p ss ≡ others p later
    → bare n p (all_answered (parted (cut_short w)) ss) ≡ all_answered (parted (cut_short (bare n p w))) later
bare_faulted n p w ss later h e =
    let g : At (There (IsGone n p)) (cut_short w) = over_kept (gone_kept n p) w error.Closed act.Close (λ m. refl) h in
    bare_all_answered n p (parted (cut_short w)) ss later (parted_kept (gone_kept n p) (cut_short w) g) e
    ∙ ap (λ (x : Work). all_answered x later) (bare_parted n p (cut_short w) ∙ ap parted (bare_cut_short n p w))

-- what is shown unless it was before
bare_creation : (n p : ℕ) (w : Work) (e : Option RedisError) → bare n p (creation_told w e) ≡ creation_told (bare n p w) e
bare_creation n p w e = by_told w.conn.told
  where
    v : Work
    v = record w { conn = record w.conn { told = true } }

    by_told : (told : Bool) → bare n p (record { conn = v.conn; acts = if told then w.acts else w.acts ++ act.Created e ∷ [] })
        ≡ record { conn = (bare n p v).conn; acts = if told then (bare n p w).acts else (bare n p w).acts ++ act.Created e ∷ [] }
    by_told true = refl
    by_told false = bare_acted n p v (act.Created e) (λ m. refl)

-- a connection that is without a link then
bare_afresh : (n p : ℕ) (w : Work) → bare n p (record w { conn = afresh w.conn }) ≡ record (bare n p w) { conn = afresh (bare n p w).conn }
bare_afresh n p w = ap (λ (free : ℕ). record { conn = record (afresh (bare n p w).conn) { free = free }; acts = (bare n p w).acts }) (min_left (unwrap_or w.conn.limit 0) (permits_at w.conn.requests p))
  where
    min_left : (a b : ℕ) → min a (a + b) ≡ a
    min_left a b = omega arith

-- the end of an opening, after which another attempt may follow
bare_opening : (n p : ℕ) (w : Work) (e : RedisError) → At (There (IsGone n p)) w → bare n p (opening_failed w e) ≡ opening_failed (bare n p w) e
bare_opening n p w e h =
    let v = creation_told (at_life w (Ended e)) (Some e) in
    let over : At (There (IsGone n p)) (at_life w (Ended e)) = (gone_kept n p).end w.conn.limit w.conn.requests w.conn.life w.conn.moved w.acts e h in
    let g : At (There (IsGone n p)) v = creation_kept (gone_kept n p) (at_life w (Ended e)) (Some e) over in
    either (bare n p) w.conn.last (given_up w e) (record w { conn = afresh w.conn }) (given_up (bare n p w) e) (record (bare n p w) { conn = afresh (bare n p w).conn })
    (λ t. bare_waiting n p v e g ∙ ap (λ (x : Work). waiting_failed x e) (bare_creation n p (at_life w (Ended e)) (Some e)))
    (λ f. bare_afresh n p w)

-- the end of one whose link is closed
bare_given_up : (n p : ℕ) (w : Work) (e : RedisError) → At (There (IsGone n p)) w → bare n p (opening_failed (acted w act.Close) e) ≡ opening_failed (acted (bare n p w) act.Close) e
bare_given_up n p w e h = bare_opening n p (acted w act.Close) e h ∙ ap (λ (x : Work). opening_failed x e) (bare_acted n p w act.Close (λ m. refl))

-- news
--
-- a fault of the link
bare_failed : (n p : ℕ) (w : Work) (f : LinkFault) (life : Life) → At (There (IsGone n p)) w → bare n p (failed_at w f life) ≡ failed_at (bare n p w) f (hushed_life p life)
bare_failed n p w f (Ready l) h = bare_faulted n p w _ _ h (fault_alike p (felt w.conn.hears f) l (hushed_link p l) [] [] (alike_hushed p l) refl).out
bare_failed n p w f Resting h = refl
bare_failed n p w f Dialing h = refl
bare_failed n p w f (Wanting l) h = bare_given_up n p w error.Closed h
bare_failed n p w f (SettingUp l greeting) h = bare_given_up n p w (greeting_error greeting l.row f) h
bare_failed n p w f (Ended e) h = refl

-- the stream of messages is dropped
bare_dropped_at : (n p : ℕ) (w : Work) (life : Life) → At (There (IsGone n p)) w → bare n p (dropped_at w life) ≡ dropped_at (bare n p w) (hushed_life p life)
bare_dropped_at n p w (Ready l) h = bare_faulted n p w _ _ h (fault_alike p fault.Ended l (hushed_link p l) [] [] (alike_hushed p l) refl).out
bare_dropped_at n p w Resting h = refl
bare_dropped_at n p w Dialing h = bare_given_up n p w error.Closed h
bare_dropped_at n p w (Wanting l) h = bare_given_up n p w error.Closed h
bare_dropped_at n p w (SettingUp l greeting) h = bare_given_up n p w error.Closed h
bare_dropped_at n p w (Ended e) h = refl

-- which ends a link of messages
bare_dropped : (n p : ℕ) (w : Work) → At (There (IsGone n p)) w → bare n p (dropped_by w) ≡ dropped_by (bare n p w)
bare_dropped n p w h = either (bare n p) (hears_messages w.conn.hears) (dropped_at w w.conn.life) w (dropped_at (bare n p w) (hushed_life p w.conn.life)) (bare n p w) (λ t. bare_dropped_at n p w w.conn.life h) (λ f. refl)

-- the connect
bare_connected : (n p : ℕ) (w : Work) (life : Life) → NoneQueued p life → bare n p (connected_at w life) ≡ connected_at (bare n p w) (hushed_life p life)
bare_connected n p w Resting none = refl
bare_connected n p w Dialing none = absurd none
bare_connected n p w (Wanting l) none = absurd none
bare_connected n p w (SettingUp l greeting) none = absurd none
bare_connected n p w (Ready l) none = refl
bare_connected n p w (Ended e) none = refl

-- credentials for the setup
bare_authorized : (n p : ℕ) (w : Work) (c : Credentials) (life : Life) → NoneQueued p life → bare n p (authorized_at w c life) ≡ authorized_at (bare n p w) c (hushed_life p life)
bare_authorized n p w c Resting none = refl
bare_authorized n p w c Dialing none = refl
bare_authorized n p w c (Wanting l) none = absurd none
bare_authorized n p w c (SettingUp l greeting) none = refl
bare_authorized n p w c (Ready l) none = refl
bare_authorized n p w c (Ended e) none = refl

-- that there are none
bare_unauthorized : (n p : ℕ) (w : Work) (e : RedisError) (life : Life) → NoneQueued p life → bare n p (unauthorized_at w e life) ≡ unauthorized_at (bare n p w) e (hushed_life p life)
bare_unauthorized n p w e Resting none = refl
bare_unauthorized n p w e Dialing none = refl
bare_unauthorized n p w e (Wanting l) none = absurd none
bare_unauthorized n p w e (SettingUp l greeting) none = refl
bare_unauthorized n p w e (Ready l) none = refl
bare_unauthorized n p w e (Ended x) none = refl

-- the connect is refused
bare_refused : (n p : ℕ) (w : Work) (f : FaultKind) (life : Life) → At (There (IsGone n p)) w → bare n p (refused_at w f life) ≡ refused_at (bare n p w) f (hushed_life p life)
bare_refused n p w f Resting h = refl
bare_refused n p w f Dialing h = bare_opening n p w (error.Io f) h
bare_refused n p w f (Wanting l) h = refl
bare_refused n p w f (SettingUp l greeting) h = refl
bare_refused n p w f (Ready l) h = refl
bare_refused n p w f (Ended e) h = refl

-- the time to connect is over
bare_overdue : (n p : ℕ) (w : Work) (life : Life) → At (There (IsGone n p)) w → bare n p (overdue_at w life) ≡ overdue_at (bare n p w) (hushed_life p life)
bare_overdue n p w Resting h = refl
bare_overdue n p w Dialing h = bare_given_up n p w (error.Io kinds.TimedOut) h
bare_overdue n p w (Wanting l) h = bare_given_up n p w (error.Io kinds.TimedOut) h
bare_overdue n p w (SettingUp l greeting) h = bare_given_up n p w (error.Io kinds.TimedOut) h
bare_overdue n p w (Ready l) h = refl
bare_overdue n p w (Ended e) h = refl

-- bytes were taken
bare_taken : (n p : ℕ) (w : Work) (count : ℕ) (life : Life) → bare n p (taken_at w count life) ≡ taken_at (bare n p w) count (hushed_life p life)
bare_taken n p w count Resting = refl
bare_taken n p w count Dialing = refl
bare_taken n p w count (Wanting l) = refl
bare_taken n p w count (SettingUp l greeting) = refl
bare_taken n p w count (Ready l) = refl
bare_taken n p w count (Ended e) = refl

-- bytes that begin no value
bare_broken : (n p : ℕ) (b : Bool) (w : Work) → At (There (IsGone n p)) w → bare n p (broken_at b w) ≡ broken_at b (bare n p w)
bare_broken n p b w h = either (bare n p) b _ w _ (bare n p w) (λ t. bare_failed n p w fault.Parse w.conn.life h) (λ f. refl)

-- values that come where the rows are the same but for the verdict of message p
bare_values : (n p : ℕ) (w : Work) (what : Hearing) (row other : List Entry) (vs : List Data) → At (There (IsGone n p)) w → SameRow p row other → bare n p (values_read w what row vs) ≡ values_read (bare n p w) what other vs
bare_values n p w what row other [] h same = refl
bare_values n p w what row other (v ∷ vs) h same =
    let x = by_value what row v in
    let y = by_value what other v in
    let s = same_by_value p what row other v same in
    let d = value_told w what (is_awaiting row) v in
    let k = noticed_same n p w (told_of what (is_awaiting row) v) h in
    let one : bare n p (value_read w what row v) ≡ value_read (bare n p w) what other v =
    bare_settled_same n p d x.out y.out k s.out
    ∙ ap (λ (z : Work). settled_each z y.out)
    (bare_noticed_each n p w (told_of what (is_awaiting row) v) ∙ ap (λ (b : Bool). value_told (bare n p w) what b v) (same_awaiting p row other same)) in
    either_by (bare n p) x.strange y.strange (value_read w what row v) (values_read (value_read w what row v) what x.row vs) (value_read (bare n p w) what other v) (values_read (value_read (bare n p w) what other v) what y.row vs)
    s.strange
    (λ t. one)
    (λ f. bare_values n p (value_read w what row v) what x.row y.row vs (settled_kept (gone_kept n p) d x.out k) s.row ∙ ap (λ (z : Work). values_read z what y.row vs) one)

-- what a link gives with bytes
bare_told_each : (n p : ℕ) (w : Work) (what : Hearing) (l : LinkState) (piece : List ℕ) → At (There (IsGone n p)) w
    → (let r = piece_read what true l piece in let t = piece_read what true (hushed_link p l) piece in bare n p (told_each w 0 r.notices r.out) ≡ told_each (bare n p w) 0 t.notices t.out)
bare_told_each n p w what l piece h =
    let vs = values (l.rest ++ piece) in
    ap (bare n p) (came_by_values w what l piece)
    ∙ either (bare n p) l.broken w (values_read w what l.row vs) (bare n p w) (values_read (bare n p w) what (hushed_each p l.row) vs) (λ t. refl)
    (λ f. bare_values n p w what l.row (hushed_each p l.row) vs h (alike_hushed p l).row)
    ∙ sym (came_by_values (bare n p w) what (hushed_link p l) piece)

-- and where those bytes can't be read on
bare_read : (n p : ℕ) (w : Work) (r t : Reading) → IsGone n p w.conn.requests (Ready r.link) → hushed_link p r.link ≡ t.link → r.strange ≡ t.strange
    → bare n p (told_each (with_link w r.link) 0 r.notices r.out) ≡ told_each (with_link (bare n p w) (hushed_link p r.link)) 0 t.notices t.out
    → bare n p (read_to w r) ≡ read_to (bare n p w) t
bare_read n p w r t h link strange told =
    let d = with_link w r.link in
    bare_broken n p (r.link.broken || r.strange) (told_each d 0 r.notices r.out) (telling_kept (gone_kept n p) d 0 r.notices r.out h)
    ∙ ap (broken_at (r.link.broken || r.strange)) told
    ∙ (λ i. broken_at ((link i).broken || strange i) (told_each (with_link (bare n p w) (link i)) 0 t.notices t.out))

-- bytes come
bare_came : (n p : ℕ) (w : Work) (piece : List ℕ) (life : Life) → IsGone n p w.conn.requests life → bare n p (read_at w piece life) ≡ read_at (bare n p w) piece (hushed_life p life)
bare_came n p w piece (Ready l) h =
    let what = w.conn.hears in
    let r = piece_read what true l piece in
    let k = (gone_kept n p).come w.conn.limit w.conn.requests l w.conn.moved w.acts what piece h in
    bare_read n p w r (piece_read what true (hushed_link p l) piece) k (hushed_came p what l piece) (bytes_alike p what true l (hushed_link p l) piece (alike_hushed p l) (inl refl)).0.strange
    (bare_told_each n p (with_link w r.link) what l piece k)
bare_came n p w piece Resting h = refl
bare_came n p w piece Dialing h = refl
bare_came n p w piece (Wanting l) h = absurd h.none
bare_came n p w piece (SettingUp l greeting) h = absurd h.none
bare_came n p w piece (Ended e) h = refl

-- the shutdown
bare_shut : (n p : ℕ) (w : Work) (life : Life) → At (There (IsGone n p)) w → bare n p (shut_at w life) ≡ shut_at (bare n p w) (hushed_life p life)
bare_shut n p w (Ready l) h = bare_ended n p w _ _ h (close_alike p l (hushed_link p l) [] [] (alike_hushed p l) refl).out
bare_shut n p w Resting h = bare_waiting n p w error.Closed h
bare_shut n p w Dialing h = bare_ended n p w [] [] h refl
bare_shut n p w (Wanting l) h = bare_ended n p w [] [] h refl
bare_shut n p w (SettingUp l greeting) h = bare_ended n p w [] [] h refl
bare_shut n p w (Ended e) h = refl

-- new credentials come
bare_expecting : (p : ℕ) (c : MultiplexedConnection) (auth : Credentials) → bare_conn p (expecting c auth) ≡ expecting (bare_conn p c) auth
bare_expecting p c auth =
    either_by (bare_conn p) (is_ready c.life && takes_more c.renewal) (is_ready (hushed_life p c.life) && takes_more c.renewal) (with_renewal c (expected c.renewal auth)) c
    (with_renewal (bare_conn p c) (expected c.renewal auth)) (bare_conn p c) (ap (λ (b : Bool). b && takes_more c.renewal) (ready_same p c.life)) (λ t. refl) (λ f. refl)

-- the time for new credentials is over
bare_late_for : (p : ℕ) (c : MultiplexedConnection) (k : ℕ) → bare_conn p (late_for c k) ≡ late_for (bare_conn p c) k
bare_late_for p c k =
    let r = record c.renewal { lost = true } in
    either (bare_conn p) (is_unanswered c.renewal k) (with_renewal c r) c (with_renewal (bare_conn p c) r) (bare_conn p c) (λ t. refl) (λ f. refl)

-- all news
pub bare_applied : (n p : ℕ) (w : Work) (what : News) → At (There (IsGone n p)) w → bare n p (applied w what) ≡ applied (bare n p w) what
bare_applied n p w silence h = refl
bare_applied n p w connected h = bare_connected n p w w.conn.life h.none
bare_applied n p w (refused f) h = bare_refused n p w f w.conn.life h
bare_applied n p w overdue h = bare_overdue n p w w.conn.life h
bare_applied n p w (took count) h = bare_taken n p w count w.conn.life
bare_applied n p w (came piece) h = bare_came n p w piece w.conn.life h
bare_applied n p w (failed f) h = bare_failed n p w f w.conn.life h
bare_applied n p w (authorized c) h = bare_authorized n p w c w.conn.life h.none
bare_applied n p w (denied text) h = bare_unauthorized n p w (error.Credentials text) w.conn.life h.none
bare_applied n p w deserted h = bare_unauthorized n p w (error.AuthFailed []) w.conn.life h.none
bare_applied n p w (renewed c) h = ap (λ (x : MultiplexedConnection). record (bare n p w) { conn = x }) (bare_expecting p w.conn c)
bare_applied n p w unrenewed h = refl
bare_applied n p w (late k) h = ap (λ (x : MultiplexedConnection). record (bare n p w) { conn = x }) (bare_late_for p w.conn k)
bare_applied n p w unrepeated h = bare_served n p w
bare_applied n p w dropped h = bare_dropped n p w h
bare_applied n p w shut h = bare_shut n p w w.conn.life h
