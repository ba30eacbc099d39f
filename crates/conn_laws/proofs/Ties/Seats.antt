-- An event adds no message to the queue of a link that takes requests, and leaves which of them are before its new credentials.
use Rattle.std.proofs.Common.{◌≡◌, inl, inr, ℕ, ◌+◌, ◌==◌, nat_le, Bool, true, false, ◌&&◌, ◌||◌, not, List, [], ◌∷◌, ◌++◌, Option, Some, None, if◌then◌else◌, refl, ◌∙◌, subst}
use Rattle.containers.proofs.Choices.{chosen, or_left}
use Rattle.credentials.specs.Credentials.{Credentials}
use Rattle.redis_error.specs.declared.redis_error.RedisError.{RedisError}
use Rattle.redis_error.specs.declared.redis_error.RedisError.TheVariants as error
use Rattle.redis_error.specs.declared.fault_kind.FaultKind.{FaultKind}
use Rattle.driver_model.specs.Shape.{outcome_of}
use Rattle.driver_model.specs.declared.hearing.Hearing.{Hearing}
use Rattle.driver_model.specs.declared.news.LinkFault.{LinkFault}
use Rattle.driver_model.specs.declared.news.LinkFault.TheVariants as fault
use Rattle.driver_model.specs.declared.outcome.Outcome.{Outcome}
use Rattle.driver_model.specs.declared.outcome.Outcome.TheVariants as outcome
use Rattle.driver_model.specs.News.{News, silence, connected, refused, overdue, took, came, failed, authorized, denied, deserted, renewed, unrenewed, late, unrepeated, shut, dropped}
use Rattle.driver_model.specs.Hearing.{hears_pushes, hears_messages, felt}
use Rattle.link_core.specs.declared.message.NoticeAt.{NoticeAt}
use Rattle.link_core.specs.declared.message.Queued.{Queued}
use Rattle.link_core.specs.declared.message.Settled.{Settled}
use Rattle.link_core.specs.Link.{LinkState, Reading, begun, closed_all, came_all, faulted, holds_back, nothing_read, piece_read, wrote_of}
use Rattle.link_core.specs.Waiting.{is_wanted, without}
use Rattle.mux_conn.specs.declared.again.Again.{Again}
use Rattle.mux_conn.specs.declared.again.Again.TheVariants as again
use Rattle.mux_conn.specs.declared.connection.MultiplexedConnection.{MultiplexedConnection}
use Rattle.mux_conn.specs.declared.life.Life.{Life}
use Rattle.mux_conn.specs.declared.life.Life.TheVariants.{Resting, Dialing, Wanting, SettingUp, Ready, Ended}
use Rattle.mux_conn.specs.declared.renewal.Renewal.{Renewal}
use Rattle.mux_conn.specs.declared.request.Waiting.{Waiting}
use Rattle.mux_conn.specs.Connection.{Work, at_life, is_ready, is_repeating, with_link}
use Rattle.mux_conn.specs.Effects.{all_answered, all_fresh, applied, authorized_at, broken_at, cancelled_in, connected_at, cut_short, dropped_at, dropped_by, ended_by, failed_at, failed_each, nobody_waits, noticed, noticed_each, overdue_at, parted, read_at, refused_at, served, settled_each, settled_one, settled_other, shut_at, taken_at, timed_out, told_each, unauthorized_at, waiting_failed}
use Rattle.mux_conn.specs.Renewals.{expected, is_done, is_unanswered, renewal_id, renewing, replied, takes_more, with_renewal}
use Rattle.mux_conn.specs.Repeats.{is_to_start, is_untimed, repeat_asked, repeat_id, repeat_moved, repeat_timed, repeat_told, repeated, repeating, with_timer}
use Rattle.mux_conn.specs.Requests.{answered, is_open_at}
use Rattle.conn_laws.proofs.Ties.Numbers.{IsIn}
use Rattle.conn_laws.proofs.Ties.Tied.{link_in, queue_ids}

-- what an event leaves of a link that was ready, and of its new credentials
pub record LeavesSeats (u : MultiplexedConnection) (link : LinkState) (r : Renewal) : Type 0 where
  pub ready : is_ready u.life ≡ true
  pub fewer : (p : ℕ) → IsIn p (queue_ids link.queue) → IsIn p (queue_ids (link_in u.life).queue)
  pub pending : r.pending ≡ u.renewal.pending
  pub last : r.last ≡ u.renewal.last
  pub lost : r.lost ≡ false → u.renewal.lost ≡ false

-- a connection that was ready, or had ended, is so behind it, or has ended
abbrev pub KeepsSeats : MultiplexedConnection → Life → Renewal → Type 0
KeepsSeats u (Ready link) r = LeavesSeats u link r
KeepsSeats u (Ended e) r = Unit {0}
KeepsSeats u Resting r = ⊥
KeepsSeats u Dialing r = ⊥
KeepsSeats u (Wanting link) r = ⊥
KeepsSeats u (SettingUp link greeting) r = ⊥

abbrev pub AllKeep : MultiplexedConnection → Work → Type 0
AllKeep u w = KeepsSeats u w.conn.life w.conn.renewal

-- other new credentials, where these are to be told or not as before
renewal_keeps : (u : MultiplexedConnection) (life : Life) (r s : Renewal) → s.pending ≡ r.pending → s.last ≡ r.last → (s.lost ≡ false → r.lost ≡ false) → KeepsSeats u life r → KeepsSeats u life s
renewal_keeps u (Ready link) r s pending last lost h = record { ready = h.ready; fewer = h.fewer; pending = pending ∙ h.pending; last = last ∙ h.last; lost = λ e. h.lost (lost e) }
renewal_keeps u (Ended e) r s pending last lost h = tt
renewal_keeps u Resting r s pending last lost h = h
renewal_keeps u Dialing r s pending last lost h = h
renewal_keeps u (Wanting link) r s pending last lost h = h
renewal_keeps u (SettingUp link greeting) r s pending last lost h = h

-- an answer to a request
answered_keeps : (u : MultiplexedConnection) (w : Work) (p : ℕ) (o : Outcome) → AllKeep u w → AllKeep u (answered w p o)
answered_keeps u w p o h = chosen (AllKeep u) (is_open_at w.conn.requests p) _ w (λ t. h) (λ f. h)

-- or that what is subscribed again is answered
served_keeps : (u : MultiplexedConnection) (w : Work) → AllKeep u w → AllKeep u (served w)
served_keeps u w h = chosen (AllKeep u) (is_repeating w.conn) (all_fresh (repeating w again.Nothing)) w (λ t. h) (λ f. h)

-- one message that was settled
one_keeps : (u : MultiplexedConnection) (w : Work) (s : Settled) → AllKeep u w → AllKeep u (settled_one w s)
one_keeps u w s h = chosen (AllKeep u) (s.id == renewal_id) (renewing w (replied w.conn.renewal (is_done s.verdict))) (settled_other w s)
    (λ t. renewal_keeps u w.conn.life w.conn.renewal (replied w.conn.renewal (is_done s.verdict)) refl refl (λ e. or_left w.conn.renewal.lost (not (is_done s.verdict)) e) h)
    (λ f. chosen (AllKeep u) (s.id == repeat_id) (served w) (answered w s.id (outcome_of s.verdict)) (λ t. served_keeps u w h) (λ o. answered_keeps u w s.id (outcome_of s.verdict) h))

-- each that was
settled_keeps : (u : MultiplexedConnection) (w : Work) (ss : List Settled) → AllKeep u w → AllKeep u (settled_each w ss)
settled_keeps u w [] h = h
settled_keeps u w (s ∷ ss) h = settled_keeps u (settled_one w s) ss (one_keeps u w s h)

-- errors for requests
failed_keeps : (u : MultiplexedConnection) (w : Work) (e : RedisError) (qs : List Waiting) → AllKeep u w → AllKeep u (failed_each w e qs)
failed_keeps u w e [] h = h
failed_keeps u w e (q ∷ qs) h = failed_keeps u (answered w q.number (outcome.Fault e)) e qs (answered_keeps u w q.number (outcome.Fault e) h)

-- for all that wait
waiting_keeps : (u : MultiplexedConnection) (w : Work) (e : RedisError) → AllKeep u w → AllKeep u (waiting_failed w e)
waiting_keeps u w e h = failed_keeps u (failed_each (nobody_waits w) e w.conn.admitted) e w.conn.waiting (failed_keeps u (nobody_waits w) e w.conn.admitted h)

-- notices that are told
noticed_keeps : (u : MultiplexedConnection) (w : Work) (ns : List NoticeAt) → AllKeep u w → AllKeep u (noticed_each w ns)
noticed_keeps u w [] h = h
noticed_keeps u w (x ∷ xs) h = noticed_keeps u (noticed w x.notice) xs h

-- settled messages, and notices between them
told_keeps : (u : MultiplexedConnection) (w : Work) (k : ℕ) (ns : List NoticeAt) (ss : List Settled) → AllKeep u w → AllKeep u (told_each w k ns ss)
told_keeps u w k ns [] h = noticed_keeps u w ns h
told_keeps u w k [] (s ∷ ss) h = settled_keeps u w (s ∷ ss) h
told_keeps u w k (x ∷ xs) (s ∷ ss) h =
    chosen (AllKeep u) (nat_le x.settled k) (told_each (noticed w x.notice) k xs (s ∷ ss)) (told_each (settled_one w s) (k + 1) (x ∷ xs) ss) (λ t. told_keeps u (noticed w x.notice) k xs (s ∷ ss) h) (λ f. told_keeps u (settled_one w s) (k + 1) (x ∷ xs) ss (one_keeps u w s h))

-- the answers of an end
all_keep : (u : MultiplexedConnection) (w : Work) (out : List Settled) → AllKeep u w → AllKeep u (all_answered w out)
all_keep u w out h = waiting_keeps u (settled_each w out) error.Closed (settled_keeps u w out h)

-- that it is told
parted_keeps : (u : MultiplexedConnection) (w : Work) → AllKeep u w → AllKeep u (parted w)
parted_keeps u w h = chosen (AllKeep u) (hears_pushes w.conn.hears) _ w (λ t. h) (λ f. h)

-- an end by a fault
ended_keeps : (u : MultiplexedConnection) (w : Work) (link : LinkState) (f : LinkFault) → AllKeep u (ended_by w link f)
ended_keeps u w link f = all_keep u (parted (cut_short w)) (faulted (record { link = link; out = [] }) f).out (parted_keeps u (cut_short w) tt)

-- a fault
fault_keeps : (u : MultiplexedConnection) (w : Work) (f : LinkFault) (life : Life) → w.conn.life ≡ life → AllKeep u w → AllKeep u (failed_at w f life)
fault_keeps u w f (Ready link) e h = ended_keeps u w link (felt w.conn.hears f)
fault_keeps u w f (Ended x) e h = h
fault_keeps u w f Resting e h = absurd (subst (λ x. KeepsSeats u x w.conn.renewal) e h)
fault_keeps u w f Dialing e h = absurd (subst (λ x. KeepsSeats u x w.conn.renewal) e h)
fault_keeps u w f (Wanting link) e h = absurd (subst (λ x. KeepsSeats u x w.conn.renewal) e h)
fault_keeps u w f (SettingUp link greeting) e h = absurd (subst (λ x. KeepsSeats u x w.conn.renewal) e h)

-- the stream of messages that is dropped
stream_keeps : (u : MultiplexedConnection) (w : Work) (life : Life) → w.conn.life ≡ life → AllKeep u w → AllKeep u (dropped_at w life)
stream_keeps u w (Ready link) e h = ended_keeps u w link fault.Ended
stream_keeps u w (Ended x) e h = h
stream_keeps u w Resting e h = absurd (subst (λ x. KeepsSeats u x w.conn.renewal) e h)
stream_keeps u w Dialing e h = absurd (subst (λ x. KeepsSeats u x w.conn.renewal) e h)
stream_keeps u w (Wanting link) e h = absurd (subst (λ x. KeepsSeats u x w.conn.renewal) e h)
stream_keeps u w (SettingUp link greeting) e h = absurd (subst (λ x. KeepsSeats u x w.conn.renewal) e h)

dropped_keeps : (u : MultiplexedConnection) (w : Work) → AllKeep u w → AllKeep u (dropped_by w)
dropped_keeps u w h = chosen (AllKeep u) (hears_messages w.conn.hears) (dropped_at w w.conn.life) w (λ t. stream_keeps u w w.conn.life refl h) (λ f. h)

-- bytes that begin no value
broken_keeps : (u : MultiplexedConnection) (broken : Bool) (w : Work) → AllKeep u w → AllKeep u (broken_at broken w)
broken_keeps u broken w h = chosen (AllKeep u) broken (failed_at w fault.Parse w.conn.life) w (λ t. fault_keeps u w fault.Parse w.conn.life refl h) (λ f. h)

-- bytes leave the queue
read_queue : (hears : Hearing) (ready : Bool) (link : LinkState) (piece : List ℕ) → (piece_read hears ready link piece).link.queue ≡ link.queue
read_queue hears ready link piece = chosen (λ (x : Reading). x.link.queue ≡ link.queue) link.broken (nothing_read link) (came_all hears ready link (link.rest ++ piece)) (λ t. refl) (λ f. refl)

-- a link with the same queue
link_keeps : (u : MultiplexedConnection) (link next : LinkState) (r : Renewal) → next.queue ≡ link.queue → LeavesSeats u link r → LeavesSeats u next r
link_keeps u link next r same h = record { ready = h.ready; fewer = λ p i. h.fewer p (subst (λ qs. IsIn p (queue_ids qs)) same i); pending = h.pending; last = h.last; lost = h.lost }

-- bytes that come
read_keeps : (u : MultiplexedConnection) (w : Work) (piece : List ℕ) (life : Life) → w.conn.life ≡ life → AllKeep u w → AllKeep u (read_at w piece life)
read_keeps u w piece (Ready link) e h =
    let r = piece_read w.conn.hears true link piece in
    broken_keeps u (r.link.broken || r.strange) (told_each (with_link w r.link) 0 r.notices r.out) (told_keeps u (with_link w r.link) 0 r.notices r.out (link_keeps u link r.link w.conn.renewal (read_queue w.conn.hears true link piece) (subst (λ x. KeepsSeats u x w.conn.renewal) e h)))
read_keeps u w piece (Ended x) e h = h
read_keeps u w piece Resting e h = absurd (subst (λ x. KeepsSeats u x w.conn.renewal) e h)
read_keeps u w piece Dialing e h = absurd (subst (λ x. KeepsSeats u x w.conn.renewal) e h)
read_keeps u w piece (Wanting link) e h = absurd (subst (λ x. KeepsSeats u x w.conn.renewal) e h)
read_keeps u w piece (SettingUp link greeting) e h = absurd (subst (λ x. KeepsSeats u x w.conn.renewal) e h)

-- bytes that were taken
taken_keeps : (u : MultiplexedConnection) (w : Work) (count : ℕ) (life : Life) → w.conn.life ≡ life → AllKeep u w → AllKeep u (taken_at w count life)
taken_keeps u w count (Ready link) e h = link_keeps u link (wrote_of link count) w.conn.renewal refl (subst (λ x. KeepsSeats u x w.conn.renewal) e h)
taken_keeps u w count (Ended x) e h = h
taken_keeps u w count Resting e h = h
taken_keeps u w count Dialing e h = h
taken_keeps u w count (Wanting link) e h = absurd (subst (λ x. KeepsSeats u x w.conn.renewal) e h)
taken_keeps u w count (SettingUp link greeting) e h = absurd (subst (λ x. KeepsSeats u x w.conn.renewal) e h)

-- the shutdown
shut_keeps : (u : MultiplexedConnection) (w : Work) (life : Life) → w.conn.life ≡ life → AllKeep u w → AllKeep u (shut_at w life)
shut_keeps u w (Ready link) e h = all_keep u (cut_short w) (closed_all (record { link = link; out = [] })).out tt
shut_keeps u w (Ended x) e h = h
shut_keeps u w Resting e h = absurd (subst (λ x. KeepsSeats u x w.conn.renewal) e h)
shut_keeps u w Dialing e h = absurd (subst (λ x. KeepsSeats u x w.conn.renewal) e h)
shut_keeps u w (Wanting link) e h = absurd (subst (λ x. KeepsSeats u x w.conn.renewal) e h)
shut_keeps u w (SettingUp link greeting) e h = absurd (subst (λ x. KeepsSeats u x w.conn.renewal) e h)

-- news of a connect, of its time, and of what comes of the source for a setup
connected_keeps : (u : MultiplexedConnection) (w : Work) (life : Life) → w.conn.life ≡ life → AllKeep u w → AllKeep u (connected_at w life)
connected_keeps u w (Ready link) e h = h
connected_keeps u w (Ended x) e h = h
connected_keeps u w Resting e h = h
connected_keeps u w Dialing e h = absurd (subst (λ x. KeepsSeats u x w.conn.renewal) e h)
connected_keeps u w (Wanting link) e h = h
connected_keeps u w (SettingUp link greeting) e h = h

refused_keeps : (u : MultiplexedConnection) (w : Work) (f : FaultKind) (life : Life) → w.conn.life ≡ life → AllKeep u w → AllKeep u (refused_at w f life)
refused_keeps u w f (Ready link) e h = h
refused_keeps u w f (Ended x) e h = h
refused_keeps u w f Resting e h = h
refused_keeps u w f Dialing e h = absurd (subst (λ x. KeepsSeats u x w.conn.renewal) e h)
refused_keeps u w f (Wanting link) e h = h
refused_keeps u w f (SettingUp link greeting) e h = h

overdue_keeps : (u : MultiplexedConnection) (w : Work) (life : Life) → w.conn.life ≡ life → AllKeep u w → AllKeep u (overdue_at w life)
overdue_keeps u w (Ready link) e h = h
overdue_keeps u w (Ended x) e h = h
overdue_keeps u w Resting e h = h
overdue_keeps u w Dialing e h = absurd (subst (λ x. KeepsSeats u x w.conn.renewal) e h)
overdue_keeps u w (Wanting link) e h = absurd (subst (λ x. KeepsSeats u x w.conn.renewal) e h)
overdue_keeps u w (SettingUp link greeting) e h = absurd (subst (λ x. KeepsSeats u x w.conn.renewal) e h)

authorized_keeps : (u : MultiplexedConnection) (w : Work) (c : Credentials) (life : Life) → w.conn.life ≡ life → AllKeep u w → AllKeep u (authorized_at w c life)
authorized_keeps u w c (Ready link) e h = h
authorized_keeps u w c (Ended x) e h = h
authorized_keeps u w c Resting e h = h
authorized_keeps u w c Dialing e h = h
authorized_keeps u w c (Wanting link) e h = absurd (subst (λ x. KeepsSeats u x w.conn.renewal) e h)
authorized_keeps u w c (SettingUp link greeting) e h = h

unauthorized_keeps : (u : MultiplexedConnection) (w : Work) (x : RedisError) (life : Life) → w.conn.life ≡ life → AllKeep u w → AllKeep u (unauthorized_at w x life)
unauthorized_keeps u w x (Ready link) e h = h
unauthorized_keeps u w x (Ended y) e h = h
unauthorized_keeps u w x Resting e h = h
unauthorized_keeps u w x Dialing e h = h
unauthorized_keeps u w x (Wanting link) e h = absurd (subst (λ x. KeepsSeats u x w.conn.renewal) e h)
unauthorized_keeps u w x (SettingUp link greeting) e h = h

-- any news
pub applied_keeps : (u : MultiplexedConnection) (w : Work) (news : News) → AllKeep u w → AllKeep u (applied w news)
applied_keeps u w silence h = h
applied_keeps u w connected h = connected_keeps u w w.conn.life refl h
applied_keeps u w (refused f) h = refused_keeps u w f w.conn.life refl h
applied_keeps u w overdue h = overdue_keeps u w w.conn.life refl h
applied_keeps u w (took count) h = taken_keeps u w count w.conn.life refl h
applied_keeps u w (came piece) h = read_keeps u w piece w.conn.life refl h
applied_keeps u w (failed f) h = fault_keeps u w f w.conn.life refl h
applied_keeps u w (authorized c) h = authorized_keeps u w c w.conn.life refl h
applied_keeps u w (denied text) h = unauthorized_keeps u w (error.Credentials text) w.conn.life refl h
applied_keeps u w deserted h = unauthorized_keeps u w (error.AuthFailed []) w.conn.life refl h
applied_keeps u w (renewed c) h =
    chosen (λ (x : MultiplexedConnection). KeepsSeats u x.life x.renewal) (is_ready w.conn.life && takes_more w.conn.renewal) (with_renewal w.conn (expected w.conn.renewal c)) w.conn
    (λ t. renewal_keeps u w.conn.life w.conn.renewal (expected w.conn.renewal c) refl refl (λ e. e) h) (λ f. h)
applied_keeps u w unrenewed h = renewal_keeps u w.conn.life w.conn.renewal (record w.conn.renewal { over = true }) refl refl (λ e. e) h
applied_keeps u w (late k) h =
    chosen (λ (x : MultiplexedConnection). KeepsSeats u x.life x.renewal) (is_unanswered w.conn.renewal k) (with_renewal w.conn (record w.conn.renewal { lost = true })) w.conn
    (λ t. renewal_keeps u w.conn.life w.conn.renewal (record w.conn.renewal { lost = true }) refl refl (λ e. cc) h) (λ f. h)
applied_keeps u w unrepeated h = served_keeps u w h
applied_keeps u w dropped h = dropped_keeps u w h
applied_keeps u w shut h = shut_keeps u w w.conn.life refl h

-- what the event is to submissions
--
-- a message that leaves the queue adds none
without_in : (qs : List Queued) (id p : ℕ) → IsIn p (queue_ids (without qs id)) → IsIn p (queue_ids qs)
without_in [] id p i = i
without_in (q ∷ qs) id p i = by_wanted (is_wanted id q) (λ j. without_in qs id p j) i
  where
    by_wanted : (x : Bool) → (IsIn p (queue_ids (without qs id)) → IsIn p (queue_ids qs)) → IsIn p (queue_ids (if x then qs else q ∷ without qs id)) → IsIn p (q.id ∷ queue_ids qs)
    by_wanted true rest j = inr j
    by_wanted false rest (inl same) = inl same
    by_wanted false rest (inr j) = inr (rest j)

pub cancelled_keeps : (u : MultiplexedConnection) (life : Life) (r : Renewal) (p : ℕ) → KeepsSeats u life r → KeepsSeats u (cancelled_in life p) r
cancelled_keeps u (Ready link) r p h = record { ready = h.ready; fewer = λ m i. h.fewer m (without_in link.queue p m i); pending = h.pending; last = h.last; lost = h.lost }
cancelled_keeps u (Ended e) r p h = tt
cancelled_keeps u Resting r p h = h
cancelled_keeps u Dialing r p h = h
cancelled_keeps u (Wanting link) r p h = h
cancelled_keeps u (SettingUp link greeting) r p h = h

-- the time of a request that is over
pub timed_keeps : (u : MultiplexedConnection) (w : Work) (p : ℕ) → AllKeep u w → AllKeep u (timed_out w p)
timed_keeps u w p h =
    answered_keeps u (if is_open_at w.conn.requests p then at_life w (cancelled_in w.conn.life p) else w) p _
    (chosen (AllKeep u) (is_open_at w.conn.requests p) (at_life w (cancelled_in w.conn.life p)) w (λ t. cancelled_keeps u w.conn.life w.conn.renewal p h) (λ f. h))

-- what is subscribed again
--
-- its timer leaves all of it
repeat_asked_keeps : (u : MultiplexedConnection) (w : Work) → AllKeep u w → AllKeep u (repeat_asked w)
repeat_asked_keeps u w h =
    let a = w.conn.again in
    chosen (AllKeep u) (is_untimed a) (repeat_timed (repeating w (with_timer a)) w.conn.renewal.within) (repeating w (with_timer a)) (λ t. by_time w.conn.renewal.within) (λ f. h)
  where
    by_time : (o : Option ℕ) → AllKeep u (repeat_timed (repeating w (with_timer w.conn.again)) o)
    by_time None = h
    by_time (Some ms) = h

-- and so does its message
repeat_moved_keeps : (u : MultiplexedConnection) (w : Work) (life : Life) (a : Again) → w.conn.life ≡ life → AllKeep u w → AllKeep u (repeat_moved w life a)
repeat_moved_keeps u w (Ready link) (again.Due packed of_shape timed) e h =
    chosen (AllKeep u) (holds_back link) w (repeat_told w link packed of_shape) (λ t. h) (λ f. link_keeps u link (begun link _) w.conn.renewal refl (subst (λ x. KeepsSeats u x w.conn.renewal) e h))
repeat_moved_keeps u w (Ready link) again.Nothing e h = h
repeat_moved_keeps u w (Ready link) again.Sent e h = h
repeat_moved_keeps u w Resting a e h = h
repeat_moved_keeps u w Dialing a e h = h
repeat_moved_keeps u w (Wanting link) a e h = h
repeat_moved_keeps u w (SettingUp link greeting) a e h = h
repeat_moved_keeps u w (Ended x) a e h = h

-- its timer leaves the life
repeat_asked_life : (w : Work) → (repeat_asked w).conn.life ≡ w.conn.life
repeat_asked_life w =
    let a = w.conn.again in
    chosen (λ (x : Work). x.conn.life ≡ w.conn.life) (is_untimed a) (repeat_timed (repeating w (with_timer a)) w.conn.renewal.within) (repeating w (with_timer a)) (λ t. by_time w.conn.renewal.within) (λ f. refl)
  where
    by_time : (o : Option ℕ) → (repeat_timed (repeating w (with_timer w.conn.again)) o).conn.life ≡ w.conn.life
    by_time None = refl
    by_time (Some ms) = refl

pub repeated_keeps : (u : MultiplexedConnection) (w : Work) → AllKeep u w → AllKeep u (repeated w)
repeated_keeps u w h = chosen (AllKeep u) (is_ready w.conn.life && is_to_start w.conn.again) (repeat_moved (repeat_asked w) w.conn.life w.conn.again) w
    (λ t. repeat_moved_keeps u (repeat_asked w) w.conn.life w.conn.again (repeat_asked_life w) (repeat_asked_keeps u w h))
    (λ f. h)
