-- What an event leaves of new credentials: how many were asked for, those that wait, and whether some are to be told. Only an
-- opening that fails forgets them, and only a link that is ready takes more.
use Rattle.std.proofs.Common.{◌≡◌, ℕ, subst, sym, ◌+◌, ◌==◌, nat_le, Bool, true, false, ◌&&◌, List, [], ◌∷◌, ◌++◌, length, Option, Some, None, slice_get, if◌then◌else◌, ◌||◌}
use Rattle.containers.proofs.Choices.{chosen, both_left}
use Rattle.credentials.specs.Credentials.{Credentials}
use Rattle.redis_error.specs.declared.redis_error.RedisError.{RedisError}
use Rattle.redis_error.specs.declared.redis_error.RedisError.TheVariants as error
use Rattle.redis_error.specs.declared.fault_kind.FaultKind.{FaultKind}
use Rattle.connection_setup.specs.declared.judgement.SetupResult.{SetupResult}
use Rattle.connection_setup.specs.declared.judgement.SetupResult.TheVariants as result
use Rattle.driver_model.specs.Setup.{says_nothing}
use Rattle.driver_model.specs.Shape.{outcome_of}
use Rattle.driver_model.specs.Request.{packed_bytes, lacks_resp3}
use Rattle.driver_model.specs.declared.action.Owner.TheVariants as owner
use Rattle.driver_model.specs.declared.action.Purpose.{Purpose}
use Rattle.driver_model.specs.declared.action.Purpose.TheVariants as purpose
use Rattle.driver_model.specs.declared.event.EventKind.{EventKind}
use Rattle.driver_model.specs.declared.event.EventKind.TheVariants as event
use Rattle.driver_model.specs.declared.event.Submission.{Submission}
use Rattle.driver_model.specs.declared.news.LinkFault.{LinkFault}
use Rattle.driver_model.specs.declared.news.LinkFault.TheVariants as fault
use Rattle.driver_model.specs.declared.outcome.Outcome.{Outcome}
use Rattle.driver_model.specs.declared.outcome.Outcome.TheVariants as outcome
use Rattle.driver_model.specs.News.{News, silence, connected, refused, overdue, took, came, failed, authorized, denied, deserted, renewed, unrenewed, late, unrepeated, shut, news_of, dropped}
use Rattle.link_core.specs.declared.message.NoticeAt.{NoticeAt}
use Rattle.link_core.specs.declared.message.Settled.{Settled}
use Rattle.link_core.specs.Link.{LinkState, closed_all, faulted, holds_back, piece_read}
use Rattle.mux_conn.specs.declared.act.LinkAct.TheVariants as act
use Rattle.mux_conn.specs.declared.connection.MultiplexedConnection.{MultiplexedConnection}
use Rattle.mux_conn.specs.declared.life.Greeting.{Greeting}
use Rattle.mux_conn.specs.declared.life.Life.{Life}
use Rattle.mux_conn.specs.declared.life.Life.TheVariants.{Resting, Dialing, Wanting, SettingUp, Ready, Ended}
use Rattle.mux_conn.specs.declared.request.Pending.{Pending}
use Rattle.mux_conn.specs.declared.request.Waiting.{Waiting}
use Rattle.mux_conn.specs.Connection.{Work, acted, at_life, is_ready, with_link, with_wanting, is_repeating}
use Rattle.mux_conn.specs.Requests.{answered, is_open_at}
use Rattle.mux_conn.specs.Renewals.{is_done, renewal_id, renewing, replied, takes_more, is_unanswered}
use Rattle.mux_conn.specs.Effects.{all_answered, all_fresh, answered_setup, creation_told, given_up, applied, authorized_at, behind_first, broken_at, cancelled_in, come_up, comes_to_want, connected_at, cut_short, failed_at, failed_each, heard_on, judged_by, made_ready, new_link, nobody_waits, opening_failed, overdue_at, parted, read_at, refused_at, set_up_by, sets_up, settled_each, settled_one, shut_at, steps_of, taken_at, timed_out, told_each, unauthorized_at, waiting_failed, with_credentials, dropped_at, dropped_by, ended_by, greeted, greeted_by, greeting_error, is_unreadable, noticed, noticed_each, settled_other, served}
use Rattle.single_session.specs.declared.core_state.Core.{Core}
use Rattle.single_session.specs.Turn.{Turning, asked_for, counted, effect, fired_by, heard, late_by, left_by, refused_with, requested, submitted, work_of}
use Rattle.conn_laws.proofs.Links.ComeUp.{made_conn}
use Rattle.driver_model.specs.Hearing.{hears_pushes, hears_messages, is_watching, felt}
use Rattle.driver_model.specs.Kind.{has_timeouts}
use Rattle.mux_conn.specs.declared.life.Greeting.TheVariants as greet
use Rattle.driver_model.specs.declared.hearing.Hearing.TheVariants as hearing
use Rattle.mux_conn.specs.Repeats.{is_to_start, is_untimed, repeat_asked, repeat_id, repeat_moved, repeat_timed, repeat_told, repeated, repeating, with_timer}
use Rattle.mux_conn.specs.declared.again.Again.{Again}
use Rattle.mux_conn.specs.declared.again.Again.TheVariants as again

-- what is said of them, which holds where there are none
module _ (P : ℕ → List Credentials → Bool → Type 0) (none : P 0 [] false) where
  -- it holds
  abbrev pub Holds : Work → Type 0
  Holds w = P w.conn.renewal.asked w.conn.renewal.waiting w.conn.renewal.pending

  -- it holds of a link that is ready, whichever wait
  abbrev pub Takes : Work → Type 0
  Takes w = (cs : List Credentials) → is_ready w.conn.life ≡ true → P w.conn.renewal.asked cs w.conn.renewal.pending

  -- the effects of news
  --
  -- an answer to a request
  answered_holds : (w : Work) (p : ℕ) (o : Outcome) → Holds w → Holds (answered w p o)
  answered_holds w p o h = chosen Holds (is_open_at w.conn.requests p) _ w (λ t. h) (λ f. h)

  -- or that what is subscribed again is answered
  served_holds : (w : Work) → Holds w → Holds (served w)
  served_holds w h = chosen Holds (is_repeating w.conn) (all_fresh (repeating w again.Nothing)) w (λ t. h) (λ f. h)

  -- one message that was settled
  one_holds : (w : Work) (s : Settled) → Holds w → Holds (settled_one w s)
  one_holds w s h = chosen Holds (s.id == renewal_id) (renewing w (replied w.conn.renewal (is_done s.verdict))) (settled_other w s)
      (λ t. h)
      (λ f.
      chosen Holds (s.id == repeat_id) (served w) (answered w s.id (outcome_of s.verdict))
      (λ t. served_holds w h)
      (λ o. answered_holds w s.id (outcome_of s.verdict) h))

  -- each that was
  settled_holds : (w : Work) (ss : List Settled) → Holds w → Holds (settled_each w ss)
  settled_holds w [] h = h
  settled_holds w (s ∷ ss) h = settled_holds (settled_one w s) ss (one_holds w s h)

  -- errors for requests
  failed_holds : (w : Work) (e : RedisError) (qs : List Waiting) → Holds w → Holds (failed_each w e qs)
  failed_holds w e [] h = h
  failed_holds w e (q ∷ qs) h = failed_holds (answered w q.number (outcome.Fault e)) e qs (answered_holds w q.number (outcome.Fault e) h)

  -- for all that wait
  waiting_holds : (w : Work) (e : RedisError) → Holds w → Holds (waiting_failed w e)
  waiting_holds w e h = failed_holds (failed_each (nobody_waits w) e w.conn.admitted) e w.conn.waiting (failed_holds (nobody_waits w) e w.conn.admitted h)

  -- notices that are told
  noticed_holds : (w : Work) (ns : List NoticeAt) → Holds w → Holds (noticed_each w ns)
  noticed_holds w [] h = h
  noticed_holds w (x ∷ xs) h = noticed_holds (noticed w x.notice) xs h

  -- settled messages, and notices between them
  told_holds : (w : Work) (k : ℕ) (ns : List NoticeAt) (ss : List Settled) → Holds w → Holds (told_each w k ns ss)
  told_holds w k ns [] h = noticed_holds w ns h
  told_holds w k [] (s ∷ ss) h = settled_holds w (s ∷ ss) h
  told_holds w k (x ∷ xs) (s ∷ ss) h =
      chosen Holds (nat_le x.settled k) (told_each (noticed w x.notice) k xs (s ∷ ss)) (told_each (settled_one w s) (k + 1) (x ∷ xs) ss) (λ t. told_holds (noticed w x.notice) k xs (s ∷ ss) h) (λ f. told_holds (settled_one w s) (k + 1) (x ∷ xs) ss (one_holds w s h))

  -- the answers of an end
  all_holds : (w : Work) (out : List Settled) → Holds w → Holds (all_answered w out)
  all_holds w out h = waiting_holds (settled_each w out) error.Closed (settled_holds w out h)

  -- that it is told
  parted_holds : (w : Work) → Holds w → Holds (parted w)
  parted_holds w h = chosen Holds (hears_pushes w.conn.hears) _ w (λ t. h) (λ f. h)

  -- an opening that fails
  opening_holds : (w : Work) (e : RedisError) → Holds w → Holds (opening_failed w e)
  opening_holds w e h = chosen Holds w.conn.last (given_up w e) _ (λ t. waiting_holds (creation_told (at_life w (Ended e)) (Some e)) e h) (λ f. none)

  -- a link that becomes ready
  made_holds : (w : Work) (link : LinkState) → Holds w → Holds (made_ready w link)
  made_holds w link h = subst (λ (c : MultiplexedConnection). P c.renewal.asked c.renewal.waiting c.renewal.pending) (sym (made_conn w link)) h

  -- or whose server is put into monitor mode first
  greeted_holds : (w : Work) (link : LinkState) → Holds w → Holds (greeted w link)
  greeted_holds w link h = chosen Holds (is_watching w.conn.hears) (sets_up w link greet.Monitor) (made_ready w link) (λ t. h) (λ f. made_holds w link h)

  -- or comes up
  come_holds : (w : Work) (link : LinkState) → Holds w → Holds (come_up w link)
  come_holds w link h = chosen Holds (says_nothing (steps_of w.conn greet.WithUser)) (greeted w link) (sets_up (all_fresh w) link greet.WithUser) (λ t. greeted_holds w link h) (λ f. h)

  -- a connect that succeeds
  connected_holds : (w : Work) (life : Life) → Holds w → Holds (connected_at w life)
  connected_holds w Resting h = h
  connected_holds w Dialing h = chosen Holds w.conn.renewal.wanted (comes_to_want w (new_link w.conn)) (come_up w (new_link w.conn)) (λ t. h) (λ f. come_holds w (new_link w.conn) h)
  connected_holds w (Wanting link) h = h
  connected_holds w (SettingUp link greeting) h = h
  connected_holds w (Ready link) h = h
  connected_holds w (Ended e) h = h

  -- the first credentials
  authorized_holds : (w : Work) (c : Credentials) (life : Life) → Holds w → Holds (authorized_at w c life)
  authorized_holds w c (Wanting link) h = come_holds (with_credentials w c) link h
  authorized_holds w c Resting h = h
  authorized_holds w c Dialing h = h
  authorized_holds w c (SettingUp link greeting) h = h
  authorized_holds w c (Ready link) h = h
  authorized_holds w c (Ended e) h = h

  -- that there are none
  unauthorized_holds : (w : Work) (e : RedisError) (life : Life) → Holds w → Holds (unauthorized_at w e life)
  unauthorized_holds w e (Wanting link) h = opening_holds (acted w act.Close) e h
  unauthorized_holds w e Resting h = h
  unauthorized_holds w e Dialing h = h
  unauthorized_holds w e (SettingUp link greeting) h = h
  unauthorized_holds w e (Ready link) h = h
  unauthorized_holds w e (Ended x) h = h

  -- a connect that fails
  refused_holds : (w : Work) (f : FaultKind) (life : Life) → Holds w → Holds (refused_at w f life)
  refused_holds w f Resting h = h
  refused_holds w f Dialing h = opening_holds w (error.Io f) h
  refused_holds w f (Wanting link) h = h
  refused_holds w f (SettingUp link greeting) h = h
  refused_holds w f (Ready link) h = h
  refused_holds w f (Ended e) h = h

  -- the time of the opening that is over
  overdue_holds : (w : Work) (life : Life) → Holds w → Holds (overdue_at w life)
  overdue_holds w Resting h = h
  overdue_holds w Dialing h = opening_holds (acted w act.Close) _ h
  overdue_holds w (Wanting link) h = opening_holds (acted w act.Close) _ h
  overdue_holds w (SettingUp link greeting) h = opening_holds (acted w act.Close) _ h
  overdue_holds w (Ready link) h = h
  overdue_holds w (Ended e) h = h

  -- bytes that were taken
  taken_holds : (w : Work) (count : ℕ) (life : Life) → Holds w → Holds (taken_at w count life)
  taken_holds w count (Ready link) h = h
  taken_holds w count Resting h = h
  taken_holds w count Dialing h = h
  taken_holds w count (Wanting link) h = h
  taken_holds w count (SettingUp link greeting) h = h
  taken_holds w count (Ended e) h = h

  -- an end by a fault
  ended_holds : (w : Work) (link : LinkState) (f : LinkFault) → Holds w → Holds (ended_by w link f)
  ended_holds w link f h = all_holds (parted (cut_short w)) (faulted (record { link = link; out = [] }) f).out (parted_holds (cut_short w) h)

  -- a fault
  fault_holds : (w : Work) (f : LinkFault) (life : Life) → Holds w → Holds (failed_at w f life)
  fault_holds w f (Ready link) h = ended_holds w link (felt w.conn.hears f) h
  fault_holds w f Resting h = h
  fault_holds w f Dialing h = h
  fault_holds w f (Wanting link) h = opening_holds (acted w act.Close) error.Closed h
  fault_holds w f (SettingUp link greeting) h = opening_holds (acted w act.Close) (greeting_error greeting link.row f) h
  fault_holds w f (Ended e) h = h

  -- the stream of messages that is dropped
  stream_holds : (w : Work) (life : Life) → Holds w → Holds (dropped_at w life)
  stream_holds w (Ready link) h = ended_holds w link fault.Ended h
  stream_holds w Resting h = h
  stream_holds w Dialing h = opening_holds (acted w act.Close) error.Closed h
  stream_holds w (Wanting link) h = opening_holds (acted w act.Close) error.Closed h
  stream_holds w (SettingUp link greeting) h = opening_holds (acted w act.Close) error.Closed h
  stream_holds w (Ended e) h = h

  dropped_holds : (w : Work) → Holds w → Holds (dropped_by w)
  dropped_holds w h = chosen Holds (hears_messages w.conn.hears) (dropped_at w w.conn.life) w (λ t. stream_holds w w.conn.life h) (λ f. h)

  -- bytes that begin no value
  broken_holds : (broken : Bool) (w : Work) → Holds w → Holds (broken_at broken w)
  broken_holds broken w h = chosen Holds broken (failed_at w fault.Parse w.conn.life) w (λ t. fault_holds w fault.Parse w.conn.life h) (λ f. h)

  -- a greeting that is answered well
  well_holds : (w : Work) (link : LinkState) (greeting : Greeting) → Holds w → Holds (greeted_by w link greeting)
  well_holds w link greet.WithUser h = greeted_holds w link h
  well_holds w link greet.WithoutUser h = greeted_holds w link h
  well_holds w link greet.Monitor h = made_holds w link h

  -- what the replies to it come to
  judged_holds : (w : Work) (link : LinkState) (greeting : Greeting) (r : SetupResult) → Holds w → Holds (set_up_by w link greeting r)
  judged_holds w link greeting result.Ready h = well_holds w link greeting h
  judged_holds w link greeting result.RepeatWithoutUser h = h
  judged_holds w link greeting (result.Failed e) h = opening_holds (acted w act.Close) e h
  judged_holds w link greeting result.NoMemory h = h

  -- the notices behind it
  heard_holds : (w : Work) (ns : List NoticeAt) → Holds w → Holds (heard_on w ns)
  heard_holds w ns h = chosen Holds (is_ready w.conn.life) (noticed_each w ns) w (λ t. noticed_holds w ns h) (λ f. h)

  -- the reply to a greeting
  setup_holds : (w : Work) (link : LinkState) (greeting : Greeting) (ns : List NoticeAt) (ss : List Settled) → Holds w → Holds (answered_setup w link greeting ns ss)
  setup_holds w link greeting ns [] h = h
  setup_holds w link greeting ns (s ∷ ss) h =
      let r = judged_by (steps_of w.conn greeting) s.verdict in
      heard_holds (set_up_by w link greeting r) (behind_first ns) (judged_holds w link greeting r h)

  -- bytes that come
  read_holds : (w : Work) (piece : List ℕ) (life : Life) → Holds w → Holds (read_at w piece life)
  read_holds w piece (Ready link) h =
      let r = piece_read w.conn.hears true link piece in
      broken_holds (r.link.broken || r.strange) (told_each (with_link w r.link) 0 r.notices r.out) (told_holds (with_link w r.link) 0 r.notices r.out h)
  read_holds w piece Resting h = h
  read_holds w piece Dialing h = h
  read_holds w piece (Wanting link) h =
      let r = piece_read hearing.Nothing false link piece in
      broken_holds r.link.broken (with_wanting w r.link) h
  read_holds w piece (SettingUp link greeting) h =
      let r = piece_read w.conn.hears false link piece in
      let answered = answered_setup w r.link greeting r.notices r.out in
      broken_holds (is_unreadable r answered) answered (setup_holds w r.link greeting r.notices r.out h)
  read_holds w piece (Ended e) h = h

  -- the shutdown
  shut_holds : (w : Work) (life : Life) → Holds w → Holds (shut_at w life)
  shut_holds w (Ready link) h = all_holds (cut_short w) (closed_all (record { link = link; out = [] })).out h
  shut_holds w Resting h = waiting_holds w error.Closed h
  shut_holds w Dialing h = all_holds (cut_short w) [] h
  shut_holds w (Wanting link) h = all_holds (cut_short w) [] h
  shut_holds w (SettingUp link greeting) h = all_holds (cut_short w) [] h
  shut_holds w (Ended e) h = h

  -- any news
  applied_holds : (w : Work) (news : News) → Takes w → Holds w → Holds (applied w news)
  applied_holds w silence takes h = h
  applied_holds w connected takes h = connected_holds w w.conn.life h
  applied_holds w (refused f) takes h = refused_holds w f w.conn.life h
  applied_holds w overdue takes h = overdue_holds w w.conn.life h
  applied_holds w (took count) takes h = taken_holds w count w.conn.life h
  applied_holds w (came piece) takes h = read_holds w piece w.conn.life h
  applied_holds w (failed f) takes h = fault_holds w f w.conn.life h
  applied_holds w (authorized c) takes h = authorized_holds w c w.conn.life h
  applied_holds w (denied text) takes h = unauthorized_holds w (error.Credentials text) w.conn.life h
  applied_holds w deserted takes h = unauthorized_holds w (error.AuthFailed []) w.conn.life h
  applied_holds w (renewed c) takes h =
      let more = is_ready w.conn.life && takes_more w.conn.renewal in
      chosen (λ (x : MultiplexedConnection). P x.renewal.asked x.renewal.waiting x.renewal.pending) more _ w.conn (λ t. takes (w.conn.renewal.waiting ++ c ∷ []) (both_left (is_ready w.conn.life) (takes_more w.conn.renewal) t)) (λ f. h)
  applied_holds w unrenewed takes h = h
  applied_holds w (late k) takes h = chosen (λ (x : MultiplexedConnection). P x.renewal.asked x.renewal.waiting x.renewal.pending) (is_unanswered w.conn.renewal k) _ w.conn (λ t. h) (λ f. h)
  applied_holds w unrepeated takes h = served_holds w h
  applied_holds w dropped takes h = dropped_holds w h
  applied_holds w shut takes h = shut_holds w w.conn.life h

  -- what the event is to submissions
  --
  -- the time of a request that is over
  timed_holds : (w : Work) (p : ℕ) → Holds w → Holds (timed_out w p)
  timed_holds w p h = answered_holds (if is_open_at w.conn.requests p then at_life w (cancelled_in w.conn.life p) else w) p _ (chosen Holds (is_open_at w.conn.requests p) (at_life w (cancelled_in w.conn.life p)) w (λ t. h) (λ f. h))

  -- of a submission
  late_holds : (t : Turning) (x : Option (Option Pending)) → Holds (work_of t) → Holds (work_of (late_by t x))
  late_holds t None h = h
  late_holds t (Some None) h = h
  late_holds t (Some (Some p)) h = timed_holds (work_of t) p.number h

  -- a caller that goes
  left_holds : (t : Turning) (x : Option (Option Pending)) → Holds (work_of t) → Holds (work_of (left_by t x))
  left_holds t None h = h
  left_holds t (Some None) h = h
  left_holds t (Some (Some p)) h = chosen (λ (x : MultiplexedConnection). P x.renewal.asked x.renewal.waiting x.renewal.pending) (is_open_at t.core.single.connection.requests p.number) _ t.core.single.connection (λ e. h) (λ f. h)

  -- a timer that fires
  fired_holds : (t : Turning) (x : Option Purpose) → Holds (work_of t) → Holds (work_of (fired_by t x))
  fired_holds t None h = h
  fired_holds t (Some (purpose.Connect l)) h = h
  fired_holds t (Some (purpose.Response owner.Setup)) h = h
  fired_holds t (Some (purpose.Response owner.Auth)) h = h
  fired_holds t (Some (purpose.Response owner.Resub)) h = h
  fired_holds t (Some (purpose.Response owner.Monitor)) h = h
  fired_holds t (Some (purpose.Renewal l k)) h = h
  fired_holds t (Some (purpose.Backoff g)) h = h
  fired_holds t (Some (purpose.Resubscription l)) h = h
  fired_holds t (Some (purpose.Response (owner.Try m round))) h = late_holds t (slice_get t.core.table m) h

  -- a submission
  submitted_holds : (t : Turning) (what : Submission) → Holds (work_of t) → Holds (work_of (submitted t what))
  submitted_holds t what h =
      let lacks = lacks_resp3 t.core.single.connection.hears t.core.single.connection.info.protocol what in
      let packed = if length (packed_bytes what) == 0 then refused_with t error.EmptyCommand else asked_for t what in
      chosen (λ (x : Turning). Holds (work_of x)) t.core.shut (refused_with t error.Closed) (if lacks then refused_with t error.Resp3Required else packed) (λ s. h)
      (λ f. chosen (λ (x : Turning). Holds (work_of x)) lacks (refused_with t error.Resp3Required) packed (λ s. h)
      (λ d. chosen (λ (x : Turning). Holds (work_of x)) (length (packed_bytes what) == 0) (refused_with t error.EmptyCommand) (asked_for t what) (λ s. h) (λ g. h)))

  -- any event
  requested_holds : (t : Turning) (kind : EventKind) → Holds (work_of t) → Holds (work_of (requested t kind))
  requested_holds t (event.Submit what) h = submitted_holds t what h
  requested_holds t (event.Cancel m) h = left_holds t (slice_get t.core.table m) h
  requested_holds t (event.Connected l) h = h
  requested_holds t (event.Refused l f) h = h
  requested_holds t (event.Fired m) h = fired_holds t (slice_get t.core.timers m) h
  requested_holds t (event.Timeout ms) h = chosen (λ (c : Core). P c.single.connection.renewal.asked c.single.connection.renewal.waiting c.single.connection.renewal.pending) (has_timeouts t.core.kind) _ t.core (λ s. h) (λ f. h)
  requested_holds t (event.Creds c auth) h = h
  requested_holds t (event.CredsError c text) h = h
  requested_holds t (event.CredsEnd c) h = h
  requested_holds t (event.Wrote l count) h = h
  requested_holds t (event.Bytes l piece) h = h
  requested_holds t (event.Ended l) h = h
  requested_holds t (event.ReadFault l kind) h = h
  requested_holds t (event.WriteFault l kind) h = h
  requested_holds t event.DropStream h = h
  requested_holds t event.Shutdown h = h

  -- so an event leaves them
  pub effect_holds : (c : Core) (kind : EventKind) → Takes (work_of (counted c)) → Holds (work_of (counted c)) → Holds (work_of (effect (counted c) kind))
  effect_holds c kind takes h = requested_holds (heard (counted c) kind) kind (applied_holds (work_of (counted c)) (news_of c.timers c.sources c.single.link kind) takes h)

  -- so does what is subscribed again
  --
  -- its timer
  repeat_asked_holds : (w : Work) → Holds w → Holds (repeat_asked w)
  repeat_asked_holds w h =
      let a = w.conn.again in
      chosen Holds (is_untimed a) (repeat_timed (repeating w (with_timer a)) w.conn.renewal.within) (repeating w (with_timer a)) (λ t. by_time w.conn.renewal.within) (λ f. h)
    where
      by_time : (o : Option ℕ) → Holds (repeat_timed (repeating w (with_timer w.conn.again)) o)
      by_time None = h
      by_time (Some ms) = h

  -- its message
  repeat_moved_holds : (w : Work) (life : Life) (a : Again) → Holds w → Holds (repeat_moved w life a)
  repeat_moved_holds w (Ready link) (again.Due packed of_shape timed) h = chosen Holds (holds_back link) w (repeat_told w link packed of_shape) (λ t. h) (λ f. h)
  repeat_moved_holds w (Ready link) again.Nothing h = h
  repeat_moved_holds w (Ready link) again.Sent h = h
  repeat_moved_holds w Resting a h = h
  repeat_moved_holds w Dialing a h = h
  repeat_moved_holds w (Wanting link) a h = h
  repeat_moved_holds w (SettingUp link greeting) a h = h
  repeat_moved_holds w (Ended e) a h = h

  -- both
  pub repeated_holds : (w : Work) → Holds w → Holds (repeated w)
  repeated_holds w h = chosen Holds (is_ready w.conn.life && is_to_start w.conn.again) (repeat_moved (repeat_asked w) w.conn.life w.conn.again) w
      (λ t. repeat_moved_holds (repeat_asked w) w.conn.life w.conn.again (repeat_asked_holds w h))
      (λ f. h)
