-- A session that waits for its first submission: nothing is asked of its connection until that comes.
use Rattle.std.proofs.Common.{◌≡◌, ◌⊎◌, inl, inr, ℕ, ◌-◌, ◌==◌, true, false, List, [], ◌∷◌, ◌++◌, length, length-append, Option, Some, None, slice_get, unwrap_or, refl, sym, ap, ◌∙◌, subst, arith}
use Rattle.containers.proofs.Choices.{chosen, left_if, not_both, or_right}
use Rattle.redis_error.specs.declared.redis_error.RedisError.{RedisError}
use Rattle.redis_error.specs.declared.redis_error.RedisError.TheVariants as error
use Rattle.redis_error.specs.declared.fault_kind.FaultKind.TheVariants as kind
use Rattle.driver_model.specs.declared.action.Owner.TheVariants as owner
use Rattle.driver_model.specs.declared.action.Purpose.{Purpose}
use Rattle.driver_model.specs.declared.action.Purpose.TheVariants as purpose
use Rattle.driver_model.specs.declared.event.EventKind.{EventKind}
use Rattle.driver_model.specs.declared.event.EventKind.TheVariants as event
use Rattle.driver_model.specs.declared.event.Submission.{Submission}
use Rattle.driver_model.specs.declared.outcome.Outcome.TheVariants as outcome
use Rattle.driver_model.specs.Kind.{has_timeouts}
use Rattle.driver_model.specs.News.{news_of}
use Rattle.driver_model.specs.Request.{packed_bytes, shape_of, is_reply_awaited, lacks_resp3}
use Rattle.mux_conn.specs.Connection.{Work}
use Rattle.mux_conn.specs.Effects.{timed_out}
use Rattle.mux_conn.specs.Requests.{answered, is_open, is_open_at, waiting_of}
use Rattle.mux_conn.specs.declared.connection.MultiplexedConnection.{MultiplexedConnection}
use Rattle.mux_conn.specs.declared.life.Life.TheVariants.{Resting}
use Rattle.mux_conn.specs.declared.request.Pending.{Pending}
use Rattle.mux_conn.specs.declared.act.LinkAct.TheVariants as act
use Rattle.mux_conn.specs.declared.request.Progress.TheVariants as progress
use Rattle.mux_conn.specs.declared.request.Request.{Request}
use Rattle.mux_conn.specs.declared.request.Waiting.{Waiting}
use Rattle.single_session.specs.declared.core_state.Core.{Core}
use Rattle.single_session.specs.Generations.{creation_fails}
use Rattle.single_session.specs.Turn.{Turning, asked_for, counted, effect, fired_by, heard, late_by, left_by, pending, refused_with, shut_by, submitted, turning_with, with_work, work_of}
use Rattle.legal_trace.specs.Book.{Book, shuts}
use Rattle.legal_trace.specs.Story.{is_open as is_story_open}
use Rattle.legal_trace.proofs.Plain.{last_item}
use Rattle.session_laws.proofs.Managers.Judge.{news_not_shut}
use Rattle.conn_laws.proofs.Ties.Tied.{TiedStory, waiting_ids}
use Rattle.session_laws.proofs.Ties.Tied.{Tied, inner}
use Rattle.conn_laws.proofs.Managers.First.{IsIdle, applied_idle}

-- so it goes on through a turn, in which no creation fails
pub record StaysIdle (t : Turning) : Type 0 where
  pub idle : IsIdle t.core.single.connection
  pub calm : creation_fails t.acts ≡ false

-- what an event is to submissions
--
-- whoever goes was none
left_idle : (t : Turning) (x : Option (Option Pending)) → StaysIdle t → StaysIdle (left_by t x)
left_idle t None h = h
left_idle t (Some None) h = h
left_idle t (Some (Some p)) h = record {
  idle = chosen IsIdle (is_open_at t.core.single.connection.requests p.number) _ t.core.single.connection (λ o. absurd (none_open t.core.single.connection p.number h.idle o)) (λ f. h.idle);
  calm = h.calm;
}
  where
    none_open : (c : MultiplexedConnection) (n : ℕ) → IsIdle c → is_open_at c.requests n ≡ true → ⊥
    none_open c n i o = let no : is_open_at [] n ≡ true = ap (λ rs. is_open_at rs n) (sym i.requests) ∙ o in cc no

-- nor is anybody late
late_idle : (t : Turning) (x : Option (Option Pending)) → StaysIdle t → StaysIdle (late_by t x)
late_idle t None h = h
late_idle t (Some None) h = h
late_idle t (Some (Some p)) h = subst (λ (w : Work). StaysIdle (with_work t w)) (sym same) (record { idle = h.idle; calm = h.calm })
  where
    w : Work
    w = work_of t

    closed : is_open_at t.core.single.connection.requests p.number ≡ false
    closed = ap (λ rs. is_open_at rs p.number) h.idle.requests

    same : timed_out (work_of t) p.number ≡ work_of t
    same =
        ap (λ (v : Work). answered v p.number (outcome.Fault (error.Io kind.TimedOut))) (left_if (is_open_at t.core.single.connection.requests p.number) _ (work_of t) closed)
        ∙ left_if (is_open_at t.core.single.connection.requests p.number) _ (work_of t) closed

fired_idle : (t : Turning) (x : Option Purpose) → StaysIdle t → StaysIdle (fired_by t x)
fired_idle t None h = h
fired_idle t (Some (purpose.Connect l)) h = h
fired_idle t (Some (purpose.Response owner.Setup)) h = h
fired_idle t (Some (purpose.Response owner.Auth)) h = h
fired_idle t (Some (purpose.Response owner.Resub)) h = h
fired_idle t (Some (purpose.Response owner.Monitor)) h = h
fired_idle t (Some (purpose.Renewal l k)) h = h
fired_idle t (Some (purpose.Backoff g)) h = h
fired_idle t (Some (purpose.Resubscription l)) h = h
fired_idle t (Some (purpose.Response (owner.Try n round))) h = late_idle t (slice_get t.core.table n) h

-- the first submission that waits has come in this turn
pub record HasFirst (kind : EventKind) (t : Turning) : Type 0 where
  pub what : Submission
  pub submits : kind ≡ event.Submit what
  pub request : Request
  pub one : t.core.single.connection.requests ≡ request ∷ []
  pub opens : is_open request.progress ≡ true
  pub entry : Waiting
  pub waits : t.core.single.connection.waiting ≡ entry ∷ []
  pub fresh : t.core.single.connection.fresh ≡ waiting_ids t.core.single.connection.waiting
  pub moved : t.core.single.connection.moved ≡ []
  pub admitted : t.core.single.connection.admitted ≡ []
  pub life : t.core.single.connection.life ≡ Resting
  pub free : t.core.single.connection.free ≡ unwrap_or t.core.single.connection.limit 0
  pub calm : creation_fails t.acts ≡ false
  pub table : List (Option Pending)
  pub named : t.core.table ≡ table ++ Some (pending 0) ∷ []

-- it is refused, or it is the first
submitted_idle : (t : Turning) (what : Submission) → t.core.shut ≡ false → t.acts ≡ [] → StaysIdle t → StaysIdle (submitted t what) ⊎ HasFirst (event.Submit what) (submitted t what)
submitted_idle t what runs none h =
    let so = λ (x : Turning). StaysIdle x ⊎ HasFirst (event.Submit what) x in
    let lacks = lacks_resp3 t.core.single.connection.hears t.core.single.connection.info.protocol what in
    let refused_idle : (e : RedisError) → so (refused_with t e) = λ e. inl (record { idle = h.idle; calm = ap (λ acts. creation_fails (acts ++ act.Outcome (length t.core.table) (outcome.Fault e) ∷ [])) none }) in
    chosen so t.core.shut (refused_with t error.Closed) _ (λ over. absurd (not_both t.core.shut runs over))
    (λ f. chosen so lacks (refused_with t error.Resp3Required) _ (λ l. refused_idle error.Resp3Required)
    (λ l. chosen so (length (packed_bytes what) == 0) (refused_with t error.EmptyCommand) (asked_for t what) (λ e. refused_idle error.EmptyCommand)
    (λ e. inr asked_first)))
  where
    c : MultiplexedConnection
    c = t.core.single.connection

    asked_first : HasFirst (event.Submit what) (asked_for t what)
    asked_first = record {
      what = what;
      submits = refl;
      request = record { name = length t.core.table; progress = progress.Waiting; permits = 0 };
      one = ap (λ (rs : List Request). rs ++ record { name = length t.core.table; progress = progress.Waiting; permits = 0 } ∷ []) h.idle.requests;
      opens = refl;
      entry = waiting_of (length t.core.single.connection.requests) (packed_bytes what) (shape_of what) (is_reply_awaited what) t.core.timeout;
      waits = ap (λ (ws : List Waiting). ws ++ waiting_of (length t.core.single.connection.requests) (packed_bytes what) (shape_of what) (is_reply_awaited what) t.core.timeout ∷ []) h.idle.waiting;
      fresh =
          ap (λ (ns : List ℕ). ns ++ length t.core.single.connection.requests ∷ []) h.idle.fresh
          ∙ sym (ap (λ (ws : List Waiting). waiting_ids (ws ++ waiting_of (length t.core.single.connection.requests) (packed_bytes what) (shape_of what) (is_reply_awaited what) t.core.timeout ∷ [])) h.idle.waiting);
      moved = h.idle.moved;
      admitted = h.idle.admitted;
      life = h.idle.life;
      free = h.idle.free;
      calm = ap creation_fails none;
      table = t.core.table;
      named = ap (λ (rs : List Request). t.core.table ++ Some (pending (length rs)) ∷ []) h.idle.requests;
    }

-- so is whatever an event does
pub effect_idle : (c : Core) (kind : EventKind) → (shut_by c kind).shut ≡ false → IsIdle c.single.connection → StaysIdle (effect (counted c) kind) ⊎ HasFirst kind (effect (counted c) kind)
effect_idle c kind runs h = by_kind kind runs
  where
    heard_idle : (k : EventKind) → (shut_by c k).shut ≡ false → StaysIdle (heard (counted c) k) × ((heard (counted c) k).acts ≡ [])
    heard_idle k awake =
        let all = applied_idle (work_of (counted c)) (news_of c.timers c.sources c.single.link k) (news_not_shut c.timers c.sources c.single.link k (no_shutdown k awake)) h in
        (record { idle = all.0; calm = ap creation_fails all.1 }, all.1)
      where
        no_shutdown : (j : EventKind) → (shut_by c j).shut ≡ false → shuts j ≡ false
        no_shutdown event.Shutdown e = or_right c.shut true e
        no_shutdown (event.Submit what) e = refl
        no_shutdown (event.Cancel n) e = refl
        no_shutdown (event.Connected l) e = refl
        no_shutdown (event.Refused l f) e = refl
        no_shutdown (event.Fired t) e = refl
        no_shutdown (event.Creds s auth) e = refl
        no_shutdown (event.CredsError s text) e = refl
        no_shutdown (event.CredsEnd s) e = refl
        no_shutdown (event.Timeout ms) e = refl
        no_shutdown event.DropStream e = refl
        no_shutdown (event.Wrote l count) e = refl
        no_shutdown (event.Bytes l piece) e = refl
        no_shutdown (event.Ended l) e = refl
        no_shutdown (event.ReadFault l f) e = refl
        no_shutdown (event.WriteFault l f) e = refl

    by_kind : (k : EventKind) → (shut_by c k).shut ≡ false → StaysIdle (effect (counted c) k) ⊎ HasFirst k (effect (counted c) k)
    by_kind (event.Submit what) awake = let s = heard_idle (event.Submit what) awake in submitted_idle (heard (counted c) (event.Submit what)) what awake s.1 s.0
    by_kind (event.Cancel n) awake = inl (left_idle (heard (counted c) (event.Cancel n)) (slice_get c.table n) (heard_idle (event.Cancel n) awake).0)
    by_kind (event.Fired n) awake = inl (fired_idle (heard (counted c) (event.Fired n)) (slice_get c.timers n) (heard_idle (event.Fired n) awake).0)
    by_kind (event.Timeout ms) awake =
        let s = (heard_idle (event.Timeout ms) awake).0 in
        let was = heard (counted c) (event.Timeout ms) in
        inl (chosen (λ (x : Core). StaysIdle (turning_with x was.acts)) (has_timeouts was.core.kind) (record was.core { timeout = ms }) was.core (λ t. record { idle = s.idle; calm = s.calm }) (λ f. s))
    by_kind (event.Connected l) awake = inl (heard_idle (event.Connected l) awake).0
    by_kind (event.Refused l f) awake = inl (heard_idle (event.Refused l f) awake).0
    by_kind (event.Creds s auth) awake = inl (heard_idle (event.Creds s auth) awake).0
    by_kind (event.CredsError s text) awake = inl (heard_idle (event.CredsError s text) awake).0
    by_kind (event.CredsEnd s) awake = inl (heard_idle (event.CredsEnd s) awake).0
    by_kind (event.Wrote l count) awake = inl (heard_idle (event.Wrote l count) awake).0
    by_kind (event.Bytes l piece) awake = inl (heard_idle (event.Bytes l piece) awake).0
    by_kind (event.Ended l) awake = inl (heard_idle (event.Ended l) awake).0
    by_kind (event.ReadFault l f) awake = inl (heard_idle (event.ReadFault l f) awake).0
    by_kind (event.WriteFault l f) awake = inl (heard_idle (event.WriteFault l f) awake).0
    by_kind event.DropStream awake = inl (heard_idle event.DropStream awake).0
    by_kind event.Shutdown awake = inl (heard_idle event.Shutdown awake).0

-- the first submission is the last, and open
pub first_opens : (b : Book) (c : Core) (started : List ℕ) (table : List (Option Pending)) (r : Request) → Tied b (inner c started) → c.table ≡ table ++ Some (pending 0) ∷ [] → c.single.connection.requests ≡ r ∷ [] → is_open r.progress ≡ true → is_story_open (b.story (b.submissions - 1)) ≡ true
first_opens b c started table r h named one opens =
    let rs = c.single.connection.requests in
    let count : b.submissions - 1 ≡ length table = (let all = h.numbers.submissions in let long = ap length named in omega (arith, all, long, length-append table (Some (pending 0) ∷ []))) in
    let s : TiedStory (b.story (length table)) rs c.single.link (Some (Some (pending 0))) = subst (TiedStory (b.story (length table)) rs c.single.link) (ap (λ xs. slice_get xs (length table)) named ∙ last_item table (Some (pending 0))) (h.story (length table)) in
    ap (λ n. is_story_open (b.story n)) count ∙ s.open_is ∙ ap (λ xs. is_open_at xs 0) one ∙ opens
