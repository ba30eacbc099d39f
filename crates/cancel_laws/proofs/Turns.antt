-- A turn does the same where one submission's outcome is looked away from, once its message has left the queue.
use Rattle.std.proofs.Common.{◌≡◌, ◌≢◌, ℕ, ◌<◌, ◌==◌, List, [], ◌∷◌, ◌++◌, length, Option, Some, None, slice_get, refl, sym, ap, ◌∙◌, arith, length-append, false, subst, is_some}
use Rattle.containers.proofs.Choices.{chosen, either}
use Rattle.redis_error.specs.declared.redis_error.RedisError.{RedisError}
use Rattle.redis_error.specs.declared.redis_error.RedisError.TheVariants as error
use Rattle.driver_model.specs.declared.action.Owner.TheVariants as owner
use Rattle.driver_model.specs.declared.action.Purpose.{Purpose}
use Rattle.driver_model.specs.declared.action.Purpose.TheVariants as purpose
use Rattle.driver_model.specs.declared.action.SourceUse.{SourceUse}
use Rattle.driver_model.specs.declared.event.EventKind.{EventKind}
use Rattle.driver_model.specs.declared.event.EventKind.TheVariants as event
use Rattle.driver_model.specs.declared.event.Submission.{Submission}
use Rattle.driver_model.specs.declared.outcome.Outcome.TheVariants as outcome
use Rattle.driver_model.specs.News.{news_of}
use Rattle.driver_model.specs.Kind.{has_timeouts}
use Rattle.driver_model.specs.Request.{packed_bytes, shape_of, is_reply_awaited, lacks_resp3}
use Rattle.mux_conn.specs.declared.act.LinkAct.{LinkAct}
use Rattle.mux_conn.specs.declared.act.LinkAct.TheVariants as act
use Rattle.mux_conn.specs.declared.connection.MultiplexedConnection.{MultiplexedConnection}
use Rattle.mux_conn.specs.declared.request.Pending.{Pending}
use Rattle.mux_conn.specs.Passes.{passed}
use Rattle.mux_conn.specs.Turn.{flushed}
use Rattle.single_session.specs.declared.core_state.Core.{Core}
use Rattle.single_session.specs.Turn.{Turning, work_of, with_work, shut_by, heard, refused_with, pending, asked_for, submitted, left_by, late_by, fired_by, requested, effect, counted, moved_on, whole_effect, timer_of, timers_of, source_of, sources_of, numbered, next_turn}
use Rattle.single_session.proofs.Plain.{plain_turn}
use Rattle.single_session.proofs.Stays.{turn_plain}
use Rattle.mux_conn.specs.declared.request.Progress.TheVariants as progress
use Rattle.conn_laws.proofs.Changes.Requests.{progress_count}
use Rattle.conn_laws.proofs.Changes.Kept.{other_act, At, Unlimited, unlimited_kept, passed_kept}
use Rattle.cancel_laws.proofs.KeptTurns.{AtCore, heard_kept, effect_kept, turn_kept}
use Rattle.conn_laws.proofs.Changes.Gone.{IsAway, away_kept, away_asks}
use Rattle.conn_laws.proofs.Changes.Bare.{other_acts, acts_other}
use Rattle.cancel_laws.proofs.Bare.{bare_conn, bare_applied}
use Rattle.cancel_laws.proofs.Moved.{bare_asked, bare_left, bare_late, bare_passed, bare_flushed}
use Rattle.cancel_laws.proofs.Whole.{turn_table}

-- all of a session, but for the number of its turns, for how far request p has come, and whether its verdict is wanted
abbrev pub bare_core : ℕ → Core → Core
bare_core p c = record c { turns = 0; single = record c.single { connection = bare_conn p c.single.connection } }

-- and but for the outcomes of submission n, whose request it is
abbrev pub bare_turning : ℕ → ℕ → Turning → Turning
bare_turning n p t = record { core = bare_core p t.core; acts = other_acts n t.acts }

-- the parts of a turn
--
-- the connection hears its link's news
bare_heard : (n p : ℕ) (t : Turning) (kind : EventKind) → At (IsAway n p) (work_of t) → bare_turning n p (heard t kind) ≡ heard (bare_turning n p t) kind
bare_heard n p t kind h =
    ap (with_work (bare_turning n p (record t { core = shut_by t.core kind }))) (bare_applied n p (work_of t) (news_of t.core.timers t.core.sources t.core.single.link kind) h.gone)

-- the next submission is another one
pub above : (n : ℕ) (table : List (Option Pending)) → n < length table → length table ≢ n
above n table l = λ e. omega arith

-- a submission that is answered at once
bare_refused : (n p : ℕ) (t : Turning) (e : RedisError) → n < length t.core.table → bare_turning n p (refused_with t e) ≡ refused_with (bare_turning n p t) e
bare_refused n p t e l =
    ap (λ (xs : List LinkAct). record (bare_turning n p (refused_with t e)) { acts = xs }) (acts_other n (length t.core.table) t.acts (outcome.Fault e) (above n t.core.table l))

-- one that is a request
bare_asked_for : (n p : ℕ) (t : Turning) (s : Submission) → p < length t.core.single.connection.requests → bare_turning n p (asked_for t s) ≡ asked_for (bare_turning n p t) s
bare_asked_for n p t s l =
    let c = t.core.single.connection in
    let count = sym (progress_count c.requests p progress.Closed 0) in
    let conn = bare_asked p c (length t.core.table) (packed_bytes s) (shape_of s) (is_reply_awaited s) t.core.timeout l in
    λ i. record (bare_turning n p t) {
      core = record (bare_core p t.core) { table = t.core.table ++ Some (pending (count i)) ∷ []; single = record t.core.single { connection = conn i } };
    }

-- one that is handed in
bare_submitted : (n p : ℕ) (t : Turning) (s : Submission) → n < length t.core.table → p < length t.core.single.connection.requests
    → bare_turning n p (submitted t s) ≡ submitted (bare_turning n p t) s
bare_submitted n p t s l k =
    either (bare_turning n p) t.core.shut _ _ _ _ (λ u. bare_refused n p t error.Closed l)
    (λ f. either (bare_turning n p) (lacks_resp3 t.core.single.connection.hears t.core.single.connection.info.protocol s) _ _ _ _ (λ u. bare_refused n p t error.Resp3Required l)
    (λ d. either (bare_turning n p) (length (packed_bytes s) == 0) _ _ _ _ (λ u. bare_refused n p t error.EmptyCommand l) (λ g. bare_asked_for n p t s k)))

-- one that is left
bare_left_by : (n p : ℕ) (t : Turning) (who : Option (Option Pending)) → At (IsAway n p) (work_of t) → bare_turning n p (left_by t who) ≡ left_by (bare_turning n p t) who
bare_left_by n p t None h = refl
bare_left_by n p t (Some None) h = refl
bare_left_by n p t (Some (Some q)) h =
    ap (λ (c : MultiplexedConnection). record (bare_turning n p t) { core = record (bare_core p t.core) { single = record t.core.single { connection = c } } })
    (bare_left p q.number t.core.single.connection h.gone.none)

-- one whose time is over
bare_late_by : (n p : ℕ) (t : Turning) (who : Option (Option Pending)) → At (IsAway n p) (work_of t) → bare_turning n p (late_by t who) ≡ late_by (bare_turning n p t) who
bare_late_by n p t None h = refl
bare_late_by n p t (Some None) h = refl
bare_late_by n p t (Some (Some q)) h = ap (with_work (bare_turning n p t)) (bare_late n p q.number (work_of t) h.gone)

-- a timer fires
bare_fired : (n p : ℕ) (t : Turning) (what : Option Purpose) → At (IsAway n p) (work_of t) → bare_turning n p (fired_by t what) ≡ fired_by (bare_turning n p t) what
bare_fired n p t None h = refl
bare_fired n p t (Some (purpose.Connect l)) h = refl
bare_fired n p t (Some (purpose.Response owner.Setup)) h = refl
bare_fired n p t (Some (purpose.Response owner.Auth)) h = refl
bare_fired n p t (Some (purpose.Response owner.Resub)) h = refl
bare_fired n p t (Some (purpose.Response owner.Monitor)) h = refl
bare_fired n p t (Some (purpose.Renewal l k)) h = refl
bare_fired n p t (Some (purpose.Backoff g)) h = refl
bare_fired n p t (Some (purpose.Resubscription l)) h = refl
bare_fired n p t (Some (purpose.Response (owner.Try m round))) h = bare_late_by n p t (slice_get t.core.table m) h

-- what an event is to the submissions
bare_requested : (n p : ℕ) (t : Turning) (kind : EventKind) → n < length t.core.table → At (IsAway n p) (work_of t) → bare_turning n p (requested t kind) ≡ requested (bare_turning n p t) kind
bare_requested n p t (event.Submit s) l h = bare_submitted n p t s l h.gone.there
bare_requested n p t (event.Cancel m) l h = bare_left_by n p t (slice_get t.core.table m) h
bare_requested n p t (event.Connected m) l h = refl
bare_requested n p t (event.Refused m f) l h = refl
bare_requested n p t (event.Fired m) l h = bare_fired n p t (slice_get t.core.timers m) h
bare_requested n p t (event.Timeout ms) l h =
    either (λ (c : Core). record (bare_turning n p t) { core = bare_core p c }) (has_timeouts t.core.kind) (record t.core { timeout = ms }) t.core (record (bare_turning n p t) { core = record (bare_core p t.core) { timeout = ms } }) (bare_turning n p t) (λ y. refl) (λ y. refl)
    ∙ sym (either (λ (c : Core). record (bare_turning n p t) { core = c }) (has_timeouts t.core.kind) (record (bare_core p t.core) { timeout = ms }) (bare_core p t.core) (record (bare_turning n p t) { core = record (bare_core p t.core) { timeout = ms } }) (bare_turning n p t) (λ y. refl) (λ y. refl))
bare_requested n p t (event.Creds c auth) l h = refl
bare_requested n p t (event.CredsError c text) l h = refl
bare_requested n p t (event.CredsEnd c) l h = refl
bare_requested n p t (event.Wrote m count) l h = refl
bare_requested n p t (event.Bytes m piece) l h = refl
bare_requested n p t (event.Ended m) l h = refl
bare_requested n p t (event.ReadFault m kind) l h = refl
bare_requested n p t (event.WriteFault m kind) l h = refl
bare_requested n p t event.Shutdown l h = refl
bare_requested n p t event.DropStream l h = refl

-- the event's own effect
bare_effect : (n p : ℕ) (t : Turning) (kind : EventKind) → n < length t.core.table → At (IsAway n p) (work_of t) → bare_turning n p (effect t kind) ≡ effect (bare_turning n p t) kind
bare_effect n p t kind l h =
    bare_requested n p (heard t kind) kind l (heard_kept (away_kept n p) t kind h) ∙ ap (λ (x : Turning). requested x kind) (bare_heard n p t kind h)

-- the rest of the turn, where permits aren't counted
bare_moved_on : (n p : ℕ) (t : Turning) → At Unlimited (work_of t) → At (IsAway n p) (work_of t) → bare_turning n p (moved_on t) ≡ moved_on (bare_turning n p t)
bare_moved_on n p t none h =
    let w = work_of t in
    ap (with_work (bare_turning n p t)) (bare_flushed n p (passed w) (passed_kept (away_kept n p) w h) ∙ ap flushed (bare_passed n p w none h.gone))

-- an outcome asks for no timer
no_timer : (n l : ℕ) (a : LinkAct) (more : List LinkAct) → timers_of l (other_act n a ++ more) ≡ timer_of l a ++ timers_of l more
no_timer n l (act.Created e) more = refl
no_timer n l (act.Round m) more = refl
no_timer n l (act.Took m count) more = refl
no_timer n l (act.Timer m ms) more = refl
no_timer n l (act.Push info) more = refl
no_timer n l (act.Message m) more = refl
no_timer n l (act.Monitor v) more = refl
no_timer n l act.NeedCreds more = refl
no_timer n l act.NeedRenewals more = refl
no_timer n l act.Close more = refl
no_timer n l (act.Write bytes) more = refl
no_timer n l (act.Wait m kind) more = refl
no_timer n l (act.Start message m need len) more = refl
no_timer n l (act.SetUp message need len) more = refl
no_timer n l (act.RenewalTimer k ms) more = refl
no_timer n l (act.Renewed message need len) more = refl
no_timer n l (act.RepeatTimer ms) more = refl
no_timer n l (act.Repeated message need len) more = refl
no_timer n l (act.Watch message need len) more = refl
no_timer n l (act.Outcome m o) more = chosen (λ (xs : List LinkAct). timers_of l (xs ++ more) ≡ timers_of l more) (m == n) [] (act.Outcome m o ∷ []) (λ t. refl) (λ f. refl)

-- so the timers of a turn are those of all other acts
timers_same : (n l : ℕ) (xs : List LinkAct) → timers_of l xs ≡ timers_of l (other_acts n xs)
timers_same n l [] = refl
timers_same n l (a ∷ xs) = ap (λ (ps : List Purpose). timer_of l a ++ ps) (timers_same n l xs) ∙ sym (no_timer n l a (other_acts n xs))

-- nor for a source of credentials
no_source : (n l : ℕ) (a : LinkAct) (more : List LinkAct) → sources_of l (other_act n a ++ more) ≡ source_of l a ++ sources_of l more
no_source n l (act.Created e) more = refl
no_source n l (act.Round m) more = refl
no_source n l (act.Took m count) more = refl
no_source n l (act.Timer m ms) more = refl
no_source n l (act.Push info) more = refl
no_source n l (act.Message m) more = refl
no_source n l (act.Monitor v) more = refl
no_source n l act.NeedCreds more = refl
no_source n l act.NeedRenewals more = refl
no_source n l act.Close more = refl
no_source n l (act.Write bytes) more = refl
no_source n l (act.Wait m kind) more = refl
no_source n l (act.Start message m need len) more = refl
no_source n l (act.SetUp message need len) more = refl
no_source n l (act.RenewalTimer k ms) more = refl
no_source n l (act.Renewed message need len) more = refl
no_source n l (act.RepeatTimer ms) more = refl
no_source n l (act.Repeated message need len) more = refl
no_source n l (act.Watch message need len) more = refl
no_source n l (act.Outcome m o) more = chosen (λ (xs : List LinkAct). sources_of l (xs ++ more) ≡ sources_of l more) (m == n) [] (act.Outcome m o ∷ []) (λ t. refl) (λ f. refl)

-- so the sources of a turn are those of all other acts
sources_same : (n l : ℕ) (xs : List LinkAct) → sources_of l xs ≡ sources_of l (other_acts n xs)
sources_same n l [] = refl
sources_same n l (a ∷ xs) = ap (λ (us : List SourceUse). source_of l a ++ us) (sources_same n l xs) ∙ sym (no_source n l a (other_acts n xs))

-- the timers and the sources get their numbers
bare_numbered : (n p : ℕ) (t : Turning) → bare_turning n p (numbered t) ≡ numbered (bare_turning n p t)
bare_numbered n p t =
    let ps = timers_same n t.core.single.link t.acts in
    let us = sources_same n t.core.single.link t.acts in
    λ i. record (bare_turning n p t) { core = record (bare_core p t.core) { timers = t.core.timers ++ ps i; sources = t.core.sources ++ us i } }

-- that permits aren't counted stays so where the event has had its effect
unlimited_effect : (t : Turning) (kind : EventKind) → At Unlimited (work_of t) → At Unlimited (work_of (effect t kind))
unlimited_effect t kind none =
    effect_kept unlimited_kept t (record { ask = λ lim r life ms xs h. h; refuse = λ lim r life ms xs o h. h }) kind none

-- a whole turn
bare_turn : (n p : ℕ) (c : Core) (kind : EventKind) → is_some c.manager ≡ false → n < length c.table → AtCore Unlimited c → AtCore (IsAway n p) c → bare_turning n p (next_turn c kind) ≡ numbered (whole_effect (record { core = bare_core p c; acts = [] }) kind)
bare_turn n p c kind plain l none h =
    let t = counted c in
    ap (bare_turning n p) (plain_turn c kind plain) ∙ bare_numbered n p (whole_effect t kind)
    ∙ ap numbered
    (bare_moved_on n p (effect t kind) (unlimited_effect t kind none) (effect_kept (away_kept n p) t (away_asks n p (length c.table) (above n c.table l)) kind h)
    ∙ ap moved_on (bare_effect n p t kind l h))

-- tables
--
-- what an event is to the submissions takes none away
more_requested : (n : ℕ) (t : Turning) (kind : EventKind) → n < length t.core.table → n < length (requested t kind).core.table
more_requested n t (event.Submit s) l =
    chosen (λ (x : Turning). n < length x.core.table) t.core.shut _ _ (λ u. omega (arith, length-append t.core.table (None ∷ [])))
    (λ f. chosen (λ (x : Turning). n < length x.core.table) (lacks_resp3 t.core.single.connection.hears t.core.single.connection.info.protocol s) _ _ (λ u. omega (arith, length-append t.core.table (None ∷ [])))
    (λ d. chosen (λ (x : Turning). n < length x.core.table) (length (packed_bytes s) == 0) _ _ (λ u. omega (arith, length-append t.core.table (None ∷ [])))
    (λ g. omega (arith, length-append t.core.table (Some (pending (length t.core.single.connection.requests)) ∷ [])))))
more_requested n t (event.Cancel m) l = more_left (slice_get t.core.table m)
  where
    more_left : (who : Option (Option Pending)) → n < length (left_by t who).core.table
    more_left None = l
    more_left (Some None) = l
    more_left (Some (Some p)) = l
more_requested n t (event.Connected m) l = l
more_requested n t (event.Refused m f) l = l
more_requested n t (event.Fired m) l = more_fired (slice_get t.core.timers m)
  where
    more_late : (who : Option (Option Pending)) → n < length (late_by t who).core.table
    more_late None = l
    more_late (Some None) = l
    more_late (Some (Some p)) = l

    more_fired : (what : Option Purpose) → n < length (fired_by t what).core.table
    more_fired None = l
    more_fired (Some (purpose.Connect k)) = l
    more_fired (Some (purpose.Response owner.Setup)) = l
    more_fired (Some (purpose.Response owner.Auth)) = l
    more_fired (Some (purpose.Response owner.Resub)) = l
    more_fired (Some (purpose.Response owner.Monitor)) = l
    more_fired (Some (purpose.Renewal link k)) = l
    more_fired (Some (purpose.Backoff g)) = l
    more_fired (Some (purpose.Resubscription link)) = l
    more_fired (Some (purpose.Response (owner.Try k round))) = more_late (slice_get t.core.table k)
more_requested n t (event.Timeout ms) l = chosen (λ (c : Core). n < length c.table) (has_timeouts t.core.kind) (record t.core { timeout = ms }) t.core (λ y. l) (λ y. l)
more_requested n t (event.Creds c auth) l = l
more_requested n t (event.CredsError c text) l = l
more_requested n t (event.CredsEnd c) l = l
more_requested n t (event.Wrote m count) l = l
more_requested n t (event.Bytes m piece) l = l
more_requested n t (event.Ended m) l = l
more_requested n t (event.ReadFault m kind) l = l
more_requested n t (event.WriteFault m kind) l = l
more_requested n t event.Shutdown l = l
more_requested n t event.DropStream l = l

-- nor does a turn
pub more_after : (n : ℕ) (c : Core) (kind : EventKind) → n < length c.table → n < length (next_turn c kind).core.table
more_after n c kind l = subst (λ (table : List (Option Pending)). n < length table) (sym (turn_table c kind)) (more_requested n (heard (counted c) kind) kind l)

-- two sessions that don't come back, count no permits, and are alike but for submission n, whose message has left the queue of both
pub record AreAlike (n p : ℕ) (c d : Core) : Type 0 where
  pub plain : is_some c.manager ≡ false
  pub same : bare_core p c ≡ bare_core p d
  pub unlimited : AtCore Unlimited c
  pub unlimited_too : AtCore Unlimited d
  pub within : n < length c.table
  pub within_too : n < length d.table
  pub gone : AtCore (IsAway n p) c
  pub gone_too : AtCore (IsAway n p) d

-- neither does
pub plain_too : (n p : ℕ) (c d : Core) → AreAlike n p c d → is_some d.manager ≡ false
plain_too n p c d h = sym (ap (λ (x : Core). is_some x.manager) h.same) ∙ h.plain

-- a turn of each does the same
pub turns_same : (n p : ℕ) (c d : Core) (kind : EventKind) → AreAlike n p c d → bare_turning n p (next_turn c kind) ≡ bare_turning n p (next_turn d kind)
turns_same n p c d kind h =
    bare_turn n p c kind h.plain h.within h.unlimited h.gone ∙ ap (λ (x : Core). numbered (whole_effect (record { core = x; acts = [] }) kind)) h.same
    ∙ sym (bare_turn n p d kind (plain_too n p c d h) h.within_too h.unlimited_too h.gone_too)

-- the message stays gone
pub turn_gone : (n p : ℕ) (c : Core) (kind : EventKind) → is_some c.manager ≡ false → n < length c.table → AtCore (IsAway n p) c → AtCore (IsAway n p) (next_turn c kind).core
turn_gone n p c kind plain l h =
    let k = turn_kept (away_kept n p) c plain (away_asks n p (length c.table) (above n c.table l)) kind h in
    record { gone = k.gone; unmoved = k.unmoved }

-- and permits aren't counted
pub turn_unlimited : (c : Core) (kind : EventKind) → is_some c.manager ≡ false → AtCore Unlimited c → AtCore Unlimited (next_turn c kind).core
turn_unlimited c kind plain none = turn_kept unlimited_kept c plain (record { ask = λ lim r life ms xs h. h; refuse = λ lim r life ms xs o h. h }) kind none

-- so they stay alike
pub alike_turn : (n p : ℕ) (c d : Core) (kind : EventKind) → AreAlike n p c d → AreAlike n p (next_turn c kind).core (next_turn d kind).core
alike_turn n p c d kind h =
    let plain = h.plain in
    let also = plain_too n p c d h in
    record {
      plain = turn_plain c kind ∙ plain;
      same = ap (λ (t : Turning). t.core) (turns_same n p c d kind h);
      unlimited = turn_unlimited c kind plain h.unlimited;
      unlimited_too = turn_unlimited d kind also h.unlimited_too;
      within = more_after n c kind h.within;
      within_too = more_after n d kind h.within_too;
      gone = turn_gone n p c kind plain h.within h.gone;
      gone_too = turn_gone n p d kind also h.within_too h.gone_too;
    }
