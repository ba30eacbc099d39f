-- What a whole turn keeps of a session that doesn't come back.
use Rattle.std.proofs.Common.{ℕ, false, List, [], length, Option, Some, None, slice_get, ◌≡◌, ◌==◌, sym, subst}
use Rattle.containers.proofs.Choices.{chosen}
use Rattle.redis_error.specs.declared.redis_error.RedisError.TheVariants as error
use Rattle.driver_model.specs.declared.action.Owner.TheVariants as owner
use Rattle.driver_model.specs.declared.action.Purpose.{Purpose}
use Rattle.driver_model.specs.declared.action.Purpose.TheVariants as purpose
use Rattle.driver_model.specs.declared.event.EventKind.{EventKind}
use Rattle.driver_model.specs.declared.event.EventKind.TheVariants as event
use Rattle.driver_model.specs.declared.event.Submission.{Submission}
use Rattle.driver_model.specs.declared.outcome.Outcome.TheVariants as outcome
use Rattle.driver_model.specs.News.{news_of}
use Rattle.driver_model.specs.Request.{packed_bytes, lacks_resp3}
use Rattle.mux_conn.specs.declared.act.LinkAct.{LinkAct}
use Rattle.mux_conn.specs.declared.life.Life.{Life}
use Rattle.mux_conn.specs.declared.request.Pending.{Pending}
use Rattle.mux_conn.specs.declared.request.Request.{Request}
use Rattle.mux_conn.specs.Passes.{passed}
use Rattle.single_session.specs.declared.core_state.Core.{Core}
use Rattle.single_session.specs.Turn.{Turning, work_of, heard, counted, submitted, left_by, late_by, fired_by, requested, effect, next_turn}
use Rattle.driver_model.specs.Kind.{has_timeouts}
use Rattle.std.specs.Prelude.{is_some}
use Rattle.single_session.proofs.Plain.{plain_turn}
use Rattle.conn_laws.proofs.Changes.Kept.{IsKept, At, applied_kept, passed_kept}
use Rattle.conn_laws.proofs.Changes.KeptEnds.{flushed_kept}
use Rattle.conn_laws.proofs.Changes.KeptTurns.{CanAsk, left_kept, timed_out_kept}

-- the connection hears its link's news
pub heard_kept : {P : Option ℕ → List Request → Life → List ℕ → List LinkAct → Type 0} → IsKept P → (t : Turning) (kind : EventKind) → At P (work_of t) → At P (work_of (heard t kind))
heard_kept k t kind h = applied_kept k (work_of t) (news_of t.core.timers t.core.sources t.core.single.link kind) h

-- a submission is left
pub left_by_kept : {P : Option ℕ → List Request → Life → List ℕ → List LinkAct → Type 0} → IsKept P → (t : Turning) (who : Option (Option Pending)) → At P (work_of t) → At P (work_of (left_by t who))
left_by_kept k t None h = h
left_by_kept k t (Some None) h = h
left_by_kept k t (Some (Some p)) h = left_kept k t.core.single.connection t.acts p.number h

-- and that of a submission
late_kept : {P : Option ℕ → List Request → Life → List ℕ → List LinkAct → Type 0} → IsKept P → (t : Turning) (who : Option (Option Pending)) → At P (work_of t) → At P (work_of (late_by t who))
late_kept k t None h = h
late_kept k t (Some None) h = h
late_kept k t (Some (Some p)) h = timed_out_kept k (work_of t) p.number h

-- a timer fires
pub fired_kept : {P : Option ℕ → List Request → Life → List ℕ → List LinkAct → Type 0} → IsKept P → (t : Turning) (what : Option Purpose) → At P (work_of t) → At P (work_of (fired_by t what))
fired_kept k t None h = h
fired_kept k t (Some (purpose.Connect l)) h = h
fired_kept k t (Some (purpose.Response owner.Setup)) h = h
fired_kept k t (Some (purpose.Response owner.Auth)) h = h
fired_kept k t (Some (purpose.Response owner.Resub)) h = h
fired_kept k t (Some (purpose.Response owner.Monitor)) h = h
fired_kept k t (Some (purpose.Renewal l number)) h = h
fired_kept k t (Some (purpose.Backoff g)) h = h
fired_kept k t (Some (purpose.Resubscription l)) h = h
fired_kept k t (Some (purpose.Response (owner.Try n round))) h = late_kept k t (slice_get t.core.table n) h

-- a submission is handed in
submitted_kept : {P : Option ℕ → List Request → Life → List ℕ → List LinkAct → Type 0} → (t : Turning) → CanAsk P (length t.core.table) → (s : Submission) → At P (work_of t) → At P (work_of (submitted t s))
submitted_kept {P = P} t k s h =
    let c = t.core.single.connection in
    chosen (λ (x : Turning). At P (work_of x)) t.core.shut _ _ (λ u. k.refuse c.limit c.requests c.life c.moved t.acts (outcome.Fault error.Closed) h)
    (λ f. chosen (λ (x : Turning). At P (work_of x)) (lacks_resp3 c.hears c.info.protocol s) _ _ (λ u. k.refuse c.limit c.requests c.life c.moved t.acts (outcome.Fault error.Resp3Required) h)
    (λ d. chosen (λ (x : Turning). At P (work_of x)) (length (packed_bytes s) == 0) _ _ (λ u. k.refuse c.limit c.requests c.life c.moved t.acts (outcome.Fault error.EmptyCommand) h) (λ g. k.ask c.limit c.requests c.life c.moved t.acts h)))

-- what an event is to the submissions
requested_kept : {P : Option ℕ → List Request → Life → List ℕ → List LinkAct → Type 0} → IsKept P → (t : Turning) → CanAsk P (length t.core.table) → (kind : EventKind) → At P (work_of t) → At P (work_of (requested t kind))
requested_kept k t a (event.Submit s) h = submitted_kept t a s h
requested_kept k t a (event.Cancel n) h = left_by_kept k t (slice_get t.core.table n) h
requested_kept k t a (event.Connected l) h = h
requested_kept k t a (event.Refused l f) h = h
requested_kept k t a (event.Fired n) h = fired_kept k t (slice_get t.core.timers n) h
requested_kept {P = P} k t a (event.Timeout ms) h =
    chosen (λ (c : Core). P c.single.connection.limit c.single.connection.requests c.single.connection.life c.single.connection.moved t.acts) (has_timeouts t.core.kind) (record t.core { timeout = ms }) t.core (λ y. h) (λ y. h)
requested_kept k t a (event.Creds c auth) h = h
requested_kept k t a (event.CredsError c text) h = h
requested_kept k t a (event.CredsEnd c) h = h
requested_kept k t a (event.Wrote l count) h = h
requested_kept k t a (event.Bytes l piece) h = h
requested_kept k t a (event.Ended l) h = h
requested_kept k t a (event.ReadFault l kind) h = h
requested_kept k t a (event.WriteFault l kind) h = h
requested_kept k t a event.Shutdown h = h
requested_kept k t a event.DropStream h = h

-- the event's own effect
pub effect_kept : {P : Option ℕ → List Request → Life → List ℕ → List LinkAct → Type 0} → IsKept P → (t : Turning) → CanAsk P (length t.core.table) → (kind : EventKind) → At P (work_of t) → At P (work_of (effect t kind))
effect_kept k t a kind h = requested_kept k (heard t kind) a kind (heard_kept k t kind h)

-- the fact between turns
abbrev pub AtCore : (Option ℕ → List Request → Life → List ℕ → List LinkAct → Type 0) → Core → Type 0
AtCore P c = P c.single.connection.limit c.single.connection.requests c.single.connection.life c.single.connection.moved []

-- a whole turn
pub turn_kept : {P : Option ℕ → List Request → Life → List ℕ → List LinkAct → Type 0} → IsKept P → (c : Core) → is_some c.manager ≡ false → CanAsk P (length c.table) → (kind : EventKind) → AtCore P c → At P (work_of (next_turn c kind))
turn_kept {P = P} k c plain a kind h =
    let w = work_of (effect (counted c) kind) in
    subst (λ (u : Turning). At P (work_of u)) (sym (plain_turn c kind plain)) (flushed_kept k (passed w) (passed_kept k w (effect_kept k (counted c) a kind h)))
