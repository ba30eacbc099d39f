-- An event adds no message to the queue of a link that takes requests, and leaves which of them are before its new credentials.
use Rattle.std.proofs.Common.{◌==◌, length, Option, Some, None, slice_get, if◌then◌else◌}
use Rattle.containers.proofs.Choices.{chosen}
use Rattle.redis_error.specs.declared.redis_error.RedisError.TheVariants as error
use Rattle.driver_model.specs.Request.{packed_bytes, lacks_resp3}
use Rattle.driver_model.specs.declared.action.Owner.TheVariants as owner
use Rattle.driver_model.specs.declared.action.Purpose.{Purpose}
use Rattle.driver_model.specs.declared.action.Purpose.TheVariants as purpose
use Rattle.driver_model.specs.declared.event.EventKind.{EventKind}
use Rattle.driver_model.specs.declared.event.EventKind.TheVariants as event
use Rattle.driver_model.specs.declared.event.Submission.{Submission}
use Rattle.driver_model.specs.News.{news_of}
use Rattle.driver_model.specs.Kind.{has_timeouts}
use Rattle.mux_conn.specs.declared.connection.MultiplexedConnection.{MultiplexedConnection}
use Rattle.mux_conn.specs.declared.request.Pending.{Pending}
use Rattle.mux_conn.specs.Effects.{cancelled_in}
use Rattle.mux_conn.specs.Requests.{closed, is_open_at}
use Rattle.single_session.specs.declared.core_state.Core.{Core}
use Rattle.single_session.specs.Turn.{Turning, asked_for, counted, effect, fired_by, heard, late_by, left_by, refused_with, requested, submitted, work_of}
use Rattle.conn_laws.proofs.Ties.Seats.{AllKeep, KeepsSeats, applied_keeps, cancelled_keeps, timed_keeps}

-- what the event is to submissions
--
-- of a submission
late_keeps : (u : MultiplexedConnection) (t : Turning) (x : Option (Option Pending)) → AllKeep u (work_of t) → AllKeep u (work_of (late_by t x))
late_keeps u t None h = h
late_keeps u t (Some None) h = h
late_keeps u t (Some (Some p)) h = timed_keeps u (work_of t) p.number h

-- a caller that goes
left_keeps : (u : MultiplexedConnection) (t : Turning) (x : Option (Option Pending)) → AllKeep u (work_of t) → AllKeep u (work_of (left_by t x))
left_keeps u t None h = h
left_keeps u t (Some None) h = h
left_keeps u t (Some (Some p)) h =
    let c = t.core.single.connection in
    chosen (λ (x : MultiplexedConnection). KeepsSeats u x.life x.renewal) (is_open_at c.requests p.number) (record (closed c p.number) { life = cancelled_in c.life p.number }) c (λ e. cancelled_keeps u c.life c.renewal p.number h) (λ f. h)

-- a timer that fires
fired_keeps : (u : MultiplexedConnection) (t : Turning) (x : Option Purpose) → AllKeep u (work_of t) → AllKeep u (work_of (fired_by t x))
fired_keeps u t None h = h
fired_keeps u t (Some (purpose.Connect l)) h = h
fired_keeps u t (Some (purpose.Response owner.Setup)) h = h
fired_keeps u t (Some (purpose.Response owner.Auth)) h = h
fired_keeps u t (Some (purpose.Response owner.Resub)) h = h
fired_keeps u t (Some (purpose.Response owner.Monitor)) h = h
fired_keeps u t (Some (purpose.Renewal l k)) h = h
fired_keeps u t (Some (purpose.Backoff g)) h = h
fired_keeps u t (Some (purpose.Resubscription l)) h = h
fired_keeps u t (Some (purpose.Response (owner.Try m round))) h = late_keeps u t (slice_get t.core.table m) h

-- a submission
submitted_keeps : (u : MultiplexedConnection) (t : Turning) (what : Submission) → AllKeep u (work_of t) → AllKeep u (work_of (submitted t what))
submitted_keeps u t what h =
    let lacks = lacks_resp3 t.core.single.connection.hears t.core.single.connection.info.protocol what in
    let packed = if length (packed_bytes what) == 0 then refused_with t error.EmptyCommand else asked_for t what in
    chosen (λ (x : Turning). AllKeep u (work_of x)) t.core.shut (refused_with t error.Closed) (if lacks then refused_with t error.Resp3Required else packed) (λ s. h)
    (λ f. chosen (λ (x : Turning). AllKeep u (work_of x)) lacks (refused_with t error.Resp3Required) packed (λ s. h)
    (λ d. chosen (λ (x : Turning). AllKeep u (work_of x)) (length (packed_bytes what) == 0) (refused_with t error.EmptyCommand) (asked_for t what) (λ s. h) (λ g. h)))

-- any event
requested_keeps : (u : MultiplexedConnection) (t : Turning) (kind : EventKind) → AllKeep u (work_of t) → AllKeep u (work_of (requested t kind))
requested_keeps u t (event.Submit what) h = submitted_keeps u t what h
requested_keeps u t (event.Cancel m) h = left_keeps u t (slice_get t.core.table m) h
requested_keeps u t (event.Connected l) h = h
requested_keeps u t (event.Refused l f) h = h
requested_keeps u t (event.Fired m) h = fired_keeps u t (slice_get t.core.timers m) h
requested_keeps u t (event.Timeout ms) h = chosen (λ (c : Core). KeepsSeats u c.single.connection.life c.single.connection.renewal) (has_timeouts t.core.kind) _ t.core (λ s. h) (λ f. h)
requested_keeps u t (event.Creds c auth) h = h
requested_keeps u t (event.CredsError c text) h = h
requested_keeps u t (event.CredsEnd c) h = h
requested_keeps u t (event.Wrote l count) h = h
requested_keeps u t (event.Bytes l piece) h = h
requested_keeps u t (event.Ended l) h = h
requested_keeps u t (event.ReadFault l kind) h = h
requested_keeps u t (event.WriteFault l kind) h = h
requested_keeps u t event.DropStream h = h
requested_keeps u t event.Shutdown h = h

-- so an event does
pub effect_keeps : (c : Core) (kind : EventKind) → AllKeep c.single.connection (work_of (counted c)) → AllKeep c.single.connection (work_of (effect (counted c) kind))
effect_keeps c kind h = requested_keeps c.single.connection (heard (counted c) kind) kind (applied_keeps c.single.connection (work_of (counted c)) (news_of c.timers c.sources c.single.link kind) h)
