-- A session stays what it is.
use Rattle.std.proofs.Common.{◌≡◌, ap, Bool, true, false, ℕ, List, [], ◌∷◌, length, Option, Some, None, refl, ◌∙◌, ◌==◌}
use Rattle.std.specs.Prelude.{is_some, slice_get}
use Rattle.containers.proofs.Choices.{chosen}
use Rattle.driver_model.specs.declared.action.Owner.TheVariants as owner
use Rattle.driver_model.specs.declared.action.Purpose.{Purpose}
use Rattle.driver_model.specs.declared.action.Purpose.TheVariants as purpose
use Rattle.driver_model.specs.declared.config.Config.{Config}
use Rattle.connection_info.specs.declared.address.ConnectionInfo.{ConnectionInfo}
use Rattle.manager_config.specs.declared.config.ConnectionManagerConfig.{ConnectionManagerConfig}
use Rattle.driver_model.specs.Config.{kind_of, manager_of, is_lazy, address}
use Rattle.driver_model.specs.declared.event.Event.{Event}
use Rattle.driver_model.specs.declared.event.EventKind.{EventKind}
use Rattle.driver_model.specs.declared.event.EventKind.TheVariants as event
use Rattle.driver_model.specs.declared.event.Submission.{Submission}
use Rattle.driver_model.specs.Kind.{has_timeouts}
use Rattle.driver_model.specs.Request.{packed_bytes, lacks_resp3}
use Rattle.mux_conn.specs.declared.request.Pending.{Pending}
use Rattle.single_session.specs.declared.core_state.Core.{Core}
use Rattle.single_session.specs.Replay.{single_core, as_managed, opening_core, run_on, state_after}
use Rattle.single_session.specs.Generations.{has_ended, heeding}
use Rattle.single_session.specs.Turn.{Turning, counted, heard, submitted, left_by, late_by, fired_by, timed_by, requested, passed_by, flushed_on, numbered, own_part, ended_apart, next_turn}
use Rattle.single_session.proofs.Comebacks.{came_kept, heeded_some, came_some}
use Rattle.single_session.proofs.Spent.{passed_same}

-- it does where something is submitted
submitted_kind : (t : Turning) (what : Submission) → (submitted t what).core.kind ≡ t.core.kind
submitted_kind t what =
    chosen (λ (x : Turning). x.core.kind ≡ t.core.kind) t.core.shut _ _ (λ _. refl)
    (λ _. chosen (λ (x : Turning). x.core.kind ≡ t.core.kind) (lacks_resp3 t.core.single.connection.hears t.core.single.connection.info.protocol what) _ _ (λ _. refl)
    (λ _. chosen (λ (x : Turning). x.core.kind ≡ t.core.kind) (length (packed_bytes what) == 0) _ _ (λ _. refl) (λ _. refl)))

left_kind : (t : Turning) (slot : Option (Option Pending)) → (left_by t slot).core.kind ≡ t.core.kind
left_kind t None = refl
left_kind t (Some None) = refl
left_kind t (Some (Some p)) = refl

late_kind : (t : Turning) (slot : Option (Option Pending)) → (late_by t slot).core.kind ≡ t.core.kind
late_kind t None = refl
late_kind t (Some None) = refl
late_kind t (Some (Some p)) = refl

fired_kind : (t : Turning) (slot : Option Purpose) → (fired_by t slot).core.kind ≡ t.core.kind
fired_kind t None = refl
fired_kind t (Some (purpose.Connect l)) = refl
fired_kind t (Some (purpose.Response owner.Setup)) = refl
fired_kind t (Some (purpose.Response owner.Auth)) = refl
fired_kind t (Some (purpose.Response owner.Resub)) = refl
fired_kind t (Some (purpose.Response owner.Monitor)) = refl
fired_kind t (Some (purpose.Renewal l k)) = refl
fired_kind t (Some (purpose.Backoff g)) = refl
fired_kind t (Some (purpose.Resubscription l)) = refl
fired_kind t (Some (purpose.Response (owner.Try n round))) = late_kind t (slice_get t.core.table n)

timed_kind : (c : Core) (ms : Option ℕ) → (timed_by c ms).kind ≡ c.kind
timed_kind c ms = chosen (λ (x : Core). x.kind ≡ c.kind) (has_timeouts c.kind) (record c { timeout = ms }) c (λ _. refl) (λ _. refl)

requested_kind : (t : Turning) (kind : EventKind) → (requested t kind).core.kind ≡ t.core.kind
requested_kind t (event.Submit what) = submitted_kind t what
requested_kind t (event.Cancel n) = left_kind t (slice_get t.core.table n)
requested_kind t (event.Connected l) = refl
requested_kind t (event.Refused l f) = refl
requested_kind t (event.Fired n) = fired_kind t (slice_get t.core.timers n)
requested_kind t (event.Timeout ms) = timed_kind t.core ms
requested_kind t (event.Creds c auth) = refl
requested_kind t (event.CredsError c text) = refl
requested_kind t (event.CredsEnd c) = refl
requested_kind t (event.Wrote l count) = refl
requested_kind t (event.Bytes l piece) = refl
requested_kind t (event.Ended l) = refl
requested_kind t (event.ReadFault l kind) = refl
requested_kind t (event.WriteFault l kind) = refl
requested_kind t event.DropStream = refl
requested_kind t event.Shutdown = refl

-- and in any turn
pub turn_kind : (c : Core) (kind : EventKind) → (next_turn c kind).core.kind ≡ c.kind
unfolding next_turn
turn_kind c kind =
    let t = passed_by (counted c) kind in
    let over = has_ended c.single.connection.life in
    let same : t.core.kind ≡ c.kind = requested_kind (heard (counted c) kind) kind in
    let n = numbered t in
    let kept = came_kept (heeding n.core kind n.acts) (own_part n over kind) in
    chosen (λ (x : Turning). x.core.kind ≡ c.kind) (is_some c.manager) (ended_apart n over kind) (numbered (flushed_on t)) (λ _. kept.kind ∙ same) (λ _. same)

-- a session that doesn't come back stays one that doesn't, in any turn
pub turn_plain : (c : Core) (kind : EventKind) → is_some (next_turn c kind).core.manager ≡ is_some c.manager
unfolding next_turn
turn_plain c kind =
    let t = passed_by (counted c) kind in
    let over = has_ended c.single.connection.life in
    let same = ap is_some (passed_same (counted c) kind).manager in
    let n = numbered t in
    let h = heeding n.core kind n.acts in
    chosen (λ (x : Turning). is_some x.core.manager ≡ is_some c.manager) (is_some c.manager) (ended_apart n over kind) (numbered (flushed_on t))
    (λ _. came_some h (own_part n over kind) ∙ heeded_some n.core kind n.acts ∙ same) (λ _. same)

run_on_kind : (c : Core) (es : List Event) → (run_on c es).kind ≡ c.kind
run_on_kind c [] = refl
run_on_kind c (e ∷ es) = run_on_kind (next_turn c e.kind).core es ∙ turn_kind c e.kind

opened_kind : (manager : Option ConnectionManagerConfig) (at : Option ConnectionInfo) (lazy : Bool) (c : Core) → (as_managed manager at lazy c).kind ≡ c.kind
opened_kind None at lazy c = refl
opened_kind (Some s) None lazy c = refl
opened_kind (Some s) (Some info) false c = refl
opened_kind (Some s) (Some info) true c = refl

pub opening_kind : (config : Config) (word : ℕ) → (opening_core config word).kind ≡ kind_of config
opening_kind config word = opened_kind (manager_of config) (address config) (is_lazy config) (single_core config)

-- so where a history leads it is what it was opened as
pub state_kind : (config : Config) (word : ℕ) (es : List Event) → (state_after config word es).kind ≡ kind_of config
unfolding state_after
state_kind config word es = run_on_kind (opening_core config word) es ∙ opening_kind config word
