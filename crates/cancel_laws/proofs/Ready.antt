-- What is true of a session after each history.
use Rattle.std.proofs.Common.{◌≡◌, ℕ, ◌==◌, List, [], ◌∷◌, ◌++◌, length, Option, Some, None, slice_get, refl, sym, ◌∙◌, subst, arith, false, is_some, Bool, true, ap}
use Rattle.containers.proofs.Choices.{chosen}
use Rattle.driver_model.specs.declared.action.Owner.TheVariants as owner
use Rattle.driver_model.specs.declared.action.Purpose.{Purpose}
use Rattle.driver_model.specs.declared.action.Purpose.TheVariants as purpose
use Rattle.driver_model.specs.declared.config.Config.{Config}
use Rattle.driver_model.specs.declared.event.Event.{Event}
use Rattle.driver_model.specs.declared.event.EventKind.{EventKind}
use Rattle.driver_model.specs.declared.event.EventKind.TheVariants as event
use Rattle.driver_model.specs.Config.{permits, manager_of, address, is_lazy}
use Rattle.connection_info.specs.declared.address.ConnectionInfo.{ConnectionInfo}
use Rattle.manager_config.specs.declared.config.ConnectionManagerConfig.{ConnectionManagerConfig}
use Rattle.driver_model.specs.Kind.{has_timeouts}
use Rattle.driver_model.specs.Request.{packed_bytes, lacks_resp3}
use Rattle.mux_conn.specs.declared.request.Pending.{Pending}
use Rattle.mux_conn.specs.declared.request.Progress.TheVariants as progress
use Rattle.mux_conn.specs.declared.request.Request.{Request}
use Rattle.mux_conn.specs.Passes.{passed}
use Rattle.single_session.specs.declared.core_state.Core.{Core}
use Rattle.single_session.specs.Turn.{Turning, work_of, heard, left_by, late_by, fired_by, requested, effect, counted, moved_on, next_turn}
use Rattle.single_session.specs.Replay.{opening_core, run_on, state_after, single_core, as_managed}
use Rattle.single_session.proofs.Plain.{plain_after, plain_opening, plain_turn}
use Rattle.single_session.proofs.Stays.{turn_plain}
use Rattle.conn_laws.proofs.Changes.Requests.{names, names_push, names_count}
use Rattle.conn_laws.proofs.Changes.Names.{AreNamed, named_refused, named_asked}
use Rattle.conn_laws.proofs.Changes.Kept.{Unlimited, passed_kept, IsApart}
use Rattle.conn_laws.proofs.Changes.KeptEnds.{flushed_kept}
use Rattle.cancel_laws.proofs.KeptTurns.{AtCore, heard_kept, left_by_kept, fired_kept, turn_kept}
use Rattle.conn_laws.proofs.Changes.Once.{IsOnce, once_kept, once_asks}
use Rattle.conn_laws.proofs.Changes.Rest.{IsIdle}
use Rattle.cancel_laws.proofs.Whole.{turn_idle, turn_requests, turn_table}
use Rattle.cancel_laws.proofs.Turns.{turn_unlimited}
use Rattle.conn_laws.proofs.Changes.Ready.{names_kept}

-- names
--
-- each request has the name of a submission of its own
abbrev pub NamedIn : Turning → Type 0
NamedIn t = AreNamed t.core.table (names t.core.single.connection.requests)

-- the connection hears its link's news
named_heard : (t : Turning) (kind : EventKind) → NamedIn t → NamedIn (heard t kind)
named_heard t kind h = subst (AreNamed t.core.table) (sym (heard_kept (names_kept (names t.core.single.connection.requests)) t kind refl)) h

-- where a submission is left, names stay
named_left : (t : Turning) (who : Option (Option Pending)) → NamedIn t → AreNamed t.core.table (names (left_by t who).core.single.connection.requests)
named_left t who h = subst (AreNamed t.core.table) (sym (left_by_kept (names_kept (names t.core.single.connection.requests)) t who refl)) h

-- and so does the table
named_left_by : (t : Turning) (who : Option (Option Pending)) → NamedIn t → NamedIn (left_by t who)
named_left_by t None h = h
named_left_by t (Some None) h = h
named_left_by t (Some (Some p)) h = named_left t (Some (Some p)) h

-- where a timer fires, names stay
named_fired : (t : Turning) (what : Option Purpose) → NamedIn t → AreNamed t.core.table (names (fired_by t what).core.single.connection.requests)
named_fired t what h = subst (AreNamed t.core.table) (sym (fired_kept (names_kept (names t.core.single.connection.requests)) t what refl)) h

-- and so does the table
table_late : (t : Turning) (who : Option (Option Pending)) → (late_by t who).core.table ≡ t.core.table
table_late t None = refl
table_late t (Some None) = refl
table_late t (Some (Some p)) = refl

-- whatever the timer is for
table_fired : (t : Turning) (what : Option Purpose) → (fired_by t what).core.table ≡ t.core.table
table_fired t None = refl
table_fired t (Some (purpose.Connect l)) = refl
table_fired t (Some (purpose.Response owner.Setup)) = refl
table_fired t (Some (purpose.Response owner.Auth)) = refl
table_fired t (Some (purpose.Response owner.Resub)) = refl
table_fired t (Some (purpose.Response owner.Monitor)) = refl
table_fired t (Some (purpose.Renewal l k)) = refl
table_fired t (Some (purpose.Backoff g)) = refl
table_fired t (Some (purpose.Resubscription l)) = refl
table_fired t (Some (purpose.Response (owner.Try n round))) = table_late t (slice_get t.core.table n)

-- so both do
named_fired_by : (t : Turning) (what : Option Purpose) → NamedIn t → NamedIn (fired_by t what)
named_fired_by t what h = subst (λ (table : List (Option Pending)). AreNamed table (names (fired_by t what).core.single.connection.requests)) (sym (table_fired t what)) (named_fired t what h)

-- what an event is to the submissions
named_requested : (t : Turning) (kind : EventKind) → NamedIn t → NamedIn (requested t kind)
named_requested t (event.Submit s) h =
    let r = t.core.single.connection.requests in
    let x : Request = record { name = length t.core.table; progress = progress.Waiting; permits = 0 } in
    chosen NamedIn t.core.shut _ _ (λ u. named_refused t.core.table (names r) h)
    (λ f. chosen NamedIn (lacks_resp3 t.core.single.connection.hears t.core.single.connection.info.protocol s) _ _ (λ u. named_refused t.core.table (names r) h)
    (λ d. chosen NamedIn (length (packed_bytes s) == 0) _ _ (λ u. named_refused t.core.table (names r) h)
    (λ g. subst (AreNamed (t.core.table ++ Some (record { number = length r }) ∷ [])) (sym (names_push r x)) (named_asked t.core.table (names r) (length r) (names_count r) h))))
named_requested t (event.Cancel n) h = named_left_by t (slice_get t.core.table n) h
named_requested t (event.Connected l) h = h
named_requested t (event.Refused l f) h = h
named_requested t (event.Fired n) h = named_fired_by t (slice_get t.core.timers n) h
named_requested t (event.Timeout ms) h = chosen (λ (c : Core). NamedIn (record t { core = c })) (has_timeouts t.core.kind) (record t.core { timeout = ms }) t.core (λ y. h) (λ y. h)
named_requested t (event.Creds c auth) h = h
named_requested t (event.CredsError c text) h = h
named_requested t (event.CredsEnd c) h = h
named_requested t (event.Wrote l count) h = h
named_requested t (event.Bytes l piece) h = h
named_requested t (event.Ended l) h = h
named_requested t (event.ReadFault l kind) h = h
named_requested t (event.WriteFault l kind) h = h
named_requested t event.Shutdown h = h
named_requested t event.DropStream h = h

-- and the rest of the turn
named_moved_on : (t : Turning) → NamedIn t → NamedIn (moved_on t)
named_moved_on t h =
    let k = names_kept (names t.core.single.connection.requests) in
    subst (AreNamed t.core.table) (sym (flushed_kept k (passed (work_of t)) (passed_kept k (work_of t) refl))) h

-- where a history leads
--
-- nothing is left to do, and each request has the name of a submission of its own
pub record IsNamed (c : Core) : Type 0 where
  pub named : AreNamed c.table (names c.single.connection.requests)
  pub idle : IsIdle c.single.connection

-- so it is behind any turn
named_turn : (c : Core) (kind : EventKind) → IsNamed c → IsNamed (next_turn c kind).core
named_turn c kind h =
    let t = effect (counted c) kind in
    let r = t.core.single.connection.requests in
    let same : names (next_turn c kind).core.single.connection.requests ≡ names r = ap names (turn_requests c kind) ∙ passed_kept (names_kept (names r)) (work_of t) refl in
    record {
      named = subst (AreNamed (next_turn c kind).core.table) (sym same) (subst (λ (table : List (Option Pending)). AreNamed table (names r)) (sym (turn_table c kind)) (named_requested (heard (counted c) kind) kind (named_heard (counted c) kind h.named)));
      idle = turn_idle c kind;
    }

-- and of more of them
pub named_on : (c : Core) (es : List Event) → IsNamed c → IsNamed (run_on c es)
named_on c [] h = h
named_on c (e ∷ es) h = named_on (next_turn c e.kind).core es (named_turn c e.kind h)

-- and of any opening
named_as : (m : Option ConnectionManagerConfig) (at : Option ConnectionInfo) (lazy : Bool) (config : Config) → IsNamed (as_managed m at lazy (single_core config))
named_as None at lazy config = record { named = record { to = λ n p e. cc; back = λ q n e. cc; fewer = omega arith }; idle = record { written = record { moved = record { seated = record { through = record { queue = tt; repeated = λ t. cc; renewed = λ t. cc }; admitted = λ t. refl }; waiting = λ f. refl }; offered = tt }; calm = refl; fresh = refl } }
named_as (Some settings) None lazy config = record { named = record { to = λ n p e. cc; back = λ q n e. cc; fewer = omega arith }; idle = record { written = record { moved = record { seated = record { through = record { queue = tt; repeated = λ t. cc; renewed = λ t. cc }; admitted = λ t. refl }; waiting = λ f. refl }; offered = tt }; calm = refl; fresh = refl } }
named_as (Some settings) (Some info) false config = record { named = record { to = λ n p e. cc; back = λ q n e. cc; fewer = omega arith }; idle = record { written = record { moved = record { seated = record { through = record { queue = tt; repeated = λ t. cc; renewed = λ t. cc }; admitted = λ t. refl }; waiting = λ f. refl }; offered = tt }; calm = refl; fresh = refl } }
named_as (Some settings) (Some info) true config = record { named = record { to = λ n p e. cc; back = λ q n e. cc; fewer = omega arith }; idle = record { written = record { moved = record { seated = record { through = record { queue = tt; repeated = λ t. cc; renewed = λ t. cc }; admitted = λ t. refl }; waiting = λ f. refl }; offered = tt }; calm = refl; fresh = refl } }

pub opening_named : (config : Config) (word : ℕ) → IsNamed (opening_core config word)
opening_named config word = named_as (manager_of config) (address config) (is_lazy config) config

-- nothing is left to do, requests have one message at most and names of their own, and the session doesn't come back
pub record IsReady (c : Core) : Type 0 where
  pub idle : IsIdle c.single.connection
  pub once : (p : ℕ) → IsApart p → IsOnce p c.single.connection.requests c.single.connection.life
  pub named : AreNamed c.table (names c.single.connection.requests)
  pub plain : is_some c.manager ≡ false

-- so it is named
pub ready_named : (c : Core) → IsReady c → IsNamed c
ready_named c r = record { named = r.named; idle = r.idle }

-- a turn
ready_turn : (c : Core) (kind : EventKind) → IsReady c → IsReady (next_turn c kind).core
ready_turn c kind h =
    let t = effect (counted c) kind in
    let made = sym (plain_turn c kind h.plain) in
    record {
      idle = turn_idle c kind;
      once = λ p apart. turn_kept (once_kept p apart) c h.plain (once_asks p (length c.table)) kind (h.once p apart);
      named = subst NamedIn made (named_moved_on t (named_requested (heard (counted c) kind) kind (named_heard (counted c) kind h.named)));
      plain = turn_plain c kind ∙ h.plain;
    }

-- and more of them
pub ready_on : (c : Core) (es : List Event) → IsReady c → IsReady (run_on c es)
ready_on c [] h = h
ready_on c (e ∷ es) h = ready_on (next_turn c e.kind).core es (ready_turn c e.kind h)

-- the opening
single_ready : (config : Config) → IsReady (single_core config)
single_ready config = record {
  idle = record {
    written = record { moved = record { seated = record { through = record { queue = tt; repeated = λ t. cc; renewed = λ t. cc }; admitted = λ t. refl }; waiting = λ f. refl }; offered = tt };
    calm = refl;
    fresh = refl;
  };
  once = λ p apart. record { within = omega arith; alone = tt };
  named = record { to = λ n p e. cc; back = λ q n e. cc; fewer = omega arith };
  plain = refl;
}

pub opening_ready : (config : Config) (word : ℕ) → manager_of config ≡ None → IsReady (opening_core config word)
opening_ready config word none = subst IsReady (sym (plain_opening config word none)) (single_ready config)

-- where permits aren't counted
--
-- they never are
unlimited_on : (c : Core) (es : List Event) → is_some c.manager ≡ false → AtCore Unlimited c → AtCore Unlimited (run_on c es)
unlimited_on c [] plain none = none
unlimited_on c (e ∷ es) plain none = unlimited_on (next_turn c e.kind).core es (turn_plain c e.kind ∙ plain) (turn_unlimited c e.kind plain none)

-- after any history of such a configuration
pub unlimited_after : (config : Config) (word : ℕ) (es : List Event) → manager_of config ≡ None → permits config ≡ None → AtCore Unlimited (state_after config word es)
unfolding state_after
unlimited_after config word es stays none = unlimited_on (opening_core config word) es (plain_after config word [] stays) (subst (AtCore Unlimited) (sym (plain_opening config word stays)) none)
