-- A submission that is handed in after the link's connect has started, where the configuration is sound and nothing is to be
-- said to the server before it.
use Rattle.std.proofs.Common.{◌≡◌, ◌≢◌, ℕ, zero, suc, ◌<◌, ◌==◌, Bool, true, false, ◌&&◌, not, List, [], ◌∷◌, Option, Some, None, if◌then◌else◌, refl, sym, ap, ◌∙◌, subst, arith, length}
use Rattle.containers.proofs.Choices.{not_le_test}
use Rattle.std.specs.Prelude.{unwrap_or}
use Rattle.connection_info.specs.declared.address.ConnectionInfo.{ConnectionInfo}
use Rattle.connection_info.specs.declared.protocol.ProtocolVersion.{ProtocolVersion}
use Rattle.connection_info.specs.Protocol.{is_resp3}
use Rattle.redis_error.specs.declared.config_name.ConfigName.{ConfigName}
use Rattle.redis_error.specs.declared.config_name.ConfigName.TheVariants as name
use Rattle.manager_config.specs.declared.config.ConnectionManagerConfig.{ConnectionManagerConfig}
use Rattle.driver_model.specs.declared.config.Config.{Config}
use Rattle.driver_model.specs.declared.config.Config.TheVariants as variant
use Rattle.driver_model.specs.declared.event.Submission.{Submission}
use Rattle.driver_model.specs.declared.event.Submission.TheVariants.{Cmd, Pipe, Multi, Subscription, Ping}
use Rattle.resp_write.specs.declared.subscription.SubscriptionAction.{SubscriptionAction}
use Rattle.connection_setup.specs.Setup.{setup}
use Rattle.driver_model.specs.Config.{address, is_lazy, manager_of, buffer_size, buffer_fault, hearing_of, permits, room_fault, told_info, heard_on, fault_of, wants_credentials}
use Rattle.driver_model.specs.Hearing.{hears_messages, is_watching}
use Rattle.driver_model.specs.declared.hearing.Hearing.{Hearing}
use Rattle.driver_model.proofs.Sound.{unless_refused, is_roomy}
use Rattle.mux_conn.specs.declared.life.Greeting.TheVariants as greet
use Rattle.driver_model.specs.Setup.{says_nothing}
use Rattle.driver_model.specs.Request.{packed_bytes, is_reply_awaited, needs_resp3, lacks_resp3}
use Rattle.mux_conn.specs.Connection.{acted, opened_on, has_no_permit}
use Rattle.mux_conn.specs.declared.act.LinkAct.TheVariants as act
use Rattle.mux_conn.specs.Effects.{new_link, creation_told, all_fresh, comes_to_want, sets_up}
use Rattle.mux_conn.specs.Passes.{passed}
use Rattle.single_session.specs.declared.core_state.Core.{Core}
use Rattle.single_session.specs.Turn.{Turning, work_of, with_work, shut_by, counted, ended_apart, moved_on, numbered, whole_effect, next_turn}
use Rattle.single_session.specs.Replay.{as_managed, opening_core, single_core, IsSound, state_after}
use Rattle.single_session.proofs.Plain.{plain_opening, plain_turn}
use Rattle.cancel_laws.specs.Cancels.{connected_at, handed_in_after_connect, SaysNothing, IsFree, HasStarted}
use Rattle.cancel_laws.proofs.Free.{free_started}

-- a queue that isn't refused holds something
some_place : (size : ℕ) → buffer_fault size ≡ None → 0 < size
some_place zero e = cc
some_place (suc size) e = omega arith

-- nor is a queue of a limit that isn't refused
room_places : (lim : Option ℕ) (size : ℕ) → room_fault lim size ≡ None → 0 < size
room_places None size e = some_place size e
room_places (Some most) size e = some_place size (unless_refused (most == 0) name.Limit (buffer_fault size) e).1

-- and where none is held, one of its permits is free
room_permits : (lim : Option ℕ) (size : ℕ) → room_fault lim size ≡ None → has_no_permit lim (unwrap_or lim 0) ≡ false
room_permits None size e = refl
room_permits (Some most) size e = (unless_refused (most == 0) name.Limit (buffer_fault size) e).0

-- where the connect leads: the link waits for credentials that are to come of a source, or it is ready where nothing is to be
-- said and the server isn't put into monitor mode, and else it is set up
abbrev up_at : Config → ℕ → Bool → Bool → Bool → Core
up_at config draw wants silent watching =
    let t = counted (single_core config) in
    let w = work_of t in
    let kind = (connected_at draw).kind in
    let link = new_link w.conn in
    let ready = creation_told (opened_on (all_fresh w) link) None in
    let said = if watching then sets_up w link greet.Monitor else (if wants then acted ready act.NeedRenewals else ready) in
    let up = if silent then said else sets_up (all_fresh w) link greet.WithUser in
    (numbered (moved_on (with_work (record t { core = shut_by t.core kind }) (if wants then comes_to_want w link else up)))).core

-- so a history of that event alone does, where the session doesn't come back
connected_is : (config : Config) (word draw : ℕ) → manager_of config ≡ None → state_after config word (connected_at draw ∷ []) ≡ (numbered (whole_effect (counted (single_core config)) (connected_at draw).kind)).core
unfolding state_after
connected_is config word draw stays =
    ap (λ (c : Core). (next_turn c (connected_at draw).kind).core) (plain_opening config word stays) ∙ ap (λ (t : Turning). t.core) (plain_turn (single_core config) (connected_at draw).kind refl)

-- so nothing holds it back where nothing is to be said and no credentials are waited for, and nothing of the configuration is refused
once_free : (config : Config) (word draw : ℕ) → manager_of config ≡ None → IsSound config → SaysNothing config → IsFree (state_after config word (connected_at draw ∷ []))
once_free config word draw stays sound silent =
    let fits = is_roomy config sound in
    let says = says_nothing (setup (told_info config) true) in
    subst IsFree (sym (connected_is config word draw stays)) (subst (λ (b : Bool). IsFree (up_at config draw b says (is_watching (hearing_of config)))) (sym silent.0)
    (subst (λ (b : Bool). IsFree (up_at config draw false b (is_watching (hearing_of config)))) (sym silent.1)
    (subst (λ (b : Bool). IsFree (up_at config draw false true b)) (sym silent.2)
    (record {
      link = _;
      ready = refl;
      goes = refl;
      room = not_le_test (buffer_size config) 0 (room_places (permits config) (buffer_size config) fits);
      serves = refl;
      permit = room_permits (permits config) (buffer_size config) fits;
      unshut = refl;
      numbered = omega arith;
    }))))

-- one that comes back so, and connects there at once, after its opening
abbrev returning : ConnectionManagerConfig → ConnectionInfo → Config → Core
returning settings info config = as_managed (Some settings) (Some info) false (single_core config)

opens_so : (config : Config) (word : ℕ) (settings : ConnectionManagerConfig) (info : ConnectionInfo) → manager_of config ≡ Some settings → address config ≡ Some info → is_lazy config ≡ false
    → opening_core config word ≡ returning settings info config
opens_so config word settings info managed there at_once =
    ap (λ (m : Option ConnectionManagerConfig). as_managed m (address config) (is_lazy config) (single_core config)) managed
    ∙ (ap (λ (at : Option ConnectionInfo). as_managed (Some settings) at (is_lazy config) (single_core config)) there
    ∙ ap (λ (lazy : Bool). as_managed (Some settings) (Some info) lazy (single_core config)) at_once)

-- where its connect leads, as above: no more begins of its own
abbrev back_at : ConnectionManagerConfig → ConnectionInfo → Config → ℕ → Bool → Bool → Bool → Core
back_at settings info config draw wants silent watching =
    let t = counted (returning settings info config) in
    let w = work_of t in
    let kind = (connected_at draw).kind in
    let link = new_link w.conn in
    let ready = creation_told (opened_on (all_fresh w) link) None in
    let said = if watching then sets_up w link greet.Monitor else (if wants then acted ready act.NeedRenewals else ready) in
    let up = if silent then said else sets_up (all_fresh w) link greet.WithUser in
    let u = with_work (record t { core = shut_by t.core kind }) (if wants then comes_to_want w link else up) in
    (ended_apart (numbered (with_work u (passed (work_of u)))) false kind).core

returns_so : (settings : ConnectionManagerConfig) (info : ConnectionInfo) (config : Config) (draw : ℕ)
    → (next_turn (returning settings info config) (connected_at draw).kind).core
    ≡ back_at settings info config draw (wants_credentials config) (says_nothing (setup (told_info config) true)) (is_watching (hearing_of config))
unfolding next_turn
returns_so settings info config draw = refl

back_is : (config : Config) (word draw : ℕ) (settings : ConnectionManagerConfig) (info : ConnectionInfo) → manager_of config ≡ Some settings → address config ≡ Some info → is_lazy config ≡ false → SaysNothing config
    → state_after config word (connected_at draw ∷ []) ≡ back_at settings info config draw false true false
unfolding state_after
back_is config word draw settings info managed there at_once silent =
    let says = says_nothing (setup (told_info config) true) in
    ap (λ (c : Core). (next_turn c (connected_at draw).kind).core) (opens_so config word settings info managed there at_once)
    ∙ (returns_so settings info config draw
    ∙ (ap (λ (b : Bool). back_at settings info config draw b says (is_watching (hearing_of config))) silent.0
    ∙ (ap (λ (b : Bool). back_at settings info config draw false b (is_watching (hearing_of config))) silent.1
    ∙ ap (λ (b : Bool). back_at settings info config draw false true b) silent.2)))

-- what holds of both kinds behind the connect
by_manager : (P : Core → Type 0) (config : Config) (word draw : ℕ) (managed : Option ConnectionManagerConfig) (at : Option ConnectionInfo) → manager_of config ≡ managed → address config ≡ at
    → is_lazy config ≡ false → IsSound config → SaysNothing config → (manager_of config ≡ None → P (state_after config word (connected_at draw ∷ [])))
    → ((settings : ConnectionManagerConfig) (info : ConnectionInfo) → P (back_at settings info config draw false true false)) → P (state_after config word (connected_at draw ∷ []))
by_manager P config word draw None at e a at_once sound silent once back = once e
by_manager P config word draw (Some settings) None e a at_once sound silent once back =
    absurd (let x : ◌≡◌ {A = Option ConfigName} (Some name.Url) None = sym (ap (λ (m : Option ConnectionManagerConfig). fault_of m (address config) config) e ∙ ap (λ (i : Option ConnectionInfo). fault_of (Some settings) i config) a) ∙ sound in cc x)
by_manager P config word draw (Some settings) (Some info) e a at_once sound silent once back = subst P (sym (back_is config word draw settings info e a at_once silent)) (back settings info)

connected_free : (config : Config) (word draw : ℕ) → is_lazy config ≡ false → IsSound config → SaysNothing config → IsFree (state_after config word (connected_at draw ∷ []))
connected_free config word draw at_once sound silent =
    let fits = is_roomy config sound in
    by_manager IsFree config word draw (manager_of config) (address config) refl refl at_once sound silent
    (λ stays. once_free config word draw stays sound silent)
    (λ settings info. record {
      link = _;
      ready = refl;
      goes = refl;
      room = not_le_test (buffer_size config) 0 (room_places (permits config) (buffer_size config) fits);
      serves = refl;
      permit = room_permits (permits config) (buffer_size config) fits;
      unshut = refl;
      numbered = omega arith;
    })

-- no submission was handed in before
connected_first : (config : Config) (word draw : ℕ) → is_lazy config ≡ false → IsSound config → SaysNothing config → length (state_after config word (connected_at draw ∷ [])).table ≡ 0
connected_first config word draw at_once sound silent =
    by_manager (λ (c : Core). length c.table ≡ 0) config word draw (manager_of config) (address config) refl refl at_once sound silent
    (λ stays. ap (λ (c : Core). length c.table) (connected_is config word draw stays)) (λ settings info. refl)

-- what doesn't need RESP3 is never refused for want of it
needs_none : (h : Hearing) (protocol : ProtocolVersion) (s : Submission) → needs_resp3 s ≡ false → lacks_resp3 h protocol s ≡ false
needs_none h protocol s plain = ap (λ needs. not (hears_messages h) && needs && not (is_resp3 protocol)) plain ∙ none_needed (not (hears_messages h)) (not (is_resp3 protocol))
  where
    none_needed : (a b : Bool) → (a && false && b) ≡ false
    none_needed true b = refl
    none_needed false b = refl

-- any submission that has bytes, whose reply is awaited, and that is no subscription call
pub any_started : (config : Config) (word draw later : ℕ) (s : Submission) → packed_bytes s ≢ [] → is_reply_awaited s ≡ true → needs_resp3 s ≡ false → is_lazy config ≡ false → IsSound config → SaysNothing config
    → HasStarted 0 (handed_in_after_connect config word draw later s)
any_started config word draw later s some awaited plain at_once sound silent =
    subst (λ k. HasStarted k (handed_in_after_connect config word draw later s)) (connected_first config word draw at_once sound silent)
    (free_started config word later (connected_at draw ∷ []) s some awaited (connected_free config word draw at_once sound silent) (let c = (state_after config word (connected_at draw ∷ [])).single.connection in needs_none c.hears c.info.protocol s plain))

-- what is heard is what the configuration has heard
connected_hears : (config : Config) (word draw : ℕ) → manager_of config ≡ None → SaysNothing config → (state_after config word (connected_at draw ∷ [])).single.connection.hears ≡ hearing_of config
connected_hears config word draw stays silent =
    let says = says_nothing (setup (told_info config) true) in
    ap (λ (c : Core). c.single.connection.hears) (connected_is config word draw stays)
    ∙ subst (λ (b : Bool). (up_at config draw b says (is_watching (hearing_of config))).single.connection.hears ≡ hearing_of config) (sym silent.0)
    (subst (λ (b : Bool). (up_at config draw false b (is_watching (hearing_of config))).single.connection.hears ≡ hearing_of config) (sym silent.1)
    (subst (λ (b : Bool). (up_at config draw false true b).single.connection.hears ≡ hearing_of config) (sym silent.2) refl))

-- where messages are heard nothing is refused for want of RESP3
listening_none : (h : Hearing) (protocol : ProtocolVersion) (s : Submission) → hears_messages h ≡ true → lacks_resp3 h protocol s ≡ false
listening_none h protocol s listens = ap (λ hears. not hears && needs_resp3 s && not (is_resp3 protocol)) listens

-- a multiplexed connection hears none
hears_none : (pushes : Bool) → hears_messages (heard_on pushes) ≡ true → ⊥
hears_none true e = cc e
hears_none false e = cc e

-- so a session that does doesn't come back
listens_once : (config : Config) → hears_messages (hearing_of config) ≡ true → manager_of config ≡ None
listens_once (variant.Single address connection) e = absurd (hears_none (unwrap_or connection.push false) e)
listens_once (variant.Manager lazy address connection manager) e = absurd (hears_none (unwrap_or connection.push false) e)
listens_once (variant.PubSub address) e = refl
listens_once (variant.Monitor address) e = refl

-- any submission on a link of messages that has bytes, and whose reply is awaited
listening_started : (config : Config) (word draw later : ℕ) (s : Submission) → packed_bytes s ≢ [] → is_reply_awaited s ≡ true → IsSound config → SaysNothing config → hears_messages (hearing_of config) ≡ true
    → HasStarted 0 (handed_in_after_connect config word draw later s)
listening_started config word draw later s some awaited sound silent listens =
    let stays = listens_once config listens in
    subst (λ k. HasStarted k (handed_in_after_connect config word draw later s)) (ap (λ (c : Core). length c.table) (connected_is config word draw stays))
    (free_started config word later (connected_at draw ∷ []) s some awaited (once_free config word draw stays sound silent)
    (let c = (state_after config word (connected_at draw ∷ [])).single.connection in listening_none c.hears c.info.protocol s (ap hears_messages (connected_hears config word draw stays silent) ∙ listens)))

-- a subscription call there
pub subscription_started : (config : Config) (word draw later : ℕ) (what : SubscriptionAction) (names : List (List ℕ)) → IsSound config → SaysNothing config → hears_messages (hearing_of config) ≡ true → HasStarted 0 (handed_in_after_connect config word draw later (Subscription what names))
subscription_started config word draw later what names sound silent listens = listening_started config word draw later (Subscription what names) (λ e. cc) refl sound silent listens

-- and a ping
pub ping_started : (config : Config) (word draw later : ℕ) (message : Option (List ℕ)) → IsSound config → SaysNothing config → hears_messages (hearing_of config) ≡ true → HasStarted 0 (handed_in_after_connect config word draw later (Ping message))
ping_started config word draw later message sound silent listens = listening_started config word draw later (Ping message) (λ e. cc) refl sound silent listens

-- a command
pub command_started : (config : Config) (word draw later : ℕ) (name : List ℕ) (args : List (List ℕ)) → is_lazy config ≡ false → IsSound config → SaysNothing config → HasStarted 0 (handed_in_after_connect config word draw later (Cmd (name ∷ args)))
command_started config word draw later name args at_once sound silent = any_started config word draw later (Cmd (name ∷ args)) (λ e. cc) refl refl at_once sound silent

-- a pipeline whose first command has a name
pub pipeline_started : (config : Config) (word draw later : ℕ) (name : List ℕ) (args : List (List ℕ)) (more : List (List (List ℕ))) → is_lazy config ≡ false → IsSound config → SaysNothing config → HasStarted 0 (handed_in_after_connect config word draw later (Pipe ((name ∷ args) ∷ more)))
pipeline_started config word draw later name args more at_once sound silent = any_started config word draw later (Pipe ((name ∷ args) ∷ more)) (λ e. cc) refl refl at_once sound silent

-- a transaction
pub transaction_started : (config : Config) (word draw later : ℕ) (args : List (List ℕ)) (more : List (List (List ℕ))) → is_lazy config ≡ false → IsSound config → SaysNothing config → HasStarted 0 (handed_in_after_connect config word draw later (Multi (args ∷ more)))
transaction_started config word draw later args more at_once sound silent = any_started config word draw later (Multi (args ∷ more)) (λ e. cc) refl refl at_once sound silent
