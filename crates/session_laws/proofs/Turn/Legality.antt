-- Every replay is legal.
use Rattle.std.proofs.Common.{Bool, List, None, Option, Some, [], is_some, true, ap, append_assoc, false, length, inl, inr, refl, slice_get, subst, sym, ℕ, ◌+◌, ◌++◌, ◌∙◌, ◌∷◌, ◌≡◌, ◌<◌, nat_le, arith}
use Rattle.std.proofs.lemmas.List.{append-nil}
use Rattle.std.specs.Prelude.{if◌then◌else◌, ◌==◌, ◌^◌}
use Rattle.containers.proofs.Choices.{by_test, chosen, not_both, or_right}
use Rattle.connection_info.specs.declared.address.ConnectionInfo.{ConnectionInfo}
use Rattle.redis_error.specs.declared.redis_error.RedisError.TheVariants as error
use Rattle.driver_model.specs.Request.{packed_bytes, lacks_resp3}
use Rattle.driver_model.specs.Config.{address, connect_timeout, is_lazy, manager_of}
use Rattle.manager_config.specs.declared.config.ConnectionManagerConfig.{ConnectionManagerConfig}
use Rattle.driver_model.specs.Kind.{has_timeouts}
use Rattle.driver_model.specs.declared.action.Action.{Action}
use Rattle.driver_model.specs.declared.action.Action.TheVariants as action
use Rattle.driver_model.specs.declared.action.Cause.TheVariants as cause
use Rattle.driver_model.specs.declared.action.Owner.TheVariants as owner
use Rattle.driver_model.specs.declared.action.Purpose.{Purpose}
use Rattle.driver_model.specs.declared.action.Purpose.TheVariants as purpose
use Rattle.driver_model.specs.declared.action.SourceUse.{SourceUse}
use Rattle.driver_model.specs.declared.config.Config.{Config}
use Rattle.driver_model.specs.declared.event.Event.{Event}
use Rattle.driver_model.specs.declared.event.EventKind.{EventKind}
use Rattle.driver_model.specs.declared.event.EventKind.TheVariants as event
use Rattle.driver_model.specs.declared.event.Submission.{Submission}
use Rattle.mux_conn.specs.declared.act.LinkAct.{LinkAct}
use Rattle.mux_conn.specs.declared.act.LinkAct.TheVariants as act
use Rattle.mux_conn.specs.declared.request.Pending.{Pending}
use Rattle.single_session.specs.Replay.{AreGood, AreGoodOn, as_managed, single_core, is_bad_after, opening_core, opening_actions, outcome_at, outcomes_in, run_on, state_after, trace_of, turns_on, IsSound, begun_as, connect_asked, AreUnspent, AreUnspentOn}
use Rattle.single_session.specs.declared.generations.Comeback.{Comeback}
use Rattle.single_session.specs.declared.generations.Comeback.TheVariants as comeback
use Rattle.single_session.specs.declared.generations.Generations.{Generations}
use Rattle.single_session.specs.Generations.{comeback_shown_in, connect_timed, generation_shown, generations_at}
use Rattle.single_session.specs.Turn.{Turning, actions_of, comeback_by, effects_of, last_acts, shown_behind, asked_for, counted, effect, fired_by, heard, is_bad, late_by, left_by, moved_on, refused_with, shown_each, submitted, next_turn, numbered, source_of, sources_of, timer_of, timers_of, work_of, spends, has_run_out, passed_by}
use Rattle.single_session.proofs.Plain.{plain_effects, plain_turn}
use Rattle.single_session.proofs.Replays.{trace_of-more}
use Rattle.single_session.proofs.Spent.{passed_same, room_left, spent_next}
use Rattle.single_session.proofs.Stays.{turn_plain}
use Rattle.single_session.specs.declared.core_state.Core.{Core}
use Rattle.legal_trace.specs.Book.{blank_book, book}
use Rattle.legal_trace.specs.Events.{is_bad_event}
use Rattle.legal_trace.specs.Legal.{AllStand, Legal, causes, event_causes}
use Rattle.session_laws.proofs.Turn.Announce.{same_badness}
use Rattle.session_laws.proofs.Turn.Effects.{effect_holds}
use Rattle.legal_trace.proofs.Plain.{same_some}
use Rattle.mux_conn.specs.Connection.{is_used_up}
use Rattle.mux_conn.specs.Passes.{passed}
use Rattle.mux_conn.specs.Turn.{flushed}
use Rattle.mux_conn.proofs.Kept.{flushed_kept}
use Rattle.session_laws.proofs.Managers.Begins.{opened_between}
use Rattle.session_laws.proofs.Turn.Opening.{opening_unasked}
use Rattle.session_laws.proofs.Managers.Spending.{IsTied, between_tied, spent_turn}
use Rattle.session_laws.proofs.Managers.Turns.{IsUnused, manager_turn, manager_well, unused_next}
use Rattle.session_laws.proofs.Requests.Moved.{ComesOrdered}
use Rattle.session_laws.proofs.Requests.Settle.{trace_of_acts}
use Rattle.session_laws.proofs.Ties.Ordered.{IsOrdered, IsOrderedBy}
use Rattle.conn_laws.proofs.Turn.Adds.{flushed_adds}
use Rattle.session_laws.proofs.Turn.Ends.{ends_ordered, trace_adds}
use Rattle.session_laws.proofs.Turn.Ordered.{comes_ordered}
use Rattle.session_laws.proofs.Ties.Outcomes.{last_told}
use Rattle.session_laws.proofs.Requests.Settled.{IsBetween, applied_ready, moved_on_between}
use Rattle.session_laws.proofs.Ties.States.{HasEffect, trace_with}
use Rattle.session_laws.specs.Laws.{AreTurnsOf}
use Rattle.session_laws.specs.Outcomes.{last_outcome}

-- a turn
--
-- the connection's link is this, and the timers and the sources of credentials are these
abbrev IsStillOf : Turning → ℕ → List Purpose → List SourceUse → Type 0
IsStillOf t link timers sources = (t.core.single.link ≡ link) × (t.core.timers ≡ timers) × (t.core.sources ≡ sources)

-- a submission leaves them the same
refused_still : (t : Turning) (what : Submission) → IsStillOf (submitted t what) t.core.single.link t.core.timers t.core.sources
refused_still t what =
    let still = λ (x : Turning). IsStillOf x t.core.single.link t.core.timers t.core.sources in
    let lacks = lacks_resp3 t.core.single.connection.hears t.core.single.connection.info.protocol what in
    let packed = if length (packed_bytes what) == 0 then refused_with t error.EmptyCommand else asked_for t what in
    chosen still t.core.shut (refused_with t error.Closed) (if lacks then refused_with t error.Resp3Required else packed)
    (λ s. (refl, refl, refl))
    (λ f. chosen still lacks (refused_with t error.Resp3Required) packed (λ s. (refl, refl, refl))
    (λ d. chosen still (length (packed_bytes what) == 0) (refused_with t error.EmptyCommand) (asked_for t what) (λ s. (refl, refl, refl)) (λ g. (refl, refl, refl))))

-- so does a leave
left_still : (t : Turning) (x : Option (Option Pending)) → IsStillOf (left_by t x) t.core.single.link t.core.timers t.core.sources
left_still t None = (refl, refl, refl)
left_still t (Some None) = (refl, refl, refl)
left_still t (Some (Some p)) = (refl, refl, refl)

-- and a time that is over
late_still : (t : Turning) (x : Option (Option Pending)) → IsStillOf (late_by t x) t.core.single.link t.core.timers t.core.sources
late_still t None = (refl, refl, refl)
late_still t (Some None) = (refl, refl, refl)
late_still t (Some (Some p)) = (refl, refl, refl)

-- as a timer fires
fired_still : (t : Turning) (x : Option Purpose) → IsStillOf (fired_by t x) t.core.single.link t.core.timers t.core.sources
fired_still t None = (refl, refl, refl)
fired_still t (Some (purpose.Connect l)) = (refl, refl, refl)
fired_still t (Some (purpose.Response owner.Setup)) = (refl, refl, refl)
fired_still t (Some (purpose.Response owner.Auth)) = (refl, refl, refl)
fired_still t (Some (purpose.Response owner.Resub)) = (refl, refl, refl)
fired_still t (Some (purpose.Response owner.Monitor)) = (refl, refl, refl)
fired_still t (Some (purpose.Renewal l k)) = (refl, refl, refl)
fired_still t (Some (purpose.Backoff g)) = (refl, refl, refl)
fired_still t (Some (purpose.Resubscription l)) = (refl, refl, refl)
fired_still t (Some (purpose.Response (owner.Try n round))) = late_still t (slice_get t.core.table n)

-- and so does any event
effect_still : (c : Core) (kind : EventKind) → IsStillOf (effect (counted c) kind) c.single.link c.timers c.sources
effect_still c (event.Submit what) = refused_still (heard (counted c) (event.Submit what)) what
effect_still c (event.Cancel n) = left_still (heard (counted c) (event.Cancel n)) (slice_get c.table n)
effect_still c (event.Connected l) = (refl, refl, refl)
effect_still c (event.Refused l f) = (refl, refl, refl)
effect_still c (event.Fired n) = fired_still (heard (counted c) (event.Fired n)) (slice_get c.timers n)
effect_still c (event.Timeout ms) =
    let was = (heard (counted c) (event.Timeout ms)).core in
    chosen (λ (x : Core). (x.single.link ≡ c.single.link) × (x.timers ≡ c.timers) × (x.sources ≡ c.sources)) (has_timeouts was.kind) (record was { timeout = ms }) was (λ t. (refl, refl, refl)) (λ f. (refl, refl, refl))
effect_still c (event.Creds s auth) = (refl, refl, refl)
effect_still c (event.CredsError s text) = (refl, refl, refl)
effect_still c (event.CredsEnd s) = (refl, refl, refl)
effect_still c (event.Wrote l count) = (refl, refl, refl)
effect_still c (event.Bytes l piece) = (refl, refl, refl)
effect_still c (event.Ended l) = (refl, refl, refl)
effect_still c (event.ReadFault l kind) = (refl, refl, refl)
effect_still c (event.WriteFault l kind) = (refl, refl, refl)
effect_still c event.DropStream = (refl, refl, refl)
effect_still c event.Shutdown = (refl, refl, refl)

-- a session between two turns, of which it is known which requests are ahead of new credentials
abbrev pub IsWell : List Action → Core → Type 0
IsWell before c = IsBetween before c × IsOrderedBy before c

-- behind all that moves and is shown that is known
moved_well : (front : List Action) (t : Turning) (started : List ℕ) → is_some t.core.manager ≡ false → HasEffect front t started → ComesOrdered front t.core (work_of t) → IsWell (trace_with front (moved_on t)) (numbered (moved_on t)).core
moved_well front t started plain (inr retired) comes = absurd (not_both (is_some t.core.manager) plain retired.retiring.comes)
moved_well front t started plain (inl applied) comes =
    let f = t.core in
    let w = work_of t in
    let p = passed w in
    let adds = flushed_adds p in
    let done = moved_on_between front t started plain (inl applied) comes in
    let rest = shown_each f.single.link (length f.timers + length (timers_of f.single.link p.acts)) (length f.sources + length (sources_of f.single.link p.acts)) adds.more in
    let whole : trace_with front (moved_on t) ≡ trace_of_acts front f p.acts ++ rest = trace_adds front f p.acts adds.more (flushed p).acts adds.acts in (
      done,
      subst (λ (x : List Action). IsOrdered (book x) f.single.link f.table (flushed p).conn.life (flushed p).conn.renewal) (sym whole)
          (ends_ordered front f w started rest (flushed p).conn (applied_ready front t started applied comes) (subst (AllStand blank_book) whole done.between.sound.stands)
          (ap (λ (x : List Action). (book x).turns) (sym whole) ∙ done.between.sound.tied.numbers.turns) (λ up. sym adds.ready ∙ up) (flushed_kept p)),
    )

-- one turn of a session that doesn't come back leads from between two turns to between the next two
turn_well : (before : List Action) (c : Core) (e : Event) → is_some c.manager ≡ false → IsWell before c → is_bad c e.kind ≡ false → length c.table < 2 ^ 32 → IsWell (before ++ actions_of c e) (next_turn c e.kind).core
turn_well before c e plain all good room =
    let h = all.0 in
    let a = action.Turn c.turns (cause.Event e) in
    let applied = effect_holds before c h.started e.word e.kind h.between good room in
    let t = effect (counted c) e.kind in
    let still = effect_still c e.kind in
    let acts = (moved_on t).acts in
    let done = moved_well (before ++ a ∷ []) t h.started (ap is_some (passed_same (counted c) e.kind).manager ∙ plain) applied (comes_ordered before c h.started e h.between all.1) in
    let next : next_turn c e.kind ≡ numbered (moved_on t) = plain_turn c e.kind plain in
    let shown : effects_of c e ≡ shown_each c.single.link (length c.timers) (length c.sources) acts =
    plain_effects c e plain ∙ ap (λ (u : Turning). shown_each c.single.link (length c.timers) (length c.sources) u.acts) next in
    let same : trace_with (before ++ a ∷ []) (moved_on t) ≡ before ++ actions_of c e =
    append_assoc before (a ∷ []) (shown_each t.core.single.link (length t.core.timers) (length t.core.sources) acts) ∙ (λ i. before ++ a ∷ shown_each (still.0 i) (length (still.1 i)) (length (still.2 i)) acts)
    ∙ ap (λ (xs : List Action). before ++ a ∷ xs) (sym shown) in
    subst (λ (x : List Action). IsWell x (next_turn c e.kind).core) same (subst (λ (u : Turning). IsWell (trace_with (before ++ a ∷ []) (moved_on t)) u.core) (sym next) done)

-- a history
--
-- where a step isn't spent, numbers for submissions are left behind it
room_next : (c : Core) (e : Event) → spends c e ≡ false → length (next_turn c e.kind).core.table < 2 ^ 32
unfolding spends
room_next c e unspent = room_left (next_turn c e.kind).core (or_right (nat_le (2 ^ 32) c.turns) _ unspent)

-- nor has any number run out
not_run_out : (c : Core) (e : Event) → spends c e ≡ false → has_run_out (next_turn c e.kind).core ≡ false
unfolding spends
not_run_out c e unspent = or_right (nat_le (2 ^ 32) c.turns) _ unspent

-- so they are behind a history
room_on : (c : Core) (es : List Event) → length c.table < 2 ^ 32 → AreUnspentOn c es → length (run_on c es).table < 2 ^ 32
room_on c [] room unspent = room
room_on c (e ∷ es) room unspent = room_on (next_turn c e.kind).core es (room_next c e unspent.0) unspent.1

-- from the opening on
pub room_behind : (config : Config) (word : ℕ) (events : List Event) → AreUnspent config word events → length (state_after config word events).table < 2 ^ 32
unfolding state_after AreUnspent
room_behind config word events unspent = room_on (opening_core config word) events (let none = (opening_unasked config word).submitted in omega arith) unspent

-- a session that doesn't come back, or that comes back, of which nothing was asked where its first generation is to begin
abbrev pub IsReady : Core → Option Generations → Type 0
IsReady c None = Unit {0}
IsReady c (Some g) = IsUnused c g

-- where no number has run out behind a turn, none has behind its passes
unused_passes : (c : Core) (e : Event) → has_run_out (next_turn c e.kind).core ≡ false → is_used_up (passed_by (counted c) e.kind).core.single.connection ≡ false
unused_passes c e unspent =
    by_test (is_used_up (passed_by (counted c) e.kind).core.single.connection) _ (λ used. absurd (not_both (has_run_out (next_turn c e.kind).core) unspent (spent_next c e.kind used))) (λ f. f)

-- one turn of any session that isn't spent leads on
any_turn : (before : List Action) (c : Core) (e : Event) (m : Option Generations) → c.manager ≡ m → IsWell before c → is_bad c e.kind ≡ false → has_run_out (next_turn c e.kind).core ≡ false → length c.table < 2 ^ 32 → IsReady c m
    → IsWell (before ++ actions_of c e) (next_turn c e.kind).core × ((n : Option Generations) → (next_turn c e.kind).core.manager ≡ n → IsReady (next_turn c e.kind).core n)
any_turn before c e None is h good unspent room ready =
    let plain : is_some c.manager ≡ false = ap is_some is in
    (turn_well before c e plain h good room, λ n next. still n (sym (ap is_some next) ∙ turn_plain c e.kind ∙ plain))
  where
    still : (n : Option Generations) → is_some n ≡ false → IsReady (next_turn c e.kind).core n
    still None f = tt
    still (Some g) f = cc
any_turn before c e (Some g) is h good unspent room ready =
    (manager_well before c g e is h.0 h.1 good (unused_passes c e unspent) ready room, λ n next. later n next)
  where
    later : (n : Option Generations) → (next_turn c e.kind).core.manager ≡ n → IsReady (next_turn c e.kind).core n
    later None next = tt
    later (Some q) next = unused_next before c g e is h.0 h.1 good (unused_passes c e unspent) ready room q next

-- each turn leads on
turns_well : (before : List Action) (c : Core) (es : List Event) → IsWell before c → AreGoodOn c es → AreUnspentOn c es → length c.table < 2 ^ 32 → ((m : Option Generations) → c.manager ≡ m → IsReady c m)
    → IsWell (before ++ turns_on c es) (run_on c es) × ((m : Option Generations) → (run_on c es).manager ≡ m → IsReady (run_on c es) m)
turns_well before c [] h good unspent room ready = (subst (λ (x : List Action). IsWell x c) (sym (append-nil before)) h, ready)
turns_well before c (e ∷ es) h good unspent room ready =
    let one = any_turn before c e c.manager refl h good.0 (not_run_out c e unspent.0) room (ready c.manager refl) in
    let rest = turns_well (before ++ actions_of c e) (next_turn c e.kind).core es one.0 good.1 unspent.1 (room_next c e unspent.0) one.1 in
    (subst (λ (x : List Action). IsWell x (run_on (next_turn c e.kind).core es)) (append_assoc before (actions_of c e) (turns_on (next_turn c e.kind).core es)) rest.0, rest.1)

-- what has just opened is ready
opened_ready : (m : Option ConnectionManagerConfig) (at : Option ConnectionInfo) (lazy : Bool) (config : Config) (g : Option Generations) → (as_managed m at lazy (single_core config)).manager ≡ g → IsReady (as_managed m at lazy (single_core config)) g
opened_ready m at lazy config None is = tt
opened_ready None at lazy config (Some g) is = cc
opened_ready (Some settings) None lazy config (Some g) is = cc
opened_ready (Some settings) (Some info) false config (Some g) is = λ none. absurd (let one : 1 ≡ g.number = ap (λ (x : Generations). x.number) (same_some (generations_at settings info 1) g is) in omega (arith, one, none))
opened_ready (Some settings) (Some info) true config (Some g) is = λ none runs. (
  record { life = refl; requests = refl; waiting = refl; admitted = refl; fresh = refl; moved = refl; free = refl },
  ap (λ (x : Generations). x.halted) (sym (same_some (generations_at settings info 0) g is)),
)

-- nor are new credentials to be told
opened_ordered : (trace : List Action) (m : Option ConnectionManagerConfig) (at : Option ConnectionInfo) (lazy : Bool) (config : Config) → IsOrderedBy trace (as_managed m at lazy (single_core config))
opened_ordered trace None at lazy config up = cc up
opened_ordered trace (Some settings) None lazy config up = cc up
opened_ordered trace (Some settings) (Some info) false config up = cc up
opened_ordered trace (Some settings) (Some info) true config up = cc up

-- the session after a history, and its trace
replay_on : (config : Config) (word : ℕ) (events : List Event) → IsSound config → AreGood config word events → AreUnspent config word events
    → IsWell (trace_of config word events) (state_after config word events) × ((m : Option Generations) → (state_after config word events).manager ≡ m → IsReady (state_after config word events) m)
unfolding trace_of state_after AreGood AreUnspent
replay_on config word events sound good unspent =
    turns_well (opening_actions config word) (opening_core config word) events (opened_between config word sound, opened_ordered (opening_actions config word) (manager_of config) (address config) (is_lazy config) config) good unspent (let empty = (opening_unasked config word).submitted in omega arith)
    (λ m is. opened_ready (manager_of config) (address config) (is_lazy config) config m is)

-- also where one more event comes, of which it may be spent
pub turn_behind : (config : Config) (word : ℕ) (events : List Event) (e : Event) → IsSound config → AreGood config word events → AreUnspent config word events → is_bad_after config word events e ≡ false
    → (let c = state_after config word events in IsTied (trace_of config word events ++ actions_of c e) (next_turn c e.kind).core)
turn_behind config word events e sound good unspent fine =
    let all = replay_on config word events sound good unspent in
    by_manager (state_after config word events).manager refl (all.1 (state_after config word events).manager refl) all.0
  where
    room : length (state_after config word events).table < 2 ^ 32
    room = room_behind config word events unspent

    by_manager : (m : Option Generations) → (state_after config word events).manager ≡ m → IsReady (state_after config word events) m → IsWell (trace_of config word events) (state_after config word events)
        → IsTied (trace_of config word events ++ actions_of (state_after config word events) e) (next_turn (state_after config word events) e.kind).core
    by_manager None is ready h = between_tied _ _ (turn_well (trace_of config word events) (state_after config word events) e (ap is_some is) h fine room).0
    by_manager (Some g) is ready h =
        let front = trace_of config word events in
        let now = state_after config word events in
        by_test (is_used_up (passed_by (counted now) e.kind).core.single.connection) _
        (λ used. spent_turn front now g e is h.0 h.1 fine room used)
        (λ unused. between_tied _ _ (manager_turn front now g e is h.0 h.1 fine unused ready room))

pub replay_between : (config : Config) (word : ℕ) (events : List Event) → IsSound config → AreGood config word events → AreUnspent config word events → IsBetween (trace_of config word events) (state_after config word events)
replay_between config word events sound good unspent = (replay_on config word events sound good unspent).0.0

-- the causes of its turns
--
causes-append : (xs ys : List Action) → causes (xs ++ ys) ≡ causes xs ++ causes ys
causes-append [] ys = refl
causes-append (action.Turn k c ∷ xs) ys = ap (λ cs. c ∷ cs) (causes-append xs ys)
causes-append (_ ∷ xs) ys = causes-append xs ys

-- acts are no causes
no_causes : (l n c : ℕ) (acts : List LinkAct) → causes (shown_each l n c acts) ≡ []
no_causes l n c [] = refl
no_causes l n c (act.Created e ∷ acts) = no_causes l (n + length (timer_of l (act.Created e))) (c + length (source_of l (act.Created e))) acts
no_causes l n c (act.Round k ∷ acts) = no_causes l (n + length (timer_of l (act.Round k))) (c + length (source_of l (act.Round k))) acts
no_causes l n c (act.Took k count ∷ acts) = no_causes l (n + length (timer_of l (act.Took k count))) (c + length (source_of l (act.Took k count))) acts
no_causes l n c (act.Timer k ms ∷ acts) = no_causes l (n + length (timer_of l (act.Timer k ms))) (c + length (source_of l (act.Timer k ms))) acts
no_causes l n c (act.RenewalTimer k ms ∷ acts) = no_causes l (n + length (timer_of l (act.RenewalTimer k ms))) (c + length (source_of l (act.RenewalTimer k ms))) acts
no_causes l n c (act.RepeatTimer ms ∷ acts) = no_causes l (n + length (timer_of l (act.RepeatTimer ms))) (c + length (source_of l (act.RepeatTimer ms))) acts
no_causes l n c (act.Push info ∷ acts) = no_causes l (n + length (timer_of l (act.Push info))) (c + length (source_of l (act.Push info))) acts
no_causes l n c (act.Message m ∷ acts) = no_causes l (n + length (timer_of l (act.Message m))) (c + length (source_of l (act.Message m))) acts
no_causes l n c (act.Monitor v ∷ acts) = no_causes l (n + length (timer_of l (act.Monitor v))) (c + length (source_of l (act.Monitor v))) acts
no_causes l n c (act.Watch m count len ∷ acts) = no_causes l (n + length (timer_of l (act.Watch m count len))) (c + length (source_of l (act.Watch m count len))) acts
no_causes l n c (act.NeedCreds ∷ acts) = no_causes l (n + length (timer_of l act.NeedCreds)) (c + length (source_of l act.NeedCreds)) acts
no_causes l n c (act.NeedRenewals ∷ acts) = no_causes l (n + length (timer_of l act.NeedRenewals)) (c + length (source_of l act.NeedRenewals)) acts
no_causes l n c (act.Close ∷ acts) = no_causes l (n + length (timer_of l act.Close)) (c + length (source_of l act.Close)) acts
no_causes l n c (act.Write bytes ∷ acts) = no_causes l (n + length (timer_of l (act.Write bytes))) (c + length (source_of l (act.Write bytes))) acts
no_causes l n c (act.Wait k kind ∷ acts) = no_causes l (n + length (timer_of l (act.Wait k kind))) (c + length (source_of l (act.Wait k kind))) acts
no_causes l n c (act.Start m k count len ∷ acts) = no_causes l (n + length (timer_of l (act.Start m k count len))) (c + length (source_of l (act.Start m k count len))) acts
no_causes l n c (act.SetUp m count len ∷ acts) = no_causes l (n + length (timer_of l (act.SetUp m count len))) (c + length (source_of l (act.SetUp m count len))) acts
no_causes l n c (act.Renewed m count len ∷ acts) = no_causes l (n + length (timer_of l (act.Renewed m count len))) (c + length (source_of l (act.Renewed m count len))) acts
no_causes l n c (act.Repeated m count len ∷ acts) = no_causes l (n + length (timer_of l (act.Repeated m count len))) (c + length (source_of l (act.Repeated m count len))) acts
no_causes l n c (act.Outcome k o ∷ acts) = no_causes l (n + length (timer_of l (act.Outcome k o))) (c + length (source_of l (act.Outcome k o))) acts

-- nor is what a manager does of its own
--
timed_causes : (l timer : ℕ) (bound : Option ℕ) → causes (connect_timed l timer bound) ≡ []
timed_causes l timer None = refl
timed_causes l timer (Some ms) = refl

-- also where a generation begins with it
dialled_causes : (number : Option ℕ) (rest : List Action) → causes (generation_shown number ++ rest) ≡ causes rest
dialled_causes None rest = refl
dialled_causes (Some number) rest = refl

-- in all that it shows
comeback_causes : (m : Option Generations) (word : ℕ) (what : Comeback) → causes (comeback_shown_in m word what) ≡ []
comeback_causes None word what = refl
comeback_causes (Some g) word comeback.Stays = refl
comeback_causes (Some g) word (comeback.Rests number attempt timer) = refl
comeback_causes (Some g) word (comeback.Dials l number timer) =
    dialled_causes number (action.Connect l g.info.host g.info.port ∷ connect_timed l timer g.settings.connection.connection_timeout) ∙ timed_causes l timer g.settings.connection.connection_timeout

-- so a turn has no cause but its own
effect_causes : (c : Core) (e : Event) → causes (effects_of c e) ≡ []
effect_causes c e =
    let next = (next_turn c e.kind).core in
    let acts = shown_each c.single.link (length c.timers) (length c.sources) (next_turn c e.kind).acts in
    let back = comeback_shown_in next.manager e.word (comeback_by c e.kind) in
    let last = shown_behind next (last_acts c e.kind) in
    let none : causes acts ≡ [] = no_causes c.single.link (length c.timers) (length c.sources) (next_turn c e.kind).acts in
    chosen (λ (xs : List Action). causes xs ≡ []) (is_some c.manager) (acts ++ (back ++ last)) acts
    (λ t. causes-append acts (back ++ last) ∙ (λ i. none i ++ causes (back ++ last)) ∙ causes-append back last
    ∙ (λ i. comeback_causes next.manager e.word (comeback_by c e.kind) i ++ no_causes next.single.link (length next.timers) (length next.sources) (last_acts c e.kind) i))
    (λ f. none)

-- a turn for each event
turns_causes : (c : Core) (es : List Event) → causes (turns_on c es) ≡ event_causes es
turns_causes c [] = refl
turns_causes c (e ∷ es) =
    ap (λ cs. cause.Event e ∷ cs) (causes-append (effects_of c e) (turns_on (next_turn c e.kind).core es) ∙ (λ i. effect_causes c e i ++ turns_causes (next_turn c e.kind).core es i))

-- the opening asks for what it asks, and is the cause of all of it
opening_causes : (x : Option ConnectionInfo) (timeout : Option ℕ) (rest : List Action) → causes (connect_asked x timeout ++ rest) ≡ causes rest
opening_causes None timeout rest = refl
opening_causes (Some info) None rest = refl
opening_causes (Some info) (Some ms) rest = refl

-- also where a generation begins as it does
begun_causes : (m : Option ConnectionManagerConfig) (lazy : Bool) (x : Option ConnectionInfo) (timeout : Option ℕ) (rest : List Action) → causes (begun_as m lazy (connect_asked x timeout) ++ rest) ≡ causes rest
begun_causes None lazy x timeout rest = opening_causes x timeout rest
begun_causes (Some settings) false x timeout rest = opening_causes x timeout rest
begun_causes (Some settings) true x timeout rest = refl

-- behind the opening
replay_causes : (config : Config) (word : ℕ) (events : List Event) → causes (trace_of config word events) ≡ cause.Opening config word ∷ event_causes events
unfolding trace_of
replay_causes config word events =
    ap (λ cs. cause.Opening config word ∷ cs) (begun_causes (manager_of config) (is_lazy config) (address config) (connect_timeout config) (turns_on (opening_core config word) events) ∙ turns_causes (opening_core config word) events)

-- the actions of a history's trace stand where they may, also those of one more event, whose step may be spent; and its turns are those of
-- its events
pub spent_stands : (config : Config) (word : ℕ) (events : List Event) (e : Event) → IsSound config → AreGood config word events → AreUnspent config word events → is_bad_after config word events e ≡ false → AreTurnsOf config word (events ++ e ∷ [])
spent_stands config word events e sound good unspent fine = record {
  turns = replay_causes config word (events ++ e ∷ []);
  each = subst (AllStand blank_book) (sym (trace_of-more config word events e)) (turn_behind config word events e sound good unspent fine).stands;
}

-- every replay is legal
pub replay_legal : (config : Config) (word : ℕ) (events : List Event) → IsSound config → AreGood config word events → AreUnspent config word events → Legal config word events (trace_of config word events)
replay_legal config word events sound good unspent =
    let h = replay_between config word events sound good unspent in
    record { turns = replay_causes config word events; each = h.between.sound.stands; settled = h.between.settled }

-- behind it, the bad events are those of its book
pub bad_of_the_book : (config : Config) (word : ℕ) (events : List Event) (e : Event) → IsSound config → AreGood config word events → AreUnspent config word events → is_bad_after config word events e ≡ is_bad_event (book (trace_of config word events)) e.kind
bad_of_the_book config word events e sound good unspent =
    let h = replay_between config word events sound good unspent in
    sym (same_badness (book (trace_of config word events)) (state_after config word events) h.started e.kind h.between.sound.tied)

-- and its outcomes are those of its book
pub replay_outcomes : (config : Config) (word : ℕ) (events : List Event) (n : ℕ) → IsSound config → AreGood config word events → AreUnspent config word events → outcome_at (outcomes_in (trace_of config word events)) n ≡ last_outcome ((book (trace_of config word events)).story n).outcomes
replay_outcomes config word events n sound good unspent = let h = replay_between config word events sound good unspent in last_told (trace_of config word events) n h.between.sound.stands
