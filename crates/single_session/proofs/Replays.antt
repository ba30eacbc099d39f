-- One more event of a history.
use Rattle.std.proofs.Common.{◌≡◌, ◌==◌, ℕ, ◌+◌, ◌-◌, ◌^◌, ◌<◌, ◌≤◌, List, [], ◌∷◌, ◌++◌, length, refl, sym, ◌∙◌, ap, subst, append_assoc, false, arith, length-append}
use Rattle.std.specs.Prelude.{Option, Some, None, is_some, slice_get, Bool, true, nat_le, ◌||◌}
use Rattle.std.proofs.lemmas.List.{append-nil}
use Rattle.connection_info.specs.declared.address.ConnectionInfo.{ConnectionInfo}
use Rattle.driver_model.specs.declared.action.Action.{Action}
use Rattle.driver_model.specs.declared.config.Config.{Config}
use Rattle.driver_model.specs.declared.event.Event.{Event}
use Rattle.driver_model.specs.declared.outcome.Outcome.{Outcome}
use Rattle.single_session.specs.declared.showing.Done.{Done}
use Rattle.single_session.specs.declared.core_state.Core.{Core}
use Rattle.containers.proofs.Choices.{chosen, not_le_test}
use Rattle.driver_model.specs.declared.event.EventKind.{EventKind}
use Rattle.driver_model.specs.declared.event.EventKind.TheVariants as event
use Rattle.driver_model.specs.declared.event.Submission.{Submission}
use Rattle.manager_config.specs.declared.config.ConnectionManagerConfig.{ConnectionManagerConfig}
use Rattle.driver_model.specs.Config.{address, connect_timeout, manager_of, is_lazy, first_fault}
use Rattle.driver_model.proofs.Sound.{grows}
use Rattle.driver_model.specs.Kind.{has_timeouts}
use Rattle.driver_model.specs.Request.{packed_bytes, lacks_resp3}
use Rattle.mux_conn.specs.declared.request.Pending.{Pending}
use Rattle.mux_conn.specs.declared.act.LinkAct.{LinkAct}
use Rattle.mux_conn.specs.declared.act.LinkAct.TheVariants as act
use Rattle.driver_model.specs.declared.action.Action.TheVariants as action
use Rattle.driver_model.specs.declared.action.Owner.TheVariants as owner
use Rattle.driver_model.specs.declared.action.Purpose.{Purpose}
use Rattle.driver_model.specs.declared.action.Purpose.TheVariants as purpose
use Rattle.driver_model.specs.declared.action.Cause.TheVariants as cause
use Rattle.single_session.specs.declared.generations.Comeback.{Comeback}
use Rattle.single_session.specs.declared.generations.Comeback.TheVariants as comeback
use Rattle.single_session.specs.declared.generations.Generations.{Generations}
use Rattle.single_session.specs.Generations.{has_ended, heeding, connect_timed, comeback_shown_in, IsCounted, HasFraction}
use Rattle.single_session.specs.Turn.{Turning, counted, heard, submitted, left_by, late_by, fired_by, requested, passed_by, flushed_on, flushed_apart, come_back_behind, numbered, own_part, ended_apart, next_turn, comeback_by, last_acts, shown_each, shown_behind, return_shown, effects_of, actions_of, is_bad, has_run_out, spends, IsFewer}
use Rattle.single_session.specs.Done.{done_each, put_each}
use Rattle.single_session.specs.Replay.{connect_timers, connect_asked, begun_as, single_core, as_managed, opening_core, opening_actions, run_on, state_after, turns_on, trace_of, with_room, told_each, outcomes_in, AreGood, AreGoodOn, AreUnspent, AreUnspentOn, is_bad_after, is_spent_after}
use Rattle.single_session.proofs.Quiet.{AreQuiet, apart_quiet, none_done}
use Rattle.single_session.proofs.Comebacks.{came_kept, same_fraction}
use Rattle.single_session.proofs.Spent.{turn_settings}

run_on-more : (c : Core) (es : List Event) (e : Event) → run_on c (es ++ e ∷ []) ≡ (next_turn (run_on c es) e.kind).core
run_on-more c [] e = refl
run_on-more c (d ∷ es) e = run_on-more (next_turn c d.kind).core es e

pub state_after-more : (config : Config) (word : ℕ) (es : List Event) (e : Event) → state_after config word (es ++ e ∷ []) ≡ (next_turn (state_after config word es) e.kind).core
unfolding state_after
state_after-more config word es e = run_on-more (opening_core config word) es e

pub state_after-none : (config : Config) (word : ℕ) → state_after config word [] ≡ opening_core config word
unfolding state_after
state_after-none config word = refl

turns_on-more : (c : Core) (es : List Event) (e : Event) → turns_on c (es ++ e ∷ []) ≡ turns_on c es ++ actions_of (run_on c es) e
turns_on-more c [] e = append-nil (actions_of c e)
turns_on-more c (d ∷ es) e = ap (λ (acts : List Action). actions_of c d ++ acts) (turns_on-more (next_turn c d.kind).core es e) ∙ sym (append_assoc (actions_of c d) _ _)

pub trace_of-none : (config : Config) (word : ℕ) → trace_of config word [] ≡ opening_actions config word
unfolding trace_of
trace_of-none config word = append-nil (opening_actions config word)

pub trace_of-more : (config : Config) (word : ℕ) (es : List Event) (e : Event) → trace_of config word (es ++ e ∷ []) ≡ trace_of config word es ++ actions_of (state_after config word es) e
unfolding trace_of state_after
trace_of-more config word es e =
    ap (λ (acts : List Action). opening_actions config word ++ acts) (turns_on-more (opening_core config word) es e)
    ∙ sym (append_assoc (opening_actions config word) (turns_on (opening_core config word) es) _)

told_append : (os : List (Option Outcome)) (s t : List Action) → told_each os (s ++ t) ≡ told_each (told_each os s) t
told_append os [] t = refl
told_append os (a ∷ s) t = told_append _ s t

-- the acts of a turn tell the outcomes that were kept
told_shown : (link : ℕ) (acts : List LinkAct) (os : List (Option Outcome)) (timers sources : ℕ) → told_each os (shown_each link timers sources acts) ≡ put_each os (done_each acts)
told_shown link [] os t c = refl
told_shown link (act.Outcome n o ∷ more) os t c = told_shown link more _ _ _
told_shown link (act.Created e ∷ more) os t c = told_shown link more os _ _
told_shown link (act.Round n ∷ more) os t c = told_shown link more os _ _
told_shown link (act.Took n count ∷ more) os t c = told_shown link more os _ _
told_shown link (act.Timer n ms ∷ more) os t c = told_shown link more os _ _
told_shown link (act.RenewalTimer k ms ∷ more) os t c = told_shown link more os _ _
told_shown link (act.RepeatTimer ms ∷ more) os t c = told_shown link more os _ _
told_shown link (act.NeedCreds ∷ more) os t c = told_shown link more os _ _
told_shown link (act.NeedRenewals ∷ more) os t c = told_shown link more os _ _
told_shown link (act.Renewed message need len ∷ more) os t c = told_shown link more os _ _
told_shown link (act.Repeated message need len ∷ more) os t c = told_shown link more os _ _
told_shown link (act.Watch message need len ∷ more) os t c = told_shown link more os _ _
told_shown link (act.Push info ∷ more) os t c = told_shown link more os _ _
told_shown link (act.Message m ∷ more) os t c = told_shown link more os _ _
told_shown link (act.Monitor v ∷ more) os t c = told_shown link more os _ _
told_shown link (act.Close ∷ more) os t c = told_shown link more os _ _
told_shown link (act.Write bytes ∷ more) os t c = told_shown link more os _ _
told_shown link (act.Wait n kind ∷ more) os t c = told_shown link more os _ _
told_shown link (act.Start message n need len ∷ more) os t c = told_shown link more os _ _
told_shown link (act.SetUp message need len ∷ more) os t c = told_shown link more os _ _

-- the connect and its timer tell no outcome
told_asked : (info : Option ConnectionInfo) (timeout : Option ℕ) → told_each [] (connect_asked info timeout) ≡ []
told_asked None timeout = refl
told_asked (Some info) None = refl
told_asked (Some info) (Some ms) = refl

-- and so it is with the beginning of a generation, and with a creation at once
told_begun : (manager : Option ConnectionManagerConfig) (lazy : Bool) (info : Option ConnectionInfo) (timeout : Option ℕ) → told_each [] (begun_as manager lazy (connect_asked info timeout)) ≡ []
told_begun None lazy info timeout = told_asked info timeout
told_begun (Some s) false info timeout = told_asked info timeout
told_begun (Some s) true info timeout = refl

pub outcomes-none : (config : Config) (word : ℕ) → outcomes_in (trace_of config word []) ≡ []
unfolding outcomes_in
outcomes-none config word = ap (λ (t : List Action). told_each [] t) (trace_of-none config word) ∙ told_begun (manager_of config) (is_lazy config) (address config) (connect_timeout config)

-- what a manager does of its own tells no outcome
told_timed : (l timer : ℕ) (bound : Option ℕ) (os : List (Option Outcome)) → told_each os (connect_timed l timer bound) ≡ os
told_timed l timer None os = refl
told_timed l timer (Some ms) os = refl

told_own : (m : Option Generations) (word : ℕ) (what : Comeback) (os : List (Option Outcome)) → told_each os (comeback_shown_in m word what) ≡ os
told_own None word what os = refl
told_own (Some g) word comeback.Stays os = refl
told_own (Some g) word (comeback.Rests n a t) os = refl
told_own (Some g) word (comeback.Dials l None t) os = told_timed l t g.settings.connection.connection_timeout os
told_own (Some g) word (comeback.Dials l (Some n) t) os = told_timed l t g.settings.connection.connection_timeout os

-- nor do the acts behind that
told_return : (c : Core) (word : ℕ) (what : Comeback) (acts : List LinkAct) (os : List (Option Outcome)) → AreQuiet acts → told_each os (return_shown c word what acts) ≡ os
told_return c word what acts os quiet =
    told_append os (comeback_shown_in c.manager word what) (shown_behind c acts)
    ∙ ap (λ (ps : List (Option Outcome)). told_each ps (shown_behind c acts)) (told_own c.manager word what os)
    ∙ told_shown c.single.link acts os (length c.timers) (length c.sources)
    ∙ ap (λ ds. put_each os ds) (none_done acts quiet)

-- the last acts of a turn are bytes and waits
pub last_quiet : (c : Core) (kind : EventKind) → AreQuiet (last_acts c kind)
unfolding last_acts
last_quiet c kind =
    let behind = come_back_behind (numbered (passed_by (counted c) kind)) (has_ended c.single.connection.life) kind in
    chosen AreQuiet (is_some c.manager) (flushed_apart behind).acts [] (λ managed. apart_quiet behind) (λ single. tt)

-- so the effects of a turn tell the outcomes of its acts
told_effects : (c : Core) (e : Event) (os : List (Option Outcome)) → told_each os (effects_of c e) ≡ put_each os (done_each (next_turn c e.kind).acts)
told_effects c e os =
    let first = shown_each c.single.link (length c.timers) (length c.sources) (next_turn c e.kind).acts in
    let back = return_shown (next_turn c e.kind).core e.word (comeback_by c e.kind) (last_acts c e.kind) in
    let told = told_shown c.single.link (next_turn c e.kind).acts os (length c.timers) (length c.sources) in
    chosen (λ (xs : List Action). told_each os xs ≡ put_each os (done_each (next_turn c e.kind).acts)) (is_some c.manager) (first ++ back) first
    (λ _. told_append os first back ∙ told_return (next_turn c e.kind).core e.word (comeback_by c e.kind) (last_acts c e.kind) (told_each os first) (last_quiet c e.kind) ∙ told)
    (λ _. told)

-- one more turn tells its outcomes
pub outcomes-more : (config : Config) (word : ℕ) (es : List Event) (e : Event) →
    outcomes_in (trace_of config word (es ++ e ∷ [])) ≡ put_each (with_room (outcomes_in (trace_of config word es)) e.kind) (done_each (next_turn (state_after config word es) e.kind).acts)
unfolding outcomes_in
outcomes-more config word es e =
    let c = state_after config word es in
    ap (λ (t : List Action). told_each [] t) (trace_of-more config word es e) ∙ told_append [] (trace_of config word es) (actions_of c e)
    ∙ told_effects c e (with_room (told_each [] (trace_of config word es)) e.kind)

-- what an event is to the submissions leaves the number of turns
submitted_turns : (t : Turning) (what : Submission) → (submitted t what).core.turns ≡ t.core.turns
submitted_turns t what =
    chosen (λ (x : Turning). x.core.turns ≡ t.core.turns) t.core.shut _ _ (λ _. refl)
    (λ _. chosen (λ (x : Turning). x.core.turns ≡ t.core.turns) (lacks_resp3 t.core.single.connection.hears t.core.single.connection.info.protocol what) _ _ (λ _. refl)
    (λ _. chosen (λ (x : Turning). x.core.turns ≡ t.core.turns) (length (packed_bytes what) == 0) _ _ (λ _. refl) (λ _. refl)))

left_turns : (t : Turning) (slot : Option (Option Pending)) → (left_by t slot).core.turns ≡ t.core.turns
left_turns t None = refl
left_turns t (Some None) = refl
left_turns t (Some (Some p)) = refl

late_turns : (t : Turning) (slot : Option (Option Pending)) → (late_by t slot).core.turns ≡ t.core.turns
late_turns t None = refl
late_turns t (Some None) = refl
late_turns t (Some (Some p)) = refl

fired_turns : (t : Turning) (slot : Option Purpose) → (fired_by t slot).core.turns ≡ t.core.turns
fired_turns t None = refl
fired_turns t (Some (purpose.Connect l)) = refl
fired_turns t (Some (purpose.Response owner.Setup)) = refl
fired_turns t (Some (purpose.Response owner.Auth)) = refl
fired_turns t (Some (purpose.Response owner.Resub)) = refl
fired_turns t (Some (purpose.Response owner.Monitor)) = refl
fired_turns t (Some (purpose.Renewal l k)) = refl
fired_turns t (Some (purpose.Backoff g)) = refl
fired_turns t (Some (purpose.Resubscription l)) = refl
fired_turns t (Some (purpose.Response (owner.Try n round))) = late_turns t (slice_get t.core.table n)

requested_turns : (t : Turning) (kind : EventKind) → (requested t kind).core.turns ≡ t.core.turns
requested_turns t (event.Submit what) = submitted_turns t what
requested_turns t (event.Cancel n) = left_turns t (slice_get t.core.table n)
requested_turns t (event.Connected l) = refl
requested_turns t (event.Refused l f) = refl
requested_turns t (event.Fired n) = fired_turns t (slice_get t.core.timers n)
requested_turns t (event.Timeout ms) = chosen (λ (c : Core). c.turns ≡ t.core.turns) (has_timeouts t.core.kind) (record t.core { timeout = ms }) t.core (λ y. refl) (λ y. refl)
requested_turns t (event.Creds c auth) = refl
requested_turns t (event.CredsError c text) = refl
requested_turns t (event.CredsEnd c) = refl
requested_turns t (event.Wrote l count) = refl
requested_turns t (event.Bytes l piece) = refl
requested_turns t (event.Ended l) = refl
requested_turns t (event.ReadFault l kind) = refl
requested_turns t (event.WriteFault l kind) = refl
requested_turns t event.DropStream = refl
requested_turns t event.Shutdown = refl

turn_turns : (c : Core) (e : Event) → (next_turn c e.kind).core.turns ≡ c.turns + 1
unfolding next_turn
turn_turns c e =
    let t = passed_by (counted c) e.kind in
    let over = has_ended c.single.connection.life in
    let same : t.core.turns ≡ c.turns + 1 = requested_turns (heard (counted c) e.kind) e.kind in
    let n = numbered t in
    let kept = came_kept (heeding n.core e.kind n.acts) (own_part n over e.kind) in
    chosen (λ (x : Turning). x.core.turns ≡ c.turns + 1) (is_some c.manager) (ended_apart n over e.kind) (numbered (flushed_on t)) (λ _. kept.turns ∙ same) (λ _. same)

run_on_turns : (c : Core) (es : List Event) → (run_on c es).turns ≡ c.turns + length es
run_on_turns c [] = omega arith
run_on_turns c (e ∷ es) = omega (arith, run_on_turns (next_turn c e.kind).core es, turn_turns c e)

-- a fact of what was opened, as it comes back or doesn't
opened_by : (P : Core → Type 0) (manager : Option ConnectionManagerConfig) (at : Option ConnectionInfo) (lazy : Bool) (c : Core) → P c
    → ((s : ConnectionManagerConfig) (info : ConnectionInfo) → P (as_managed (Some s) (Some info) false c))
    → ((s : ConnectionManagerConfig) (info : ConnectionInfo) → P (as_managed (Some s) (Some info) true c)) → P (as_managed manager at lazy c)
opened_by P None at lazy c plain eager waits = plain
opened_by P (Some s) None lazy c plain eager waits = plain
opened_by P (Some s) (Some info) false c plain eager waits = eager s info
opened_by P (Some s) (Some info) true c plain eager waits = waits s info

of_opening : (P : Core → Type 0) (config : Config) (word : ℕ) → P (single_core config)
    → ((s : ConnectionManagerConfig) (info : ConnectionInfo) → P (as_managed (Some s) (Some info) false (single_core config)))
    → ((s : ConnectionManagerConfig) (info : ConnectionInfo) → P (as_managed (Some s) (Some info) true (single_core config))) → P (opening_core config word)
of_opening P config word plain eager waits = opened_by P (manager_of config) (address config) (is_lazy config) (single_core config) plain eager waits

-- the opening is a turn, and each event is one
pub turns_after : (config : Config) (word : ℕ) (es : List Event) → (state_after config word es).turns ≡ 1 + length es
unfolding state_after
turns_after config word es =
    let opened : (opening_core config word).turns ≡ 1 = of_opening (λ (c : Core). c.turns ≡ 1) config word refl (λ s info. refl) (λ s info. refl) in
    omega (arith, run_on_turns (opening_core config word) es, opened)

-- the state of a session that has made its opening
pub opened_is : (core : Core) (config : Config) (word : ℕ) (es : List Event) → core ≡ opening_core config word → es ≡ [] → core ≡ state_after config word es
opened_is core config word es c e = rw (e, state_after-none config word) c

-- a turn leads to where the history with its event leads
pub state_kept : (before after : Core) (config : Config) (word : ℕ) (es fs : List Event) (e : Event) →
    before ≡ state_after config word es → after ≡ (next_turn before e.kind).core → fs ≡ es ++ e ∷ [] → after ≡ state_after config word fs
state_kept before after config word es fs e b a f = rw (f, state_after-more config word es e, ← b) a

-- and so do its outcomes
pub outcomes_kept : (before : Core) (config : Config) (word : ℕ) (es fs : List Event) (e : Event) (os ps : List (Option Outcome)) (done : List Done) →
    before ≡ state_after config word es → os ≡ outcomes_in (trace_of config word es) → fs ≡ es ++ e ∷ []
    → done ≡ done_each (next_turn before e.kind).acts → ps ≡ put_each (with_room os e.kind) done → ps ≡ outcomes_in (trace_of config word fs)
outcomes_kept before config word es fs e os ps done b o f d p =
    rw (f, outcomes-more config word es e, ← b, ← o) (p ∙ ap (λ (ds : List Done). put_each (with_room os e.kind) ds) d)

-- the connection of an opening hasn't failed, and has no requests
pub fewer_opening : (core : Core) (config : Config) (word : ℕ) → core ≡ opening_core config word → IsFewer core
fewer_opening core config word c = rw c (of_opening IsFewer config word (omega arith) (λ s info. omega arith) (λ s info. omega arith))

pub sound_opening : (core : Core) (config : Config) (word : ℕ) → core ≡ opening_core config word → core.single.connection.failure ≡ None
sound_opening core config word c = rw c (of_opening (λ (x : Core). x.single.connection.failure ≡ None) config word refl (λ s info. refl) (λ s info. refl))

-- there are no more generations than links
pub counted_opening : (core : Core) (config : Config) (word : ℕ) → core ≡ opening_core config word → IsCounted core
counted_opening core config word c = rw c (of_opening IsCounted config word (omega arith) (λ s info. (omega arith, omega arith, omega arith)) (λ s info. (omega arith, omega arith, omega arith)))

pub few_kept : (before : Core) (config : Config) (word : ℕ) (es fs : List Event) (e : Event) → before ≡ state_after config word es → before.turns ≤ 2 ^ 32 - 1 → fs ≡ es ++ e ∷ [] → length fs < 2 ^ 32
few_kept before config word es fs e b t f =
    let n : before.turns ≡ 1 + length es = ap (λ (c : Core). c.turns) b ∙ turns_after config word es in
    omega (arith, n, ap length f, length-append es (e ∷ []))

-- a number for the next turn is one for the events with it
pub few_turns : (core : Core) (config : Config) (word : ℕ) (es : List Event) → core ≡ state_after config word es → length es + 1 < 2 ^ 32 → core.turns < 2 ^ 32
few_turns core config word es c few = omega (arith, few, ap (λ (x : Core). x.turns) c, turns_after config word es)

pub turns_few : (core : Core) (config : Config) (word : ℕ) (es : List Event) → core ≡ state_after config word es → core.turns < 2 ^ 32 → length es + 1 < 2 ^ 32
turns_few core config word es c few = omega (arith, few, ap (λ (x : Core). x.turns) c, turns_after config word es)

-- nor is the step spent of a turn that has a number, behind which no number has run out
pub unspent_step : (before after : Core) (config : Config) (word : ℕ) (es : List Event) (e : Event) → before ≡ state_after config word es → before.turns < 2 ^ 32 → after ≡ (next_turn before e.kind).core → has_run_out after ≡ false
    → is_spent_after config word es e ≡ false
unfolding spends
unspent_step before after config word es e b few a free =
    let low : nat_le (2 ^ 32) before.turns ≡ false = not_le_test (2 ^ 32) before.turns few in
    let left : has_run_out (next_turn before e.kind).core ≡ false = ap has_run_out (sym a) ∙ free in
    subst (λ (c : Core). spends c e ≡ false) b (λ j. low j || left j)

good_on-more : (c : Core) (es : List Event) (e : Event) → AreGoodOn c es → is_bad (run_on c es) e.kind ≡ false → AreGoodOn c (es ++ e ∷ [])
good_on-more c [] e all good = (good, tt)
good_on-more c (d ∷ es) e all good = (all.0, good_on-more (next_turn c d.kind).core es e all.1 good)

pub good-none : (config : Config) (word : ℕ) → AreGood config word []
unfolding AreGood
good-none config word = tt

pub good-more : (config : Config) (word : ℕ) (es : List Event) (e : Event) → AreGood config word es → is_bad_after config word es e ≡ false → AreGood config word (es ++ e ∷ [])
unfolding AreGood state_after
good-more config word es e all good = good_on-more (opening_core config word) es e all good

unspent_on-more : (c : Core) (es : List Event) (e : Event) → AreUnspentOn c es → spends (run_on c es) e ≡ false → AreUnspentOn c (es ++ e ∷ [])
unspent_on-more c [] e all free = (free, tt)
unspent_on-more c (d ∷ es) e all free = (all.0, unspent_on-more (next_turn c d.kind).core es e all.1 free)

pub unspent-none : (config : Config) (word : ℕ) → AreUnspent config word []
unfolding AreUnspent
unspent-none config word = tt

pub unspent-more : (config : Config) (word : ℕ) (es : List Event) (e : Event) → AreUnspent config word es → is_spent_after config word es e ≡ false → AreUnspent config word (es ++ e ∷ [])
unfolding AreUnspent state_after
unspent-more config word es e all free = unspent_on-more (opening_core config word) es e all free

-- what is shown of a turn is the effects of the history's next turn
pub shown_kept : (before : Core) (config : Config) (word : ℕ) (es : List Event) (e : Event) (old new : List Action) →
    before ≡ state_after config word es → new ≡ old ++ effects_of before e → new ≡ old ++ effects_of (state_after config word es) e
shown_kept before config word es e old new b s = rw (← b) s

-- the number of a turn is the number of the events that were then taken
pub turn_numbered : (config : Config) (word : ℕ) (es fs : List Event) (e : Event) → fs ≡ es ++ e ∷ []
    → actions_of (state_after config word es) e ≡ action.Turn (length fs) (cause.Event e) ∷ effects_of (state_after config word es) e
turn_numbered config word es fs e f =
    let n : (state_after config word es).turns ≡ length fs = omega (arith, turns_after config word es, ap length f, length-append es (e ∷ [])) in
    ap (λ (k : ℕ). action.Turn k (cause.Event e) ∷ effects_of (state_after config word es) e) n

-- the first action of a turn tells how many events are taken with it
pub line_told : (core : Core) (config : Config) (word : ℕ) (es : List Event) (e : Event) (number : ℕ) (old new : List Action) → core ≡ state_after config word es → number ≡ core.turns
    → new ≡ old ++ action.Turn number (cause.Event e) ∷ [] → new ≡ old ++ action.Turn (length es + 1) (cause.Event e) ∷ []
line_told core config word es e number old new c n t =
    let k : number ≡ length es + 1 = omega (arith, n, ap (λ (x : Core). x.turns) c, turns_after config word es) in
    t ∙ ap (λ (m : ℕ). old ++ action.Turn m (cause.Event e) ∷ []) k

-- the first action of a turn, and then its effects, are its actions
pub actions_told : (config : Config) (word : ℕ) (es : List Event) (e : Event) (old told new : List Action) → told ≡ old ++ action.Turn (length es + 1) (cause.Event e) ∷ []
    → new ≡ told ++ effects_of (state_after config word es) e → new ≡ old ++ actions_of (state_after config word es) e
actions_told config word es e old told new t s =
    let n : length es + 1 ≡ (state_after config word es).turns = omega (arith, turns_after config word es) in
    s ∙ ap (λ (acts : List Action). acts ++ effects_of (state_after config word es) e) (t ∙ ap (λ (m : ℕ). old ++ action.Turn m (cause.Event e) ∷ []) n)
    ∙ append_assoc old (action.Turn (state_after config word es).turns (cause.Event e) ∷ []) (effects_of (state_after config word es) e)

-- the opening asks for one timer at most, and for no source of credentials
few_numbers : (timeout : Option ℕ) → (nat_le (2 ^ 32) (length (connect_timers timeout)) || nat_le (2 ^ 32) 0) ≡ false
few_numbers None = refl
few_numbers (Some ms) = refl

-- no number has run out at the opening
pub unspent_opening : (core : Core) (config : Config) (word : ℕ) → core ≡ opening_core config word → has_run_out core ≡ false
unfolding has_run_out
unspent_opening core config word c =
    let few = few_numbers (connect_timeout config) in
    rw c (of_opening (λ (x : Core). has_run_out x ≡ false) config word few (λ s info. few) (λ s info. refl))

-- delays grow by a fraction, as in the opening so behind it
opened_fraction : (manager : Option ConnectionManagerConfig) (at : Option ConnectionInfo) (lazy : Bool) (c : Core) → HasFraction c.manager
    → ((s : ConnectionManagerConfig) → manager ≡ Some s → 0 < s.exponent_base.1) → HasFraction (as_managed manager at lazy c).manager
opened_fraction None at lazy c none grow = none
opened_fraction (Some s) None lazy c none grow = none
opened_fraction (Some s) (Some info) false c none grow = grow s refl
opened_fraction (Some s) (Some info) true c none grow = grow s refl

fraction_on : (c : Core) (es : List Event) → HasFraction c.manager → HasFraction (run_on c es).manager
fraction_on c [] f = f
fraction_on c (e ∷ es) f = let next = (next_turn c e.kind).core in fraction_on next es (same_fraction next.manager c.manager (turn_settings c e.kind) f)

fraction_after : (config : Config) (word : ℕ) (es : List Event) → first_fault config ≡ None → HasFraction (state_after config word es).manager
unfolding state_after
fraction_after config word es sound =
    fraction_on (opening_core config word) es (opened_fraction (manager_of config) (address config) (is_lazy config) (single_core config) tt (grows config sound))

pub fraction_kept : (core : Core) (config : Config) (word : ℕ) (es : List Event) → core ≡ state_after config word es → first_fault config ≡ None → HasFraction core.manager
fraction_kept core config word es c sound = subst (λ (x : Core). HasFraction x.manager) (sym c) (fraction_after config word es sound)
