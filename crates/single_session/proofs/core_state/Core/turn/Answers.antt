use Rattle.std.proofs.Common.{◌≡◌, ◌+◌, ◌^◌, ◌<◌, List, [], Bool, true, false, sym, ap, subst, ◌∙◌}
use Rattle.std.specs.Prelude.{is_some}
use Rattle.driver_model.specs.declared.event.EventKind.{EventKind}
use Rattle.mux_conn.specs.declared.act.LinkAct.{LinkAct}
use Rattle.mux_conn.specs.declared.errors.ConnectionError.TheVariants.{Spent}
use Rattle.mux_conn.specs.Connection.{is_used_up}
use Rattle.single_session.specs.declared.core_state.Core.{Core}
use Rattle.single_session.specs.declared.generations.Comeback.{Comeback}
use Rattle.single_session.specs.Generations.{has_ended, bound_of, IsCounted, IsShowable}
use Rattle.single_session.specs.Turn.{Turning, turning_with, counted, passed_by, ended_as, comeback_as, last_as, next_turn, comeback_by, last_acts, has_run_out}
use Rattle.single_session.proofs.Within.{bad_counted}
use Rattle.single_session.proofs.Spent.{has_room, room_left, same_error, passed_same, counted_passed, counted_turn, few_in_turn, few_sources_in_turn, spent_next, showable_turn}
use Rattle.single_session.proofs.core_state.Core.turn.Goals as goal

-- a turn begins without acts
begins : (c : Core) (acts : List LinkAct) (kind : EventKind) → acts ≡ [] → passed_by (turning_with (record c { turns = c.turns + 1 }) acts) kind ≡ passed_by (counted c) kind
begins c acts kind none = ap (λ (xs : List LinkAct). passed_by (turning_with (record c { turns = c.turns + 1 }) xs) kind) none

-- what the moved requests leave behind
abbrev Ran : Core → Core → EventKind → List LinkAct → Type 0
Ran c d kind acts = ◌≡◌ {A = Turning} (turning_with d acts) (passed_by (counted c) kind)

manager_ran : (c d : Core) (kind : EventKind) (acts : List LinkAct) → Ran c d kind acts → is_some d.manager ≡ is_some c.manager
manager_ran c d kind acts ran = ap (λ (t : Turning). is_some t.core.manager) ran ∙ ap is_some (passed_same (counted c) kind).manager

links_ran : (c d : Core) (kind : EventKind) (acts : List LinkAct) → Ran c d kind acts → d.links ≡ c.links
links_ran c d kind acts ran = ap (λ (t : Turning). t.core.links) ran ∙ (passed_same (counted c) kind).links

counted_ran : (c d : Core) (kind : EventKind) (acts : List LinkAct) → Ran c d kind acts → IsCounted c → IsCounted d
counted_ran c d kind acts ran few = subst (λ (t : Turning). IsCounted t.core) (sym ran) (counted_passed (counted c) kind few)

-- the end of the turn of a manager, or of another session
ends_as : {X : Type 0} (f : Bool → Turning → Bool → EventKind → X) (c d : Core) (kind : EventKind) (acts : List LinkAct) (over : Bool) → Ran c d kind acts → over ≡ has_ended c.single.connection.life
    → f (is_some d.manager) (turning_with d acts) over kind ≡ f (is_some c.manager) (passed_by (counted c) kind) (has_ended c.single.connection.life) kind
ends_as f c d kind acts over ran same =
    ap (λ b. f b (turning_with d acts) over kind) (manager_ran c d kind acts ran)
    ∙ ap (λ (t : Turning). f (is_some c.manager) t over kind) ran
    ∙ ap (λ o. f (is_some c.manager) (passed_by (counted c) kind) o kind) same

turn_is : (c d e : Core) (kind : EventKind) (acts more : List LinkAct) (over : Bool) → Ran c d kind acts → over ≡ has_ended c.single.connection.life → ◌≡◌ {A = Turning} (turning_with e more) (ended_as (is_some d.manager) (turning_with d acts) over kind)
    → turning_with e more ≡ next_turn c kind
unfolding next_turn
turn_is c d e kind acts more over ran same ended = ended ∙ ends_as ended_as c d kind acts over ran same

comeback_is : (c d : Core) (kind : EventKind) (acts : List LinkAct) (over : Bool) (what : Comeback) → Ran c d kind acts → over ≡ has_ended c.single.connection.life → what ≡ comeback_as (is_some d.manager) (turning_with d acts) over kind → what ≡ comeback_by c kind
unfolding comeback_by
comeback_is c d kind acts over what ran same chosen = chosen ∙ ends_as comeback_as c d kind acts over ran same

last_is : (c d : Core) (kind : EventKind) (acts rest : List LinkAct) (over : Bool) → Ran c d kind acts → over ≡ has_ended c.single.connection.life → rest ≡ last_as (is_some d.manager) (turning_with d acts) over kind → rest ≡ last_acts c kind
unfolding last_acts
last_is c d kind acts rest over ran same shown = shown ∙ ends_as last_as c d kind acts over ran same

shown_with : (c e : Core) (kind : EventKind) (more : List LinkAct) (what : Comeback) → ◌≡◌ {A = Turning} (turning_with e more) (next_turn c kind) → what ≡ comeback_by c kind → IsCounted c → has_run_out e ≡ false → IsShowable (bound_of e.manager) what
shown_with c e kind more what whole is few free =
    subst (λ (t : Turning). IsShowable (bound_of t.core.manager) what) (sym whole)
    (subst (IsShowable (bound_of (next_turn c kind).core.manager)) (sym is) (showable_turn c kind few (subst (λ (t : Turning). has_run_out t.core ≡ false) whole free)))

pub run-requires-clause-good : goal.run-requires-clause-good
run-requires-clause-good c = bad_counted c.args.self.now (c.args.self.now.turns + 1) c.args.event.now ∙ c.requires.good

pub run-requires-clause-few : goal.run-requires-clause-few
run-requires-clause-few c = room_left c.args.self.now c.requires.room

pub end_either-requires-clause-counted : goal.end_either-requires-clause-counted
end_either-requires-clause-counted c =
    counted_ran c.args.self.now c.run.new.self c.args.event.now c.run.new.acts.items (c.in-Ok.ensures.turning ∙ begins c.args.self.now c.args.acts.now.items c.args.event.now c.requires.none) c.requires.counted

pub end_either-requires-clause-links : goal.end_either-requires-clause-links
end_either-requires-clause-links c =
    subst (λ n. n < 2 ^ 32) (sym (links_ran c.args.self.now c.run.new.self c.args.event.now c.run.new.acts.items (c.in-Ok.ensures.turning ∙ begins c.args.self.now c.args.acts.now.items c.args.event.now c.requires.none)))
    (has_room c.args.self.now c.requires.room).links

pub returns-in-Err-clause-spent : goal.returns-in-Err-clause-spent
returns-in-Err-clause-spent c is =
    spent_next c.args.self.now c.args.event.now (subst (λ (t : Turning). is_used_up t.core.single.connection ≡ true) (begins c.args.self.now c.args.acts.now.items c.args.event.now c.requires.none) (c.in-Err.ensures.spent (same_error c.in-Err.error Spent is)))

pub returns-in-Err-end_either-clause-spent : goal.returns-in-Err-end_either-clause-spent
returns-in-Err-end_either-clause-spent c is = absurd (c.in-Err-end_either.ensures.unspent is)

pub returns-then-is_spent-clause-spent : goal.returns-then-is_spent-clause-spent
returns-then-is_spent-clause-spent c is =
    let ran = c.in-Ok.ensures.turning ∙ begins c.args.self.now c.args.acts.now.items c.args.event.now c.requires.none in
    let whole = turn_is c.args.self.now c.run.new.self c.end_either.new.self c.args.event.now c.run.new.acts.items c.end_either.new.acts.items c.has_ended-over.result ran c.has_ended-over.ensures c.in-Ok-end_either.ensures.turning in
    subst (λ (t : Turning). has_run_out t.core ≡ true) whole (sym c.is_spent.ensures ∙ c.if-is_spent.true)

pub returns-clause-turning : goal.returns-clause-turning
returns-clause-turning c =
    let ran = c.in-Ok.ensures.turning ∙ begins c.args.self.now c.args.acts.now.items c.args.event.now c.requires.none in
    turn_is c.args.self.now c.run.new.self c.end_either.new.self c.args.event.now c.run.new.acts.items c.end_either.new.acts.items c.has_ended-over.result ran c.has_ended-over.ensures c.in-Ok-end_either.ensures.turning

pub returns-clause-comeback : goal.returns-clause-comeback
returns-clause-comeback c =
    let ran = c.in-Ok.ensures.turning ∙ begins c.args.self.now c.args.acts.now.items c.args.event.now c.requires.none in
    comeback_is c.args.self.now c.run.new.self c.args.event.now c.run.new.acts.items c.has_ended-over.result c.in-Ok-end_either.comeback ran c.has_ended-over.ensures c.in-Ok-end_either.ensures.comeback

pub returns-clause-rest : goal.returns-clause-rest
returns-clause-rest c =
    let ran = c.in-Ok.ensures.turning ∙ begins c.args.self.now c.args.acts.now.items c.args.event.now c.requires.none in
    last_is c.args.self.now c.run.new.self c.args.event.now c.run.new.acts.items c.end_either.new.rest.items c.has_ended-over.result ran c.has_ended-over.ensures c.in-Ok-end_either.ensures.rest

pub returns-clause-timers : goal.returns-clause-timers
returns-clause-timers c =
    let ran = c.in-Ok.ensures.turning ∙ begins c.args.self.now c.args.acts.now.items c.args.event.now c.requires.none in
    let whole = turn_is c.args.self.now c.run.new.self c.end_either.new.self c.args.event.now c.run.new.acts.items c.end_either.new.acts.items c.has_ended-over.result ran c.has_ended-over.ensures c.in-Ok-end_either.ensures.turning in
    few_in_turn c.args.self.now c.end_either.new.self c.args.event.now c.end_either.new.acts.items whole (sym c.is_spent.ensures ∙ c.if-is_spent.false)

pub returns-clause-sources : goal.returns-clause-sources
returns-clause-sources c =
    let ran = c.in-Ok.ensures.turning ∙ begins c.args.self.now c.args.acts.now.items c.args.event.now c.requires.none in
    let whole = turn_is c.args.self.now c.run.new.self c.end_either.new.self c.args.event.now c.run.new.acts.items c.end_either.new.acts.items c.has_ended-over.result ran c.has_ended-over.ensures c.in-Ok-end_either.ensures.turning in
    few_sources_in_turn c.args.self.now c.end_either.new.self c.args.event.now c.end_either.new.acts.items whole (sym c.is_spent.ensures ∙ c.if-is_spent.false)

pub returns-clause-showable : goal.returns-clause-showable
returns-clause-showable c =
    let ran = c.in-Ok.ensures.turning ∙ begins c.args.self.now c.args.acts.now.items c.args.event.now c.requires.none in
    let whole = turn_is c.args.self.now c.run.new.self c.end_either.new.self c.args.event.now c.run.new.acts.items c.end_either.new.acts.items c.has_ended-over.result ran c.has_ended-over.ensures c.in-Ok-end_either.ensures.turning in
    let what = comeback_is c.args.self.now c.run.new.self c.args.event.now c.run.new.acts.items c.has_ended-over.result c.in-Ok-end_either.comeback ran c.has_ended-over.ensures c.in-Ok-end_either.ensures.comeback in
    let free : has_run_out c.end_either.new.self ≡ false = sym c.is_spent.ensures ∙ c.if-is_spent.false in
    shown_with c.args.self.now c.end_either.new.self c.args.event.now c.end_either.new.acts.items c.in-Ok-end_either.comeback whole what c.requires.counted free

pub returns-clause-counted : goal.returns-clause-counted
returns-clause-counted c =
    let ran = c.in-Ok.ensures.turning ∙ begins c.args.self.now c.args.acts.now.items c.args.event.now c.requires.none in
    let whole = turn_is c.args.self.now c.run.new.self c.end_either.new.self c.args.event.now c.run.new.acts.items c.end_either.new.acts.items c.has_ended-over.result ran c.has_ended-over.ensures c.in-Ok-end_either.ensures.turning in
    subst (λ (t : Turning). IsCounted t.core) (sym whole) (counted_turn c.args.self.now c.args.event.now c.requires.counted)
