-- A submission that is handed in on a link that is ready, and which nothing holds back, has started.
use Rattle.std.proofs.Common.{◌≡◌, ◌≢◌, ◌≤◌, ◌^◌, length-append, ℕ, ◌==◌, not, ◌||◌, Bool, true, false, List, [], ◌∷◌, ◌++◌, length, Option, Some, slice_get, if◌then◌else◌, refl, sym, ap, ◌∙◌, subst, arith, inl, inr, ◌&&◌, None, is_some}
use Rattle.std.proofs.Math.Bool.{or-false}
use Rattle.containers.proofs.Choices.{chosen, if_true, if_false, left_if, ne_test, not_both}
use Rattle.std.specs.Prelude.{nat_lt}
use Rattle.link_laws.proofs.Lists.{get_last}
use Rattle.driver_model.specs.declared.config.Config.{Config}
use Rattle.driver_model.specs.declared.event.Event.{Event}
use Rattle.driver_model.specs.declared.event.EventKind.TheVariants as event
use Rattle.driver_model.specs.declared.event.Submission.{Submission}
use Rattle.driver_model.specs.declared.outcome.Shape.{Shape}
use Rattle.driver_model.specs.Request.{packed_bytes, shape_of, is_reply_awaited, lacks_resp3}
use Rattle.redis_error.specs.declared.redis_error.RedisError.TheVariants as error
use Rattle.link_core.specs.Link.{LinkState, is_full, holds_back}
use Rattle.mux_conn.specs.declared.connection.MultiplexedConnection.{MultiplexedConnection}
use Rattle.mux_conn.specs.declared.act.LinkAct.{LinkAct}
use Rattle.connection_info.specs.Protocol.{is_resp3}
use Rattle.mux_conn.specs.declared.life.Life.{Life}
use Rattle.mux_conn.specs.declared.life.Life.TheVariants.{Ready}
use Rattle.mux_conn.specs.declared.request.Pending.{Pending}
use Rattle.mux_conn.specs.declared.request.Progress.TheVariants as progress
use Rattle.mux_conn.specs.declared.request.Request.{Request}
use Rattle.mux_conn.specs.declared.request.Waiting.{Waiting}
use Rattle.mux_conn.specs.Connection.{Work, has_no_permit, admits_none_at, admits_none, is_due, is_resting, is_used_up, work_with, is_outstanding}
use Rattle.mux_conn.specs.Requests.{if_there, is_waiting, is_waiting_at, waiting_of, asked}
use Rattle.mux_conn.specs.Passes.{started, moved_up_all, admitted_at, admitted, still_waiting, still_admitted, admitted_each, admitted_all, passed, moved_all}
use Rattle.single_session.specs.declared.core_state.Core.{Core}
use Rattle.single_session.specs.declared.generations.Comeback.{Comeback}
use Rattle.single_session.specs.declared.generations.Comeback.TheVariants as comeback
use Rattle.single_session.specs.declared.generations.Generations.{Generations}
use Rattle.single_session.specs.Generations.{came_back, comeback_in, has_cause, has_ended, heeding, is_caused, rests, wakes_in, took_requests, is_due as is_due_of}
use Rattle.single_session.specs.Turn.{Turning, pending, work_of, with_work, heard, refused_with, counted, moved_on, numbered, flushed_on, flushed_apart, ended_apart, ended_as, own_part, next_turn}
use Rattle.single_session.specs.Replay.{state_after}
use Rattle.cancel_laws.specs.Cancels.{handed_in_at, IsFree, HasStarted}
use Rattle.conn_laws.proofs.Changes.Rest.{IsThrough, IsStartedOn, IsIdle, started_stays, none_moved_up, said_stays}
use Rattle.cancel_laws.proofs.Ready.{IsNamed}
use Rattle.cancel_laws.proofs.Cancels.{state_split, named_after}
use Rattle.conn_laws.proofs.Changes.Free.{HasEmptied, IsStarted, admitted_starts, all_flushed, all_rounds_started, all_rounds_waiting}

-- so has its submission
has_started : (n : ℕ) (c : Core) (p : Pending) → slice_get c.table n ≡ Some (Some p) → length c.table ≤ 2 ^ 32 → IsStarted p.number c.single.connection → HasStarted n c
has_started n c p there numbered h = record { pending = p; there = there; request = h.request; known = h.known; placed = h.placed; link = h.link; up = h.up; gone = h.gone; numbered = numbered }

-- a list with items has some
no_bytes : (xs : List ℕ) → xs ≢ [] → (length xs == 0) ≡ false
no_bytes [] some = absurd (some refl)
no_bytes (x ∷ xs) some = ne_test (length (x ∷ xs)) 0 (λ e. omega arith)

-- its place
--
-- so has one that comes where nobody waits
asked_starts : (c : MultiplexedConnection) (name : ℕ) (packed : List ℕ) (shape : Shape) (timeout : Option ℕ) (l : LinkState) → IsIdle c → c.life ≡ Ready l → holds_back l ≡ false → is_full l ≡ false → is_outstanding c.again ≡ false → has_no_permit c.limit c.free ≡ false
    → HasEmptied (length c.requests) (passed (record { conn = asked c name packed shape true timeout; acts = [] })).conn
asked_starts c name packed shape timeout l idle up goes room serves permit =
    let p = length c.requests in
    let x : Request = record { name = name; progress = progress.Waiting; permits = 0 } in
    let q = waiting_of p packed shape true timeout in
    let w : Work = record { conn = asked c name packed shape true timeout; acts = [] } in
    let v = still_waiting w [] in
    let m = idle.written.moved in
    let known : slice_get w.conn.requests p ≡ Some x = get_last c.requests x in
    let through : IsStartedOn c.renewal c.again (Ready l) = subst (IsStartedOn c.renewal c.again) up m.seated.through in
    let none : l.queue ≡ [] = queue_empty l through.queue goes in
    let undue : is_due c.renewal ≡ false = none_due (is_due c.renewal) (λ t. not_both (holds_back l) goes (through.renewed t).1) in
    let moves : admits_none c ≡ false = ap (λ (life : Life). admits_none_at life (is_outstanding c.again || has_no_permit c.limit c.free)) up ∙ (λ i. serves i || permit i) in
    let alone : IsStarted p (admitted v q).conn =
    if_true (λ (z : Work). IsStarted p z.conn) (is_waiting_at w.conn.requests p) (admitted_at v q v.conn.life) v (ap (if_there is_waiting) known) (admitted_starts v q l x known up none goes room undue refl) in
    let last : IsStarted p (still_waiting (admitted v q) []).conn = record { request = alone.request; known = alone.known; placed = alone.placed; link = alone.link; up = alone.up; gone = alone.gone } in
    let one : HasEmptied p (admitted_each v (q ∷ [])).conn = if_false (λ (z : Work). HasEmptied p z.conn) (admits_none c) (still_waiting v (q ∷ [])) (still_waiting (admitted v q) []) moves (last, refl) in
    let all : HasEmptied p (admitted_all w).conn = subst (λ (qs : List Waiting). HasEmptied p (admitted_each v (qs ++ q ∷ [])).conn) (sym (m.waiting moves)) one in
    let moved : HasEmptied p (moved_all w).conn =
    subst (λ (z : Work). HasEmptied p z.conn)
    (sym (ap (λ (z : Work). admitted_all (moved_up_all (started z))) (said_stays w m.seated.through.repeated m.seated.through.renewed)
    ∙ ap (λ (z : Work). admitted_all (moved_up_all z)) (started_stays w c.life refl m.seated.through.queue) ∙ ap admitted_all (none_moved_up (still_admitted w []) c.admitted m.seated.admitted))) all in
    (all_rounds_started p (moved_all w) moved.0, all_rounds_waiting (moved_all w) ∙ moved.1)
  where
    queue_empty : (l : LinkState) → IsThrough l → holds_back l ≡ false → l.queue ≡ []
    queue_empty l (inl e) f = e
    queue_empty l (inr t) f = absurd (not_both (holds_back l) f t)

    none_due : (b : Bool) → (b ≡ true → ⊥) → b ≡ false
    none_due true f = absurd (f refl)
    none_due false f = refl

-- a manager whose link is set up, and for which nobody waits, does nothing of its own
--
-- no generation is to begin
none_due : (g : Generations) (over : Bool) (c : MultiplexedConnection) (acts : List LinkAct) (l : LinkState) → c.life ≡ Ready l → c.waiting ≡ [] → is_due_of g over c acts ≡ false
none_due g over c acts l up none =
    ap (λ (b : Bool). not g.halted && b)
    (chosen (λ (b : Bool). b ≡ false) (g.number == 0) (not (length c.waiting == 0)) (is_caused over c acts)
    (λ z. ap (λ (ws : List Waiting). not (length ws == 0)) none)
    (λ n. ap (λ (life : Life). has_ended life && (((not over && took_requests c) && is_resp3 c.info.protocol) || has_cause c.opened acts)) up))
    ∙ never (not g.halted)
  where
    never : (p : Bool) → (p && false) ≡ false
    never true = refl
    never false = refl

-- nor anything else, unless its wait is over
ready_stays : (m : Option Generations) (over : Bool) (c : Core) (acts : List LinkAct) (l : LinkState) → c.single.connection.life ≡ Ready l → c.single.connection.waiting ≡ [] → comeback_in m false over c acts ≡ comeback.Stays
ready_stays None over c acts l up none = refl
ready_stays (Some g) over c acts l up none =
    chosen (λ (x : Comeback). x ≡ comeback.Stays) (is_used_up c.single.connection) comeback.Stays _ (λ t. refl)
    (λ f. left_if (rests c) _ _ (ap (λ (life : Life). is_resting life && nat_lt c.single.link c.links) up)
    ∙ chosen (λ (x : Comeback). x ≡ comeback.Stays) c.shut comeback.Stays _ (λ t. refl) (λ g1. left_if (is_due_of g over c.single.connection acts) _ comeback.Stays (none_due g over c.single.connection acts l up none)))

-- a submission ends no wait
not_woken : (m : Option Generations) (s : Submission) → wakes_in m (event.Submit s) ≡ false
not_woken None s = refl
not_woken (Some g) s = refl

-- and its submission
turn_starts : (c : Core) (s : Submission) → packed_bytes s ≢ [] → is_reply_awaited s ≡ true → IsNamed c → IsFree c → lacks_resp3 c.single.connection.hears c.single.connection.info.protocol s ≡ false → HasStarted (length c.table) (next_turn c (event.Submit s)).core
unfolding next_turn
turn_starts c s some awaited ready free spoken =
    let n = length c.table in
    let conn = c.single.connection in
    let p = length conn.requests in
    let over = has_ended conn.life in
    let t = heard (counted c) (event.Submit s) in
    let asks : Bool → Turning = λ b. record t {
      core = record t.core { table = c.table ++ Some (pending p) ∷ []; single = record c.single { connection = asked conn n (packed_bytes s) (shape_of s) b c.timeout } };
    } in
    let ends : Turning → Turning = λ x. ended_as (is_some c.manager) (with_work x (passed (work_of x))) over (event.Submit s) in
    let sits = asked_starts conn n (packed_bytes s) (shape_of s) c.timeout free.link ready.idle free.ready free.goes free.room free.serves free.permit in
    let few : length (c.table ++ Some (pending p) ∷ []) ≤ 2 ^ 32 = omega (arith, free.numbered, length-append c.table (Some (pending p) ∷ [])) in
    let there = get_last c.table (Some (pending p)) in
    let m = numbered (with_work (asks true) (passed (work_of (asks true)))) in
    let h = heeding m.core (event.Submit s) m.acts in
    let flushes : Core → Core = λ d. record d { single = record d.single { connection = (flushed_apart d).conn } } in
    let stays : own_part m over (event.Submit s) ≡ comeback.Stays =
    ap (λ (woken : Bool). comeback_in h.manager woken over h m.acts) (not_woken m.core.manager s) ∙ ready_stays h.manager over h m.acts sits.0.link sits.0.up sits.1 in
    let done : HasStarted n (ends (asks true)).core =
    chosen (λ (x : Turning). HasStarted n x.core) (is_some c.manager) (ended_apart m over (event.Submit s)) (numbered (flushed_on (with_work (asks true) (passed (work_of (asks true))))))
    (λ g. subst (λ (d : Core). HasStarted n (flushes d)) (sym (ap (came_back h) stays)) (has_started n (flushes h) (pending p) there few (all_flushed p (work_with h.single.connection []) sits.0)))
    (λ g. has_started n (numbered (moved_on (asks true))).core (pending p) there few (all_flushed p (passed (work_of (asks true))) sits.0)) in
    let own : HasStarted n (ends (asks (is_reply_awaited s))).core = subst (λ (b : Bool). HasStarted n (ends (asks b)).core) (sym awaited) done in
    let packed = if length (packed_bytes s) == 0 then refused_with t error.EmptyCommand else asks (is_reply_awaited s) in
    if_false (λ (x : Turning). HasStarted n (ends x).core) (c.shut || false) _ (if lacks_resp3 conn.hears conn.info.protocol s then refused_with t error.Resp3Required else packed) (or-false c.shut ∙ free.unshut)
    (if_false (λ (x : Turning). HasStarted n (ends x).core) (lacks_resp3 conn.hears conn.info.protocol s) _ packed spoken
    (if_false (λ (x : Turning). HasStarted n (ends x).core) (length (packed_bytes s) == 0) _ (asks (is_reply_awaited s)) (no_bytes (packed_bytes s) some) own))

-- whatever came before
pub free_started : (config : Config) (word draw : ℕ) (before : List Event) (s : Submission) → packed_bytes s ≢ [] → is_reply_awaited s ≡ true → IsFree (state_after config word before)
    → (let c = (state_after config word before).single.connection in lacks_resp3 c.hears c.info.protocol s ≡ false)
    → HasStarted (length (state_after config word before).table) (state_after config word (before ++ handed_in_at draw s ∷ []))
free_started config word draw before s some awaited free spoken =
    let c = state_after config word before in
    subst (HasStarted (length c.table)) (sym (state_split config word before (handed_in_at draw s ∷ []))) (turn_starts c s some awaited (named_after config word before) free spoken)
