-- A turn of a manager in which a number runs out: the session stays tied to its book.
use Rattle.std.proofs.Common.{◌≡◌, inl, inr, ℕ, ◌^◌, ◌<◌, nat_le, true, false, ◌||◌, List, [], ◌∷◌, ◌++◌, length, Some, None, refl, sym, ap, ◌∙◌, subst, arith}
use Rattle.std.proofs.lemmas.List.{append-nil}
use Rattle.containers.proofs.Choices.{by_test, left_if, not_both, taken_if}
use Rattle.redis_error.specs.declared.redis_error.RedisError.{RedisError}
use Rattle.driver_model.specs.declared.action.Action.{Action}
use Rattle.driver_model.specs.declared.event.Event.{Event}
use Rattle.link_core.specs.Link.{LinkState}
use Rattle.mux_conn.specs.Connection.{Work, is_due, is_ready, is_resting, is_spent_in, is_used_up, work_with}
use Rattle.mux_conn.specs.Requests.{is_admitted_at, is_open_at, is_waiting_at}
use Rattle.mux_conn.specs.Turn.{flushed, fresh_each_shown, fresh_shown, wait_shown, waits_shown, written_at, waits_for}
use Rattle.link_laws.specs.Settles.{awaited_ids}
use Rattle.mux_conn.specs.declared.connection.MultiplexedConnection.{MultiplexedConnection}
use Rattle.mux_conn.specs.declared.life.Life.{Life}
use Rattle.mux_conn.specs.declared.life.Life.TheVariants.{Resting, Dialing, Wanting, SettingUp, Ready, Ended}
use Rattle.single_session.specs.declared.core_state.Core.{Core}
use Rattle.single_session.specs.declared.generations.Comeback.{Comeback}
use Rattle.single_session.specs.declared.generations.Comeback.TheVariants as comeback
use Rattle.single_session.specs.declared.generations.Generations.{Generations}
use Rattle.single_session.specs.Generations.{came_back, comeback_shown, heeded, heeding}
use Rattle.single_session.specs.Turn.{Turning, actions_of, counted, effect, flushed_apart, is_bad, next_turn, numbered, passed_by, shown_behind, shown_each}
use Rattle.legal_trace.specs.Book.{Book, blank_book, book}
use Rattle.legal_trace.specs.Legal.{AllStand}
use Rattle.conn_laws.proofs.Ties.Ahead.{admitted_open}
use Rattle.conn_laws.proofs.Changes.Requests.{waiting_open}
use Rattle.session_laws.proofs.Turn.Announce.{turn_of}
use Rattle.session_laws.proofs.Managers.Comes.{live_comes}
use Rattle.session_laws.proofs.Turn.Effects.{effect_holds}
use Rattle.session_laws.proofs.Managers.Manage.{HasHeard, none_open_over, stays_returned}
use Rattle.conn_laws.proofs.Ties.Numbers.{IsIn}
use Rattle.session_laws.proofs.Managers.Return as return
use Rattle.conn_laws.proofs.Requests.Rounded.{rounds_down}
use Rattle.conn_laws.proofs.Requests.Settled.{unmoved}
use Rattle.session_laws.proofs.Requests.Settled.{IsBetween, applied_moved}
use Rattle.session_laws.proofs.Ties.States.{HasApplied, HasRetired}
use Rattle.conn_laws.proofs.Links.Server.{NoneRenewed, TiedRenewal}
use Rattle.conn_laws.proofs.Ties.Tied.{has_ended, link_in}
use Rattle.session_laws.proofs.Ties.Tied.{Tied, inner, relined}
use Rattle.session_laws.proofs.Ties.Ordered.{IsOrderedBy}
use Rattle.session_laws.proofs.Managers.Turns.{comes, heard_so, made, retired_same}
use Rattle.session_laws.proofs.Managers.Whole.{managed_between, managed_core, managed_trace, what_of}
use Rattle.conn_laws.proofs.Internal.Serving.{unready_serves}

-- so the session is behind a turn, whether a number ran out in it or not
pub record IsTied (before : List Action) (c : Core) : Type 0 where
  pub started : List ℕ
  pub tied : Tied (book before) (inner c started)
  pub stands : AllStand blank_book before
  pub renewed : (link : LinkState) → c.single.connection.life ≡ Ready link → is_due c.single.connection.renewal ≡ true → c.single.connection.renewal.pending ≡ true

-- between two turns it is so
pub between_tied : (before : List Action) (c : Core) → IsBetween before c → IsTied before c
between_tied before c h = record { started = h.started; tied = h.between.sound.tied; stands = h.between.sound.stands; renewed = λ link is due. (h.between.still.renewed link is due).0 }

-- on a link that has ended
--
-- no wait is shown
none_fresh : (w : Work) (ps : List ℕ) → ((p : ℕ) → is_waiting_at w.conn.requests p ≡ false) → fresh_each_shown w ps ≡ w
none_fresh w [] none = refl
none_fresh w (p ∷ ps) none = ap (λ x. fresh_each_shown (wait_shown w p x) ps) (left_if (is_waiting_at w.conn.requests p) (Some (waits_for w.conn)) None (none p)) ∙ none_fresh w ps none

-- nor a byte
over_flushed : (k : Core) (e : RedisError) → k.single.connection.life ≡ Ended e → ((p : ℕ) → is_open_at k.single.connection.requests p ≡ true → ⊥)
    → flushed (work_with k.single.connection []) ≡ work_with (record k.single.connection { moved = []; fresh = [] }) []
over_flushed k e over closed =
    let conn = k.single.connection in
    let w = work_with conn [] in
    let v : Work = record w { conn = record conn { moved = [] } } in
    let z : Work = record v { conn = record v.conn { fresh = [] } } in
    let none_admitted : (p : ℕ) → is_admitted_at conn.requests p ≡ false = λ p. by_test (is_admitted_at conn.requests p) _ (λ a. absurd (closed p (admitted_open conn.requests p a).0)) (λ f. f) in
    let none_waits : (p : ℕ) → is_waiting_at conn.requests p ≡ false = λ p. by_test (is_waiting_at conn.requests p) _ (λ a. absurd (closed p (waiting_open conn.requests p a))) (λ f. f) in
    ap (λ (x : Life). waits_shown (written_at w x)) over
    ∙ ap fresh_shown (unmoved v conn.moved (ap (λ (x : Life). (link_in x).queue) over) none_admitted)
    ∙ none_fresh z conn.fresh none_waits

-- and the session is tied without what was to be shown
over_tied : (b : Book) (k : Core) (started : List ℕ) (e : RedisError) → k.single.connection.life ≡ Ended e → ((p : ℕ) → is_open_at k.single.connection.requests p ≡ true → ⊥) → Tied b (inner k started)
    → Tied b (inner (record k { single = record k.single { connection = record k.single.connection { moved = []; fresh = [] } } }) started)
over_tied b k started e over closed h =
    let conn = k.single.connection in
    relined b (inner k started) conn.waiting conn.admitted [] [] [] h h.lines
    (record {
      early = λ p w. absurd (closed p (waiting_open conn.requests p w));
      backoff = λ p w x. absurd (closed p (waiting_open conn.requests p w));
      connect = λ p w x. absurd (closed p (waiting_open conn.requests p w));
      creds = λ p link w x. absurd (closed p (waiting_open conn.requests p w));
      setup = λ p link u w x. absurd (closed p (waiting_open conn.requests p w));
      resubscribe = λ p link w x goes. absurd (closed p (waiting_open conn.requests p w));
      permit = λ p link w x answered. absurd (closed p (waiting_open conn.requests p w));
      place = λ p a. absurd (closed p (admitted_open conn.requests p a).0);
      room = λ p i. absurd (subst (λ (x : Life). IsIn p (awaited_ids (link_in x).queue)) over i);
      newer = omega arith;
      rising = omega arith;
      no_backoff = λ p i. absurd i;
      no_connect = λ p i. absurd i;
      no_creds = λ p link i. absurd i;
      no_setup = λ p link u i. absurd i;
      no_resubscribe = λ p link i. absurd i;
      unpermitted = λ p link w x goes. absurd (closed p (waiting_open conn.requests p w));
      no_permit = λ p link i. absurd i;
      no_place = λ p i. absurd i;
      seatless = λ p a. absurd (closed p (admitted_open conn.requests p a).0);
      no_room = λ p i. absurd i;
    })
    (rounds_down b.story conn.requests conn.fresh [] (unready_serves conn.life conn.again (ap is_ready over)) h.rounds) h.late

-- a connection without a link has used up nothing
fresh_unused : (c : MultiplexedConnection) → c.life ≡ Resting → c.renewal.asked ≡ 0 → is_used_up c ≡ false
fresh_unused c rests none = λ i. is_spent_in (rests i) || nat_le (2 ^ 32) (none i)

-- a turn behind whose passes a number has run out
pub spent_turn : (before : List Action) (c : Core) (g : Generations) (e : Event) → c.manager ≡ Some g → IsBetween before c → IsOrderedBy before c → is_bad c e.kind ≡ false → length c.table < 2 ^ 32 → is_used_up (passed_by (counted c) e.kind).core.single.connection ≡ true
    → IsTied (before ++ actions_of c e) (next_turn c e.kind).core
spent_turn before c g e is h o good room used = elim (effect_holds before c h.started e.word e.kind h.between good room) [ inl applied ↦ by_life applied k.single.connection.life refl | inr retired ↦ absurd (never retired) ]
  where
    t : Turning
    t = effect (counted c) e.kind

    u : Turning
    u = numbered (passed_by (counted c) e.kind)

    k : Core
    k = heeding u.core e.kind u.acts

    front : List Action
    front = before ++ turn_of c e.word e.kind ∷ []

    trace : List Action
    trace = front ++ shown_each c.single.link (length c.timers) (length c.sources) u.acts

    stays : what_of c g e.kind u ≡ comeback.Stays
    stays = taken_if (is_used_up k.single.connection) comeback.Stays _ used

    never : HasRetired front t → ⊥
    never r = not_both (is_used_up (passed_by (counted c) e.kind).core.single.connection) (ap (λ (x : Turning). is_used_up x.core.single.connection) (retired_same before c g e is h o good r) ∙ fresh_unused t.core.single.connection r.retiring.rests r.retiring.renewal.unasked) used

    whole : HasApplied front t h.started → HasHeard before c h.started g e.word e.kind trace k u.acts
    whole applied = heard_so before c g e is h o good (applied_moved front t h.started applied (comes before c g e is h o good))

    goes_on : HasApplied front t h.started → is_resting k.single.connection.life ≡ false → has_ended k.single.connection.life ≡ false → IsTied (before ++ actions_of c e) (next_turn c e.kind).core
    goes_on applied there up =
        let all = whole applied in
        between_tied (before ++ actions_of c e) (next_turn c e.kind).core
        (managed_between before c g e is (made before c g e is h o good) (λ none. applied.began (sym (ap (λ (w : Comeback). (came_back k w).turns) stays) ∙ none))
        (subst (λ (w : Comeback). return.HasReturned (trace ++ comeback_shown (heeded g e.kind u.acts) e.word w) (came_back k w)) (sym stays)
        (stays_returned before c h.started g e.word e.kind trace k u.acts all (live_comes (book trace) (inner k all.now) all.sound.tied there up))))

    ended : HasApplied front t h.started → (x : RedisError) → k.single.connection.life ≡ Ended x → IsTied (before ++ actions_of c e) (next_turn c e.kind).core
    ended applied x over =
        let all = whole applied in
        let closed = none_open_over before c h.started g e.word e.kind trace k u.acts all x over in
        let shown : flushed (work_with k.single.connection []) ≡ work_with (record k.single.connection { moved = []; fresh = [] }) [] = over_flushed k x over closed in
        let behind : (next_turn c e.kind).core ≡ record k { single = record k.single { connection = record k.single.connection { moved = []; fresh = [] } } } =
        managed_core c g e is (made before c g e is h o good) ∙ ap (λ (w : Comeback). record (came_back k w) { single = record (came_back k w).single { connection = (flushed_apart (came_back k w)).conn } }) stays ∙ ap (λ (w : Work). record k { single = record k.single { connection = w.conn } }) shown in
        let nothing : before ++ actions_of c e ≡ trace =
        sym (managed_trace before c g e is (made before c g e is h o good))
        ∙ ap (λ (w : Comeback). (trace ++ comeback_shown (heeded g e.kind u.acts) e.word w) ++ shown_behind (came_back k w) (flushed_apart (came_back k w)).acts) stays
        ∙ ap (λ (w : Work). (trace ++ []) ++ shown_behind k w.acts) shown ∙ append-nil (trace ++ []) ∙ append-nil trace in
        record {
          started = all.now;
          tied = subst (λ (y : List Action). Tied (book y) (inner (next_turn c e.kind).core all.now)) (sym nothing) (subst (λ (y : Core). Tied (book trace) (inner y all.now)) (sym behind) (over_tied (book trace) k all.now x over closed all.sound.tied));
          stands = subst (AllStand blank_book) (sym nothing) all.sound.stands;
          renewed = λ link ready due. absurd (
              let no : Ended x ≡ Ready link = sym over ∙ sym (ap (λ (y : Core). y.single.connection.life) behind) ∙ ready in
              cc);
        }

    by_life : HasApplied front t h.started → (x : Life) → k.single.connection.life ≡ x → IsTied (before ++ actions_of c e) (next_turn c e.kind).core
    by_life applied Resting over =
        let all = whole applied in
        let none : NoneRenewed ((book trace).link k.single.link) k.single.connection.renewal = subst (TiedRenewal ((book trace).link k.single.link) k.single.connection.renewal) over all.sound.tied.renewal in
        absurd (not_both (is_used_up k.single.connection) (fresh_unused k.single.connection over none.unasked) used)
    by_life applied Dialing over = goes_on applied (ap is_resting over) (ap has_ended over)
    by_life applied (Wanting link) over = goes_on applied (ap is_resting over) (ap has_ended over)
    by_life applied (SettingUp link greeting) over = goes_on applied (ap is_resting over) (ap has_ended over)
    by_life applied (Ready link) over = goes_on applied (ap is_resting over) (ap has_ended over)
    by_life applied (Ended x) over = ended applied x over
