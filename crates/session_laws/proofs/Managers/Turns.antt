-- One turn of a manager leads from between two turns to between the next two.
use Rattle.std.proofs.Common.{◌≡◌, ◌≢◌, ◌⊎◌, inl, inr, ℕ, ◌+◌, ◌^◌, ◌<◌, ◌==◌, nat_lt, Bool, true, false, ◌&&◌, ◌||◌, not, List, [], ◌∷◌, ◌++◌, length, Option, Some, None, is_some, if◌then◌else◌, refl, sym, ap, ◌∙◌, subst, append_assoc, arith}
use Rattle.containers.proofs.Choices.{both_right, by_test, eq_test, left_if, lt_from, ne_test, not_both, or_left, taken_if}
use Rattle.std.specs.Prelude.{option_map, unwrap_or}
use Rattle.manager_config.specs.Backoff.{backoff}
use Rattle.driver_model.specs.declared.action.Action.{Action}
use Rattle.driver_model.specs.declared.event.Event.{Event}
use Rattle.driver_model.specs.declared.event.EventKind.{EventKind}
use Rattle.driver_model.specs.declared.event.EventKind.TheVariants as event
use Rattle.mux_conn.specs.Connection.{Work, is_ready, is_resting, is_used_up, work_with}
use Rattle.mux_conn.specs.Turn.{flushed, fresh_each_shown, fresh_shown, moved_each_shown, waits_shown, written_at}
use Rattle.mux_conn.specs.declared.connection.MultiplexedConnection.{MultiplexedConnection}
use Rattle.mux_conn.specs.declared.life.Life.{Life}
use Rattle.mux_conn.specs.declared.life.Life.TheVariants.{Resting}
use Rattle.mux_conn.specs.Passes.{passed}
use Rattle.mux_conn.specs.declared.request.Waiting.{Waiting}
use Rattle.single_session.specs.declared.core_state.Core.{Core}
use Rattle.single_session.specs.declared.generations.Comeback.{Comeback}
use Rattle.single_session.specs.declared.generations.Comeback.TheVariants as comeback
use Rattle.single_session.specs.declared.generations.Generations.{Generations}
use Rattle.single_session.specs.Generations as machine
use Rattle.single_session.specs.Generations.{begun_with, came_back, comeback_shown, creation_fails, failed_behind, heeded, heeding, is_due, rests, wakes}
use Rattle.single_session.specs.Turn.{Turning, actions_of, come_back_behind, counted, effect, ended_apart, flushed_apart, is_bad, is_shutdown, next_turn, numbered, passed_by, shown_behind, shown_each, with_work, work_of}
use Rattle.single_session.proofs.Comebacks.{Suits, came_kept, suits_in}
use Rattle.single_session.proofs.Spent.{passed_same}
use Rattle.legal_trace.specs.Book.{Book, blank_book, book, shuts}
use Rattle.legal_trace.specs.Legal.{AllStand, IsShown, NoneEnds, word_of}
use Rattle.legal_trace.proofs.Moves.{lt_test}
use Rattle.legal_trace.proofs.Plain.{same_some}
use Rattle.session_laws.proofs.Turn.Announce.{turn_of}
use Rattle.session_laws.proofs.Turn.Effects.{effect_holds}
use Rattle.conn_laws.proofs.Managers.First.{IsIdle}
use Rattle.session_laws.proofs.Managers.First.{HasFirst, StaysIdle, effect_idle, first_opens}
use Rattle.session_laws.proofs.Managers.Judge.{HasActed, acted_adds, has_acted, runs_on, acted_informed}
use Rattle.session_laws.proofs.Managers.Manage.{HasCome, HasHeard, NoneCame, rests_links, returned, woken_by}
use Rattle.session_laws.proofs.Ties.Ordered.{IsOrdered, IsOrderedBy}
use Rattle.conn_laws.proofs.Turn.Adds.{flushed_adds}
use Rattle.session_laws.proofs.Turn.Ends.{ends_ordered, ready_stays}
use Rattle.mux_conn.proofs.Kept.{flushed_kept}
use Rattle.session_laws.proofs.Turn.Ordered.{comes_ordered}
use Rattle.conn_laws.proofs.Requests.Moved.{resting_passed}
use Rattle.session_laws.proofs.Requests.Moved.{ComesOrdered, HasMoved}
use Rattle.session_laws.proofs.Ties.Past.{is_founded}
use Rattle.session_laws.proofs.Managers.Return as return
use Rattle.session_laws.proofs.Requests.Settle.{trace_of_acts}
use Rattle.session_laws.proofs.Requests.Settled.{IsBetween, applied_moved, applied_ready}
use Rattle.session_laws.proofs.Ties.States.{HasApplied, HasRetired}
use Rattle.conn_laws.proofs.Ties.Tied.{waiting_ids}
use Rattle.session_laws.proofs.Ties.Tied.{ComesBack, HasHeeded, IsHeeded, AfterFailedAttempt, Sound, Tied, TiedManager, inner}
use Rattle.session_laws.proofs.Managers.Whole.{heeds_retiring, heeds_tied, managed_between, managed_core, managed_trace, own_is, what_of}

-- before its first generation nothing was asked of a session's connection, unless everything was shut down, and no creation failed
abbrev pub IsUnused : Core → Generations → Type 0
IsUnused c g = g.number ≡ 0 → c.shut ≡ false → IsIdle c.single.connection × (g.halted ≡ false)

-- a shutdown is one for both
same_shutdown : (kind : EventKind) → is_shutdown kind ≡ shuts kind
same_shutdown event.Shutdown = refl
same_shutdown (event.Submit what) = refl
same_shutdown (event.Cancel n) = refl
same_shutdown (event.Connected l) = refl
same_shutdown (event.Refused l f) = refl
same_shutdown (event.Fired t) = refl
same_shutdown (event.Creds s auth) = refl
same_shutdown (event.CredsError s text) = refl
same_shutdown (event.CredsEnd s) = refl
same_shutdown (event.Timeout ms) = refl
same_shutdown event.DropStream = refl
same_shutdown (event.Wrote l count) = refl
same_shutdown (event.Bytes l piece) = refl
same_shutdown (event.Ended l) = refl
same_shutdown (event.ReadFault l f) = refl
same_shutdown (event.WriteFault l f) = refl

-- what it does of its own leaves whether everything was shut down
came_shut : (k : Core) (what : Comeback) → (came_back k what).shut ≡ k.shut
came_shut k comeback.Stays = refl
came_shut k (comeback.Rests n a t) = refl
came_shut k (comeback.Dials l None t) = refl
came_shut k (comeback.Dials l (Some n) t) = refl

-- no generation begins
abbrev BeginsNone : Comeback → Type 0
BeginsNone comeback.Stays = Unit {0}
BeginsNone (comeback.Rests n a t) = Unit {0}
BeginsNone (comeback.Dials l None t) = Unit {0}
BeginsNone (comeback.Dials l (Some n) t) = ⊥

-- where there was none behind it, none was before, and none began
came_unnumbered : (k : Core) (q g : Generations) (what : Comeback) → k.manager ≡ Some q → Suits (Some q) k what → (came_back k what).manager ≡ Some g → g.number ≡ 0 → (q.number ≡ 0) × BeginsNone what
came_unnumbered k q g comeback.Stays is suits made none = (ap (λ (x : Generations). x.number) (same_some q g (sym is ∙ made)) ∙ none, tt)
came_unnumbered k q g (comeback.Rests n a t) is suits made none =
    (ap (λ (x : Generations). x.number) (same_some (failed_behind q a t) g (sym (ap (option_map (λ x. failed_behind x a t)) is) ∙ made)) ∙ none, tt)
came_unnumbered k q g (comeback.Dials l None t) is suits made none = (ap (λ (x : Generations). x.number) (same_some q g (sym is ∙ made)) ∙ none, tt)
came_unnumbered k q g (comeback.Dials l (Some n) t) is suits made none =
    absurd (
    let same : n ≡ 0 = ap (λ (x : Generations). x.number) (same_some (begun_with q n) g (sym (ap (option_map (λ x. begun_with x n)) is) ∙ made)) ∙ none in
    let next = suits.2 in
    omega (arith, same, next))

-- bytes and waits leave a connection idle that is
flushed_idle : (conn : MultiplexedConnection) → IsIdle conn → IsIdle (flushed (work_with conn [])).conn
flushed_idle conn h =
    let w = work_with conn [] in
    let v : Work = record w { conn = record conn { moved = [] } } in
    let z : Work = record v { conn = record v.conn { fresh = [] } } in
    let same : flushed w ≡ z =
    ap (λ (x : Life). waits_shown (written_at w x)) h.life
    ∙ ap (λ ns. fresh_shown (moved_each_shown v ns)) h.moved
    ∙ ap (λ ns. fresh_each_shown z ns) h.fresh in
    subst (λ (x : Work). IsIdle x.conn) (sym same) (record { life = h.life; requests = h.requests; waiting = h.waiting; admitted = h.admitted; fresh = refl; moved = refl; free = h.free })

module _ (before : List Action) (c : Core) (g : Generations) (e : Event) (is : c.manager ≡ Some g) (h : IsBetween before c) (o : IsOrderedBy before c) (good : is_bad c e.kind ≡ false) where
  abbrev pub t : Turning
  t = effect (counted c) e.kind

  abbrev pub p : Turning
  p = passed_by (counted c) e.kind

  abbrev pub u : Turning
  u = numbered p

  abbrev pub k : Core
  k = heeding u.core e.kind u.acts

  abbrev pub q : Generations
  q = heeded g e.kind u.acts

  abbrev pub front : List Action
  front = before ++ turn_of c e.word e.kind ∷ []

  abbrev pub trace : List Action
  trace = front ++ shown_each c.single.link (length c.timers) (length c.sources) u.acts

  -- who is ahead of new credentials behind the event
  pub comes : ComesOrdered front t.core (work_of t)
  comes = comes_ordered before c h.started e h.between o

  -- the trace by the numbers of the turn
  pub trace_is : trace_of_acts front t.core u.acts ≡ trace
  trace_is =
      let s = passed_same (counted c) e.kind in
      λ i. front ++ shown_each (s.link i) (length (s.timers i)) (length (s.sources i)) u.acts

  pub made : u.core.manager ≡ Some g
  made = (passed_same (counted c) e.kind).manager ∙ is

  pub heeds : k.manager ≡ Some q
  heeds = ap (option_map (λ x. heeded x e.kind u.acts)) made

  -- the creation failed for both
  failed_is : (b : Book) → HasActed before c e.word e.kind b u.acts → b.failed ≡ q.halted
  failed_is b acted =
      let heed : HasHeeded (book before).rest (book before).failed c.single.connection.life g = subst (IsHeeded (book before).rest (book before).failed c.single.connection.life) is h.between.heeded in
      (acted_adds before c e.word e.kind b u.acts acted).failed ∙ ap (λ (x : Bool). x || creation_fails u.acts) heed.failed_is

  -- so far it has come where everything wasn't shut down before its first generation
  come_so : IsUnused c g → g.number ≡ 0 → (b : Book) (acted : HasActed before c e.word e.kind b u.acts) → b.shut ≡ false → StaysIdle t ⊎ HasFirst e.kind t
  come_so idle none b acted runs =
      let added = acted_adds before c e.word e.kind b u.acts acted in
      let was = h.between.sound.tied.numbers.shut in
      let awake : c.shut ≡ false = sym was ∙ or_left (book before).shut (shuts e.kind) (sym added.shut ∙ runs) in
      effect_idle c e.kind (λ i. awake i || (same_shutdown e.kind ∙ runs_on before c e.word e.kind b u.acts acted runs) i) (idle none awake).0

  -- the passes leave it
  idle_same : StaysIdle t → passed (work_of t) ≡ work_of t
  idle_same s = resting_passed (work_of t) s.idle.life s.idle.admitted

  first_same : HasFirst e.kind t → passed (work_of t) ≡ work_of t
  first_same f = resting_passed (work_of t) f.life f.admitted

  -- whether the first submission has come
  first_comes : IsUnused c g → (started : List ℕ) → Tied (book trace) (inner u.core started) → (acted : HasActed before c e.word e.kind (book trace) u.acts) → g.number ≡ 0 → k.shut ≡ false → NoneCame k ⊎ HasCome (book trace) k e.kind
  first_comes idle started tied acted none runs = elim (come_so idle none (book trace) acted (tied.numbers.shut ∙ runs)) [
    | inl s ↦ inl (record { requests = ap (λ (w : Work). w.conn.requests) (idle_same s) ∙ s.idle.requests; waiting = ap (λ (w : Work). w.conn.waiting) (idle_same s) ∙ s.idle.waiting })
    | inr f ↦
        let same = first_same f in
        inr (record {
          what = f.what;
          submits = f.submits;
          free = ap (λ (w : Work). w.conn.free) same ∙ f.free ∙ sym (ap (λ (w : Work). unwrap_or w.conn.limit 0) same);
          moved = ap (λ (w : Work). w.conn.moved) same ∙ f.moved;
          fresh = ap (λ (w : Work). w.conn.fresh) same ∙ f.fresh ∙ sym (ap (λ (w : Work). waiting_ids w.conn.waiting) same);
          some = ap (λ (w : Work). length w.conn.waiting == 0) same ∙ ap (λ (ws : List Waiting). length ws == 0) f.waits ∙ ne_test 1 0 (λ no. absurd (omega (arith, no)));
          opens = first_opens (book trace) u.core started f.table f.request tied f.named (ap (λ (w : Work). w.conn.requests) same ∙ f.one) f.opens;
        })
  ]

  -- the session behind the passes
  pub sound_so : (m : HasMoved front t.core (passed (work_of t))) → Sound trace (inner u.core m.started)
  sound_so m = subst (λ (x : List Action). Sound x (inner u.core m.started)) trace_is m.holds

  pub heard_so : (m : HasMoved front t.core (passed (work_of t))) → HasHeard before c h.started g e.word e.kind trace k u.acts
  heard_so m = record {
    managed = is;
    between = h.between;
    good = good;
    acted = has_acted before c e.word e.kind u.acts (sound_so m).stands;
    now = m.started;
    sound = record { stands = (sound_so m).stands; tied = heeds_tied (book trace) u.core e.kind u.acts m.started (sound_so m).tied };
    ended = subst (λ (x : List Action). NoneEnds (book x)) trace_is m.ended;
    fit = m.fit;
    still = m.still;
    seats = m.seats;
    hushed = m.hushed;
    heeds = heeds;
    link = (passed_same (counted c) e.kind).link;
    links = (passed_same (counted c) e.kind).links;
  }

  -- behind the passes
  moved_between : is_used_up p.core.single.connection ≡ false → IsUnused c g → HasApplied front t h.started → IsBetween (before ++ actions_of c e) (next_turn c e.kind).core
  moved_between unused idle applied =
      let m = applied_moved front t h.started applied comes in
      managed_between before c g e is made (λ none. applied.began (sym (came_kept k (what_of c g e.kind u)).turns ∙ none))
      (returned before c h.started g e.word e.kind trace k u.acts (heard_so m) unused (first_comes idle m.started (sound_so m).tied (has_acted before c e.word e.kind u.acts (sound_so m).stands)))

  -- behind an attempt that failed the passes leave it
  pub retired_same : HasRetired front t → p ≡ t
  retired_same r = ap (with_work t) (resting_passed (work_of t) r.retiring.rests r.retiring.admitted)

  -- and so it rests
  retired_rests : is_used_up p.core.single.connection ≡ false → (r : AfterFailedAttempt (book trace) (inner u.core [])) → what_of c g e.kind u ≡ comeback.Rests q.number q.attempt (length k.timers)
  retired_rests unused r =
      let placed = r.placed in
      left_if (is_used_up k.single.connection) comeback.Stays _ unused
      ∙ taken_if (rests k) (comeback.Rests q.number q.attempt (length k.timers)) _ ((λ i. is_resting (r.rests i) && lt_test k.single.link k.links (omega (arith, placed)) i))

  -- its generation has begun
  retired_some : HasRetired front t → q.number ≢ 0
  retired_some r none =
      let same = retired_same r in
      let stands : AllStand blank_book trace = subst (AllStand blank_book) trace_is (subst (λ (x : Turning). AllStand blank_book (trace_of_acts front t.core x.acts)) (sym same) r.stands) in
      let retiring : AfterFailedAttempt (book trace) (inner u.core []) =
      subst (λ (x : List Action). AfterFailedAttempt (book x) (inner u.core [])) trace_is
      (subst (λ (x : Turning). AfterFailedAttempt (book (trace_of_acts front t.core x.acts)) (inner (numbered x).core [])) (sym same) r.retiring) in
      let back : ComesBack (book trace).config (book trace).generation (book trace).attempt g = subst (TiedManager (book trace).config (book trace).generation (book trace).attempt) made retiring.numbers.comes_back in
      let links = (is_founded trace stands).first (ap is_some back.settings_are) (back.number_is ∙ none) in
      let tied = retiring.numbers.links in
      let placed = retiring.placed in
      omega (arith, links, tied, placed)

  retired_between : is_used_up p.core.single.connection ≡ false → HasRetired front t → IsBetween (before ++ actions_of c e) (next_turn c e.kind).core
  retired_between unused r =
      let same = retired_same r in
      let stands : AllStand blank_book trace = subst (AllStand blank_book) trace_is (subst (λ (x : Turning). AllStand blank_book (trace_of_acts front t.core x.acts)) (sym same) r.stands) in
      let shown : IsShown (book trace) = subst (λ (x : List Action). IsShown (book x)) trace_is (subst (λ (x : Turning). IsShown (book (trace_of_acts front t.core x.acts))) (sym same) r.shown) in
      let retiring : AfterFailedAttempt (book trace) (inner u.core []) =
      subst (λ (x : List Action). AfterFailedAttempt (book x) (inner u.core [])) trace_is
      (subst (λ (x : Turning). AfterFailedAttempt (book (trace_of_acts front t.core x.acts)) (inner (numbered x).core [])) (sym same) r.retiring) in
      let heard = heeds_retiring (book trace) u.core e.kind u.acts retiring in
      let acted = has_acted before c e.word e.kind u.acts stands in
      let back : ComesBack (book trace).config (book trace).generation (book trace).attempt q = subst (TiedManager (book trace).config (book trace).generation (book trace).attempt) heeds heard.numbers.comes_back in
      let some = retired_some r in
      let all = return.rests_returned trace k q (backoff q.settings q.attempt e.word) stands heard shown heeds some (failed_is (book trace) acted) (acted_informed before c e.word e.kind (book trace) u.acts g acted is h.between.informed) (ap (backoff q.settings q.attempt) (sym (ap word_of (acted_adds before c e.word e.kind (book trace) u.acts acted).running))) in
      managed_between before c g e is made (λ none. r.began (ap (λ (x : Turning). x.core.turns) (sym same) ∙ sym (came_kept k (what_of c g e.kind u)).turns ∙ none))
      (subst (λ (what : Comeback). return.HasReturned (trace ++ comeback_shown q e.word what) (came_back k what)) (sym (retired_rests unused retiring)) all)

  -- so whatever the event does
  pub manager_turn : is_used_up p.core.single.connection ≡ false → IsUnused c g → length c.table < 2 ^ 32 → IsBetween (before ++ actions_of c e) (next_turn c e.kind).core
  manager_turn unused idle room = elim (effect_holds before c h.started e.word e.kind h.between good room) [ inl applied ↦ moved_between unused idle applied | inr retired ↦ retired_between unused retired ]

  -- behind what it does of its own it is ready only where it does nothing
  up_stays : is_ready (next_turn c e.kind).core.single.connection.life ≡ true → what_of c g e.kind u ≡ comeback.Stays
  up_stays up =
      let d = came_back k (what_of c g e.kind u) in
      ready_stays q (wakes g e.kind) (machine.has_ended c.single.connection.life) k u.acts (sym (flushed_adds (work_with d.single.connection [])).ready ∙ ap (λ (x : Core). is_ready x.single.connection.life) (sym (managed_core c g e is made)) ∙ up)

  -- the session then
  behind_stays : what_of c g e.kind u ≡ comeback.Stays → (next_turn c e.kind).core ≡ record k { single = record k.single { connection = (flushed_apart k).conn } }
  behind_stays stays = managed_core c g e is made ∙ ap (λ (s : Comeback). record (came_back k s) { single = record (came_back k s).single { connection = (flushed_apart (came_back k s)).conn } }) stays

  -- so it is known which requests are ahead of new credentials
  managed_ordered : HasApplied front t h.started → IsBetween (before ++ actions_of c e) (next_turn c e.kind).core → IsOrderedBy (before ++ actions_of c e) (next_turn c e.kind).core
  managed_ordered applied done up pending kept =
      let what = what_of c g e.kind u in
      let d = came_back k what in
      let w = work_of t in
      let behind = behind_stays (up_stays up) in
      let rest = comeback_shown q e.word what ++ shown_behind d (flushed_apart d).acts in
      let whole : trace_of_acts front t.core (passed w).acts ++ rest ≡ before ++ actions_of c e =
      ap (λ xs. xs ++ rest) trace_is ∙ sym (append_assoc trace (comeback_shown q e.word what) (shown_behind d (flushed_apart d).acts)) ∙ managed_trace before c g e is made in
      let x = (flushed_apart k).conn in
      let all : IsOrdered (book (trace_of_acts front t.core (passed w).acts ++ rest)) k.single.link k.table x.life x.renewal =
      ends_ordered front t.core w h.started rest x (applied_ready front t h.started applied comes) (subst (AllStand blank_book) (sym whole) done.between.sound.stands)
      (ap (λ (xs : List Action). (book xs).turns) whole ∙ done.between.sound.tied.numbers.turns ∙ ap (λ (y : Core). y.turns) behind)
      (λ ready. sym (flushed_adds (work_with k.single.connection [])).ready ∙ ready) (flushed_kept (work_with k.single.connection [])) in
      subst (λ (y : Core). IsOrderedBy (before ++ actions_of c e) y) (sym behind) (subst (λ (xs : List Action). IsOrdered (book xs) k.single.link k.table x.life x.renewal) whole all) up pending kept

  -- also where it is without a link
  retired_ordered : HasRetired front t → IsOrderedBy (before ++ actions_of c e) (next_turn c e.kind).core
  retired_ordered r up =
      let here : is_ready k.single.connection.life ≡ true =
      sym (flushed_adds (work_with k.single.connection [])).ready ∙ ap (λ (x : Core). is_ready x.single.connection.life) (sym (behind_stays (up_stays up))) ∙ up in
      let rests : k.single.connection.life ≡ Resting = ap (λ (x : Turning). x.core.single.connection.life) (retired_same r) ∙ r.retiring.rests in
      absurd (not_both (is_ready k.single.connection.life) (ap is_ready rests) here)

  -- whatever the event does
  pub manager_well : is_used_up p.core.single.connection ≡ false → IsUnused c g → length c.table < 2 ^ 32 → IsBetween (before ++ actions_of c e) (next_turn c e.kind).core × IsOrderedBy (before ++ actions_of c e) (next_turn c e.kind).core
  manager_well unused idle room = elim (effect_holds before c h.started e.word e.kind h.between good room) [
    | inl applied ↦ let done = moved_between unused idle applied in (done, managed_ordered applied done)
    | inr retired ↦ (retired_between unused retired, retired_ordered retired)
  ]

  -- what it does of its own, by the cases
  abbrev over : Bool
  over = machine.has_ended c.single.connection.life

  abbrev dials : Comeback
  dials = comeback.Dials k.links (Some (q.number + 1)) (length k.timers)

  -- before its first generation it neither rests nor wakes
  unnumbered : is_used_up p.core.single.connection ≡ false → IsUnused c g → g.number ≡ 0 → c.shut ≡ false → k.shut ≡ false → what_of c g e.kind u ≡ (if is_due q over k.single.connection u.acts then dials else comeback.Stays)
  unnumbered unused idle none awake runs =
      let again = if is_due q over k.single.connection u.acts then dials else comeback.Stays in
      let woken = if wakes g e.kind then comeback.Dials k.links None (length k.timers) else again in
      let going = if k.shut then comeback.Stays else woken in
      left_if (is_used_up k.single.connection) comeback.Stays (if rests k then comeback.Rests q.number q.attempt (length k.timers) else going) unused
      ∙ left_if (rests k) (comeback.Rests q.number q.attempt (length k.timers)) going rests_not
      ∙ left_if k.shut comeback.Stays woken runs
      ∙ left_if (wakes g e.kind) (comeback.Dials k.links None (length k.timers)) again asleep
    where
      heed : HasHeeded (book before).rest (book before).failed c.single.connection.life g
      heed = subst (IsHeeded (book before).rest (book before).failed c.single.connection.life) is h.between.heeded

      asleep : wakes g e.kind ≡ false
      asleep = by_test (wakes g e.kind) _
          (λ w. absurd (
          let by = woken_by g e.kind w in
          (heed.rests (λ no. (let bad : ◌≡◌ {A = Option ℕ} None (Some by.0) = sym no ∙ by.2 in cc))).1 none))
          (λ f. f)

      rests_not : rests k ≡ false
      rests_not = by_test (rests k) _
          (λ r. absurd (
          let s = passed_same (counted c) e.kind in
          let b = book before in
          let links = rests_links c.single.connection.life (b.link c.single.link).last (b.link c.single.link).end (inner c h.started) (ap is_resting (idle none awake).0.life) h.between.sound.tied.course in
          let less = lt_from k.single.link k.links (both_right (is_resting k.single.connection.life) (nat_lt k.single.link k.links) r) in
          let link = s.link in
          let same = s.links in
          omega (arith, links, less, link, same)))
          (λ f. f)

  -- whether the first generation begins, by who waits
  first_due : g.number ≡ 0 → is_due q over k.single.connection u.acts ≡ (not q.halted && not (length k.single.connection.waiting == 0))
  first_due none = ap (λ (x : Bool). not q.halted && x) (taken_if (g.number == 0) (not (length k.single.connection.waiting == 0)) _ (eq_test g.number 0 none))

  -- it is unused behind the turn, where it hasn't begun
  pub unused_next : is_used_up p.core.single.connection ≡ false → IsUnused c g → length c.table < 2 ^ 32 → (later : Generations) → (next_turn c e.kind).core.manager ≡ Some later → IsUnused (next_turn c e.kind).core later
  unfolding next_turn
  unused_next unused idle room later behind none runs =
      let what = what_of c g e.kind u in
      let next : next_turn c e.kind ≡ ended_apart u over e.kind = taken_if (is_some c.manager) (ended_apart u over e.kind) _ (ap is_some is) in
      let came : come_back_behind u over e.kind ≡ came_back k what = ap (came_back k) (own_is c g e.kind u made) in
      let managed : (came_back k what).manager ≡ Some later = sym (ap (λ (x : Core). x.manager) came) ∙ sym (ap (λ (x : Turning). x.core.manager) next) ∙ behind in
      let all = came_unnumbered k q later what heeds (suits_in (Some q) (wakes g e.kind) over k u.acts) managed none in
      let awake : k.shut ≡ false = sym (came_shut k what) ∙ sym (ap (λ (x : Core). x.shut) came) ∙ sym (ap (λ (x : Turning). x.core.shut) next) ∙ runs in
      elim (effect_holds before c h.started e.word e.kind h.between good room) [
        | inr retired ↦ absurd (retired_some retired all.0)
        | inl applied ↦
            let m = applied_moved front t h.started applied comes in
            let sound : Sound trace (inner u.core m.started) = subst (λ (x : List Action). Sound x (inner u.core m.started)) trace_is m.holds in
            let acted = has_acted before c e.word e.kind u.acts sound.stands in
            let open_still : (book trace).shut ≡ false = sound.tied.numbers.shut ∙ awake in
            let was : c.shut ≡ false = sym h.between.sound.tied.numbers.shut ∙ or_left (book before).shut (shuts e.kind) (sym (acted_adds before c e.word e.kind (book trace) u.acts acted).shut ∙ open_still) in
            let well : g.halted ≡ false = (idle all.0 was).1 in
            elim (come_so idle all.0 (book trace) acted open_still) [
              | inl s ↦
                  let same = idle_same s in
                  let no_due : is_due q over k.single.connection u.acts ≡ false = first_due all.0 ∙ ap (λ (w : Work). not q.halted && not (length w.conn.waiting == 0)) same ∙ ap (λ (ws : List Waiting). not q.halted && not (length ws == 0)) s.idle.waiting ∙ none_of (not q.halted) in
                  let stays : what ≡ comeback.Stays = unnumbered unused idle all.0 was awake ∙ left_if (is_due q over k.single.connection u.acts) dials comeback.Stays no_due in
                  let there : (next_turn c e.kind).core ≡ record k { single = record k.single { connection = (flushed_apart k).conn } } =
                  ap (λ (x : Turning). x.core) next ∙ ap (λ (x : Core). record x { single = record x.single { connection = (flushed_apart x).conn } }) (came ∙ ap (came_back k) stays) in
                  let kept : q ≡ later = same_some q later (sym heeds ∙ sym (ap (λ (w : Comeback). (came_back k w).manager) stays) ∙ managed) in
                  let calm : creation_fails u.acts ≡ false = ap (λ (w : Work). creation_fails w.acts) same ∙ s.calm in (
                    subst (λ (x : Core). IsIdle x.single.connection) (sym there) (flushed_idle k.single.connection (subst (λ (w : Work). IsIdle w.conn) (sym same) s.idle)),
                    subst (λ (x : Generations). x.halted ≡ false) kept (λ i. well i || calm i),
                  )
              | inr f ↦
                  let same = first_same f in
                  let calm : creation_fails u.acts ≡ false = ap (λ (w : Work). creation_fails w.acts) same ∙ f.calm in
                  let is_now : is_due q over k.single.connection u.acts ≡ true =
                  first_due all.0 ∙ ap (λ (w : Work). not q.halted && not (length w.conn.waiting == 0)) same ∙ ap (λ (ws : List Waiting). not q.halted && not (length ws == 0)) f.waits
                  ∙ (λ i. not (well i || calm i) && not (ne_test 1 0 (λ no. absurd (omega (arith, no))) i)) in
                  absurd (subst BeginsNone (unnumbered unused idle all.0 was awake ∙ taken_if (is_due q over k.single.connection u.acts) dials comeback.Stays is_now) all.1)
            ]
      ]
    where
      none_of : (x : Bool) → (x && false) ≡ false
      none_of true = refl
      none_of false = refl
