-- A whole turn of a manager: its event's effect, the passes, what it does of its own, bytes and waits.
use Rattle.std.proofs.Common.{◌≡◌, ◌≢◌, ℕ, Bool, true, List, [], ◌∷◌, ◌++◌, length, Option, Some, None, is_some, refl, sym, ap, ◌∙◌, subst, append_assoc}
use Rattle.std.specs.Prelude.{option_map}
use Rattle.std.proofs.lemmas.List.{append-nil}
use Rattle.containers.proofs.Choices.{taken_if}
use Rattle.driver_model.specs.declared.action.Action.{Action}
use Rattle.driver_model.specs.declared.action.Purpose.{Purpose}
use Rattle.driver_model.specs.declared.action.SourceUse.{SourceUse}
use Rattle.driver_model.specs.declared.event.Event.{Event}
use Rattle.driver_model.specs.declared.event.EventKind.{EventKind}
use Rattle.mux_conn.specs.Connection.{work_with}
use Rattle.mux_conn.specs.declared.act.LinkAct.{LinkAct}
use Rattle.mux_conn.specs.declared.life.Life.{Life}
use Rattle.mux_conn.specs.declared.life.Life.TheVariants.{Resting, Dialing, Wanting, SettingUp, Ready, Ended}
use Rattle.single_session.specs.declared.core_state.Core.{Core}
use Rattle.single_session.specs.declared.generations.Comeback.{Comeback}
use Rattle.single_session.specs.declared.generations.Comeback.TheVariants as comeback
use Rattle.single_session.specs.declared.generations.Generations.{Generations}
use Rattle.single_session.specs.Generations as machine
use Rattle.single_session.specs.Generations.{came_back, comeback_in, comeback_of, comeback_shown, comeback_shown_in, heeded, heeding, wakes, wakes_in}
use Rattle.single_session.specs.Turn.{Turning, actions_of, come_back_behind, comeback_by, counted, effects_of, ended_apart, flushed_apart, last_acts, next_turn, numbered, own_part, passed_by, return_shown, shown_behind, shown_each, timers_of}
use Rattle.single_session.proofs.Quiet.{apart_quiet, no_sources, no_timers}
use Rattle.legal_trace.specs.Book.{Book, book}
use Rattle.legal_trace.specs.Legal.{NoneEnds}
use Rattle.session_laws.proofs.Managers.Comes.{NoneComes}
use Rattle.session_laws.proofs.Turn.Announce.{turn_of}
use Rattle.session_laws.proofs.Managers.Return as return
use Rattle.session_laws.proofs.Requests.Settle.{seen}
use Rattle.session_laws.proofs.Requests.Settled.{IsBetween, returned_between}
use Rattle.session_laws.proofs.Ties.Tied.{HasCourse, TurnState, IsHeeded, AfterFailedAttempt, Sound, Tied, TiedManager, TiedNumbers, inner, is_begun}
use Rattle.session_laws.proofs.Links.Write.{HasReturned}
use Rattle.session_laws.proofs.Internal.Informed.{IsInformed}

-- other generations
--
-- of which as many began, and so many attempts of the current one failed
abbrev pub AreAlike : Option Generations → Option Generations → Type 0
AreAlike m n = (is_some n ≡ is_some m) × (is_begun n ≡ is_begun m)

-- a connection comes as far with them
course_with : (life : Life) (is_last : Bool) (t : TurnState) (m : Option Generations) (b : Book) → AreAlike t.manager m → HasCourse is_last (b.link t.link).end t.links t.link t.shut t.manager t.last t.opened t.info t.address life → HasCourse is_last (b.link t.link).end t.links t.link t.shut m t.last t.opened t.info t.address life
course_with Resting is_last t m b same h = (h.0, same.0 ∙ h.1, h.2, h.3)
course_with Dialing is_last t m b same h = (h.0, same.1 ∙ h.1, h.2, h.3, h.4)
course_with (Wanting link) is_last t m b same h = (h.0, same.1 ∙ h.1, h.2, h.3)
course_with (SettingUp link greeting) is_last t m b same h = (h.0, same.1 ∙ h.1, h.2, h.3)
course_with (Ready link) is_last t m b same h = (h.0, same.1 ∙ h.1, h.2, h.3)
course_with (Ended e) is_last t m b same h = (h.0, same.1 ∙ h.1, h.2)

-- the numbers are the book's
numbers_with : (b : Book) (t : TurnState) (m : Option Generations) → AreAlike t.manager m → TiedManager b.config b.generation b.attempt m → TiedNumbers b t → TiedNumbers b (record t { manager = m })
numbers_with b t m same managed n = record {
  turns = n.turns;
  links = n.links;
  submissions = n.submissions;
  timers = n.timers;
  sources = n.sources;
  aims = n.aims;
  timed = n.timed;
  timeout = n.timeout;
  shut = n.shut;
  within = n.within;
  few = n.few;
  settings = record { size_is = n.settings.size_is; bound_is = n.settings.bound_is; limit_is = n.settings.limit_is; some = n.settings.some; limited = n.settings.limited };
  kind_is = n.kind_is;
  quiet = n.quiet;
  comes_back = managed;
  lazy = n.lazy;
  alone = λ none. n.alone (sym same.0 ∙ none);
  current_is = n.current_is;
  speaks = n.speaks;
  address_is = n.address_is;
  wants = n.wants;
}

-- so the session is tied with them
tied_with : (b : Book) (t : TurnState) (m : Option Generations) → AreAlike t.manager m → TiedManager b.config b.generation b.attempt m → Tied b t → Tied b (record t { manager = m })
tied_with b t m same managed h = record {
  numbers = numbers_with b t m same managed h.numbers;
  others = h.others;
  notices = h.notices;
  life = h.life;
  course = course_with t.life (b.link t.link).last t m b same h.course;
  calm = h.calm;
  creation = h.creation;
  creds = h.creds;
  uses = h.uses;
  renewal = h.renewal;
  repeat = h.repeat;
  setup = h.setup;
  link = h.link;
  names = h.names;
  story = h.story;
  tries = h.tries;
  lines = h.lines;
  told = h.told;
  waits = h.waits;
  rounds = h.rounds;
  early = h.early;
  permits = h.permits;
  late = h.late;
}

-- also behind a failed attempt
retiring_with : (b : Book) (t : TurnState) (m : Option Generations) → AreAlike t.manager m → TiedManager b.config b.generation b.attempt m → AfterFailedAttempt b t → AfterFailedAttempt b (record t { manager = m })
retiring_with b t m same managed h = record {
  numbers = numbers_with b t m same managed h.numbers;
  rests = h.rests;
  comes = same.0 ∙ h.comes;
  placed = h.placed;
  unopened = h.unopened;
  unshut = h.unshut;
  info_is = h.info_is;
  attempted = h.attempted;
  others = h.others;
  own = h.own;
  heard_is = h.heard_is;
  calm = h.calm;
  creation = h.creation;
  uses = h.uses;
  renewal = h.renewal;
  repeat = h.repeat;
  names = h.names;
  story = h.story;
  untried = h.untried;
  lines = h.lines;
  admitted = h.admitted;
  moved = h.moved;
  pending = h.pending;
  started = h.started;
  fresh = h.fresh;
  free = h.free;
  being_admitted = h.being_admitted;
  rounds_is = h.rounds_is;
  waiting = h.waiting;
  holds = h.holds;
  late = h.late;
}

-- what a manager heeds leaves how many began
heeded_alike : (kind : EventKind) (acts : List LinkAct) (m : Option Generations) → AreAlike m (option_map (λ g. heeded g kind acts) m)
heeded_alike kind acts None = (refl, refl)
heeded_alike kind acts (Some g) = (refl, refl)

heeded_managed : (b : Book) (kind : EventKind) (acts : List LinkAct) (m : Option Generations) → TiedManager b.config b.generation b.attempt m → TiedManager b.config b.generation b.attempt (option_map (λ g. heeded g kind acts) m)
heeded_managed b kind acts None h = h
heeded_managed b kind acts (Some g) h = record { whole = h.whole; told = h.told; sound = h.sound; settings_are = h.settings_are; at = h.at; bounded = h.bounded; number_is = h.number_is; attempt_is = h.attempt_is; first = h.first }

-- so the session stays tied as it heeds what was shown
pub heeds_tied : (b : Book) (u : Core) (kind : EventKind) (acts : List LinkAct) (started : List ℕ) → Tied b (inner u started) → Tied b (inner (heeding u kind acts) started)
heeds_tied b u kind acts started h = tied_with b (inner u started) (option_map (λ g. heeded g kind acts) u.manager) (heeded_alike kind acts u.manager) (heeded_managed b kind acts u.manager h.numbers.comes_back) h

pub heeds_retiring : (b : Book) (u : Core) (kind : EventKind) (acts : List LinkAct) → AfterFailedAttempt b (inner u []) → AfterFailedAttempt b (inner (heeding u kind acts) [])
heeds_retiring b u kind acts h = retiring_with b (inner u []) (option_map (λ g. heeded g kind acts) u.manager) (heeded_alike kind acts u.manager) (heeded_managed b kind acts u.manager h.numbers.comes_back) h

-- bytes and waits
--
-- behind what it does of its own no act was shown yet
begins_anew : (trace : List Action) (d : Core) → return.HasReturned trace d → HasReturned trace d (work_with d.single.connection [])
begins_anew trace d h =
    let none = append-nil trace in
    let same : inner d h.started ≡ seen d [] d.single.connection [] h.started = λ i. record (inner d h.started) { timers = sym (append-nil d.timers) i; sources = sym (append-nil d.sources) i } in
    record {
      moved = record {
        started = h.started;
        holds = subst (λ (t : TurnState). Sound (trace ++ []) t) same (subst (λ (x : List Action). Sound x (inner d h.started)) (sym none) h.sound);
        ended = subst (λ (x : List Action). NoneEnds (book x)) (sym none) h.ended;
        fit = h.fit;
        still = h.still;
        hushed = h.hushed;
        seats = h.seats;
      };
      put = λ x. subst (λ (y : List Action). NoneComes (book y)) (sym none) h.comes;
      heeded = subst (λ (y : List Action). IsHeeded (book y).rest (book y).failed d.single.connection.life d.manager) (sym none) h.heeded;
      informed = subst (λ (y : List Action). IsInformed (book y) d.manager) (sym none) h.informed;
    }

-- so they are shown
pub flushed_between : (trace : List Action) (d : Core) → d.turns ≢ 0 → return.HasReturned trace d → IsBetween (trace ++ shown_behind d (flushed_apart d).acts) (record d { single = record d.single { connection = (flushed_apart d).conn } })
flushed_between trace d began h =
    let w = flushed_apart d in
    let all = returned_between trace d (work_with d.single.connection []) began (begins_anew trace d h) in
    let quiet = apart_quiet d in
    subst (λ (ts : List Purpose). IsBetween (trace ++ shown_behind d w.acts) (record d { timers = ts; single = record d.single { connection = w.conn } })) (ap (λ ts. d.timers ++ ts) (no_timers d.single.link w.acts quiet) ∙ append-nil d.timers)
    (subst (λ (ss : List SourceUse). IsBetween (trace ++ shown_behind d w.acts) (record d { timers = d.timers ++ timers_of d.single.link w.acts; sources = ss; single = record d.single { connection = w.conn } })) (ap (λ ss. d.sources ++ ss) (no_sources d.single.link w.acts quiet) ∙ append-nil d.sources) all)

-- the turn as it is shown
--
-- what it does of its own is shown alike behind it
shown_alike : (k : Core) (q : Generations) (word : ℕ) (what : Comeback) → k.manager ≡ Some q → comeback_shown_in (came_back k what).manager word what ≡ comeback_shown q word what
shown_alike k q word comeback.Stays is = ap (λ (m : Option Generations). comeback_shown_in m word comeback.Stays) is
shown_alike k q word (comeback.Rests n a timer) is = ap (λ (m : Option Generations). comeback_shown_in (option_map (λ g. machine.failed_behind g a timer) m) word (comeback.Rests n a timer)) is
shown_alike k q word (comeback.Dials l None timer) is = ap (λ (m : Option Generations). comeback_shown_in m word (comeback.Dials l None timer)) is
shown_alike k q word (comeback.Dials l (Some n) timer) is = ap (λ (m : Option Generations). comeback_shown_in (option_map (λ g. machine.begun_with g n) m) word (comeback.Dials l (Some n) timer)) is

-- what a manager does of its own behind a turn that has come so far
abbrev pub what_of : Core → Generations → EventKind → Turning → Comeback
what_of c g kind u = comeback_of (heeded g kind u.acts) (wakes g kind) (machine.has_ended c.single.connection.life) (heeding u.core kind u.acts) u.acts

pub own_is : (c : Core) (g : Generations) (kind : EventKind) (u : Turning) → u.core.manager ≡ Some g → own_part u (machine.has_ended c.single.connection.life) kind ≡ what_of c g kind u
own_is c g kind u is = λ i. comeback_in (option_map (λ x. heeded x kind u.acts) (is i)) (wakes_in (is i) kind) (machine.has_ended c.single.connection.life) (heeding u.core kind u.acts) u.acts

-- the session behind the turn
pub managed_core : (c : Core) (g : Generations) (e : Event) → c.manager ≡ Some g → (let u = numbered (passed_by (counted c) e.kind) in let d = came_back (heeding u.core e.kind u.acts) (what_of c g e.kind u) in
    u.core.manager ≡ Some g → (next_turn c e.kind).core ≡ record d { single = record d.single { connection = (flushed_apart d).conn } })
unfolding next_turn
managed_core c g e is made =
    let over = machine.has_ended c.single.connection.life in
    let u = numbered (passed_by (counted c) e.kind) in
    let behind : come_back_behind u over e.kind ≡ came_back (heeding u.core e.kind u.acts) (what_of c g e.kind u) = ap (came_back (heeding u.core e.kind u.acts)) (own_is c g e.kind u made) in
    ap (λ (v : Turning). v.core) (taken_if (is_some c.manager) (ended_apart u over e.kind) _ (ap is_some is))
    ∙ ap (λ (x : Core). record x { single = record x.single { connection = (flushed_apart x).conn } }) behind

-- and its trace
pub managed_trace : (before : List Action) (c : Core) (g : Generations) (e : Event) → c.manager ≡ Some g → (let u = numbered (passed_by (counted c) e.kind) in let d = came_back (heeding u.core e.kind u.acts) (what_of c g e.kind u) in
    u.core.manager ≡ Some g
    → (((before ++ turn_of c e.word e.kind ∷ []) ++ shown_each c.single.link (length c.timers) (length c.sources) u.acts) ++ comeback_shown (heeded g e.kind u.acts) e.word (what_of c g e.kind u)) ++ shown_behind d (flushed_apart d).acts ≡ before ++ actions_of c e)
unfolding next_turn comeback_by last_acts
managed_trace before c g e is made =
    let over = machine.has_ended c.single.connection.life in
    let u = numbered (passed_by (counted c) e.kind) in
    let q = heeded g e.kind u.acts in
    let what = what_of c g e.kind u in
    let d = came_back (heeding u.core e.kind u.acts) what in
    let managed : is_some c.manager ≡ true = ap is_some is in
    let own : own_part u over e.kind ≡ what = own_is c g e.kind u made in
    let behind : come_back_behind u over e.kind ≡ d = ap (came_back (heeding u.core e.kind u.acts)) own in
    let next : next_turn c e.kind ≡ ended_apart u over e.kind = taken_if (is_some c.manager) (ended_apart u over e.kind) _ managed in
    let front = before ++ turn_of c e.word e.kind ∷ [] in
    let acts = shown_each c.single.link (length c.timers) (length c.sources) u.acts in
    let trace = front ++ acts in
    let shown : effects_of c e ≡ acts ++ (comeback_shown q e.word what ++ shown_behind d (flushed_apart d).acts) =
    taken_if (is_some c.manager) _ _ managed
    ∙ (λ i. shown_each c.single.link (length c.timers) (length c.sources) (next i).acts ++ return_shown (next i).core e.word (taken_if (is_some c.manager) (own_part u over e.kind) comeback.Stays managed i) (taken_if (is_some c.manager) (flushed_apart (come_back_behind u over e.kind)).acts [] managed i))
    ∙ (λ i. acts ++ (comeback_shown_in (behind i).manager e.word (own i) ++ shown_each (behind i).single.link (length (behind i).timers) (length (behind i).sources) (flushed_apart (behind i)).acts))
    ∙ (λ i. acts ++ (shown_alike (heeding u.core e.kind u.acts) q e.word what (ap (option_map (λ x. heeded x e.kind u.acts)) made) i ++ shown_behind d (flushed_apart d).acts)) in
    append_assoc trace (comeback_shown q e.word what) (shown_behind d (flushed_apart d).acts)
    ∙ append_assoc front acts (comeback_shown q e.word what ++ shown_behind d (flushed_apart d).acts)
    ∙ append_assoc before (turn_of c e.word e.kind ∷ []) (acts ++ (comeback_shown q e.word what ++ shown_behind d (flushed_apart d).acts))
    ∙ ap (λ (xs : List Action). before ++ turn_of c e.word e.kind ∷ xs) (sym shown)

-- from there it leads from between two turns to between the next two
pub managed_between : (before : List Action) (c : Core) (g : Generations) (e : Event) → c.manager ≡ Some g
    → (let u = numbered (passed_by (counted c) e.kind) in let k = heeding u.core e.kind u.acts in let what = what_of c g e.kind u in
    u.core.manager ≡ Some g → (came_back k what).turns ≢ 0
    → return.HasReturned (((before ++ turn_of c e.word e.kind ∷ []) ++ shown_each c.single.link (length c.timers) (length c.sources) u.acts) ++ comeback_shown (heeded g e.kind u.acts) e.word what) (came_back k what)
    → IsBetween (before ++ actions_of c e) (next_turn c e.kind).core)
managed_between before c g e is made later h =
    let u = numbered (passed_by (counted c) e.kind) in
    let what = what_of c g e.kind u in
    let d = came_back (heeding u.core e.kind u.acts) what in
    let trace = (before ++ turn_of c e.word e.kind ∷ []) ++ shown_each c.single.link (length c.timers) (length c.sources) u.acts in
    subst (λ (x : List Action). IsBetween x (next_turn c e.kind).core) (managed_trace before c g e is made)
    (subst (λ (x : Core). IsBetween ((trace ++ comeback_shown (heeded g e.kind u.acts) e.word what) ++ shown_behind d (flushed_apart d).acts) x) (sym (managed_core c g e is made)) (flushed_between (trace ++ comeback_shown (heeded g e.kind u.acts) e.word what) d later h))
