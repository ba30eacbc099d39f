-- A request is let in: it takes its permits, and its timer is asked for.
use Rattle.std.proofs.Common.{List, None, Option, Some, [], ap, append_assoc, arith, false, inl, inr, length, refl, subst, sym, true, ℕ, ◌+◌, ◌-◌, ◌++◌, ◌<◌, ◌≤◌, ◌∙◌, ◌∷◌, ◌≡◌, ◌≢◌, ◌⊎◌}
use Rattle.std.proofs.lemmas.List.{length-append}
use Rattle.std.specs.List.{AllByRecursion}
use Rattle.std.specs.Prelude.{is_none, is_some, min, nat_lt, ◌==◌, ◌&&◌, ◌||◌}
use Rattle.containers.proofs.Choices.{by_test, chosen, eq_test, left_if, ne_from, ne_test, not_both, not_lt_from, taken_if}
use Rattle.driver_model.specs.Shape.{permits_for}
use Rattle.driver_model.specs.declared.action.Action.{Action}
use Rattle.driver_model.specs.declared.action.Action.TheVariants as action
use Rattle.driver_model.specs.declared.action.Owner.TheVariants as owner
use Rattle.driver_model.specs.declared.action.Purpose.{Purpose}
use Rattle.driver_model.specs.declared.action.Purpose.TheVariants as purpose
use Rattle.driver_model.specs.declared.outcome.Shape.{Shape}
use Rattle.driver_model.specs.declared.outcome.Shape.TheVariants.{Single, Pipeline, Confirmation}
use Rattle.link_core.specs.Link.{LinkState, holds_back, is_full_beside}
use Rattle.mux_conn.specs.Connection.{Work, has_no_permit, in_front, is_ready, is_outstanding}
use Rattle.mux_conn.specs.Passes.{holding, let_in, permits_taken, timer_asked, took_shown}
use Rattle.mux_conn.specs.declared.act.LinkAct.{LinkAct}
use Rattle.mux_conn.specs.declared.act.LinkAct.TheVariants as act
use Rattle.mux_conn.specs.declared.connection.MultiplexedConnection.{MultiplexedConnection}
use Rattle.single_session.specs.declared.core_state.Core.{Core}
use Rattle.single_session.specs.Turn.{sources_of, timers_of}
use Rattle.session_laws.proofs.Ties.Entered.{quiet_sources, quiet_timers, shown_more, timers_more}
use Rattle.session_laws.proofs.Requests.Settle.{book_of_more, seen, trace_of_acts}
use Rattle.mux_conn.specs.Requests.{is_open as is_open_progress, is_unbegun, is_waiting, is_waiting_at, name_at, permits_at, with_permits}
use Rattle.mux_conn.specs.declared.life.Life.TheVariants.{Ready}
use Rattle.mux_conn.specs.declared.request.Progress.TheVariants as progress
use Rattle.mux_conn.specs.declared.request.Request.{Request}
use Rattle.mux_conn.specs.declared.request.Waiting.{Waiting}
use Rattle.legal_trace.specs.Book.{Book, book, entered, has_generations, if_own}
use Rattle.legal_trace.specs.Legal.{IsFirstToMove, MayTake, MayTime, NoneEnds}
use Rattle.legal_trace.specs.Steps.{is_due, is_let_in, next_step, permits_held, permits_on, takes}
use Rattle.legal_trace.specs.Story.{Story, clocked, holds, is_unstarted}
use Rattle.conn_laws.proofs.Ties.Ahead.{HasSeats}
use Rattle.conn_laws.proofs.Changes.Requests.{waiting_open, progress_twice as permits_twice}
use Rattle.session_laws.proofs.Ties.Ahead.{HasBegun, IsRunning, ask_step, full_step, kept_unstarted, running_of, take_step}
use Rattle.conn_laws.proofs.Requests.Going.{HasRenewed}
use Rattle.session_laws.proofs.Requests.Going.{IsGoing, begun_up, going_more, moves_later, queue_stays}
use Rattle.conn_laws.proofs.Ties.InLine.{first_is_least, kept_ids}
use Rattle.conn_laws.proofs.Ties.Names.{earlier_name, get_more, name_with, name_within, names_with, owners_with, permits_with, there_within, with_same}
use Rattle.conn_laws.proofs.Ties.Numbers.{IsIn, Rising, in_right, rising_in, rising_right, requests_in}
use Rattle.session_laws.proofs.Ties.Owes.{request_story, open_on}
use Rattle.conn_laws.proofs.Ties.Permits.{held_changed, held_same, on_this}
use Rattle.conn_laws.proofs.Requests.Rounded.{rounds_with, early_never}
use Rattle.conn_laws.proofs.Links.Said.{carried_tied}
use Rattle.conn_laws.proofs.Ties.States.{IsFit}
use Rattle.conn_laws.proofs.Ties.Tied.{IsPacked, TiedPermits, TiedRounds, TiedWaits, link_in, queue_ids, waiting_ids}
use Rattle.session_laws.proofs.Ties.Tied.{IsAim, AreAimed, TurnState, Tied, TiedNumbers, numbers_kept, IsToldIn}
use Rattle.conn_laws.proofs.Ties.Moves.{or_true}
use Rattle.conn_laws.proofs.Internal.Repeats.{serves}
use Rattle.conn_laws.proofs.Internal.Serving.{answered_serves}
use Rattle.conn_laws.proofs.Requests.LetIn.{AreEased, AreStill, IsEased, eased_same, lines_let, none_eased, permits_eased, story_let, test_kept, told_let, tries_let, waits_let}
use Rattle.conn_laws.proofs.Changes.Kept.{took_conn}

-- stories that change in permits, timers, rounds and waits alone
--
-- the session where that request waits on, its round begun, and these are let in
abbrev pub waits_on : TurnState → ℕ → ℕ → ℕ → List Purpose → List ℕ → TurnState
waits_on t p count free timers being_admitted = record t { requests = with_permits t.requests p progress.Begun count; free = free; timers = timers; being_admitted = being_admitted }

-- so it is with that request let in so far
abbrev pub lets : TurnState → ℕ → ℕ → ℕ → List Purpose → TurnState
lets t p count free timers = waits_on t p count free timers (p ∷ [])

-- it is tied to the book with these stories and timers, where its waits, its permits and its rounds are
pub waits_on_tied : (b : Book) (t : TurnState) (p count free : ℕ) (g : ℕ → Story) (placed : ℕ → Option ℕ) (since : ℕ → ℕ) (noted timers : List Purpose) (being_admitted : List ℕ) → serves t.life t.again ≡ true → is_waiting_at t.requests p ≡ true → AreEased b.story g (name_at t.requests p) → (g (name_at t.requests p)).permits ≡ count
    → TiedNumbers (record b { story = g; timers = noted; placed = placed; since = since }) (waits_on t p count free timers being_admitted) → (let requests = with_permits t.requests p progress.Begun count in
    TiedWaits g requests t.again t.life t.fresh t.moved → TiedPermits g b.submissions requests t.link t.limit free being_admitted → TiedRounds (has_generations b) g requests (serves t.life t.again) t.fresh t.rounds → Tied b t
    → Tied (record b { story = g; timers = noted; placed = placed; since = since }) (waits_on t p count free timers being_admitted))
waits_on_tied b t p count free g placed since noted timers being_admitted ready w eased has numbers waits permits rounds h = record {
  numbers = numbers;
  others = h.others;
  notices = h.notices;
  life = h.life;
  course = h.course;
  calm = h.calm;
  creds = h.creds;
  creation = h.creation;
  uses = h.uses;
  renewal = h.renewal;
  repeat = h.repeat;
  setup = h.setup;
  link = λ e. carried_tied t.life t.requests (with_permits t.requests p progress.Begun count) (b.link t.link) (sym (owners_with t.requests p progress.Begun count)) (h.link e);
  names = names_with t.table t.requests p progress.Begun count h.names;
  story = λ n. story_let b.story g t.table t.requests t.link p count n h.names w eased has (h.story n);
  tries = tries_let (b.link t.link) b.story g t.requests t.link t.started p count eased.each h.tries;
  lines = lines_let b.story g t.requests (link_in t.life) t.waiting t.admitted t.pending t.started p count w eased.each h.lines;
  told = λ e. told_let b.story g t.requests t.link (link_in t.life) p count eased.each (h.told e);
  waits = waits;
  permits = permits;
  rounds = rounds;
  early = early_never (with_permits t.requests p progress.Begun count) t.again t.life ready;
  late = λ m o e. h.late m (sym (test_kept is_open_progress t.requests p count m refl w) ∙ o)
      (sym (eased.each (name_at t.requests m)).overdue ∙ ap (λ n. (g n).overdue) (sym (name_with t.requests p progress.Begun count m)) ∙ e);
}

-- so it is while it is let in
let_tied : (b : Book) (t : TurnState) (p count free : ℕ) (g : ℕ → Story) (placed : ℕ → Option ℕ) (since : ℕ → ℕ) (noted timers : List Purpose) → serves t.life t.again ≡ true → is_waiting_at t.requests p ≡ true → HasBegun t p → ((m : ℕ) → IsIn m t.being_admitted → p ≡ m) → AreEased b.story g (name_at t.requests p) → AreStill b.story g
    → (g (name_at t.requests p)).permits ≡ count → ((k : ℕ) → t.limit ≡ Some k → permits_held g t.link b.submissions + free ≡ k) → TiedNumbers (record b { story = g; timers = noted; placed = placed; since = since }) (lets t p count free timers) → Tied b t
    → Tied (record b { story = g; timers = noted; placed = placed; since = since }) (lets t p count free timers)
let_tied b t p count free g placed since noted timers ready w begun alone eased still has sum numbers h =
    let o = waiting_open t.requests p w in
    waits_on_tied b t p count free g placed since noted timers (p ∷ []) ready w eased has numbers (waits_let b.story g t.requests t.again t.life t.fresh t.moved p count w still.waiting h.waits)
    (permits_eased b.story g t.table b.submissions t.requests t.link t.limit t.free free t.being_admitted p count h.names w alone eased sum h.permits)
    (rounds_with b.story g t.requests t.fresh p progress.Begun count (there_within is_waiting t.requests p w) refl still.rounded (λ shows unclosed. h.rounds.begun p shows o (begun shows)) h.rounds) h

-- whose step is first
--
-- the first of those that wait for the connection, or for a permit, where those that wait for a place find the queue full
pub first_early : (b : Book) (t : TurnState) (q : ℕ) (rest : List ℕ) → Tied b t → IsRunning t → ((link_in t.life).queue ≡ []) ⊎ (holds_back (link_in t.life) ≡ true) → (t.admitted ≡ []) ⊎ (is_full_beside (link_in t.life) (in_front t.renewal) ≡ true) → waiting_ids t.waiting ≡ q ∷ rest
    → IsFirstToMove b (name_at t.requests q)
first_early b t q rest h r still full first n before m =
    let ids = queue_ids (link_in t.life).queue in
    let kept = kept_ids t.admitted t.waiting in
    let l = moves_later b t n h r m in
    let stays : is_due (next_step b (name_at t.requests l.p)) ≡ false → ⊥ = λ e. not_both (is_due (next_step b n)) (ap (λ x. is_due (next_step b x)) (sym l.name) ∙ e) m.due in
    let all = rising_right 0 (waiting_ids t.admitted) (waiting_ids t.waiting) (length t.requests) (rising_right 0 ids kept (length t.requests) (rising_right 0 (requests_in t.started) (ids ++ kept) (length t.requests) h.lines.line)) in
    let line = subst (λ ns. Rising 0 ns (length t.requests)) first all in
    let within = rising_in 0 (q ∷ rest) (length t.requests) q line (inl refl) in
    let earlier = earlier_name t.table t.requests l.p q h.names l.within within.1 (subst (λ x. x < name_at t.requests q) (sym l.name) before) in
    elim l.later [
      | inl i ↦ stays (queue_stays b t l.p h r still i)
      | inr k ↦ elim k [
        | inl a ↦ elim full [
          | inl empty ↦ absurd (subst (λ ws. IsIn l.p (waiting_ids ws)) empty a.1)
          | inr filled ↦ stays (ap is_due (full_step b t l.p h r filled a.0 a.1))
        ]
        | inr w ↦ let least = first_is_least 0 q rest (length t.requests) l.p line (subst (IsIn l.p) first w.1) in omega arith
      ]
    ]

-- a connection that is up, whose next is to be let in: what is in its queue is held back, those that wait for a place find it
-- full, and new credentials are told that may be
pub record IsOpening (t : TurnState) (link : LinkState) (q : Waiting) (qs : List Waiting) : Type 0 where
  pub life : t.life ≡ Ready link
  pub served : is_outstanding t.again ≡ false
  pub settled : t.pending ≡ []
  pub told : IsToldIn t
  pub fit : IsFit t.size t.bound link
  pub held : (link.queue ≡ []) ⊎ (holds_back link ≡ true)
  pub full : (t.admitted ≡ []) ⊎ (is_full_beside link (in_front t.renewal) ≡ true)
  pub seats : HasSeats t.moved (in_front t.renewal) link t.size
  pub renewed : HasRenewed t.renewal t.life
  pub waiting : t.waiting ≡ q ∷ qs
  pub is_waiting : is_waiting_at t.requests q.number ≡ true
  pub begun : HasBegun t q.number

-- it runs
opening_running : (t : TurnState) (link : LinkState) (q : Waiting) (qs : List Waiting) → IsOpening t link q qs → IsRunning t
opening_running t link q qs o = running_of t link o.settled o.life o.served o.fit o.seats

-- its step is first
opening_first : (b : Book) (t : TurnState) (link : LinkState) (q : Waiting) (qs : List Waiting) → IsOpening t link q qs → Tied b t → IsFirstToMove b (name_at t.requests q.number)
opening_first b t link q qs o h =
    let here : link_in t.life ≡ link = ap link_in o.life in
    first_early b t q.number (waiting_ids qs) h (opening_running t link q qs o)
    (subst (λ (x : LinkState). (x.queue ≡ []) ⊎ (holds_back x ≡ true)) (sym here) o.held)
    (subst (λ (x : LinkState). (t.admitted ≡ []) ⊎ (is_full_beside x (in_front t.renewal) ≡ true)) (sym here) o.full)
    (ap waiting_ids o.waiting)

-- and it is still to start
opening_unstarted : (b : Book) (t : TurnState) (link : LinkState) (q : Waiting) (qs : List Waiting) → IsOpening t link q qs → Tied b t → is_unstarted (b.story (name_at t.requests q.number)) ≡ true
opening_unstarted b t link q qs o h =
    kept_unstarted b t q.number h (waiting_open t.requests q.number o.is_waiting)
    (in_right q.number (waiting_ids t.admitted) (waiting_ids t.waiting) (subst (λ ws. IsIn q.number (waiting_ids ws)) (sym o.waiting) (inl refl)))

-- it is as its submission says
opening_packed : (b : Book) (t : TurnState) (link : LinkState) (q : Waiting) (qs : List Waiting) → IsOpening t link q qs → Tied b t → IsPacked b.story t.requests q
opening_packed b t link q qs o h = (subst (AllByRecursion (IsPacked b.story t.requests)) o.waiting h.lines.packs).0

-- it takes its permits
--
-- those that it takes are no more than those that are free, and some
taken_some : (free : ℕ) (of_shape : Shape) (k : ℕ) → free ≢ 0 → (min free (permits_for of_shape k) ≤ free) × (0 < min free (permits_for of_shape k))
taken_some free Single k some = let no_zero : free ≢ 0 = some in (omega arith, omega arith)
taken_some free Confirmation k some = let no_zero : free ≢ 0 = some in (omega arith, omega arith)
taken_some free (Pipeline offset count transaction) k some = let no_zero : free ≢ 0 = some in (omega arith, omega arith)

-- it may take them
may_take : (b : Book) (t : TurnState) (link : LinkState) (q : Waiting) (qs : List Waiting) (k : ℕ) → IsOpening t link q qs → t.being_admitted ≡ [] → t.limit ≡ Some k → t.free ≢ 0 → Tied b t → NoneEnds b
    → MayTake b (name_at t.requests q.number) t.link (min t.free (permits_for q.shape k))
may_take b t link q qs k o alone e some h ends =
    let p = q.number in
    let within = there_within is_waiting t.requests p o.is_waiting in
    record {
      begun = begun_up b t h (opening_running t link q qs o) o.told ends o.renewed;
      unstarted = opening_unstarted b t link q qs o h;
      takes = take_step b t p k h (opening_running t link q qs o) o.is_waiting o.begun (λ i. subst (IsIn p) alone i) e some
          ∙ ap (λ x. takes (min t.free (permits_for x k))) (sym (opening_packed b t link q qs o h).is_of.shape_is);
      in_order = opening_first b t link q qs o h;
      on_its_link = sym (open_on b t p h (waiting_open t.requests p o.is_waiting));
    }

-- one story changes
pub eased_at : (f : ℕ → Story) (n : ℕ) (c : Story → Story) → ((m : ℕ) → IsEased (f m) (c (f m))) → AreEased f (λ m. if_own (n == m) (c (f m)) (f m)) n
eased_at f n c eased = record {
  each = λ m. chosen (λ (x : Story). IsEased (f m) x) (n == m) (c (f m)) (f m) (λ t. eased m) (λ e. eased_same (f m));
  others = λ m o. left_if (n == m) (c (f m)) (f m) (ne_test n m o);
}

-- its wait and its round are as they were
still_at : (f : ℕ → Story) (n : ℕ) (c : Story → Story) → ((s : Story) → (c s).waiting ≡ s.waiting) → ((s : Story) → (c s).rounded ≡ s.rounded) → AreStill f (λ m. if_own (n == m) (c (f m)) (f m))
still_at f n c waits rounds = record {
  waiting = λ m. chosen (λ (x : Story). x.waiting ≡ (f m).waiting) (n == m) (c (f m)) (f m) (λ t. waits (f m)) (λ e. refl);
  rounded = λ m. chosen (λ (x : Story). x.rounded ≡ (f m).rounded) (n == m) (c (f m)) (f m) (λ t. rounds (f m)) (λ e. refl);
}

-- what it takes is shown
take_tied : (b : Book) (t : TurnState) (p count : ℕ) → serves t.life t.again ≡ true → is_waiting_at t.requests p ≡ true → HasBegun t p → t.being_admitted ≡ [] → count ≤ t.free → Tied b t
    → Tied (entered b (action.Took (owner.Try (name_at t.requests p) 0) t.link count)) (lets t p count (t.free - count) t.timers)
take_tied b t p count ready w begun alone most h =
    let n = name_at t.requests p in
    let taken = action.Took (owner.Try n 0) t.link count in
    let within = there_within is_waiting t.requests p w in
    let g : ℕ → Story = λ m. if_own (n == m) (holds (b.story m) count) (b.story m) in
    let eased = eased_at b.story n (λ s. holds s count) (λ m. record { submission = refl; late = refl; unspoken = refl; link = refl; timeout = refl; overdue = refl; tries = refl; outcomes = refl; cancelled = refl }) in
    let own : g n ≡ holds (b.story n) count = taken_if (n == n) (holds (b.story n) count) (b.story n) (eq_test n n refl) in
    let r = request_story b t p h within in
    let on = r.on (waiting_open t.requests p w) in
    let none = h.permits.none p w (λ i. subst (IsIn p) alone i) in
    let known : n < b.submissions = (let l = name_within t.table t.requests p h.names within in let e = h.numbers.submissions in omega arith) in
    let_tied b t p count (t.free - count) g (entered b taken).placed b.since b.timers t.timers ready w begun (λ m i. absurd (subst (IsIn m) alone i)) eased (still_at b.story n (λ s. holds s count) (λ m. refl) (λ m. refl)) (ap (λ (s : Story). s.permits) own)
    (λ k e.
    let was = h.permits.counted k e in
    let change = held_changed b.story g t.link b.submissions n known (λ m o. ap (permits_on t.link) (eased.others m (λ x. o (sym x)))) in
    let before = on_this t.link (b.story n) on ∙ r.permits_is ∙ none.0 in
    let after = on_this t.link (g n) (ap (λ (s : Story). s.link) own ∙ on) ∙ ap (λ (s : Story). s.permits) own in
    omega arith)
    (numbers_kept b b.link g b.tracked b.errors (entered b taken).placed b.since t t.life (t.free - count) (with_permits t.requests p progress.Begun count) t.waiting t.admitted t.fresh t.moved (p ∷ []) t.pending t.started h.numbers) h

-- where permits aren't counted nothing is
free_tied : (b : Book) (t : TurnState) (p : ℕ) → serves t.life t.again ≡ true → is_waiting_at t.requests p ≡ true → HasBegun t p → t.being_admitted ≡ [] → t.limit ≡ None → Tied b t → Tied b (lets t p 0 (t.free - 0) t.timers)
free_tied b t p ready w begun alone e h =
    let n = name_at t.requests p in
    let within = there_within is_waiting t.requests p w in
    let r = request_story b t p h within in
    let none = h.permits.none p w (λ i. subst (IsIn p) alone i) in
    let_tied b t p 0 (t.free - 0) b.story b.placed b.since b.timers t.timers ready w begun (λ m i. absurd (subst (IsIn m) alone i)) (none_eased b.story n) (record { waiting = λ m. refl; rounded = λ m. refl }) (r.permits_is ∙ none.0)
    (λ k x. (let no_limit : ◌≡◌ {A = Option ℕ} None (Some k) = sym e ∙ x in cc))
    (numbers_kept b b.link b.story b.tracked b.errors b.placed b.since t t.life (t.free - 0) (with_permits t.requests p progress.Begun 0) t.waiting t.admitted t.fresh t.moved (p ∷ []) t.pending t.started h.numbers) h

-- its timer is asked for
--
-- a timer more
aims_more : (timers : List Purpose) (link count n : ℕ) → n < count → AreAimed timers link count → AreAimed (timers ++ purpose.Response (owner.Try n 0) ∷ []) link count
aims_more timers link count n l h k what e = elim (get_more timers (purpose.Response (owner.Try n 0)) k what e) [
  | inl i ↦ h k what i
  | inr x ↦ subst (λ w. IsAim w link count) x.1 (l, refl)
]

-- it may be asked for
may_time : (b : Book) (t : TurnState) (link : LinkState) (q : Waiting) (qs : List Waiting) (number ms : ℕ) → IsOpening t link q qs → Tied b t → NoneEnds b → number ≡ length t.timers
    → (is_none t.limit || nat_lt 0 (b.story (name_at t.requests q.number)).permits) ≡ true → q.timeout ≡ Some ms → (b.story (name_at t.requests q.number)).clock ≡ None
    → MayTime b number ms (purpose.Response (owner.Try (name_at t.requests q.number) 0))
may_time b t link q qs number ms o h ends counted has time none =
    let p = q.number in
    record {
      n = name_at t.requests p;
      begun = begun_up b t h (opening_running t link q qs o) o.told ends o.renewed;
      unstarted = opening_unstarted b t link q qs o h;
      asks = ask_step b t p ms h (opening_running t link q qs o) (waiting_open t.requests p o.is_waiting) o.begun has (sym (opening_packed b t link q qs o h).time_is ∙ time) none;
      in_order = opening_first b t link q qs o h;
      next = counted ∙ ap length (sym h.numbers.timers);
      is_for = refl;
    }

-- and is
ask_tied : (b : Book) (t : TurnState) (p number ms : ℕ) → serves t.life t.again ≡ true → is_waiting_at t.requests p ≡ true → HasBegun t p → ((m : ℕ) → IsIn m t.being_admitted → p ≡ m) → Tied b t
    → Tied (entered b (action.Timer number ms (purpose.Response (owner.Try (name_at t.requests p) 0)))) (lets t p (permits_at t.requests p) t.free (t.timers ++ purpose.Response (owner.Try (name_at t.requests p) 0) ∷ []))
ask_tied b t p number ms ready w begun alone h =
    let n = name_at t.requests p in
    let within = there_within is_waiting t.requests p w in
    let what = purpose.Response (owner.Try n 0) in
    let g : ℕ → Story = λ m. if_own (n == m) (clocked (b.story m) number) (b.story m) in
    let eased = eased_at b.story n (λ s. clocked s number) (λ m. record { submission = refl; late = refl; unspoken = refl; link = refl; timeout = refl; overdue = refl; tries = refl; outcomes = refl; cancelled = refl }) in
    let own : g n ≡ clocked (b.story n) number = taken_if (n == n) (clocked (b.story n) number) (b.story n) (eq_test n n refl) in
    let r = request_story b t p h within in
    let known = name_within t.table t.requests p h.names within in
    let hold : (m : ℕ) → permits_on t.link (g m) ≡ permits_on t.link (b.story m) = λ m.
    chosen (λ (x : Story). permits_on t.link x ≡ permits_on t.link (b.story m)) (n == m) (clocked (b.story m) number) (b.story m) (λ t. refl) (λ f. refl) in
    let asked = action.Timer number ms what in
    let k = numbers_kept b b.link g b.tracked b.errors (entered b asked).placed b.since t t.life t.free (with_permits t.requests p progress.Begun (permits_at t.requests p)) t.waiting t.admitted t.fresh t.moved (p ∷ []) t.pending t.started h.numbers in
    let_tied b t p (permits_at t.requests p) t.free g (entered b asked).placed b.since (b.timers ++ what ∷ []) (t.timers ++ what ∷ []) ready w begun alone eased (still_at b.story n (λ s. clocked s number) (λ m. refl) (λ m. refl)) (ap (λ (s : Story). s.permits) own ∙ r.permits_is)
    (λ k e. ap (λ x. x + t.free) (held_same b.story g t.link b.submissions (λ m l. hold m)) ∙ h.permits.counted k e)
    (record {
      turns = k.turns;
      links = k.links;
      timers = ap (λ ts. ts ++ what ∷ []) h.numbers.timers;
      sources = k.sources;
      aims = aims_more t.timers t.link (length t.table) n known h.numbers.aims;
      timed = k.timed;
      submissions = k.submissions;
      timeout = k.timeout;
      shut = k.shut;
      within = k.within;
      few = k.few;
      settings = record { size_is = k.settings.size_is; bound_is = k.settings.bound_is; limit_is = k.settings.limit_is; some = k.settings.some; limited = k.settings.limited };
      kind_is = k.kind_is;
      quiet = k.quiet;
      comes_back = k.comes_back;
      lazy = k.lazy;
      current_is = k.current_is;
      speaks = k.speaks;
      address_is = k.address_is;
      wants = k.wants;
      alone = k.alone;
    }) h

-- a request is let in by its connection
--
-- one that waits holds its permits, where they are counted, and has no timer
pub record HasTaken (before : List Action) (f : Core) (t : TurnState) (p count : ℕ) (acts : List LinkAct) : Type 0 where
  pub going : IsGoing (trace_of_acts before f acts) (lets t p count (t.free - count) (f.timers ++ timers_of f.single.link acts))
  pub has : (is_none t.limit || nat_lt 0 ((book (trace_of_acts before f acts)).story (name_at t.requests p)).permits) ≡ true
  pub none : ((book (trace_of_acts before f acts)).story (name_at t.requests p)).clock ≡ None
  pub sourced : f.sources ++ sources_of f.single.link acts ≡ t.sources

-- where permits are counted it has taken some
some_taken : (before : List Action) (f : Core) (acts : List LinkAct) (conn : MultiplexedConnection) (started : List ℕ) (link : LinkState) (q : Waiting) (qs : List Waiting) (k : ℕ) → IsOpening (seen f acts conn [] started) link q qs → conn.limit ≡ Some k → conn.free ≢ 0
    → IsGoing (trace_of_acts before f acts) (seen f acts conn [] started)
    → HasTaken before f (seen f acts conn [] started) q.number (min conn.free (permits_for q.shape k)) (acts ++ act.Took (name_at conn.requests q.number) (min conn.free (permits_for q.shape k)) ∷ [])
some_taken before f acts conn started link q qs k o e some h =
    let t = seen f acts conn [] started in
    let p = q.number in
    let n = name_at conn.requests p in
    let count = min conn.free (permits_for q.shape k) in
    let trace = trace_of_acts before f acts in
    let b = book trace in
    let a = act.Took n count in
    let taken = action.Took (owner.Try n 0) f.single.link count in
    let most = taken_some conn.free q.shape k some in
    let after = lets t p count (conn.free - count) t.timers in
    let first : IsGoing (trace ++ taken ∷ []) after = going_more trace taken after h.sound.stands
    (refl, may_take b t link q qs k o refl e some h.sound.tied h.ended)
    (take_tied b t p count (answered_serves t.life t.again (ap is_ready o.life) o.served) o.is_waiting o.begun refl most.0 h.sound.tied)
    h.ended h.renewed h.served in
    let there = subst (λ (x : List Action). IsGoing x after) (sym (shown_more before f.single.link (length f.timers) (length f.sources) acts a)) first in
    let book_is = book_of_more before f acts a in
    let own : (entered b taken).story n ≡ holds (b.story n) count = taken_if (n == n) (holds (b.story n) count) (b.story n) (eq_test n n refl) in
    let story_is : (book (trace_of_acts before f (acts ++ a ∷ []))).story n ≡ holds (b.story n) count = ap (λ (x : Book). x.story n) book_is ∙ own in
    record {
      going = subst (λ ts. IsGoing (trace_of_acts before f (acts ++ a ∷ [])) (lets t p count (conn.free - count) (f.timers ++ ts))) (sym (quiet_timers f.single.link acts a refl)) there;
      has = ap (λ (x : Story). is_none conn.limit || nat_lt 0 x.permits) story_is ∙ ap (λ x. is_none conn.limit || x) (some_less count most.1) ∙ or_true (is_none conn.limit);
      none = ap (λ (x : Story). x.clock) story_is ∙ (h.sound.tied.permits.none p o.is_waiting (λ i. i)).1;
      sourced = ap (λ ss. f.sources ++ ss) (quiet_sources f.single.link acts a refl);
    }
  where
    some_less : (n : ℕ) → 0 < n → nat_lt 0 n ≡ true
    some_less n l = by_test (nat_lt 0 n) _ (λ t. t) (λ f1. absurd (let most = not_lt_from 0 n f1 in omega arith))

-- where they aren't it takes none
none_taken : (before : List Action) (f : Core) (acts : List LinkAct) (conn : MultiplexedConnection) (started : List ℕ) (link : LinkState) (q : Waiting) (qs : List Waiting) → IsOpening (seen f acts conn [] started) link q qs → conn.limit ≡ None
    → IsGoing (trace_of_acts before f acts) (seen f acts conn [] started) → HasTaken before f (seen f acts conn [] started) q.number 0 acts
none_taken before f acts conn started link q qs o e h =
    let t = seen f acts conn [] started in
    record {
      going = record { sound = record { stands = h.sound.stands; tied = free_tied (book (trace_of_acts before f acts)) t q.number (answered_serves t.life t.again (ap is_ready o.life) o.served) o.is_waiting o.begun refl e h.sound.tied }; ended = h.ended; renewed = h.renewed; served = h.served };
      has = ap (λ (x : Option ℕ). is_none x || nat_lt 0 ((book (trace_of_acts before f acts)).story (name_at conn.requests q.number)).permits) e;
      none = (h.sound.tied.permits.none q.number o.is_waiting (λ i. i)).1;
      sourced = refl;
    }

-- so it is by the connection
has_taken : (before : List Action) (f : Core) (acts : List LinkAct) (conn : MultiplexedConnection) (started : List ℕ) (link : LinkState) (q : Waiting) (qs : List Waiting) (limit : Option ℕ) → IsOpening (seen f acts conn [] started) link q qs → conn.limit ≡ limit
    → has_no_permit limit conn.free ≡ false → IsGoing (trace_of_acts before f acts) (seen f acts conn [] started)
    → (let count = permits_taken limit conn.free q.shape in
    HasTaken before f (seen f acts conn [] started) q.number count (took_shown (record { conn = holding conn q.number count; acts = acts }) q.number count limit).acts)
has_taken before f acts conn started link q qs None o e some h = none_taken before f acts conn started link q qs o e h
has_taken before f acts conn started link q qs (Some k) o e some h =
    let count = min conn.free (permits_for q.shape k) in
    subst (λ n. HasTaken before f (seen f acts conn [] started) q.number count (acts ++ act.Took n count ∷ [])) (sym (name_with conn.requests q.number progress.Admitted count q.number))
    (some_taken before f acts conn started link q qs k o e (ne_from conn.free 0 some) h)

-- it is let in
pub record HasLet (before : List Action) (f : Core) (t : TurnState) (p count : ℕ) (acts : List LinkAct) : Type 0 where
  pub going : IsGoing (trace_of_acts before f acts) (lets t p count (t.free - count) (f.timers ++ timers_of f.single.link acts))
  pub is : is_let_in t.limit ((book (trace_of_acts before f acts)).story (name_at t.requests p)) ≡ true
  pub sourced : f.sources ++ sources_of f.single.link acts ≡ t.sources

-- it is still to be let in when it holds its permits
opening_taken : (t : TurnState) (link : LinkState) (q : Waiting) (qs : List Waiting) (count free : ℕ) (timers : List Purpose) → IsOpening t link q qs → IsOpening (lets t q.number count free timers) link q qs
opening_taken t link q qs count free timers o = record {
  life = o.life;
  served = o.served;
  settled = o.settled;
  told = o.told;
  fit = o.fit;
  held = o.held;
  full = o.full;
  seats = o.seats;
  renewed = o.renewed;
  waiting = o.waiting;
  is_waiting = with_same is_waiting t.requests q.number progress.Begun count (there_within is_waiting t.requests q.number o.is_waiting);
  begun = λ shows. with_same is_unbegun t.requests q.number progress.Begun count (there_within is_waiting t.requests q.number o.is_waiting);
}

-- where it has no time, no timer is asked for
let_untimed : (before : List Action) (f : Core) (t : TurnState) (link : LinkState) (q : Waiting) (qs : List Waiting) (count : ℕ) (acts : List LinkAct) → IsOpening t link q qs → q.timeout ≡ None → HasTaken before f t q.number count acts → HasLet before f t q.number count acts
let_untimed before f t link q qs count acts o e h =
    let b = book (trace_of_acts before f acts) in
    let n = name_at t.requests q.number in
    let timers = f.timers ++ timers_of f.single.link acts in
    let now = lets t q.number count (t.free - count) timers in
    let packed = opening_packed b now link q qs (opening_taken t link q qs count (t.free - count) timers o) h.going.sound.tied in
    let time : (b.story n).timeout ≡ None = ap (λ m. (b.story m).timeout) (sym (name_with t.requests q.number progress.Begun count q.number)) ∙ sym packed.time_is ∙ e in
    record { going = h.going; is = λ i. h.has i && (is_none (time i) || is_some (b.story n).clock); sourced = h.sourced }

-- where it has one, it is
let_timed : (before : List Action) (f : Core) (t : TurnState) (link : LinkState) (q : Waiting) (qs : List Waiting) (count ms : ℕ) (acts : List LinkAct) → IsOpening t link q qs → q.timeout ≡ Some ms → t.link ≡ f.single.link → HasTaken before f t q.number count acts
    → HasLet before f t q.number count (acts ++ act.Timer (name_at t.requests q.number) ms ∷ [])
let_timed before f t link q qs count ms acts o e same h =
    let p = q.number in
    let n = name_at t.requests p in
    let trace = trace_of_acts before f acts in
    let b = book trace in
    let timers = f.timers ++ timers_of f.single.link acts in
    let now = lets t p count (t.free - count) timers in
    let within = there_within is_waiting t.requests p o.is_waiting in
    let named = name_with t.requests p progress.Begun count p in
    let number = length f.timers + length (timers_of f.single.link acts) in
    let what = purpose.Response (owner.Try n 0) in
    let timer = action.Timer number ms what in
    let a = act.Timer n ms in
    let opening = opening_taken t link q qs count (t.free - count) timers o in
    let alone : (m : ℕ) → IsIn m (p ∷ []) → p ≡ m = λ m i. elim i [ inl x ↦ x | inr k ↦ absurd k ] in
    let may = may_time b now link q qs number ms opening h.going.sound.tied h.going.ended (sym (length-append f.timers (timers_of f.single.link acts)))
    (ap (λ m. is_none t.limit || nat_lt 0 (b.story m).permits) named ∙ h.has) e (ap (λ m. (b.story m).clock) named ∙ h.none) in
    let stands : MayTime b number ms what = subst (λ m. MayTime b number ms (purpose.Response (owner.Try m 0))) named may in
    let asked = ask_tied b now p number ms (answered_serves t.life t.again (ap is_ready o.life) o.served) opening.is_waiting opening.begun alone h.going.sound.tied in
    let again = permits_twice t.requests p progress.Begun progress.Begun count (permits_at now.requests p) ∙ ap (with_permits t.requests p progress.Begun) (permits_with t.requests p progress.Begun count within) in
    let after = lets t p count (t.free - count) (timers ++ what ∷ []) in
    let tied : Tied (entered b timer) after =
    subst (λ (x : List Request). Tied (entered b timer) (record after { requests = x })) again
    (subst (λ m. Tied (entered b (action.Timer number ms (purpose.Response (owner.Try m 0)))) (record after { requests = with_permits now.requests p progress.Begun (permits_at now.requests p); timers = timers ++ purpose.Response (owner.Try m 0) ∷ [] })) named asked) in
    let first : IsGoing (trace ++ timer ∷ []) after = going_more trace timer after h.going.sound.stands (inr (inl stands)) tied h.going.ended h.going.renewed h.going.served in
    let there = subst (λ (x : List Action). IsGoing x after) (sym (shown_more before f.single.link (length f.timers) (length f.sources) acts a)) first in
    let own : (entered b timer).story n ≡ clocked (b.story n) number = taken_if (n == n) (clocked (b.story n) number) (b.story n) (eq_test n n refl) in
    let story_is : (book (trace_of_acts before f (acts ++ a ∷ []))).story n ≡ clocked (b.story n) number = ap (λ (x : Book). x.story n) (book_of_more before f acts a) ∙ own in
    record {
      going = subst (λ ts. IsGoing (trace_of_acts before f (acts ++ a ∷ [])) (lets t p count (t.free - count) ts)) (append_assoc f.timers (timers_of f.single.link acts) (what ∷ []) ∙ ap (λ ts. f.timers ++ ts) (sym (timers_more f.single.link acts a))) there;
      is = ap (is_let_in t.limit) story_is ∙ (λ i. h.has i && or_true (is_none (b.story n).timeout) i);
      sourced = ap (λ ss. f.sources ++ ss) (quiet_sources f.single.link acts a refl) ∙ h.sourced;
    }

-- by its time
let_by_time : (before : List Action) (f : Core) (t : TurnState) (link : LinkState) (q : Waiting) (qs : List Waiting) (count : ℕ) (v : Work) (timeout : Option ℕ) → IsOpening t link q qs → q.timeout ≡ timeout → t.link ≡ f.single.link → name_at v.conn.requests q.number ≡ name_at t.requests q.number
    → HasTaken before f t q.number count v.acts → HasLet before f t q.number count (timer_asked v q.number timeout).acts
let_by_time before f t link q qs count v None o e same named h = let_untimed before f t link q qs count v.acts o e h
let_by_time before f t link q qs count v (Some ms) o e same named h =
    subst (λ n. HasLet before f t q.number count (v.acts ++ act.Timer n ms ∷ [])) (sym named) (let_timed before f t link q qs count ms v.acts o e same h)

-- so the next is let in
pub let_in_going : (before : List Action) (f : Core) (w : Work) (admitted : List Waiting) (started : List ℕ) (link : LinkState) (q : Waiting) (qs : List Waiting)
    → (let t = seen f w.acts (record w.conn { admitted = admitted; waiting = q ∷ qs }) [] started in
    IsOpening t link q qs → has_no_permit w.conn.limit w.conn.free ≡ false → IsGoing (trace_of_acts before f w.acts) t → HasLet before f t q.number (permits_taken w.conn.limit w.conn.free q.shape) (let_in w q).acts)
let_in_going before f w admitted started link q qs o some h =
    let conn = record w.conn { admitted = admitted; waiting = q ∷ qs } in
    let t = seen f w.acts conn [] started in
    let count = permits_taken w.conn.limit w.conn.free q.shape in
    let u : Work = record w { conn = holding w.conn q.number count } in
    let v = took_shown u q.number count w.conn.limit in
    let taken : HasTaken before f t q.number count v.acts =
    subst (λ (x : List LinkAct). HasTaken before f t q.number count x) (acts_same count w.conn.limit) (has_taken before f w.acts conn started link q qs w.conn.limit o refl some h) in
    let named = ap (λ (c : MultiplexedConnection). name_at c.requests q.number) (took_conn u q.number count w.conn.limit) ∙ name_with w.conn.requests q.number progress.Admitted count q.number in
    let_by_time before f t link q qs count v q.timeout o refl refl named taken
  where
    acts_same : (count : ℕ) (limit : Option ℕ) → (took_shown (record { conn = holding (record w.conn { admitted = admitted; waiting = q ∷ qs }) q.number count; acts = w.acts }) q.number count limit).acts ≡ (took_shown (record w { conn = holding w.conn q.number count }) q.number count limit).acts
    acts_same count None = refl
    acts_same count (Some k) = refl
