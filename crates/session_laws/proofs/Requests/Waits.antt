-- The waits that began, and which wait is true of a submission.
use Rattle.std.proofs.Common.{append_assoc, List, Option, Some, [], ap, arith, false, inl, inr, length, refl, subst, suc, sym, true, ℕ, ◌++◌, ◌<◌, ◌∙◌, ◌∷◌, ◌≡◌, ◌≢◌, ◌⊎◌}
use Rattle.std.specs.Prelude.{◌==◌}
use Rattle.containers.proofs.Choices.{by_test, chosen, eq_from, eq_test, left_if, ne_from, ne_test, not_both, taken_if}
use Rattle.driver_model.specs.declared.action.Action.{Action}
use Rattle.driver_model.specs.declared.action.Action.TheVariants as action
use Rattle.driver_model.specs.declared.action.Owner.TheVariants as owner
use Rattle.driver_model.specs.declared.action.WaitKind.{WaitKind}
use Rattle.driver_model.specs.declared.action.WaitKind.TheVariants as wait
use Rattle.link_core.specs.Link.{LinkState, first_in, holds_back, is_full_beside}
use Rattle.link_laws.specs.Settles.{awaited_ids, wanted}
use Rattle.mux_conn.specs.Connection.{has_no_permit, is_ready, in_front, is_outstanding}
use Rattle.mux_conn.specs.Requests.{is_admitted, is_admitted_at, is_open_at, is_placed_at, is_waiting, is_waiting_at, name_at, is_unbegun_at}
use Rattle.mux_conn.specs.Turn.{is_from}
use Rattle.mux_conn.specs.declared.life.Greeting.{Greeting}
use Rattle.mux_conn.specs.declared.life.Life.{Life}
use Rattle.mux_conn.specs.declared.life.Life.TheVariants.{Resting, Dialing, Ended, Ready, Wanting, SettingUp}
use Rattle.mux_conn.specs.declared.request.Request.{Request}
use Rattle.legal_trace.specs.Book.{Book, entered, if_own}
use Rattle.legal_trace.specs.Legal.{IsWaiting, IsWritten, MayWait, WaitHolds}
use Rattle.legal_trace.specs.Steps.{starts_or_waits}
use Rattle.legal_trace.specs.Story.{Story, waits as waits_now}
use Rattle.conn_laws.proofs.Requests.Rounded.{SameRounds, rounds_new, rounds_same}
use Rattle.conn_laws.proofs.Changes.Requests.{waiting_open}
use Rattle.conn_laws.proofs.Ties.Ahead.{admitted_open, HasSeats}
use Rattle.session_laws.proofs.Ties.Ahead.{IsRunning, dialing_step, full_step, permit_step, queue_step, queue_within, running_of, setup_step, creds_step, resting_step, repeat_step}
use Rattle.conn_laws.proofs.Requests.Closing.{one_of}
use Rattle.conn_laws.proofs.Ties.InLine.{awaited_in as in_queue, kept_ids, kept_in, row_ids, wanted_in}
use Rattle.conn_laws.proofs.Ties.Kept.{SameOutcomes, SameSubmissions, SameTimes, packed_same, queued_same, tries_same}
use Rattle.session_laws.proofs.Ties.Kept.{one_changed}
use Rattle.conn_laws.proofs.Ties.Moves.{open_unstarted}
use Rattle.session_laws.proofs.Ties.Moves.{later_of}
use Rattle.conn_laws.proofs.Ties.Names.{earlier_name, get_some, name_of_some, open_within, same_name, there_within}
use Rattle.session_laws.proofs.Ties.Names.{request_not}
use Rattle.conn_laws.proofs.Ties.Numbers.{IsIn, Rising, in_either, in_left, in_right, rising_apart, rising_from, rising_in, rising_right, requests_in, request_in, request_of}
use Rattle.session_laws.proofs.Ties.Owes.{later_unstarted, none_open, open_request, request_story, row_in_line, open_on}
use Rattle.conn_laws.proofs.Ties.Permits.{IsHolding, permits_same}
use Rattle.conn_laws.proofs.Ties.States.{IsFit, AreBegun}
use Rattle.conn_laws.proofs.Ties.Tied.{IsKept, TiedWaits, has_ended, link_in, queue_ids, shown_wait, waiting_ids}
use Rattle.session_laws.proofs.Ties.Tied.{TurnState, Tied, numbers_kept}
use Rattle.conn_laws.proofs.Internal.Repeats.{serves}
use Rattle.conn_laws.proofs.Internal.Serving.{unready_serves, outstanding_serves, answered_serves}
use Rattle.conn_laws.proofs.Requests.Waits.{admitted_unplaced, awaited_placed, first_from, queued_still, waiting_apart, waits_request, wanted_placed}

-- what is shown of a wait
--
-- the session with these that were moved, and these that came in this turn, whose waits aren't shown yet
abbrev pub with_unshown : TurnState → List ℕ → List ℕ → TurnState
with_unshown t moved fresh = record t { moved = moved; fresh = fresh }

-- the action that shows a wait
abbrev pub wait_action : ℕ → WaitKind → Action
wait_action n kind = action.Wait (owner.Try n 0) kind

-- the story of one submission that waits
abbrev pub waits_at : ℕ → WaitKind → (ℕ → Story) → ℕ → Story
waits_at m kind story n = if_own (m == n) (waits_now (story n) kind) (story n)

-- a wait leaves each submission
waits_submissions : (m : ℕ) (kind : WaitKind) (story : ℕ → Story) → SameSubmissions story (waits_at m kind story)
waits_submissions m kind story n = chosen (λ (x : Story). (story n).submission ≡ x.submission) (m == n) (waits_now (story n) kind) (story n) (λ t. refl) (λ f. refl)

-- each outcome
waits_outcomes : (m : ℕ) (kind : WaitKind) (story : ℕ → Story) → SameOutcomes story (waits_at m kind story)
waits_outcomes m kind story n = chosen (λ (x : Story). (story n).outcomes ≡ x.outcomes) (m == n) (waits_now (story n) kind) (story n) (λ t. refl) (λ f. refl)

-- each time
waits_times : (m : ℕ) (kind : WaitKind) (story : ℕ → Story) → SameTimes story (waits_at m kind story)
waits_times m kind story n = chosen (λ (x : Story). (story n).timeout ≡ x.timeout) (m == n) (waits_now (story n) kind) (story n) (λ t. refl) (λ f. refl)

-- what each holds
waits_holding : (m : ℕ) (kind : WaitKind) (story : ℕ → Story) (n : ℕ) → IsHolding (story n) (waits_at m kind story n)
waits_holding m kind story n = chosen (IsHolding (story n)) (m == n) (waits_now (story n) kind) (story n) (λ t. record { link = refl; permits = refl; timeout = refl; clock = refl }) (λ f. record { link = refl; permits = refl; timeout = refl; clock = refl })

-- whether each is late
waits_late : (m : ℕ) (kind : WaitKind) (story : ℕ → Story) (n : ℕ) → (waits_at m kind story n).overdue ≡ (story n).overdue
waits_late m kind story n = chosen (λ (x : Story). x.overdue ≡ (story n).overdue) (m == n) (waits_now (story n) kind) (story n) (λ t. refl) (λ f. refl)

-- its round
waits_rounds : (m : ℕ) (kind : WaitKind) (story : ℕ → Story) → SameRounds story (waits_at m kind story)
waits_rounds m kind story n = chosen (λ (x : Story). x.rounded ≡ (story n).rounded) (m == n) (waits_now (story n) kind) (story n) (λ t. refl) (λ f. refl)

-- and each try
waits_tries : (m : ℕ) (kind : WaitKind) (story : ℕ → Story) (n : ℕ) → (story n).tries ≡ (waits_at m kind story n).tries
waits_tries m kind story n = chosen (λ (x : Story). (story n).tries ≡ x.tries) (m == n) (waits_now (story n) kind) (story n) (λ t. refl) (λ f. refl)

-- its own wait is shown then
shown_own : (story : ℕ → Story) (requests : List Request) (p : ℕ) (kind : WaitKind) → shown_wait (waits_at (name_at requests p) kind story) requests p ≡ Some kind
shown_own story requests p kind = let n = name_at requests p in ap (λ (s : Story). s.waiting) (taken_if (n == n) (waits_now (story n) kind) (story n) (eq_test n n refl))

-- and every other stays
shown_other : (story : ℕ → Story) (requests : List Request) (p q : ℕ) (kind : WaitKind) → name_at requests p ≢ name_at requests q → shown_wait (waits_at (name_at requests p) kind story) requests q ≡ shown_wait story requests q
shown_other story requests p q kind other =
    let n = name_at requests q in
    ap (λ (s : Story). s.waiting) (left_if (name_at requests p == n) (waits_now (story n) kind) (story n) (ne_test (name_at requests p) n other))

-- the session is tied to the book with one wait more, where its waits are
pub wait_tied : (b : Book) (t : TurnState) (p : ℕ) (kind : WaitKind) (moved fresh : List ℕ) → p < length t.requests → Tied b t → ((q : ℕ) → t.rounds ≡ true → serves t.life t.again ≡ true → is_unbegun_at t.requests q ≡ true → IsIn q fresh) → TiedWaits (waits_at (name_at t.requests p) kind b.story) t.requests t.again t.life fresh moved
    → Tied (entered b (wait_action (name_at t.requests p) kind)) (with_unshown t moved fresh)
wait_tied b t p kind moved fresh within h new waits =
    let n = name_at t.requests p in
    let after = waits_at n kind b.story in
    let same = waits_submissions n kind b.story in
    let answers = waits_outcomes n kind b.story in
    record {
      numbers = numbers_kept b b.link after b.tracked b.errors (entered b (wait_action n kind)).placed b.since t t.life t.free t.requests t.waiting t.admitted fresh moved t.being_admitted t.pending t.started h.numbers;
      others = h.others;
      notices = h.notices;
      life = h.life;
      course = h.course;
      calm = h.calm;
      creds = h.creds;
      creation = h.creation;
      uses = h.uses;
      renewal = h.renewal;
      repeat = h.repeat;
      setup = h.setup;
      link = h.link;
      names = h.names;
      story = one_changed b t p (λ s. waits_now s kind) h within (waits_request (b.story n) kind t.requests t.link p);
      tries = tries_same (b.link t.link) b.story after t.requests t.link t.started same (waits_tries n kind b.story) (λ m. sym (waits_holding n kind b.story m).link) h.tries;
      lines = record {
        line = h.lines.line;
        queued = queued_same b.story after t.requests (link_in t.life).queue same answers h.lines.queued;
        entries = h.lines.entries;
        packs = packed_same b.story after t.requests t.waiting same (waits_times n kind b.story) h.lines.packs;
        packed_in = packed_same b.story after t.requests t.admitted same (waits_times n kind b.story) h.lines.packed_in;
        there = h.lines.there;
      };
      told = λ up. queued_still b.story after t.requests t.link (link_in t.life) same answers (waits_tries n kind b.story) (λ m. sym (waits_holding n kind b.story m).link) (h.told up);
      waits = waits;
      permits = permits_same b.story after b.submissions t.requests t.link t.limit t.free t.being_admitted (waits_holding n kind b.story) h.permits;
      rounds = rounds_new after t.requests t.fresh fresh new (rounds_same b.story after t.requests t.fresh (waits_rounds n kind b.story) h.rounds);
      early = h.early;
      late = λ q o late. h.late q o (sym (waits_late n kind b.story (name_at t.requests q)) ∙ late);
    }

-- a session whose event has had its effect, and in which nothing moves
pub record IsQuiet (t : TurnState) : Type 0 where
  pub settled : t.pending ≡ []
  pub alone : t.being_admitted ≡ []
  pub fit : (link : LinkState) → t.life ≡ Ready link → IsFit t.size t.bound link
  pub setup_fit : (link : LinkState) (greeting : Greeting) → t.life ≡ SettingUp link greeting → IsFit t.size t.bound link
  pub none : serves t.life t.again ≡ false → t.admitted ≡ []
  pub setup_held : (link : LinkState) (greeting : Greeting) → t.life ≡ SettingUp link greeting → (link.queue ≡ []) ⊎ (holds_back link ≡ true)
  pub held : (link : LinkState) → t.life ≡ Ready link → (link.queue ≡ []) ⊎ (holds_back link ≡ true)
  pub full : (link : LinkState) → t.life ≡ Ready link → (t.admitted ≡ []) ⊎ (is_full_beside link (in_front t.renewal) ≡ true)
  pub seats : HasSeats t.moved (in_front t.renewal) (link_in t.life) t.size
  pub waiting : (link : LinkState) → t.life ≡ Ready link → is_outstanding t.again ≡ false → (t.waiting ≡ []) ⊎ (has_no_permit t.limit t.free ≡ true)
  pub begun : AreBegun t.rounds t.again t.life t.requests
  pub gone : has_ended t.life ≡ true → t.waiting ≡ []

-- where an open request is
--
-- in the queue, or among those that have no place
abbrev pub IsPlacedOrKept : TurnState → ℕ → Type 0
IsPlacedOrKept t p = IsIn p (awaited_ids (link_in t.life).queue) ⊎ IsKept t.requests t.waiting t.admitted p

-- or in the row
pub located : (b : Book) (t : TurnState) (p : ℕ) → Tied b t → t.pending ≡ [] → is_open_at t.requests p ≡ true → IsIn p (wanted (link_in t.life).row) ⊎ IsPlacedOrKept t p
located b t p h none o = elim (h.lines.there p o) [
  | inl i ↦ elim (in_either p (requests_in (wanted (link_in t.life).row)) (awaited_ids (link_in t.life).queue) (subst (λ ns. IsIn p (ns ++ (requests_in (wanted (link_in t.life).row) ++ awaited_ids (link_in t.life).queue))) none i)) [ inl j ↦ inl (request_of p (wanted (link_in t.life).row) j) | inr j ↦ inr (inl j) ]
  | inr k ↦ inr (inr k)
]

-- who is there stands in the line
placed_or_kept_in : (t : TurnState) (p : ℕ) → IsPlacedOrKept t p → IsIn p (queue_ids (link_in t.life).queue ++ kept_ids t.admitted t.waiting)
placed_or_kept_in t p (inl i) = in_left p (queue_ids (link_in t.life).queue) (kept_ids t.admitted t.waiting) (in_queue p (link_in t.life).queue i)
placed_or_kept_in t p (inr k) = in_right p (queue_ids (link_in t.life).queue) (kept_ids t.admitted t.waiting) (kept_in t.requests t.waiting t.admitted p k)

-- and has not started
pub there_untried : (b : Book) (t : TurnState) (p : ℕ) → Tied b t → is_open_at t.requests p ≡ true → IsPlacedOrKept t p → (b.story (name_at t.requests p)).tries ≡ []
there_untried b t p h o at =
    let g = get_some t.requests p (open_within t.requests p o) in
    let named = name_of_some t.requests p g.0 g.1 in
    ap (λ x. (b.story x).tries) named ∙ h.tries.untried p g.0 g.1 (later_unstarted b t p h (placed_or_kept_in t p at)) (sym (ap (λ x. (b.story x).link) named) ∙ open_on b t p h o)

-- who is in the row stands before all others
row_before : (b : Book) (t : TurnState) (p q : ℕ) → Tied b t → has_ended t.life ≡ false → p < length t.requests → IsIn p (wanted (link_in t.life).row) → IsIn q (queue_ids (link_in t.life).queue ++ kept_ids t.admitted t.waiting) → p < q
row_before b t p q h up within i j =
    rising_apart 0 (requests_in (row_ids (link_in t.life).row)) (queue_ids (link_in t.life).queue ++ kept_ids t.admitted t.waiting) (length t.requests) p q (row_in_line b t h up)
    (request_in p (row_ids (link_in t.life).row) (request_not b t p h within) (wanted_in p (link_in t.life).row i)) j

-- an open one without a message is there
untried_there : (b : Book) (t : TurnState) (p : ℕ) → Tied b t → t.pending ≡ [] → has_ended t.life ≡ false → is_open_at t.requests p ≡ true → (b.story (name_at t.requests p)).tries ≡ [] → IsPlacedOrKept t p
untried_there b t p h none up o untried =
    let within = open_within t.requests p o in
    let s = b.story (name_at t.requests p) in
    let l = later_of b t (name_at t.requests p) h none up (open_on b t p h o) (open_unstarted s untried ((request_story b t p h within).open_is ∙ o)) in
    let same = same_name t.table t.requests l.p p h.names l.within within l.name in
    let queue = queue_ids (link_in t.life).queue in
    let kept = kept_ids t.admitted t.waiting in
    let later : IsIn p (queue ++ kept) = subst (λ n. IsIn n (queue ++ kept)) same (elim l.later [ inl i ↦ in_left l.p queue kept i | inr w ↦ in_right l.p queue kept (kept_in t.requests t.waiting t.admitted l.p w) ]) in
    elim (located b t p h none o) [
      | inl i ↦ absurd (let k = row_before b t p p h up within i later in omega arith)
      | inr at ↦ at
    ]

-- who waits for a place, while the link is up or its connect isn't answered, is among those
pub admitted_there : (b : Book) (t : TurnState) (p : ℕ) → Tied b t → t.pending ≡ [] → is_admitted_at t.requests p ≡ true → IsIn p (waiting_ids t.admitted)
admitted_there b t p h none a =
    let unplaced = admitted_unplaced t.requests p a in
    elim (located b t p h none (admitted_open t.requests p a).0) [
      | inl i ↦ absurd (not_both (is_placed_at t.requests p) unplaced (wanted_placed t.requests (link_in t.life).row p (request_not b t p h (open_within t.requests p (admitted_open t.requests p a).0)) h.lines.entries i))
      | inr at ↦ elim at [
        | inl i ↦ absurd (not_both (is_placed_at t.requests p) unplaced (awaited_placed b.story t.requests (link_in t.life).queue p h.lines.queued i))
        | inr k ↦ elim k [
          | inl x ↦ x.1
          | inr w ↦ absurd (not_both (is_admitted_at t.requests p) (waiting_apart t.requests p w.0).0 a)
        ]
      ]
    ]

-- who has its place, from the first of the queue on, is in the queue
pub placed_there : (b : Book) (t : TurnState) (p : ℕ) → Tied b t → t.pending ≡ [] → has_ended t.life ≡ false → is_open_at t.requests p ≡ true → is_placed_at t.requests p ≡ true → is_from (first_in (link_in t.life).queue) p ≡ true → IsIn p (awaited_ids (link_in t.life).queue)
placed_there b t p h none up o placed from =
    let first = first_from (link_in t.life).queue p from in
    elim (located b t p h none o) [
      | inl i ↦ absurd (let k = row_before b t p first.0 h up (open_within t.requests p o) i (in_left first.0 (queue_ids (link_in t.life).queue) (kept_ids t.admitted t.waiting) first.1) in let l = first.2 in omega arith)
      | inr at ↦ elim at [
        | inl i ↦ i
        | inr k ↦ elim k [
          | inl a ↦ absurd (not_both (is_placed_at t.requests p) (admitted_unplaced t.requests p a.0) placed)
          | inr w ↦ absurd (not_both (is_placed_at t.requests p) (waiting_apart t.requests p w.0).1 placed)
        ]
      ]
    ]

-- which wait is true
--
-- on a link that takes requests
pub quiet_running : (t : TurnState) (link : LinkState) → IsQuiet t → t.life ≡ Ready link → is_outstanding t.again ≡ false → IsRunning t
quiet_running t link q e served = running_of t link q.settled e served (q.fit link e) (subst (λ (x : LinkState). HasSeats t.moved (in_front t.renewal) x t.size) (ap link_in e) q.seats)

-- a message of the queue waits for room
pub room_holds : (b : Book) (t : TurnState) (p : ℕ) (link : LinkState) → Tied b t → IsQuiet t → t.life ≡ Ready link → is_outstanding t.again ≡ false → IsIn p (queue_ids (link_in t.life).queue) → WaitHolds b (name_at t.requests p) wait.Room
room_holds b t p link h q e served i =
    let held : holds_back (link_in t.life) ≡ true = ap (λ (x : Life). holds_back (link_in x)) e ∙ elim (q.held link e) as (λ _. holds_back link ≡ true) [
      | inl none ↦ absurd (subst (λ qs. IsIn p (queue_ids qs)) none (subst (λ (x : Life). IsIn p (queue_ids (link_in x).queue)) e i))
      | inr on ↦ on
    ] in
    queue_step b t p h (quiet_running t link q e served) i ∙ ap starts_or_waits held

-- who waits for a place waits for it
pub place_holds : (b : Book) (t : TurnState) (p : ℕ) (link : LinkState) → Tied b t → IsQuiet t → t.life ≡ Ready link → is_outstanding t.again ≡ false → is_admitted_at t.requests p ≡ true → IsIn p (waiting_ids t.admitted) → WaitHolds b (name_at t.requests p) wait.Place
place_holds b t p link h q e served a i =
    let filled : is_full_beside (link_in t.life) (in_front t.renewal) ≡ true = ap (λ (x : Life). is_full_beside (link_in x) (in_front t.renewal)) e ∙ elim (q.full link e) as (λ _. is_full_beside link (in_front t.renewal) ≡ true) [
      | inl none ↦ absurd (subst (λ qs. IsIn p (waiting_ids qs)) none i)
      | inr on ↦ on
    ] in
    full_step b t p h (quiet_running t link q e served) filled a i

-- who waits for a permit waits for it
pub permit_holds : (b : Book) (t : TurnState) (p : ℕ) (link : LinkState) → Tied b t → IsQuiet t → t.life ≡ Ready link → is_outstanding t.again ≡ false → is_waiting_at t.requests p ≡ true → IsIn p (waiting_ids t.waiting) → WaitHolds b (name_at t.requests p) wait.Permit
permit_holds b t p link h q e served w i =
    let stuck = elim (q.waiting link e served) as (λ _. has_no_permit t.limit t.free ≡ true) [
      | inl none ↦ absurd (subst (λ qs. IsIn p (waiting_ids qs)) none i)
      | inr on ↦ on
    ] in
    permit_step b t p h (quiet_running t link q e served) w (λ shows. q.begun shows (answered_serves t.life t.again (ap is_ready e) served) p) (λ j. subst (IsIn p) q.alone j) stuck

-- who is in the queue, or has no place, waits as was shown, where this was shown
pub waiting_is : (b : Book) (t : TurnState) (p : ℕ) → Tied b t → IsQuiet t → is_open_at t.requests p ≡ true → IsPlacedOrKept t p → (IsIn p t.moved → ⊥) → (is_waiting_at t.requests p ≡ true → IsIn p t.fresh → ⊥) → IsWaiting b (name_at t.requests p)
waiting_is b t p h q o at unmoved old = by_life t.life refl
  where
    n : ℕ
    n = name_at t.requests p

    within : p < length t.requests
    within = open_within t.requests p o

    as_shown : (kind : WaitKind) → (b.story n).waiting ≡ Some kind → WaitHolds b n kind → IsWaiting b n
    as_shown kind shown holds = record { unstarted = there_untried b t p h o at; kind = kind; shown = shown; holds = holds }

    by_life : (life : Life) → t.life ≡ life → IsWaiting b n
    by_life Resting e = elim at [
      | inl i ↦ absurd (subst (λ (x : Life). IsIn p (awaited_ids (link_in x).queue)) e i)
      | inr k ↦ elim k [
        | inl a ↦ absurd (subst (λ ws. IsIn p (waiting_ids ws)) (q.none (unready_serves t.life t.again (ap is_ready e))) a.1)
        | inr w ↦ as_shown wait.Backoff (elim (h.waits.backoff p w.0 e) [ inl new ↦ absurd (old w.0 new) | inr s ↦ s ]) (resting_step b t p h e (open_on b t p h o))
      ]
    ]
    by_life Dialing e = elim at [
      | inl i ↦ absurd (subst (λ (x : Life). IsIn p (awaited_ids (link_in x).queue)) e i)
      | inr k ↦ elim k [
        | inl a ↦ absurd (subst (λ ws. IsIn p (waiting_ids ws)) (q.none (unready_serves t.life t.again (ap is_ready e))) a.1)
        | inr w ↦ as_shown wait.Connect (elim (h.waits.connect p w.0 e) [ inl new ↦ absurd (old w.0 new) | inr s ↦ s ]) (dialing_step b t p h e (open_on b t p h o))
      ]
    ]
    by_life (Wanting link) e = elim at [
      | inl i ↦ absurd (subst (λ (x : Life). IsIn p (awaited_ids (link_in x).queue)) e i)
      | inr k ↦ elim k [
        | inl a ↦ absurd (subst (λ ws. IsIn p (waiting_ids ws)) (q.none (unready_serves t.life t.again (ap is_ready e))) a.1)
        | inr w ↦ as_shown wait.Creds (elim (h.waits.creds p link w.0 e) [ inl new ↦ absurd (old w.0 new) | inr s ↦ s ]) (creds_step b t p link h e (open_on b t p h o))
      ]
    ]
    by_life (SettingUp link greeting) e = elim at [
      | inl i ↦ absurd (subst (λ (x : Life). IsIn p (awaited_ids (link_in x).queue)) e i)
      | inr k ↦ elim k [
        | inl a ↦ absurd (subst (λ ws. IsIn p (waiting_ids ws)) (q.none (unready_serves t.life t.again (ap is_ready e))) a.1)
        | inr w ↦ as_shown wait.Setup (elim (h.waits.setup p link greeting w.0 e) [ inl new ↦ absurd (old w.0 new) | inr s ↦ s ]) (setup_step b t p link greeting h e (open_on b t p h o))
      ]
    ]
    by_life (Ready link) e = by_test (is_outstanding t.again) (IsWaiting b n)
        (λ goes.
        let down = outstanding_serves t.life t.again goes in
        elim at [
          | inl i ↦ absurd (subst (λ qs. IsIn p (awaited_ids qs)) (h.early down (ap has_ended e)).empty i)
          | inr k ↦ elim k [
            | inl a ↦ absurd (subst (λ ws. IsIn p (waiting_ids ws)) (q.none down) a.1)
            | inr w ↦ as_shown wait.Resubscribe (elim (h.waits.resubscribe p link w.0 e goes) [ inl new ↦ absurd (old w.0 new) | inr s ↦ s ]) (repeat_step b t p link h e goes (open_on b t p h o))
          ]
        ])
        (λ served. elim at [
          | inl i ↦ as_shown wait.Room (elim (h.waits.room p i) [ inl m ↦ absurd (unmoved m) | inr s ↦ s ]) (room_holds b t p link h q e served (in_queue p (link_in t.life).queue i))
          | inr k ↦ elim k [
            | inl a ↦ as_shown wait.Place (elim (h.waits.place p a.0) [ inl m ↦ absurd (unmoved m) | inr s ↦ s ]) (place_holds b t p link h q e served a.0 a.1)
            | inr w ↦ as_shown wait.Permit (elim (h.waits.permit p link w.0 e served) [ inl new ↦ absurd (old w.0 new) | inr s ↦ s ]) (permit_holds b t p link h q e served w.0 w.1)
          ]
        ])
    by_life (Ended x) e = absurd (none_open b t (Ended x) n refl h q.settled e (λ i. kept_ids (q.none (unready_serves t.life t.again (ap is_ready e)) i) (q.gone (ap has_ended e) i)) ((request_story b t p h within).open_is ∙ o))

-- a wait may be shown
--
-- one that is true and was not shown, where none before it is still to be shown
pub wait_may : (b : Book) (t : TurnState) (p : ℕ) (kind : WaitKind) → Tied b t → IsQuiet t → has_ended t.life ≡ false → IsWritten b → is_open_at t.requests p ≡ true → IsPlacedOrKept t p → shown_wait b.story t.requests p ≢ Some kind → WaitHolds b (name_at t.requests p) kind
    → ((m : ℕ) → m < p → IsIn m t.moved → ⊥) → ((m : ℕ) → m < p → is_waiting_at t.requests m ≡ true → IsIn m t.fresh → ⊥) → MayWait b (name_at t.requests p) kind
wait_may b t p kind h q up written o at new holds unmoved old =
    let n = name_at t.requests p in
    let within = open_within t.requests p o in
    record {
      written = written;
      asked = (request_story b t p h within).open_is ∙ o;
      unstarted = there_untried b t p h o at;
      new = new;
      holds = holds;
      in_order = λ m less asked untried.
          let r = open_request b t m h asked in
          let inside = open_within t.requests r.number r.open_at in
          let before = earlier_name t.table t.requests r.number p h.names inside within (subst (λ x. x < n) (sym r.named) less) in
          let there = untried_there b t r.number h q.settled up r.open_at (ap (λ x. (b.story x).tries) r.named ∙ untried) in
          subst (IsWaiting b) r.named (waiting_is b t r.number h q r.open_at there (unmoved r.number before) (old r.number before));
    }

-- what is shown then
--
-- one of those that were moved waits for a place, or for room
pub record WaitsSo (t : TurnState) (p : ℕ) (kind : WaitKind) : Type 0 where
  pub place : is_admitted_at t.requests p ≡ true → kind ≡ wait.Place
  pub room : IsIn p (awaited_ids (link_in t.life).queue) → kind ≡ wait.Room
  pub moved : is_waiting_at t.requests p ≡ true → ⊥

-- the names of two requests that differ
names_differ : (b : Book) (t : TurnState) (p q : ℕ) → Tied b t → p < length t.requests → q < length t.requests → p ≢ q → name_at t.requests p ≢ name_at t.requests q
names_differ b t p q h l m other same = other (same_name t.table t.requests p q h.names l m same)

-- what was shown of a request, once a wait of p is
shown_then : (b : Book) (t : TurnState) (p q : ℕ) (kind : WaitKind) → Tied b t → p < length t.requests → q < length t.requests → p ≢ q → shown_wait (waits_at (name_at t.requests p) kind b.story) t.requests q ≡ shown_wait b.story t.requests q
shown_then b t p q kind h l m other = shown_other b.story t.requests p q kind (names_differ b t p q h l m other)

-- who waits for the connection, or for a permit, is among those
pub waiting_there : (b : Book) (t : TurnState) (p : ℕ) → Tied b t → t.pending ≡ [] → is_waiting_at t.requests p ≡ true → IsIn p (waiting_ids t.waiting)
waiting_there b t p h none w =
    let apart = waiting_apart t.requests p w in
    elim (located b t p h none (waiting_open t.requests p w)) [
      | inl i ↦ absurd (not_both (is_placed_at t.requests p) apart.1 (wanted_placed t.requests (link_in t.life).row p (request_not b t p h (open_within t.requests p (waiting_open t.requests p w))) h.lines.entries i))
      | inr at ↦ elim at as (λ _. IsIn p (waiting_ids t.waiting)) [
        | inl i ↦ absurd (not_both (is_placed_at t.requests p) apart.1 (awaited_placed b.story t.requests (link_in t.life).queue p h.lines.queued i))
        | inr k ↦ elim k as (λ _. IsIn p (waiting_ids t.waiting)) [
          | inl a ↦ absurd (not_both (is_admitted_at t.requests p) apart.0 a.0)
          | inr x ↦ x.1
        ]
      ]
    ]

-- who waits for the connection, or for a permit, stands behind who has a place or waits for one
pub behind_places : (b : Book) (t : TurnState) (p m : ℕ) → Tied b t → t.pending ≡ [] → has_ended t.life ≡ false → IsIn p (queue_ids (link_in t.life).queue ++ waiting_ids t.admitted) → is_waiting_at t.requests m ≡ true → m < p → ⊥
behind_places b t p m h none up i w less =
    let queue = queue_ids (link_in t.life).queue in
    let admitted = waiting_ids t.admitted in
    let last = waiting_ids t.waiting in
    let line = rising_right 0 (requests_in t.started) (queue ++ (admitted ++ last)) (length t.requests) h.lines.line in
    let all = subst (λ ns. Rising 0 ns (length t.requests)) (sym (append_assoc queue admitted last)) line in
    let there = waiting_there b t m h none w in
    let k = rising_apart 0 (queue ++ admitted) last (length t.requests) p m all i there in
    omega arith

-- a list, the first of which is left out
--
-- who else is in it
rest_in : (p q : ℕ) (ps : List ℕ) → p ≢ q → IsIn q (p ∷ ps) → IsIn q ps
rest_in p q ps other i = elim i [ inl same ↦ absurd (other same) | inr j ↦ j ]

-- is another
rest_other : (p q : ℕ) (ps : List ℕ) (hi : ℕ) → Rising 0 (p ∷ ps) hi → IsIn q ps → p ≢ q
rest_other p q ps hi r i same = let k = rising_in (suc p) ps hi q r.1 i in omega (arith, k.0, same)

-- it rises
rest_rises : (p : ℕ) (ps : List ℕ) (hi : ℕ) → Rising 0 (p ∷ ps) hi → Rising 0 ps hi
rest_rises p ps hi r = rising_from (suc p) 0 ps hi (omega arith) r.1

-- the waits, with that of the first of those that were moved
pub moved_waits : (b : Book) (t : TurnState) (p : ℕ) (kind : WaitKind) (ps : List ℕ) → Tied b t → t.moved ≡ p ∷ ps → p < length t.requests → WaitsSo t p kind → TiedWaits (waits_at (name_at t.requests p) kind b.story) t.requests t.again t.life t.fresh ps
moved_waits b t p kind ps h is l so =
    let requests = t.requests in
    let after = waits_at (name_at requests p) kind b.story in
    let line = subst (λ ns. Rising 0 ns (length requests)) is h.waits.rising in
    let above : (q : ℕ) → IsIn q ps → p ≢ q = λ q i. rest_other p q ps (length requests) line i in
    let back : (q : ℕ) → IsIn q ps → IsIn q t.moved = λ q i. subst (IsIn q) (sym is) (inr i) in
    let still : (q : ℕ) → is_waiting_at requests q ≡ true → shown_wait after requests q ≡ shown_wait b.story requests q = λ q w.
    shown_then b t p q kind h l (there_within is_waiting requests q w) (λ e. so.moved (ap (is_waiting_at requests) e ∙ w)) in
    let own_place : kind ≡ wait.Place → shown_wait after requests p ≡ Some wait.Room → ⊥ = λ is_place e. (let no : ◌≡◌ {A = Option WaitKind} (Some wait.Place) (Some wait.Room) = ap Some (sym is_place) ∙ sym (shown_own b.story requests p kind) ∙ e in cc) in
    record {
      early = λ q w. one_of (shown_wait after requests q) (shown_wait b.story requests q) (still q w) (h.waits.early q w);
      backoff = λ q w d. elim (h.waits.backoff q w d) [ inl i ↦ inl i | inr e ↦ inr (still q w ∙ e) ];
      connect = λ q w d. elim (h.waits.connect q w d) [ inl i ↦ inl i | inr e ↦ inr (still q w ∙ e) ];
      creds = λ q link w r. elim (h.waits.creds q link w r) [ inl i ↦ inl i | inr e ↦ inr (still q w ∙ e) ];
      setup = λ q link u w r. elim (h.waits.setup q link u w r) [ inl i ↦ inl i | inr e ↦ inr (still q w ∙ e) ];
      resubscribe = λ q link w r goes. elim (h.waits.resubscribe q link w r goes) [ inl i ↦ inl i | inr e ↦ inr (still q w ∙ e) ];
      permit = λ q link w r served. elim (h.waits.permit q link w r served) [ inl i ↦ inl i | inr e ↦ inr (still q w ∙ e) ];
      place = λ q a. by_test (p == q) _
          (λ t1. inr (subst (λ m. shown_wait after requests m ≡ Some wait.Place) (eq_from p q t1) (shown_own b.story requests p kind ∙ ap Some (so.place (ap (is_admitted_at requests) (eq_from p q t1) ∙ a)))))
          (λ f.
          let other = ne_from p q f in
          elim (h.waits.place q a) [
            | inl i ↦ inl (rest_in p q ps other (subst (IsIn q) is i))
            | inr e ↦ inr (shown_then b t p q kind h l (there_within is_admitted requests q a) other ∙ e)
          ]);
      room = λ q r. by_test (p == q) _
          (λ t1. inr (subst (λ m. shown_wait after requests m ≡ Some wait.Room) (eq_from p q t1) (shown_own b.story requests p kind ∙ ap Some (so.room (subst (λ m. IsIn m (awaited_ids (link_in t.life).queue)) (sym (eq_from p q t1)) r)))))
          (λ f.
          let other = ne_from p q f in
          elim (h.waits.room q r) [
            | inl i ↦ inl (rest_in p q ps other (subst (IsIn q) is i))
            | inr e ↦ inr (shown_then b t p q kind h l (queue_within b t q h (in_queue q (link_in t.life).queue r)) other ∙ e)
          ]);
      newer = h.waits.newer;
      rising = rest_rises p ps (length requests) line;
      no_backoff = λ q i w d. still q w ∙ h.waits.no_backoff q i w d;
      no_connect = λ q i w d e. h.waits.no_connect q i w d (sym (still q w) ∙ e);
      no_creds = λ q link i w r e. h.waits.no_creds q link i w r (sym (still q w) ∙ e);
      no_setup = λ q link u i w r e. h.waits.no_setup q link u i w r (sym (still q w) ∙ e);
      no_resubscribe = λ q link i w r goes e. h.waits.no_resubscribe q link i w r goes (sym (still q w) ∙ e);
      unpermitted = λ q link w r goes e. h.waits.unpermitted q link w r goes (sym (still q w) ∙ e);
      no_permit = λ q link i w r served e. h.waits.no_permit q link i w r served (sym (still q w) ∙ e);
      seatless = λ q a. by_test (p == q) _
          (λ t1 e. own_place (so.place (ap (is_admitted_at requests) (eq_from p q t1) ∙ a)) (subst (λ m. shown_wait after requests m ≡ Some wait.Room) (sym (eq_from p q t1)) e))
          (λ f e. h.waits.seatless q a (sym (shown_then b t p q kind h l (there_within is_admitted requests q a) (ne_from p q f)) ∙ e));
      no_place = λ q i a e. h.waits.no_place q (back q i) a (sym (shown_then b t p q kind h l (there_within is_admitted requests q a) (above q i)) ∙ e);
      no_room = λ q i r e. h.waits.no_room q (back q i) r (sym (shown_then b t p q kind h l (queue_within b t q h (in_queue q (link_in t.life).queue r)) (above q i)) ∙ e);
    }

-- one of those that were moved waits no more
pub passed_waits : (b : Book) (t : TurnState) (p : ℕ) (ps : List ℕ) → Tied b t → t.moved ≡ p ∷ ps → is_admitted_at t.requests p ≡ false → (IsIn p (awaited_ids (link_in t.life).queue) → ⊥) → TiedWaits b.story t.requests t.again t.life t.fresh ps
passed_waits b t p ps h is gone none =
    let line = subst (λ ns. Rising 0 ns (length t.requests)) is h.waits.rising in
    let back : (q : ℕ) → IsIn q ps → IsIn q t.moved = λ q i. subst (IsIn q) (sym is) (inr i) in
    record {
      early = h.waits.early;
      backoff = h.waits.backoff;
      connect = h.waits.connect;
      creds = h.waits.creds;
      setup = h.waits.setup;
      resubscribe = h.waits.resubscribe;
      permit = h.waits.permit;
      place = λ q a. elim (h.waits.place q a) [
        | inl i ↦ elim (subst (IsIn q) is i) [ inl same ↦ absurd (not_both (is_admitted_at t.requests q) (ap (is_admitted_at t.requests) (sym same) ∙ gone) a) | inr j ↦ inl j ]
        | inr e ↦ inr e
      ];
      room = λ q r. elim (h.waits.room q r) [
        | inl i ↦ elim (subst (IsIn q) is i) [ inl same ↦ absurd (none (subst (λ m. IsIn m (awaited_ids (link_in t.life).queue)) (sym same) r)) | inr j ↦ inl j ]
        | inr e ↦ inr e
      ];
      newer = h.waits.newer;
      rising = rest_rises p ps (length t.requests) line;
      no_backoff = h.waits.no_backoff;
      no_connect = h.waits.no_connect;
      no_creds = h.waits.no_creds;
      no_setup = h.waits.no_setup;
      no_resubscribe = h.waits.no_resubscribe;
      unpermitted = h.waits.unpermitted;
      no_permit = h.waits.no_permit;
      seatless = h.waits.seatless;
      no_place = λ q i a. h.waits.no_place q (back q i) a;
      no_room = λ q i r. h.waits.no_room q (back q i) r;
    }

-- until the link takes requests nobody waits for a place
pub down_admits : (b : Book) (t : TurnState) (p : ℕ) → Tied b t → IsQuiet t → serves t.life t.again ≡ false → is_admitted_at t.requests p ≡ false
down_admits b t p h q down = by_test (is_admitted_at t.requests p) _
    (λ a. absurd (subst (λ ws. IsIn p (waiting_ids ws)) (q.none down) (admitted_there b t p h q.settled a)))
    (λ f. f)

-- the waits of those that came in this turn, or whose connect was answered in it
--
-- one of them waits for the next attempt, for the connect, for credentials, for the setup, for what is subscribed again, or for a permit
pub record IsEarly (t : TurnState) (kind : WaitKind) : Type 0 where
  pub either : (kind ≡ wait.Backoff) ⊎ ((kind ≡ wait.Connect) ⊎ ((kind ≡ wait.Creds) ⊎ ((kind ≡ wait.Setup) ⊎ ((kind ≡ wait.Resubscribe) ⊎ (kind ≡ wait.Permit)))))
  pub backoff : t.life ≡ Resting → kind ≡ wait.Backoff
  pub connect : t.life ≡ Dialing → kind ≡ wait.Connect
  pub creds : (link : LinkState) → t.life ≡ Wanting link → kind ≡ wait.Creds
  pub setup : (link : LinkState) (greeting : Greeting) → t.life ≡ SettingUp link greeting → kind ≡ wait.Setup
  pub resubscribe : (link : LinkState) → t.life ≡ Ready link → is_outstanding t.again ≡ true → kind ≡ wait.Resubscribe
  pub permit : (link : LinkState) → t.life ≡ Ready link → is_outstanding t.again ≡ false → kind ≡ wait.Permit

-- with that of the first of them
pub fresh_waits : (b : Book) (t : TurnState) (p : ℕ) (kind : WaitKind) (ps : List ℕ) → Tied b t → t.fresh ≡ p ∷ ps → is_waiting_at t.requests p ≡ true → IsEarly t kind → TiedWaits (waits_at (name_at t.requests p) kind b.story) t.requests t.again t.life ps t.moved
fresh_waits b t p kind ps h is w so =
    let requests = t.requests in
    let after = waits_at (name_at requests p) kind b.story in
    let l = there_within is_waiting requests p w in
    let line = subst (λ ns. Rising 0 ns (length requests)) is h.waits.newer in
    let apart = waiting_apart requests p w in
    let own : (q : ℕ) → p ≡ q → shown_wait after requests q ≡ Some kind = λ q e. subst (λ m. shown_wait after requests m ≡ Some kind) e (shown_own b.story requests p kind) in
    let still : (q : ℕ) → q < length requests → p ≢ q → shown_wait after requests q ≡ shown_wait b.story requests q = λ q m other. shown_then b t p q kind h l m other in
    let admitted : (q : ℕ) → is_admitted_at requests q ≡ true → shown_wait after requests q ≡ shown_wait b.story requests q = λ q a.
    still q (there_within is_admitted requests q a) (λ e. not_both (is_admitted_at requests p) apart.0 (ap (is_admitted_at requests) e ∙ a)) in
    let queued : (q : ℕ) → IsIn q (awaited_ids (link_in t.life).queue) → shown_wait after requests q ≡ shown_wait b.story requests q = λ q r.
    still q (queue_within b t q h (in_queue q (link_in t.life).queue r)) (λ e. not_both (is_placed_at requests p) apart.1 (ap (is_placed_at requests) e ∙ awaited_placed b.story requests (link_in t.life).queue q h.lines.queued r)) in
    let back : (q : ℕ) → IsIn q ps → IsIn q t.fresh = λ q i. subst (IsIn q) (sym is) (inr i) in
    let waits : (q : ℕ) → is_waiting_at requests q ≡ true → p ≢ q → shown_wait after requests q ≡ shown_wait b.story requests q = λ q v other. still q (there_within is_waiting requests q v) other in
    record {
      early = λ q v. by_test (p == q) _
          (λ t1.
          let shown = own q (eq_from p q t1) in
          inr (elim so.either [
            | inl e ↦ inl (shown ∙ ap Some e)
            | inr k ↦ inr (elim k [ inl e ↦ inl (shown ∙ ap Some e) | inr x ↦ inr (elim x [ inl e ↦ inl (shown ∙ ap Some e) | inr y ↦ inr (elim y [ inl e ↦ inl (shown ∙ ap Some e) | inr z ↦ inr (elim z [ inl e ↦ inl (shown ∙ ap Some e) | inr e ↦ inr (shown ∙ ap Some e) ]) ]) ]) ])
          ]))
          (λ f. one_of (shown_wait after requests q) (shown_wait b.story requests q) (waits q v (ne_from p q f)) (h.waits.early q v));
      backoff = λ q v d. by_test (p == q) _
          (λ t1. inr (own q (eq_from p q t1) ∙ ap Some (so.backoff d)))
          (λ f. let other = ne_from p q f in elim (h.waits.backoff q v d) [ inl i ↦ inl (rest_in p q ps other (subst (IsIn q) is i)) | inr e ↦ inr (waits q v other ∙ e) ]);
      connect = λ q v d. by_test (p == q) _
          (λ t1. inr (own q (eq_from p q t1) ∙ ap Some (so.connect d)))
          (λ f. let other = ne_from p q f in elim (h.waits.connect q v d) [ inl i ↦ inl (rest_in p q ps other (subst (IsIn q) is i)) | inr e ↦ inr (waits q v other ∙ e) ]);
      creds = λ q link v r. by_test (p == q) _
          (λ t1. inr (own q (eq_from p q t1) ∙ ap Some (so.creds link r)))
          (λ f. let other = ne_from p q f in elim (h.waits.creds q link v r) [ inl i ↦ inl (rest_in p q ps other (subst (IsIn q) is i)) | inr e ↦ inr (waits q v other ∙ e) ]);
      setup = λ q link u v r. by_test (p == q) _
          (λ t1. inr (own q (eq_from p q t1) ∙ ap Some (so.setup link u r)))
          (λ f. let other = ne_from p q f in elim (h.waits.setup q link u v r) [ inl i ↦ inl (rest_in p q ps other (subst (IsIn q) is i)) | inr e ↦ inr (waits q v other ∙ e) ]);
      resubscribe = λ q link v r goes. by_test (p == q) _
          (λ t1. inr (own q (eq_from p q t1) ∙ ap Some (so.resubscribe link r goes)))
          (λ f. let other = ne_from p q f in elim (h.waits.resubscribe q link v r goes) [ inl i ↦ inl (rest_in p q ps other (subst (IsIn q) is i)) | inr e ↦ inr (waits q v other ∙ e) ]);
      permit = λ q link v r served. by_test (p == q) _
          (λ t1. inr (own q (eq_from p q t1) ∙ ap Some (so.permit link r served)))
          (λ f. let other = ne_from p q f in elim (h.waits.permit q link v r served) [ inl i ↦ inl (rest_in p q ps other (subst (IsIn q) is i)) | inr e ↦ inr (waits q v other ∙ e) ]);
      place = λ q a. elim (h.waits.place q a) [ inl i ↦ inl i | inr e ↦ inr (admitted q a ∙ e) ];
      room = λ q r. elim (h.waits.room q r) [ inl i ↦ inl i | inr e ↦ inr (queued q r ∙ e) ];
      newer = rest_rises p ps (length requests) line;
      rising = h.waits.rising;
      no_backoff = λ q i v d. waits q v (rest_other p q ps (length requests) line i) ∙ h.waits.no_backoff q (back q i) v d;
      no_connect = λ q i v d e. h.waits.no_connect q (back q i) v d (sym (waits q v (rest_other p q ps (length requests) line i)) ∙ e);
      no_creds = λ q link i v r e. h.waits.no_creds q link (back q i) v r (sym (waits q v (rest_other p q ps (length requests) line i)) ∙ e);
      no_setup = λ q link u i v r e. h.waits.no_setup q link u (back q i) v r (sym (waits q v (rest_other p q ps (length requests) line i)) ∙ e);
      no_resubscribe = λ q link i v r goes e. h.waits.no_resubscribe q link (back q i) v r goes (sym (waits q v (rest_other p q ps (length requests) line i)) ∙ e);
      unpermitted = λ q link v r goes e. by_test (p == q) ⊥
          (λ t1. (let no : ◌≡◌ {A = Option WaitKind} (Some wait.Resubscribe) (Some wait.Permit) = ap Some (sym (so.resubscribe link r goes)) ∙ sym (own q (eq_from p q t1)) ∙ e in cc))
          (λ f. h.waits.unpermitted q link v r goes (sym (waits q v (ne_from p q f)) ∙ e));
      no_permit = λ q link i v r served e. h.waits.no_permit q link (back q i) v r served (sym (waits q v (rest_other p q ps (length requests) line i)) ∙ e);
      seatless = λ q a e. h.waits.seatless q a (sym (admitted q a) ∙ e);
      no_place = λ q i a e. h.waits.no_place q i a (sym (admitted q a) ∙ e);
      no_room = λ q i r e. h.waits.no_room q i r (sym (queued q r) ∙ e);
    }

-- one of them waits no more
pub stale_waits : (b : Book) (t : TurnState) (p : ℕ) (ps : List ℕ) → Tied b t → t.fresh ≡ p ∷ ps → is_waiting_at t.requests p ≡ false → TiedWaits b.story t.requests t.again t.life ps t.moved
stale_waits b t p ps h is gone =
    let line = subst (λ ns. Rising 0 ns (length t.requests)) is h.waits.newer in
    let back : (q : ℕ) → IsIn q ps → IsIn q t.fresh = λ q i. subst (IsIn q) (sym is) (inr i) in
    let other : (q : ℕ) → is_waiting_at t.requests q ≡ true → p ≢ q = λ q w same. not_both (is_waiting_at t.requests q) (ap (is_waiting_at t.requests) (sym same) ∙ gone) w in
    record {
      early = h.waits.early;
      backoff = λ q w d. elim (h.waits.backoff q w d) [ inl i ↦ inl (rest_in p q ps (other q w) (subst (IsIn q) is i)) | inr e ↦ inr e ];
      connect = λ q w d. elim (h.waits.connect q w d) [ inl i ↦ inl (rest_in p q ps (other q w) (subst (IsIn q) is i)) | inr e ↦ inr e ];
      creds = λ q link w r. elim (h.waits.creds q link w r) [ inl i ↦ inl (rest_in p q ps (other q w) (subst (IsIn q) is i)) | inr e ↦ inr e ];
      setup = λ q link u w r. elim (h.waits.setup q link u w r) [ inl i ↦ inl (rest_in p q ps (other q w) (subst (IsIn q) is i)) | inr e ↦ inr e ];
      resubscribe = λ q link w r goes. elim (h.waits.resubscribe q link w r goes) [ inl i ↦ inl (rest_in p q ps (other q w) (subst (IsIn q) is i)) | inr e ↦ inr e ];
      permit = λ q link w r served. elim (h.waits.permit q link w r served) [ inl i ↦ inl (rest_in p q ps (other q w) (subst (IsIn q) is i)) | inr e ↦ inr e ];
      place = h.waits.place;
      room = h.waits.room;
      newer = rest_rises p ps (length t.requests) line;
      rising = h.waits.rising;
      no_backoff = λ q i w d. h.waits.no_backoff q (back q i) w d;
      no_connect = λ q i w d. h.waits.no_connect q (back q i) w d;
      no_creds = λ q link i w r. h.waits.no_creds q link (back q i) w r;
      no_setup = λ q link u i w r. h.waits.no_setup q link u (back q i) w r;
      no_resubscribe = λ q link i w r goes. h.waits.no_resubscribe q link (back q i) w r goes;
      unpermitted = h.waits.unpermitted;
      no_permit = λ q link i w r served. h.waits.no_permit q link (back q i) w r served;
      seatless = h.waits.seatless;
      no_place = h.waits.no_place;
      no_room = h.waits.no_room;
    }
