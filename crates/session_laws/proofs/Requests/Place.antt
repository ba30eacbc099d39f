-- A request takes its place in the queue, or waits for one behind the others.
use Rattle.std.proofs.Common.{Bool, List, None, Option, Some, [], ap, append_assoc, arith, false, inl, inr, length, refl, slice_get, subst, sym, true, ℕ, ◌++◌, ◌<◌, ◌∙◌, ◌∷◌, ◌≡◌}
use Rattle.std.specs.Prelude.{if◌then◌else◌, ◌==◌}
use Rattle.containers.proofs.Choices.{by_test, chosen, eq_from, eq_test, ne_from, not_both, taken_if}
use Rattle.resp_value.specs.declared.value.Value.TheVariants.{Nil}
use Rattle.driver_model.specs.declared.action.Action.TheVariants as action
use Rattle.driver_model.specs.declared.action.WaitKind.{WaitKind}
use Rattle.driver_model.specs.declared.action.WaitKind.TheVariants as wait
use Rattle.driver_model.specs.declared.outcome.Outcome.TheVariants as outcome
use Rattle.link_core.specs.Link.{LinkState, enqueued}
use Rattle.link_laws.proofs.TiedLink.{TiedLink, all_push, enqueued_tied}
use Rattle.link_laws.specs.Settles.{wanted}
use Rattle.mux_conn.specs.Connection.{is_outstanding}
use Rattle.mux_conn.specs.Passes.{message_of}
use Rattle.mux_conn.specs.Requests.{at_progress, given_back, is_admitted, is_admitted_at, is_placed, is_waiting, is_waiting_at, name_at, permits_at, with_permits, is_unbegun_at}
use Rattle.mux_conn.specs.declared.life.Life.TheVariants.{Ready}
use Rattle.mux_conn.specs.declared.request.Progress.TheVariants as progress
use Rattle.mux_conn.specs.declared.request.Waiting.{Waiting}
use Rattle.legal_trace.specs.Book.{Book, entered}
use Rattle.legal_trace.specs.Steps.{is_let_in}
use Rattle.legal_trace.specs.Story.{Story, answered, is_told}
use Rattle.conn_laws.proofs.Requests.Answer.{answer_closes}
use Rattle.session_laws.proofs.Requests.Answer.{lines_answered}
use Rattle.conn_laws.proofs.Ties.Behind.{open_unanswered}
use Rattle.conn_laws.proofs.Requests.Closing.{Closes, kept_other}
use Rattle.session_laws.proofs.Requests.Closing.{closed_other, late_closed, story_closed, tries_closed, waits_closed, with_closed}
use Rattle.conn_laws.proofs.Ties.InLine.{awaited_in, kept_ids}
use Rattle.conn_laws.proofs.Ties.Kept.{of_same}
use Rattle.conn_laws.proofs.Ties.Names.{length_still, name_still, name_with, name_within, names_progressed, names_with, open_within, owners_still, owners_with, there_same, with_same}
use Rattle.conn_laws.proofs.Changes.Requests.{progress_count as length_with, waiting_open}
use Rattle.session_laws.proofs.Ties.Names.{request_not}
use Rattle.conn_laws.proofs.Ties.Numbers.{IsIn, Rising, in_either, in_left, in_right, rising_apart, rising_in, rising_right, rising_tail, rising_without, request_in, requests_in}
use Rattle.session_laws.proofs.Ties.Owes.{in_line, request_story, open_on}
use Rattle.conn_laws.proofs.Ties.Permits.{permits_closed, permits_further, permits_let}
use Rattle.conn_laws.proofs.Internal.Repeats.{calls_kept}
use Rattle.conn_laws.proofs.Internal.Serving.{answered_serves}
use Rattle.conn_laws.proofs.Requests.Rounded.{admitted_begun, early_never, rounds_with}
use Rattle.session_laws.proofs.Requests.Rounded.{rounds_closed}
use Rattle.conn_laws.proofs.Requests.Start.{not_setting, not_wanting}
use Rattle.session_laws.proofs.Requests.Start.{on_link}
use Rattle.conn_laws.proofs.Ties.Tied.{IsOf, IsPacked, IsQueued, owner_of, queue_ids, shown_wait, waiting_ids}
use Rattle.session_laws.proofs.Ties.Tied.{TurnState, Tied, relined, numbers_kept}
use Rattle.conn_laws.proofs.Ties.Ahead.{admitted_open, early_open}
use Rattle.session_laws.proofs.Managers.Calm.{calm_more}
use Rattle.conn_laws.proofs.Requests.Place.{IsNext, entries_further, late_further, line_next, line_without, lines_enqueued, lines_further, lines_next, next_apart, open_further, packs_further, queue_ids-push, queued_further, shown_early, shown_further, story_further, told_further, tries_further, waits_admitted, waits_enqueued, waits_placed}

-- those that wait no longer are passed over
--
-- where it doesn't wait for one
pub passed_admitted : (b : Book) (t : TurnState) (link : LinkState) (q : Waiting) (qs : List Waiting) → is_admitted_at t.requests q.number ≡ false → Tied b (record (on_link t link) { admitted = q ∷ qs }) → Tied b (record (on_link t link) { admitted = qs })
passed_admitted b t link q qs gone h =
    relined b (record (on_link t link) { admitted = q ∷ qs }) t.waiting qs t.fresh t.moved [] h (record {
      line = line_without (requests_in t.started) (queue_ids link.queue) q qs t.waiting (length t.requests) h.lines.line;
      queued = h.lines.queued;
      entries = h.lines.entries;
      packs = h.lines.packs;
      packed_in = h.lines.packed_in.1;
      there = λ p e. elim (h.lines.there p e) [
        | inl i ↦ inl i
        | inr k ↦ elim k [
          | inl a ↦ elim a.1 [ inl same ↦ absurd (not_both (is_admitted_at t.requests p) (ap (is_admitted_at t.requests) (sym same) ∙ gone) a.0) | inr i ↦ inr (inl (a.0, i)) ]
          | inr w ↦ inr (inr w)
        ]
      ];
    }) h.waits h.rounds h.late

-- or for the connection
pub passed_waiting : (b : Book) (t : TurnState) (link : LinkState) (q : Waiting) (qs : List Waiting) → is_waiting_at t.requests q.number ≡ false → Tied b (record (on_link t link) { waiting = q ∷ qs }) → Tied b (record (on_link t link) { waiting = qs })
passed_waiting b t link q qs gone h =
    let hi = length t.requests in
    let queue = queue_ids link.queue in
    let front = waiting_ids t.admitted in
    let rest = waiting_ids qs in
    relined b (record (on_link t link) { waiting = q ∷ qs }) qs t.admitted t.fresh t.moved [] h (record {
      line = rising_tail 0 (requests_in t.started) (queue ++ (front ++ (q.number ∷ rest))) (queue ++ (front ++ rest)) hi
          (λ low r. rising_tail low queue (front ++ (q.number ∷ rest)) (front ++ rest) hi (λ l s. rising_without l front q.number rest hi s) r)
          h.lines.line;
      queued = h.lines.queued;
      entries = h.lines.entries;
      packs = h.lines.packs.1;
      packed_in = h.lines.packed_in;
      there = λ p e. elim (h.lines.there p e) [
        | inl i ↦ inl i
        | inr k ↦ elim k [
          | inl a ↦ inr (inl a)
          | inr w ↦ elim w.1 [ inl same ↦ absurd (not_both (is_waiting_at t.requests p) (ap (is_waiting_at t.requests) (sym same) ∙ gone) w.0) | inr i ↦ inr (inr (w.0, i)) ]
        ]
      ];
    }) h.waits h.rounds h.late

-- the next that is moved
--
-- it is the first of those that wait for a place
pub next_admitted : (b : Book) (t : TurnState) (link : LinkState) (q : Waiting) (qs : List Waiting) → is_admitted_at t.requests q.number ≡ true → Rising 0 (t.moved ++ q.number ∷ []) (length t.requests) → Tied b (record (on_link t link) { admitted = q ∷ qs; being_admitted = [] })
    → IsNext b.story t.requests t.limit [] t.moved t.waiting (q ∷ qs) q t.waiting qs
next_admitted b t link q qs a last h = record {
  open_at = (admitted_open t.requests q.number a).0;
  let_in = h.permits.let_in q.number (inl a);
  begun = admitted_begun t.requests q.number a;
  alone = λ p i. absurd i;
  first = refl;
  packed = h.lines.packed_in.0;
  packs = h.lines.packs;
  packed_in = h.lines.packed_in.1;
  others = λ p k. elim k [
    | inl x ↦ elim x.1 [ inl same ↦ inl same | inr i ↦ inr (inl (x.0, i)) ]
    | inr w ↦ inr (inr w)
  ];
  shown = h.waits.seatless q.number a;
  last = last;
}

-- or of those that wait for the connection, where none waits for a place, and it is being let in
pub next_waiting : (b : Book) (t : TurnState) (link : LinkState) (q : Waiting) (qs : List Waiting) → is_waiting_at t.requests q.number ≡ true → is_unbegun_at t.requests q.number ≡ false → is_let_in t.limit (b.story (name_at t.requests q.number)) ≡ true → Rising 0 (t.moved ++ q.number ∷ []) (length t.requests)
    → Tied b (record (on_link t link) { admitted = []; waiting = q ∷ qs; being_admitted = q.number ∷ [] }) → IsNext b.story t.requests t.limit (q.number ∷ []) t.moved (q ∷ qs) [] q qs []
next_waiting b t link q qs w begun is last h = record {
  open_at = waiting_open t.requests q.number w;
  let_in = is;
  begun = begun;
  alone = λ p i. elim i [ inl e ↦ e | inr k ↦ absurd k ];
  first = refl;
  packed = h.lines.packs.0;
  packs = h.lines.packs.1;
  packed_in = tt;
  others = λ p k. elim k [
    | inl x ↦ absurd x.1
    | inr x ↦ elim x.1 [ inl same ↦ inl same | inr i ↦ inr (inr (x.0, i)) ]
  ];
  shown = (shown_early (shown_wait b.story t.requests q.number) (h.waits.early q.number w)).1;
  last = last;
}

-- the session
--
-- with the request in its place, where these wait still
abbrev pub with_place : TurnState → LinkState → Waiting → List Waiting → List Waiting → TurnState
with_place t link q waiting admitted = record (on_link t (enqueued link (message_of q))) {
  requests = at_progress t.requests q.number progress.Placed;
  waiting = waiting;
  admitted = admitted;
  moved = t.moved ++ q.number ∷ [];
  being_admitted = [];
}

-- and with one that is answered at its place, and gives its permits back
abbrev pub with_told : TurnState → LinkState → Waiting → List Waiting → List Waiting → TurnState
with_told t link q waiting admitted = record (on_link t (enqueued link (message_of q))) {
  free = given_back t.limit t.free (permits_at t.requests q.number);
  requests = with_permits t.requests q.number progress.Closed 0;
  waiting = waiting;
  admitted = admitted;
  moved = t.moved ++ q.number ∷ [];
  being_admitted = [];
}

-- the one that is awaited
awaited_only : (awaited : Bool) (p n : ℕ) → awaited ≡ true → IsIn n (p ∷ []) → IsIn n ((if awaited then p ∷ [] else []) ++ [])
awaited_only true p n e i = i
awaited_only false p n e i = cc

-- one whose reply is awaited has its place
pub place_tied : (b : Book) (t : TurnState) (link : LinkState) (q : Waiting) (waiting admitted : List Waiting) → q.awaited ≡ true → IsNext b.story t.requests t.limit t.being_admitted t.moved t.waiting t.admitted q waiting admitted → is_outstanding t.again ≡ false → Tied b (on_link t link)
    → Tied b (with_place t link q waiting admitted)
place_tied b t link q waiting admitted yes_awaited next none h =
    let p = q.number in
    let o = next.open_at in
    let within = open_within t.requests p o in
    let apart = next_apart b.story t.requests link t.limit t.being_admitted t.moved t.waiting t.admitted t.started q waiting admitted next h.lines in
    let placed = at_progress t.requests p progress.Placed in
    let still = length_still t.requests p progress.Placed in
    let queued : IsQueued b.story placed (message_of q) = record {
      is_of = subst (λ n. IsOf (b.story n) q.packed q.shape q.awaited) (sym (name_still t.requests p progress.Placed p)) next.packed.is_of;
      placed_at = λ e. there_same is_placed t.requests p progress.Placed within;
      told = λ f. absurd (not_both q.awaited f yes_awaited);
    } in
    record {
      numbers = numbers_kept b _ _ _ _ _ _ (on_link t link) _ _ _ _ _ _ _ _ _ _ h.numbers;
      others = h.others;
      notices = h.notices;
      life = h.life;
      course = h.course;
      calm = h.calm;
      creds = record { wanted_is = h.creds.wanted_is; sought = h.creds.sought };
      creation = h.creation;
      uses = h.uses;
      renewal = h.renewal;
      repeat = h.repeat;
      setup = record { info_is = h.setup.info_is; sent = h.setup.sent; said = h.setup.said };
      link = λ e. subst (λ x. TiedLink x (b.link t.link) (enqueued link (message_of q))) (sym (owners_still t.requests p progress.Placed)) (enqueued_tied (owner_of t.requests) (b.link t.link) link (message_of q) (h.link refl));
      names = names_progressed t.table t.requests p progress.Placed h.names;
      story = λ n. story_further (b.story n) t.requests t.link p progress.Placed (slice_get t.table n) refl o (h.story n);
      tries = tries_further (b.link t.link) b.story t.requests t.link p progress.Placed t.started h.tries;
      lines = lines_enqueued b.story placed link waiting admitted (message_of q) (p ∷ []) t.started queued
          (subst (Rising 0 (requests_in t.started ++ (queue_ids (link.queue ++ message_of q ∷ []) ++ kept_ids admitted waiting))) (sym still) (line_next t.requests link t.moved t.waiting t.admitted (requests_in t.started) q waiting admitted next.first h.lines.line))
          (λ n i. awaited_only q.awaited p n yes_awaited i)
          (lines_further b.story t.requests link waiting admitted p progress.Placed t.started refl refl o apart (lines_next b.story t.requests link t.limit t.being_admitted t.moved t.waiting t.admitted t.started q waiting admitted next h.lines));
      told = λ e.
          let was = told_further b.story t.requests t.link link p progress.Placed (h.told refl) in
          record {
            told = λ n is none on. let k = was.told n is none on in (k.0, k.1, k.2, subst (IsIn k.0) (sym (queue_ids-push link.queue (message_of q))) (in_left k.0 (queue_ids link.queue) (p ∷ []) k.3));
            here = λ m i. elim (in_either m (queue_ids link.queue) (p ∷ []) (subst (IsIn m) (queue_ids-push link.queue (message_of q)) i)) [
              | inl j ↦ was.here m j
              | inr j ↦ elim j [
                | inl own ↦ subst (λ k. (b.story (name_at placed k)).link ≡ t.link) own (ap (λ n. (b.story n).link) (name_still t.requests p progress.Placed p) ∙ open_on b (on_link t link) p h o)
                | inr none ↦ absurd none
              ]
            ];
          };
      waits = waits_enqueued b.story placed t.again link (message_of q) t.fresh t.moved (subst (Rising 0 (t.moved ++ p ∷ [])) (sym still) next.last) (there_same is_admitted t.requests p progress.Placed within)
          (λ e. next.shown (sym (shown_further b.story t.requests p progress.Placed p) ∙ e)) (waits_placed b.story t.requests p t.again (Ready link) t.fresh t.moved within h.waits);
      permits = permits_further b.story b.submissions t.requests t.link t.limit t.free t.being_admitted p progress.Placed within refl next.let_in next.alone h.permits;
      rounds = rounds_with b.story b.story t.requests t.fresh p progress.Placed (permits_at t.requests p) within refl (λ n. refl) (λ shows unclosed. h.rounds.begun p shows o next.begun) h.rounds;
      early = early_never placed t.again (Ready (enqueued link (message_of q))) (answered_serves (Ready (enqueued link (message_of q))) t.again refl none);
      late = late_further b.story t.requests p progress.Placed [] refl o h.late;
    }

-- it is none of the link
apart_from_link : (b : Book) (t : TurnState) (link : LinkState) (q : Waiting) (waiting admitted : List Waiting) → IsNext b.story t.requests t.limit t.being_admitted t.moved t.waiting t.admitted q waiting admitted → Tied b (on_link t link)
    → IsIn q.number (wanted link.row ++ queue_ids link.queue) → ⊥
apart_from_link b t link q waiting admitted next h i =
    let p = q.number in
    let hi = length t.requests in
    let rows = requests_in (wanted link.row) in
    let queue = queue_ids link.queue in
    let kept = kept_ids admitted waiting in
    let other = request_not b (on_link t link) p h (open_within t.requests p next.open_at) in
    let all = in_line b (on_link t link) h refl in
    let line = subst (λ ns. Rising 0 (rows ++ (queue ++ ns)) hi) next.first all in
    let behind = rising_right 0 rows (queue ++ (p ∷ kept)) hi line in
    elim (in_either p (wanted link.row) queue i) [
      | inl j ↦ let k = rising_apart 0 rows (queue ++ (p ∷ kept)) hi p p line (request_in p (wanted link.row) other j) (in_right p queue (p ∷ kept) (inl refl)) in omega arith
      | inr k ↦ let l = rising_apart 0 queue (p ∷ kept) hi p p behind k (inl refl) in omega arith
    ]

-- one whose reply nobody awaits has its place, and is answered there
pub tell_tied : (b : Book) (t : TurnState) (link : LinkState) (q : Waiting) (waiting admitted : List Waiting) → q.awaited ≡ false → IsNext b.story t.requests t.limit t.being_admitted t.moved t.waiting t.admitted q waiting admitted → is_outstanding t.again ≡ false → Tied b (on_link t link)
    → Tied (entered b (action.Outcome (name_at t.requests q.number) (outcome.One Nil))) (with_told t link q waiting admitted)
tell_tied b t link q waiting admitted not_awaited next none h =
    let p = q.number in
    let n = name_at t.requests p in
    let nil = outcome.One Nil in
    let o = next.open_at in
    let within = open_within t.requests p o in
    let done : ℕ → Story = λ m. answered (b.story m) nil in
    let c : (m : ℕ) → Closes (b.story m) (done m) = λ m. answer_closes (b.story m) nil in
    let after = with_closed b.story t.requests p done in
    let closed = with_permits t.requests p progress.Closed 0 in
    let still = length_with t.requests p progress.Closed 0 in
    let named = name_with t.requests p progress.Closed 0 p in
    let r = request_story b (on_link t link) p h within in
    let known : n < b.submissions = (let l = name_within t.table t.requests p h.names within in let e = h.numbers.submissions in omega arith) in
    let apart = apart_from_link b t link q waiting admitted next h in
    let same : answered (b.story n) nil ≡ after n = sym (taken_if (n == n) (answered (b.story n) nil) (b.story n) (eq_test n n refl)) in
    let queued : IsQueued after closed (message_of q) = record {
      is_of = subst (λ x. IsOf (after x) q.packed q.shape q.awaited) (sym named) (subst (λ (s : Story). IsOf s q.packed q.shape q.awaited) same (of_same (b.story n) (answered (b.story n) nil) q.packed q.shape q.awaited refl next.packed.is_of));
      placed_at = λ e. absurd (not_both q.awaited not_awaited e);
      told = λ f. ap (λ x. (after x).outcomes) named ∙ ap (λ (s : Story). s.outcomes) (sym same) ∙ ap (λ os. os ++ nil ∷ []) (open_unanswered (b.story n) (r.open_is ∙ o));
    } in
    record {
      numbers = numbers_kept b _ _ _ _ _ _ (on_link t link) _ _ _ _ _ _ _ _ _ _ h.numbers;
      others = h.others;
      notices = h.notices;
      life = h.life;
      course = h.course;
      calm = calm_more b.errors nil t.shut (Ready link) (λ up awake. refl) h.calm;
      creds = record { wanted_is = h.creds.wanted_is; sought = h.creds.sought };
      creation = h.creation;
      uses = h.uses;
      renewal = h.renewal;
      repeat = calls_kept (b.link t.link) b.tracked (b.tracked ++ []) t.renewal.within t.again (Ready link) (λ goes. absurd (not_both (is_outstanding t.again) none goes)) h.repeat;
      setup = record { info_is = h.setup.info_is; sent = h.setup.sent; said = h.setup.said };
      link = λ e. subst (λ x. TiedLink x (b.link t.link) (enqueued link (message_of q))) (sym (owners_with t.requests p progress.Closed 0)) (enqueued_tied (owner_of t.requests) (b.link t.link) link (message_of q) (h.link refl));
      names = names_with t.table t.requests p progress.Closed 0 h.names;
      story = λ m. story_closed b.story t.table t.requests t.link p done m h.names within refl (c m) (h.story m);
      tries = tries_closed (b.link t.link) b.story t.requests t.link p done t.started c h.tries;
      lines = lines_enqueued after closed link waiting admitted (message_of q) [] t.started queued
          (subst (Rising 0 (requests_in t.started ++ (queue_ids (link.queue ++ message_of q ∷ []) ++ kept_ids admitted waiting))) (sym still) (line_next t.requests link t.moved t.waiting t.admitted (requests_in t.started) q waiting admitted next.first h.lines.line))
          (λ m i. absurd i)
          (lines_answered t.table b.story t.requests link waiting admitted p [] t.started done h.names within c apart (lines_next b.story t.requests link t.limit t.being_admitted t.moved t.waiting t.admitted t.started q waiting admitted next h.lines));
      told = λ e.
          let after_link : (m : ℕ) → (after m).link ≡ (b.story m).link = λ m. chosen (λ (x : Story). x.link ≡ (b.story m).link) (n == m) (done m) (b.story m) (λ t. refl) (λ f. refl) in
          record {
            told = λ m. chosen (λ (x : Story). is_told x ≡ true → x.tries ≡ [] → x.link ≡ t.link → (k : ℕ) × (k < length closed) × (name_at closed k ≡ m) × IsIn k (queue_ids (link.queue ++ message_of q ∷ []))) (n == m) (done m) (b.story m)
                (λ t is none on. (p, subst (λ x. p < x) (sym still) within, named ∙ eq_from n m t, subst (IsIn p) (sym (queue_ids-push link.queue (message_of q))) (in_right p (queue_ids link.queue) (p ∷ []) (inl refl))))
                (λ f is none on.
                let k = (h.told refl).told m is none on in
                (k.0, subst (λ x. k.0 < x) (sym still) k.1, name_with t.requests p progress.Closed 0 k.0 ∙ k.2, subst (IsIn k.0) (sym (queue_ids-push link.queue (message_of q))) (in_left k.0 (queue_ids link.queue) (p ∷ []) k.3)));
            here = λ m i. ap (λ k. (after k).link) (name_with t.requests p progress.Closed 0 m) ∙ after_link (name_at t.requests m) ∙ elim (in_either m (queue_ids link.queue) (p ∷ []) (subst (IsIn m) (queue_ids-push link.queue (message_of q)) i)) [
              | inl j ↦ (h.told refl).here m j
              | inr j ↦ elim j [ inl own ↦ subst (λ k. (b.story (name_at t.requests k)).link ≡ t.link) own (r.on o) | inr none ↦ absurd none ]
            ];
          };
      waits = waits_enqueued after closed t.again link (message_of q) t.fresh t.moved (subst (Rising 0 (t.moved ++ p ∷ [])) (sym still) next.last) (with_same is_admitted t.requests p progress.Closed 0 within)
          (λ e. (let gone : ◌≡◌ {A = Option WaitKind} None (Some wait.Room) = ap (λ (s : Story). s.waiting) same ∙ ap (λ x. (after x).waiting) (sym named) ∙ e in cc))
          (waits_closed t.table b.story t.requests p done t.again (Ready link) (Ready link) t.fresh t.moved h.names within (λ e. e) (λ e. e) (λ l e. absurd (not_wanting link l e)) (λ l u e. absurd (not_setting link l u e)) (λ l e. (link, refl))
          (λ m i.
          let queue = queue_ids link.queue in
          let kept = kept_ids t.admitted t.waiting in
          let j = awaited_in m link.queue i in
          let k = rising_in 0 (requests_in t.started ++ (queue ++ kept)) (length t.requests) m h.lines.line (in_right m (requests_in t.started) (queue ++ kept) (in_left m queue kept j)) in
          ((λ s. next_apart b.story t.requests link t.limit t.being_admitted t.moved t.waiting t.admitted t.started q waiting admitted next h.lines (subst (λ x. IsIn x queue) (sym s) j)), k.1, i)) h.waits);
      permits = permits_let after b.submissions closed t.link t.limit (given_back t.limit t.free (permits_at t.requests p)) t.being_admitted p (with_same is_waiting t.requests p progress.Closed 0 within) next.alone
          (permits_closed b.story after t.table b.submissions t.requests t.link t.limit t.free t.being_admitted p h.names within known (r.on o) r.permits_is (closed_other b.story t.requests p done) (ap (λ (s : Story). s.permits) (sym same)) (ap (λ (s : Story). s.link) (sym same) ∙ r.on o) h.permits);
      rounds = rounds_closed b.story t.requests t.fresh p done within c h.rounds;
      early = early_never closed t.again (Ready (enqueued link (message_of q))) (answered_serves (Ready (enqueued link (message_of q))) t.again refl none);
      late = late_closed t.table b.story t.requests p done [] [] h.names within (λ m x i. i) h.late;
    }

-- one that waits for the connection waits for a place behind the others
pub admit_tied : (b : Book) (t : TurnState) (link : LinkState) (q : Waiting) (qs : List Waiting) → is_waiting_at t.requests q.number ≡ true → is_unbegun_at t.requests q.number ≡ false → is_let_in t.limit (b.story (name_at t.requests q.number)) ≡ true → Rising 0 (t.moved ++ q.number ∷ []) (length t.requests)
    → is_outstanding t.again ≡ false → Tied b (record (on_link t link) { waiting = q ∷ qs; being_admitted = q.number ∷ [] }) → Tied b (record (on_link t link) { requests = at_progress t.requests q.number progress.Admitted; waiting = qs; admitted = t.admitted ++ q ∷ []; moved = t.moved ++ q.number ∷ []; being_admitted = [] })
admit_tied b t link q qs w begun is last none h =
    let p = q.number in
    let o = waiting_open t.requests p w in
    let within = open_within t.requests p o in
    let queue = queue_ids link.queue in
    let front = waiting_ids t.admitted in
    let rest = waiting_ids qs in
    let hi = length t.requests in
    let now = progress.Admitted in
    let further = at_progress t.requests p now in
    let line = rising_right 0 (requests_in t.started) (queue ++ (front ++ (p ∷ rest))) hi h.lines.line in
    let apart : IsIn p queue → ⊥ = λ i. (let k = rising_apart 0 queue (front ++ (p ∷ rest)) hi p p line i (in_right p front (p ∷ rest) (inl refl)) in omega arith) in
    let same : kept_ids t.admitted (q ∷ qs) ≡ kept_ids (t.admitted ++ q ∷ []) qs = sym (append_assoc front (p ∷ []) rest) ∙ ap (λ ns. ns ++ rest) (sym (waiting_ids-push t.admitted q)) in
    record {
      numbers = numbers_kept b _ _ _ _ _ _ (record (on_link t link) { waiting = q ∷ qs; being_admitted = q.number ∷ [] }) _ _ _ _ _ _ _ _ _ _ h.numbers;
      others = h.others;
      notices = h.notices;
      life = h.life;
      course = h.course;
      calm = h.calm;
      creds = record { wanted_is = h.creds.wanted_is; sought = h.creds.sought };
      creation = h.creation;
      uses = h.uses;
      renewal = h.renewal;
      repeat = h.repeat;
      setup = record { info_is = h.setup.info_is; sent = h.setup.sent; said = h.setup.said };
      link = λ e. subst (λ x. TiedLink x (b.link t.link) link) (sym (owners_still t.requests p now)) (h.link refl);
      names = names_progressed t.table t.requests p now h.names;
      story = λ n. story_further (b.story n) t.requests t.link p now (slice_get t.table n) refl o (h.story n);
      tries = tries_further (b.link t.link) b.story t.requests t.link p now t.started h.tries;
      lines = record {
        line = subst (λ ns. Rising 0 (requests_in t.started ++ (queue ++ ns)) (length further)) same (subst (Rising 0 (requests_in t.started ++ (queue ++ kept_ids t.admitted (q ∷ qs)))) (sym (length_still t.requests p now)) h.lines.line);
        queued = queued_further b.story t.requests p now link.queue apart h.lines.queued;
        entries = entries_further t.requests p now link.row within (inr (early_open t.requests p w).1) h.lines.entries;
        packs = packs_further b.story t.requests p now qs h.lines.packs.1;
        packed_in = packs_further b.story t.requests p now (t.admitted ++ q ∷ []) (all_push (IsPacked b.story t.requests) t.admitted q h.lines.packed_in h.lines.packs.0);
        there = λ m e. by_test (p == m) _
            (λ t1. inr (inl (ap (is_admitted_at further) (sym (eq_from p m t1)) ∙ there_same is_admitted t.requests p now within, subst (IsIn m) (sym (waiting_ids-push t.admitted q)) (in_right m front (p ∷ []) (inl (eq_from p m t1))))))
            (λ f.
            let other = ne_from p m f in
            elim (h.lines.there m (sym (open_further t.requests p m now refl o) ∙ e)) [
              | inl i ↦ inl i
              | inr k ↦ inr (elim (kept_other t.requests p m now (permits_at t.requests p) (q ∷ qs) t.admitted other k) [
                | inl a ↦ inl (a.0, subst (IsIn m) (sym (waiting_ids-push t.admitted q)) (in_left m front (p ∷ []) a.1))
                | inr v ↦ inr (v.0, elim v.1 [ inl s ↦ absurd (other s) | inr i ↦ i ])
              ])
            ]);
      };
      told = λ e. told_further b.story t.requests t.link link p now (h.told refl);
      waits = waits_admitted b.story t.requests t.again link p t.fresh t.moved w last h.waits;
      permits = permits_further b.story b.submissions t.requests t.link t.limit t.free (p ∷ []) p now within refl is (λ m i. elim i [ inl e ↦ e | inr k ↦ absurd k ]) h.permits;
      rounds = rounds_with b.story b.story t.requests t.fresh p now (permits_at t.requests p) within refl (λ n. refl) (λ shows unclosed. h.rounds.begun p shows o begun) h.rounds;
      early = early_never further t.again (Ready link) (answered_serves (Ready link) t.again refl none);
      late = late_further b.story t.requests p now [] refl o h.late;
    }
  where
    waiting_ids-push : (ws : List Waiting) (w : Waiting) → waiting_ids (ws ++ w ∷ []) ≡ waiting_ids ws ++ w.number ∷ []
    waiting_ids-push [] w = refl
    waiting_ids-push (v ∷ ws) w = ap (λ ns. v.number ∷ ns) (waiting_ids-push ws w)
