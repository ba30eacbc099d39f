-- One outcome: where it may stand, and what it leaves.
use Rattle.std.proofs.Common.{◌≡◌, inl, inr, ℕ, ◌<◌, ◌==◌, true, false, List, [], ◌∷◌, ◌++◌, length, Option, Some, None, if◌then◌else◌, refl, sym, ap, ◌∙◌, subst, arith}
use Rattle.containers.proofs.Choices.{by_test, chosen, taken_if, eq_from, eq_test, ne_from, not_both}
use Rattle.driver_model.specs.declared.action.Action.TheVariants as action
use Rattle.driver_model.specs.declared.outcome.Outcome.{Outcome}
use Rattle.driver_model.specs.declared.outcome.Outcome.TheVariants as outcome
use Rattle.redis_error.specs.declared.fault_kind.FaultKind.TheVariants as kinds
use Rattle.redis_error.specs.declared.redis_error.RedisError.TheVariants as error
use Rattle.link_core.specs.Link.{LinkState}
use Rattle.link_laws.specs.Settles.{wanted}
use Rattle.mux_conn.specs.declared.request.Pending.{Pending}
use Rattle.mux_conn.specs.declared.request.Progress.TheVariants as progress
use Rattle.mux_conn.specs.declared.request.Request.{Request}
use Rattle.mux_conn.specs.declared.request.Waiting.{Waiting}
use Rattle.mux_conn.specs.Requests.{is_open as is_open_progress, is_open_at, name_at, permits_at, with_permits, given_back}
use Rattle.legal_trace.specs.Ledger.{Heard, is_over, ending, next_notice}
use Rattle.legal_trace.specs.Story.{Story, Try, last_of, is_no_error, is_open, packed_in, shape_in, bytes_of, answered}
use Rattle.legal_trace.specs.Book.{Book, entered, faults_in}
use Rattle.legal_trace.specs.Owed.{owed, owed_to_try, owed_to_message, owed_waiting}
use Rattle.legal_trace.specs.Legal.{NoneEnds, VerdictsAreShown, MayAnswer, FailuresAreShown, EndsAreTold, IsBefore, is_heard}
use Rattle.session_laws.proofs.Managers.Calm.{calm_more, owed_calm}
use Rattle.conn_laws.proofs.Requests.Rounded.{early_closed}
use Rattle.session_laws.proofs.Requests.Rounded.{rounds_closed}
use Rattle.conn_laws.proofs.Ties.Numbers.{IsIn, in_either, in_right, in_left, Rising, rising_in, requests_in, request_in}
use Rattle.conn_laws.proofs.Ties.Tied.{link_in, queue_ids, TiedNames, AreQueued, TiedLines, has_ended}
use Rattle.session_laws.proofs.Ties.Tied.{NoReconnectCause, TurnState, Tied, relined, numbers_kept}
use Rattle.conn_laws.proofs.Links.Said.{carried_tied}
use Rattle.session_laws.proofs.Links.Said.{sources_asked}
use Rattle.conn_laws.proofs.Ties.Names.{name_within, open_within, earlier_name, owners_with, names_with, with_then}
use Rattle.conn_laws.proofs.Changes.Requests.{progress_count as length_with}
use Rattle.session_laws.proofs.Ties.Names.{request_not}
use Rattle.conn_laws.proofs.Ties.Aside.{aside_ends}
use Rattle.conn_laws.proofs.Ties.InLine.{kept_ids, line_of, IsInLine, awaited_in, first_is_apart}
use Rattle.conn_laws.proofs.Ties.Behind.{open_unanswered, told_answered}
use Rattle.conn_laws.proofs.Requests.Closing.{Closes, kept_other, IsUntried}
use Rattle.session_laws.proofs.Requests.Closing.{closed_other, late_closed, with_closed, story_closed, tries_closed, packs_closed, queue_closed, waits_closed, told_closed}
use Rattle.conn_laws.proofs.Ties.Permits.{permits_closed}
use Rattle.session_laws.proofs.Ties.Owes.{request_story, open_request, ends_told, failures_shown, notices_told}
use Rattle.mux_conn.specs.Connection.{is_outstanding}
use Rattle.legal_trace.specs.Again.{confirmed}
use Rattle.conn_laws.proofs.Requests.Answer.{answer_closes, ended_ends, ended_over, entries_answered, fault_is, no_push, tracks_none, waiting_is}

-- where it may stand
--
-- an open request of its link is owed that; none before it is owed anything; and on a link that is over nothing is
-- due before
pub may_answer : (b : Book) (t : TurnState) (p : ℕ) (o : Outcome) → Tied b t → is_open_at t.requests p ≡ true → owed b (name_at t.requests p) ≡ Some o
    → ((q : ℕ) → q < p → is_open_at t.requests q ≡ true → owed b (name_at t.requests q) ≡ None)
    → (is_heard b ≡ true → (push : Heard) → next_notice (b.link t.link) ≡ Some push → IsBefore b (name_at t.requests p) push)
    → (is_over (b.link t.link) ≡ true → NoneEnds b × VerdictsAreShown b × FailuresAreShown b × EndsAreTold b) → MayAnswer b (name_at t.requests p) o
may_answer b t p o h e owes before pushed after =
    let l = open_within t.requests p e in
    let r = request_story b t p h l in
    record {
      asked = r.open_is ∙ e;
      owes = owes;
      in_order = λ m less asked same.
          let q = open_request b t m h asked in
          let k = open_within t.requests q.number q.open_at in
          ap (owed b) (sym q.named) ∙ before q.number (earlier_name t.table t.requests q.number p h.names k l (subst (λ n. n < name_at t.requests p) (sym q.named) less)) q.open_at;
      after_notices = λ heard push next. pushed heard push (subst (λ n. next_notice (b.link n) ≡ Some push) (r.on e) next);
      after_closes = λ over. after (subst (λ n. is_over (b.link n) ≡ true) (r.on e) over);
      after_sources = λ over. sources_asked b t h;
    }

-- on a link that has ended
pub after_end : (b : Book) (t : TurnState) → Tied b t → has_ended t.life ≡ true → NoneEnds b × VerdictsAreShown b × FailuresAreShown b
after_end b t h over = (
  (λ m. by_test (m == t.link) _
      (λ same. let e = eq_from m t.link same in subst (λ n. ending (b.link n) ≡ None) (sym e) (ended_ends (b.link t.link) b.created t.life over h.life))
      (λ other. aside_ends (b.link m) (h.others m (ne_from m t.link other)))),
  (λ n asked alive.
      let q = open_request b t n h asked in
      let r = request_story b t q.number h (open_within t.requests q.number q.open_at) in
      let on : (b.story n).link ≡ t.link = ap (λ m. (b.story m).link) (sym q.named) ∙ r.on q.open_at in
      absurd (not_both (is_over (b.link t.link)) (subst (λ m. is_over (b.link m) ≡ false) on alive) (ended_over (b.link t.link) b.created t.life over h.life))),
  failures_shown b t h,
)

-- all that is told of the ends
pub after_closes : (b : Book) (t : TurnState) → Tied b t → t.parting ≡ false → has_ended t.life ≡ true → NoneEnds b × VerdictsAreShown b × FailuresAreShown b × EndsAreTold b
after_closes b t h done over = let a = after_end b t h over in (a.0, a.1, a.2, ends_told b t h done)

-- where no notice is still to be told none is
pub none_before : (b : Book) (t : TurnState) (n : ℕ) → Tied b t → t.untold ≡ [] → is_heard b ≡ true → (push : Heard) → next_notice (b.link t.link) ≡ Some push → IsBefore b n push
none_before b t n h none heard push next = absurd (no_push (next_notice (b.link t.link)) push (notices_told b t h none t.link heard) next)

-- what it leaves
--
-- what a submission of that story is owed
abbrev pub owed_in : Book → Story → Option Outcome
owed_in b s =
    if s.late then Some (outcome.Fault error.Closed)
    else if s.unspoken then Some (outcome.Fault error.Resp3Required)
    else if length (bytes_of s) == 0 then Some (outcome.Fault error.EmptyCommand)
    else if s.overdue then Some (outcome.Fault (error.Io kinds.TimedOut))
    else owed_to_try b s (last_of s.tries)

-- what is owed stays
pub owed_still : (b : Book) (n : ℕ) (o : Outcome) (m : ℕ) → owed (entered b (action.Outcome n o)) m ≡ owed b m
owed_still b n o m =
    chosen (λ (s : Story). owed_in (entered b (action.Outcome n o)) s ≡ owed_in b (b.story m)) (n == m) (answered (b.story m) o) (b.story m)
    (λ t. alike (answered (b.story m) o) refl refl refl refl refl refl)
    (λ f. alike (b.story m) refl refl refl refl refl refl)
  where
    by_try : (s : Story) (x : Option Try) → s.link ≡ (b.story m).link → s.submission ≡ (b.story m).submission → owed_to_try (entered b (action.Outcome n o)) s x ≡ owed_to_try b (b.story m) x
    by_try s None link what = ap (λ l. owed_waiting b.shut (b.link l)) link
    by_try s (Some t) link what = ap (λ w. owed_to_message (b.link t.link) t.message (shape_in w)) what

    alike : (s : Story) → s.late ≡ (b.story m).late → s.unspoken ≡ (b.story m).unspoken → s.overdue ≡ (b.story m).overdue → s.link ≡ (b.story m).link → s.submission ≡ (b.story m).submission → s.tries ≡ (b.story m).tries → owed_in (entered b (action.Outcome n o)) s ≡ owed_in b (b.story m)
    alike s late unspoken overdue link what tries = (λ i.
        if late i then Some (outcome.Fault error.Closed)
        else if unspoken i then Some (outcome.Fault error.Resp3Required)
        else if length (packed_in (what i)) == 0 then Some (outcome.Fault error.EmptyCommand)
        else if overdue i then Some (outcome.Fault (error.Io kinds.TimedOut))
        else (by_try s (last_of s.tries) link what ∙ ap (λ ts. owed_to_try b (b.story m) (last_of ts)) tries) i)

-- the lines where one that is to be answered is, and is neither in the row nor in the queue
pub lines_answered : (table : List (Option Pending)) (story : ℕ → Story) (requests : List Request) (link : LinkState) (waiting admitted : List Waiting) (p : ℕ) (pending started : List ℕ) (closed : ℕ → Story) → TiedNames table requests → p < length requests
    → ((n : ℕ) → Closes (story n) (closed n)) → (IsIn p (wanted link.row ++ queue_ids link.queue) → ⊥) → TiedLines story requests link waiting admitted (p ∷ pending) started
    → TiedLines (with_closed story requests p closed) (with_permits requests p progress.Closed 0) link waiting admitted pending started
lines_answered table story requests link waiting admitted p pending started closed names l c apart h =
    let rows = wanted link.row in
    let queue = queue_ids link.queue in
    let kept = kept_ids admitted waiting in
    let later = queue ++ kept in
    record {
      line = subst (Rising 0 (requests_in started ++ later)) (sym (length_with requests p progress.Closed 0)) h.line;
      queued = queue_closed table story requests p closed link.queue names l
          (λ n i. let k = rising_in 0 (requests_in started ++ later) (length requests) n h.line (in_right n (requests_in started) later (in_left n queue kept i)) in k.1)
          (λ i. apart (in_right p rows queue i)) c h.queued;
      entries = entries_answered requests p link.row (λ i. apart (in_left p rows queue i)) h.entries;
      packs = packs_closed story requests p closed waiting c h.packs;
      packed_in = packs_closed story requests p closed admitted c h.packed_in;
      there = λ q e.
          let k = with_then is_open_progress requests p q progress.Closed 0 refl l e in
          elim (h.there q k.1) [
            | inl i ↦ elim i [ inl same ↦ absurd (k.0 same) | inr j ↦ inl j ]
            | inr w ↦ inr (kept_other requests p q progress.Closed 0 waiting admitted k.0 w)
          ];
    }

-- the session with this request closed, and these to be answered
abbrev pub closed_in : TurnState → ℕ → List ℕ → TurnState
closed_in t p pending = record t { requests = with_permits t.requests p progress.Closed 0; free = given_back t.limit t.free (permits_at t.requests p); pending = pending }

-- one that is to be answered is, and is neither in the row nor in the queue; who is told and has not started is there; and the answer
-- is no cause for the next generation, until the link ends, and confirms nothing while what is subscribed again isn't answered
pub answer_apart : (b : Book) (t : TurnState) (p : ℕ) (pending : List ℕ) (o : Outcome) → (has_ended t.life ≡ false → t.shut ≡ false → NoReconnectCause (faults_in o)) → (has_ended t.life ≡ false → is_outstanding t.again ≡ true → confirmed (b.story (name_at t.requests p)).submission o ≡ []) → is_open_at t.requests p ≡ true → (IsIn p (wanted (link_in t.life).row ++ queue_ids (link_in t.life).queue) → ⊥)
    → (has_ended t.life ≡ false → AreQueued (entered b (action.Outcome (name_at t.requests p) o)).story (with_permits t.requests p progress.Closed 0) t.link (link_in t.life)) → Tied b (record t { pending = p ∷ pending })
    → Tied (entered b (action.Outcome (name_at t.requests p) o)) (closed_in t p pending)
answer_apart b t p pending o calm tracked open_is apart told h =
    let l = open_within t.requests p open_is in
    let closed : ℕ → Story = λ n. answered (b.story n) o in
    let c : (n : ℕ) → Closes (b.story n) (closed n) = λ n. answer_closes (b.story n) o in
    let link = link_in t.life in
    let rows = wanted link.row in
    let queue = queue_ids link.queue in
    let kept = kept_ids t.admitted t.waiting in
    let now = record t { pending = p ∷ pending } in
    let n = name_at t.requests p in
    let r = request_story b now p h l in
    let known : n < b.submissions = (let within = name_within t.table t.requests p h.names l in let e = h.numbers.submissions in omega arith) in
    let own : (entered b (action.Outcome n o)).story n ≡ closed n = taken_if (n == n) (closed n) (b.story n) (eq_test n n refl) in
    record {
      numbers = numbers_kept b b.link (entered b (action.Outcome n o)).story (entered b (action.Outcome n o)).tracked (entered b (action.Outcome n o)).errors (entered b (action.Outcome n o)).placed b.since now t.life (given_back t.limit t.free (permits_at t.requests p)) (with_permits t.requests p progress.Closed 0) t.waiting t.admitted t.fresh t.moved t.being_admitted pending t.started h.numbers;
      others = h.others;
      notices = h.notices;
      life = h.life;
      course = h.course;
      calm = calm_more b.errors o t.shut t.life calm h.calm;
      creds = h.creds;
      creation = h.creation;
      uses = h.uses;
      renewal = h.renewal;
      repeat = tracks_none (b.link t.link) b.tracked (confirmed (b.story n).submission o) t.renewal.within t.again t.life tracked h.repeat;
      setup = h.setup;
      link = λ up. carried_tied t.life t.requests (with_permits t.requests p progress.Closed 0) (b.link t.link) (sym (owners_with t.requests p progress.Closed 0)) (h.link up);
      names = names_with t.table t.requests p progress.Closed 0 h.names;
      story = λ m. story_closed b.story t.table t.requests t.link p closed m h.names l refl (c m) (h.story m);
      tries = tries_closed (b.link t.link) b.story t.requests t.link p closed t.started c h.tries;
      lines = lines_answered t.table b.story t.requests (link_in t.life) t.waiting t.admitted p pending t.started closed h.names l c apart h.lines;
      told = told;
      waits = waits_closed t.table b.story t.requests p closed t.again t.life t.life t.fresh t.moved h.names l (λ e. e) (λ e. e) (λ x e. (x, e)) (λ x u e. (x, e)) (λ x e. (x, e))
          (λ q i.
          let j = awaited_in q link.queue i in
          let k = rising_in 0 (requests_in t.started ++ (queue ++ kept)) (length t.requests) q h.lines.line (in_right q (requests_in t.started) (queue ++ kept) (in_left q queue kept j)) in
          ((λ same. apart (in_right p rows queue (subst (λ m. IsIn m queue) (sym same) j))), k.1, i)) h.waits;
      permits = permits_closed b.story (entered b (action.Outcome n o)).story t.table b.submissions t.requests t.link t.limit t.free t.being_admitted p h.names l known (r.on open_is) r.permits_is (λ m other. closed_other b.story t.requests p closed m other)
          (ap (λ (s : Story). s.permits) own) (ap (λ (s : Story). s.link) own ∙ r.on open_is) h.permits;
      rounds = rounds_closed b.story t.requests t.fresh p closed l c h.rounds;
      early = early_closed t.requests t.again t.life p l h.early;
      late = late_closed t.table b.story t.requests p closed (p ∷ pending) pending h.names l (λ q other i. elim i [ inl same ↦ absurd (other same) | inr j ↦ j ]) h.late;
    }

-- what is owed to a submission without a message is an error
--
-- whatever it is
owed_fault : (b : Book) (n : ℕ) (o : Outcome) → (b.story n).tries ≡ [] → owed b n ≡ Some o → is_no_error (o ∷ []) ≡ false
owed_fault b n o none e =
    let IsFault : Option Outcome → Type 0 = λ (x : Option Outcome). x ≡ Some o → is_no_error (o ∷ []) ≡ false in
    let by_try = owed_to_try b (b.story n) (last_of (b.story n).tries) in
    let in_time = if (b.story n).overdue then Some (outcome.Fault (error.Io kinds.TimedOut)) else by_try in
    let with_bytes = if length (bytes_of (b.story n)) == 0 then Some (outcome.Fault error.EmptyCommand) else in_time in
    let spoken = if (b.story n).unspoken then Some (outcome.Fault error.Resp3Required) else with_bytes in
    chosen IsFault (b.story n).late (Some (outcome.Fault error.Closed)) spoken
    (λ t. fault_is error.Closed o)
    (λ f. chosen IsFault (b.story n).unspoken (Some (outcome.Fault error.Resp3Required)) with_bytes
    (λ t. fault_is error.Resp3Required o)
    (λ d. chosen IsFault (length (bytes_of (b.story n)) == 0) (Some (outcome.Fault error.EmptyCommand)) in_time
    (λ t. fault_is error.EmptyCommand o)
    (λ g. chosen IsFault (b.story n).overdue (Some (outcome.Fault (error.Io kinds.TimedOut))) by_try
    (λ t. fault_is (error.Io kinds.TimedOut) o)
    (λ h is. waiting_is b.shut (b.link (b.story n).link) o (ap (λ ts. owed_to_try b (b.story n) (last_of ts)) (sym none) ∙ is)))))
    e

-- so an open submission that is answered with what it is owed was not told at its place, or has started
pub owed_untold : (b : Book) (n : ℕ) (o : Outcome) → is_open (b.story n) ≡ true → owed b n ≡ Some o → IsUntried (answered (b.story n) o) → ⊥
owed_untold b n o asked owes u =
    let outcomes_are : (b.story n).outcomes ++ o ∷ [] ≡ o ∷ [] = ap (λ os. os ++ o ∷ []) (open_unanswered (b.story n) asked) in
    not_both (is_no_error ((b.story n).outcomes ++ o ∷ [])) (ap is_no_error outcomes_are ∙ owed_fault b n o u.1 owes) (told_answered (answered (b.story n) o) u.0)

-- a front of three lists
front_in : (p : ℕ) (xs ys zs : List ℕ) → IsIn p (xs ++ ys) → IsIn p (xs ++ (ys ++ zs))
front_in p xs ys zs i = elim (in_either p xs ys i) [ inl j ↦ in_left p xs (ys ++ zs) j | inr j ↦ in_right p xs (ys ++ zs) (in_left p ys zs j) ]

-- where the line rises, and what is subscribed again is answered, or the link has ended
pub answer_tied : (b : Book) (t : TurnState) (p : ℕ) (pending : List ℕ) (o : Outcome) → is_open_at t.requests p ≡ true → owed b (name_at t.requests p) ≡ Some o → IsInLine t.requests (link_in t.life) t.admitted t.waiting (p ∷ pending) → (has_ended t.life ≡ false → is_outstanding t.again ≡ true → ⊥)
    → Tied b (record t { pending = p ∷ pending }) → Tied (entered b (action.Outcome (name_at t.requests p) o)) (closed_in t p pending)
answer_tied b t p pending o e owes r quiet h =
    let l = open_within t.requests p e in
    let link = link_in t.life in
    let asked = (request_story b (record t { pending = p ∷ pending }) p h l).open_is ∙ e in
    let asked_in : IsIn p (wanted link.row ++ queue_ids link.queue) → IsIn p (requests_in (wanted link.row) ++ queue_ids link.queue) = λ i. elim (in_either p (wanted link.row) (queue_ids link.queue) i) [
      | inl j ↦ in_left p (requests_in (wanted link.row)) (queue_ids link.queue) (request_in p (wanted link.row) (request_not b (record t { pending = p ∷ pending }) p h l) j)
      | inr j ↦ in_right p (requests_in (wanted link.row)) (queue_ids link.queue) j
    ] in
    answer_apart b t p pending o (λ up open_still. owed_calm b (record t { pending = p ∷ pending }) p o h e up open_still owes) (λ up goes. absurd (quiet up goes)) e (λ i. first_is_apart 0 p (pending ++ line_of link t.admitted t.waiting) (length t.requests) r (in_right p pending (line_of link t.admitted t.waiting) (front_in p (requests_in (wanted link.row)) (queue_ids link.queue) (kept_ids t.admitted t.waiting) (asked_in i))))
    (λ up. told_closed b.story t.requests t.link p (λ n. answered (b.story n) o) link link (λ u. absurd (owed_untold b (name_at t.requests p) o asked owes u)) (λ n. refl) (λ q is i. i) (λ q i. i) (h.told up)) h

-- one that isn't open is answered with nothing shown
pub skip_tied : (b : Book) (t : TurnState) (p : ℕ) (pending : List ℕ) → is_open_at t.requests p ≡ false → Tied b (record t { pending = p ∷ pending }) → Tied b (record t { pending = pending })
skip_tied b t p pending closed h =
    relined b (record t { pending = p ∷ pending }) t.waiting t.admitted t.fresh t.moved pending h (record {
      line = h.lines.line;
      queued = h.lines.queued;
      entries = h.lines.entries;
      packs = h.lines.packs;
      packed_in = h.lines.packed_in;
      there = λ q e. elim (h.lines.there q e) [
        | inl i ↦ elim i [ inl same ↦ absurd (not_both (is_open_at t.requests q) (ap (is_open_at t.requests) (sym same) ∙ closed) e) | inr j ↦ inl j ]
        | inr w ↦ inr w
      ];
    }) h.waits h.rounds (λ q o late. elim (h.late q o late) [ inl same ↦ absurd (not_both (is_open_at t.requests q) (ap (is_open_at t.requests) (sym same) ∙ closed) o) | inr i ↦ i ])
