-- The first message of the queue starts.
use Rattle.std.proofs.Common.{List, None, Some, [], ap, append_assoc, arith, false, inl, inr, length, refl, slice_get, subst, sym, true, ℕ, ◌+◌, ◌++◌, ◌<◌, ◌∙◌, ◌∷◌, ◌≡◌, ◌≢◌, ◌⊎◌}
use Rattle.std.specs.Prelude.{if◌then◌else◌, ◌==◌}
use Rattle.containers.proofs.Places.{get_within}
use Rattle.containers.proofs.Choices.{by_test, chosen, eq_test, left_if, ne_from, ne_test, not_both, taken_if}
use Rattle.resp_read.specs.Frames.{within}
use Rattle.driver_model.specs.Shape.{need_of}
use Rattle.driver_model.specs.declared.action.Action.{Action}
use Rattle.driver_model.specs.declared.action.Action.TheVariants as action
use Rattle.driver_model.specs.declared.action.Owner.TheVariants as owner
use Rattle.link_core.specs.Link.{LinkState, entry_of}
use Rattle.link_core.specs.declared.message.Queued.{Queued}
use Rattle.link_laws.proofs.TiedLink.{all_push, begun_tied, queue_tied}
use Rattle.link_laws.specs.Settles.{awaited_ids, wanted}
use Rattle.link_laws.specs.Starts.{begun, start_from}
use Rattle.mux_conn.specs.Requests.{is_admitted_at, is_open_at, is_placed_at, is_waiting_at, name_at}
use Rattle.mux_conn.specs.declared.life.Life.TheVariants.{Ready}
use Rattle.mux_conn.specs.declared.request.Request.{Request}
use Rattle.mux_conn.specs.declared.request.Waiting.{Waiting}
use Rattle.legal_trace.specs.Book.{Book, entered, if_own, message_of}
use Rattle.legal_trace.specs.Ledger.{Ledger, Start, begins, is_of_setup, noted, setup_count, is_of_renewal, is_of_again}
use Rattle.legal_trace.specs.Story.{Story, is_told, shape, shape_in, tried}
use Rattle.conn_laws.proofs.Requests.Rounded.{SameRounds, rounds_same}
use Rattle.conn_laws.proofs.Ties.Ahead.{admitted_open, early_open}
use Rattle.session_laws.proofs.Ties.Ahead.{queue_within}
use Rattle.conn_laws.proofs.Ties.Behind.{nil_told, open_untold}
use Rattle.session_laws.proofs.Ties.Behind.{some_more}
use Rattle.conn_laws.proofs.Ties.InLine.{awaited_in, kept_ids}
use Rattle.conn_laws.proofs.Ties.Kept.{SameOutcomes, SameSubmissions, SameTimes, packed_same, queued_same}
use Rattle.session_laws.proofs.Ties.Kept.{mine_noted, one_changed, others_kept, tied_by}
use Rattle.conn_laws.proofs.Ties.Names.{get_more, get_some, name_of_some, open_within, same_name, owner_below}
use Rattle.session_laws.proofs.Ties.Names.{request_not, asked_unwatched}
use Rattle.conn_laws.proofs.Ties.Numbers.{IsIn, Rising, in_left, in_right, requests_in, requests_in-append, requests_first, is_own}
use Rattle.session_laws.proofs.Ties.Owes.{get_in, request_story}
use Rattle.conn_laws.proofs.Ties.Permits.{IsHolding, holding_same, permits_same}
use Rattle.legal_trace.proofs.Setups.{count_more}
use Rattle.conn_laws.proofs.Links.SetUp.{set_up_begins, setups_begins}
use Rattle.conn_laws.proofs.Internal.Renewals.{begins_renewed}
use Rattle.conn_laws.proofs.Links.Server.{setup_owners}
use Rattle.conn_laws.proofs.Ties.Tied.{AreQueued, IsEntry, IsQueued, TiedLines, TiedTries, TiedWaits, owner_of, owners_each, queue_ids, shown_wait}
use Rattle.session_laws.proofs.Ties.Tied.{TurnState, Tied, numbers_kept}
use Rattle.driver_model.specs.Hearing.{is_watching}
use Rattle.conn_laws.proofs.Internal.Repeats.{begins_repeated}
use Rattle.conn_laws.proofs.Requests.Start.{LosesWaits, first_apart, first_new, first_within, owners-append, owners_each-append, owners_length, requests_wanted, setup_owners-append, tried_request, waits_up, with_queue}

-- the action that its start shows
abbrev pub start_action : TurnState → LinkState → Queued → Action
start_action t link q = action.Start t.link link.started (owner.Try (name_at t.requests q.id) 0) (need_of q.shape) (length q.packed)

-- the session with this link, where nothing is to be answered
abbrev pub on_link : TurnState → LinkState → TurnState
on_link t link = record t { life = Ready link; pending = []; untold = []; parting = false }

-- the session once the first message of the queue has started
abbrev pub after_start : TurnState → LinkState → Queued → List Queued → TurnState
after_start t link q qs = record t { life = Ready (with_queue (begun link q) qs); pending = []; untold = []; parting = false; started = t.started ++ q.id ∷ [] }

-- the story of one submission with one try more
abbrev tried_at : ℕ → ℕ → ℕ → (ℕ → Story) → ℕ → Story
tried_at m link k story n = if_own (m == n) (tried (story n) link k) (story n)

-- one try more leaves each submission
tried_submissions : (m link k : ℕ) (story : ℕ → Story) → SameSubmissions story (tried_at m link k story)
tried_submissions m link k story n = chosen (λ (x : Story). (story n).submission ≡ x.submission) (m == n) (tried (story n) link k) (story n) (λ t. refl) (λ f. refl)

-- and each time
tried_times : (m link k : ℕ) (story : ℕ → Story) → SameTimes story (tried_at m link k story)
tried_times m link k story n = chosen (λ (x : Story). (story n).timeout ≡ x.timeout) (m == n) (tried (story n) link k) (story n) (λ t. refl) (λ f. refl)

-- and what each holds
tried_holds : (m link k : ℕ) (story : ℕ → Story) (n : ℕ) → IsHolding (story n) (tried_at m link k story n)
tried_holds m link k story n =
    chosen (λ (x : Story). IsHolding (story n) x) (m == n) (tried (story n) link k) (story n) (λ t. record { link = refl; permits = refl; timeout = refl; clock = refl }) (λ f. holding_same (story n))

-- and whether its time is over
tried_late : (m link k : ℕ) (story : ℕ → Story) (n : ℕ) → (tried_at m link k story n).overdue ≡ (story n).overdue
tried_late m link k story n = chosen (λ (x : Story). x.overdue ≡ (story n).overdue) (m == n) (tried (story n) link k) (story n) (λ t. refl) (λ f. refl)

-- and its round
tried_rounds : (m link k : ℕ) (story : ℕ → Story) → SameRounds story (tried_at m link k story)
tried_rounds m link k story n = chosen (λ (x : Story). x.rounded ≡ (story n).rounded) (m == n) (tried (story n) link k) (story n) (λ t. refl) (λ f. refl)

-- and each outcome
tried_outcomes : (m link k : ℕ) (story : ℕ → Story) → SameOutcomes story (tried_at m link k story)
tried_outcomes m link k story n = chosen (λ (x : Story). (story n).outcomes ≡ x.outcomes) (m == n) (tried (story n) link k) (story n) (λ t. refl) (λ f. refl)

-- what is noted of the link is the message of the queue
same_start : (b : Book) (link : ℕ) (requests : List Request) (q : Queued) → is_own q.id ≡ false → IsQueued b.story requests q → message_of b link (owner.Try (name_at requests q.id) 0) ≡ start_from (owner_of requests) q
same_start b link requests q other h = λ i. record { owner = sym (owner_below requests q.id other) i; shape = sym h.is_of.shape_is i; bytes = sym h.is_of.packs i }

-- the tries
--
-- one more of the started
tries_started : (l : Ledger) (story : ℕ → Story) (requests : List Request) (link k : ℕ) (started : List ℕ) (s : Start) (p : ℕ)
    → is_own p ≡ false → ((m : ℕ) → m < length requests → IsIn m started → name_at requests m ≡ name_at requests p → ⊥) → ((m : ℕ) (r : Request) → slice_get requests m ≡ Some r → r.name ≡ name_at requests p → m ≡ p)
    → s.owner ≡ owner_of requests p → s.shape ≡ shape (story (name_at requests p)) → k ≡ length l.starts → (story (name_at requests p)).tries ≡ []
    → is_watching l.hearing ≡ false → TiedTries l story requests link started → TiedTries (noted l (begins s)) (tried_at (name_at requests p) link k story) requests link (started ++ p ∷ [])
tries_started l story requests link k started s p other new one owned shaped counted none plain h =
    let n = name_at requests p in
    let c = setup_count l.starts in
    let same : setup_count (l.starts ++ s ∷ []) ≡ c = count_more l.starts s (ap is_of_setup (owned ∙ owner_below requests p other)) in
    let long : length l.starts ≡ c + length started = owners_length l.starts requests started c (h.owners plain) in
    record {
      greeted = λ w. absurd (not_both (is_watching l.hearing) plain w);
      owners = λ same_plain. owners-append l.starts (s ∷ []) ∙ (λ i. h.owners plain i ++ owned i ∷ []) ∙ setup_owners-append c (owners_each requests started) (owner_of requests p ∷ [])
          ∙ (λ i. setup_owners (sym same i) (sym (owners_each-append requests started (p ∷ [])) i));
      shapes = λ j m x inside i e.
          let at : slice_get (l.starts ++ s ∷ []) (c + j) ≡ Some x = ap (λ y. slice_get (l.starts ++ s ∷ []) (y + j)) (sym same) ∙ e in
          elim (get_more started p j m i) [
            | inl a ↦ elim (get_more l.starts s (c + j) x at) [
              | inl d ↦ h.shapes j m x inside a d ∙ ap shape_in (tried_submissions n link k story (name_at requests m))
              | inr d ↦ absurd (let w = get_within started j m a in omega (arith, d.0))
            ]
            | inr a ↦ elim (get_more l.starts s (c + j) x at) [
              | inl d ↦ absurd (let w = get_within l.starts (c + j) x d in omega (arith, a.0))
              | inr d ↦ ap (λ (y : Start). y.shape) (sym d.1) ∙ shaped ∙ ap (λ y. shape (story (name_at requests y))) a.1 ∙ ap shape_in (tried_submissions n link k story (name_at requests m))
            ]
          ];
      tried = λ j m inside i. elim (get_more started p j m i) [
        | inl a ↦
            ap (λ (x : Story). x.tries) (left_if (n == name_at requests m) (tried (story (name_at requests m)) link k) (story (name_at requests m)) (ne_test n (name_at requests m) (λ e. new m inside (get_in started j m a) (sym e)))) ∙ h.tried j m inside a
            ∙ ap (λ y. record { link = link; message = y + j } ∷ []) (sym same)
        | inr a ↦
            let here : k ≡ setup_count (l.starts ++ s ∷ []) + j = (let at = a.0 in omega arith) in
            subst (λ y. (tried_at n link k story (name_at requests y)).tries ≡ record { link = link; message = setup_count (l.starts ++ s ∷ []) + j } ∷ []) a.1
            (ap (λ (x : Story). x.tries) (taken_if (n == n) (tried (story n) link k) (story n) (eq_test n n refl)) ∙ (λ i. none i ++ record { link = link; message = k } ∷ []) ∙ ap (λ y. record { link = link; message = y } ∷ []) here)
      ];
      untried = λ m r i out on.
          let still = left_if (n == r.name) (tried (story r.name) link k) (story r.name) (ne_test n r.name (λ e. out (in_right m started (p ∷ []) (inl (sym (one m r i (sym e))))))) in
          ap (λ (x : Story). x.tries) still ∙ h.untried m r i (λ j. out (in_left m started (p ∷ []) j)) (sym (ap (λ (x : Story). x.link) still) ∙ on);
    }

-- the line, and what is shown of waits
--
-- the line when the first of the queue has started
lines_started : (story : ℕ → Story) (requests : List Request) (link : LinkState) (waiting admitted : List Waiting) (started : List ℕ) (q : Queued) (qs : List Queued) (k l : ℕ) → is_own q.id ≡ false
    → TiedLines story requests (with_queue link (q ∷ qs)) waiting admitted [] started
    → TiedLines (tried_at (name_at requests q.id) k l story) requests (with_queue (begun link q) qs) waiting admitted [] (started ++ q.id ∷ [])
lines_started story requests link waiting admitted started q qs k l other h = record {
  line = subst (λ ns. Rising 0 (ns ++ (queue_ids qs ++ kept_ids admitted waiting)) (length requests)) (sym (requests_in-append started (q.id ∷ []) ∙ ap (λ ns. requests_in started ++ ns) (requests_first q.id [] other)))
      (subst (λ ns. Rising 0 ns (length requests)) (sym (append_assoc (requests_in started) (q.id ∷ []) (queue_ids qs ++ kept_ids admitted waiting))) h.line);
  queued = queued_same story (tried_at (name_at requests q.id) k l story) requests qs (tried_submissions (name_at requests q.id) k l story) (tried_outcomes (name_at requests q.id) k l story) h.queued.1;
  entries = all_push (IsEntry requests) link.row (entry_of q) h.entries (inl (record {
    below = first_within story requests link waiting admitted started q qs h;
    placed_at = h.queued.0.placed_at;
  }));
  packs = packed_same story (tried_at (name_at requests q.id) k l story) requests waiting (tried_submissions (name_at requests q.id) k l story) (tried_times (name_at requests q.id) k l story) h.packs;
  packed_in = packed_same story (tried_at (name_at requests q.id) k l story) requests admitted (tried_submissions (name_at requests q.id) k l story) (tried_times (name_at requests q.id) k l story) h.packed_in;
  there = λ p e. elim (h.there p e) [
    | inl i ↦ inl (subst (IsIn p) (sym (append_assoc (requests_in (wanted link.row)) (if q.awaited then q.id ∷ [] else []) (awaited_ids qs)) ∙ ap (λ ns. ns ++ awaited_ids qs) (sym (requests_wanted link.row q other))) i)
    | inr w ↦ inr w
  ];
}

-- a start loses the wait of its own submission
tried_loses : (m link k : ℕ) (story : ℕ → Story) → LosesWaits story (tried_at m link k story)
tried_loses m link k story n = chosen (λ (x : Story). (x.waiting ≡ None) ⊎ (x.waiting ≡ (story n).waiting)) (m == n) (tried (story n) link k) (story n) (λ t. inl refl) (λ f. inr refl)

-- and keeps that of any other
tried_others : (m link k : ℕ) (story : ℕ → Story) (n : ℕ) → m ≢ n → (tried_at m link k story n).waiting ≡ (story n).waiting
tried_others m link k story n other = ap (λ (x : Story). x.waiting) (left_if (m == n) (tried (story n) link k) (story n) (ne_test m n other))

-- who is open and has no place is none of the queue
queued_apart : (b : Book) (t : TurnState) (q : Queued) → Tied b t → q.id < length t.requests → IsQueued b.story t.requests q → (is_open_at t.requests q.id ≡ true) × (is_placed_at t.requests q.id ≡ false) → ⊥
queued_apart b t q h within is a =
    let s = b.story (name_at t.requests q.id) in
    by_test q.awaited _
    (λ y. not_both (is_placed_at t.requests q.id) a.1 (is.placed_at y))
    (λ f. not_both (is_told s) (open_untold s ((request_story b t q.id h within).open_is ∙ a.0)) (nil_told s (sym is.is_of.awaited_is ∙ f) (is.told f)))

-- what is shown of waits is true when the first of the queue has started
waits_started : (b : Book) (t : TurnState) (link : LinkState) (q : Queued) (qs : List Queued) (k l : ℕ) → Tied b (on_link t (with_queue link (q ∷ qs)))
    → TiedWaits (tried_at (name_at t.requests q.id) k l b.story) t.requests t.again (Ready (with_queue (begun link q) qs)) t.fresh t.moved
waits_started b t link q qs k l h =
    let was = on_link t (with_queue link (q ∷ qs)) in
    let n = name_at t.requests q.id in
    let within = first_within b.story t.requests link t.waiting t.admitted t.started q qs h.lines in
    let other : (p : ℕ) → p < length t.requests → (q.id ≡ p → ⊥) → shown_wait (tried_at n k l b.story) t.requests p ≡ shown_wait b.story t.requests p = λ p inside apart.
    tried_others n k l b.story (name_at t.requests p) (λ e. apart (same_name t.table t.requests q.id p h.names within inside e)) in
    waits_up b.story (tried_at n k l b.story) t.requests t.again (with_queue link (q ∷ qs)) (with_queue (begun link q) qs) t.fresh t.moved (tried_loses n k l b.story)
    (λ p w. other p (open_within t.requests p (early_open t.requests p w).0) (λ same. queued_apart b was q h within h.lines.queued.0 (early_open t.requests q.id (subst (λ m. is_waiting_at t.requests m ≡ true) (sym same) w))))
    (λ p a. other p (open_within t.requests p (admitted_open t.requests p a).0) (λ same. queued_apart b was q h within h.lines.queued.0 (admitted_open t.requests q.id (subst (λ m. is_admitted_at t.requests m ≡ true) (sym same) a))))
    (λ p i.
    let j = awaited_in p qs i in (
      in_right p (if q.awaited then q.id ∷ [] else []) (awaited_ids qs) i,
      other p (queue_within b was p h (inr j)) (λ same. first_apart b.story t.requests link t.waiting t.admitted t.started q qs h.lines (subst (λ m. IsIn m (queue_ids qs)) (sym same) j)),
    ))
    h.waits

-- who was told and has not started is in the queue still
told_started : (b : Book) (t : TurnState) (link : LinkState) (q : Queued) (qs : List Queued) (k l : ℕ) → AreQueued b.story t.requests t.link (with_queue link (q ∷ qs))
    → AreQueued (tried_at (name_at t.requests q.id) k l b.story) t.requests t.link (with_queue (begun link q) qs)
told_started b t link q qs k l h =
    let m = name_at t.requests q.id in
    record {
      told = λ n. chosen (λ (x : Story). is_told x ≡ true → x.tries ≡ [] → x.link ≡ t.link → (p : ℕ) × (p < length t.requests) × (name_at t.requests p ≡ n) × IsIn p (queue_ids qs)) (m == n) (tried (b.story n) k l) (b.story n)
          (λ e told none on. absurd (some_more (b.story n).tries _ none))
          (λ f told none on.
          let i = h.told n told none on in
          (i.0, i.1, i.2, elim i.3 [ inl same ↦ absurd (ne_from m n f (ap (name_at t.requests) same ∙ i.2)) | inr j ↦ j ]));
      here = λ p i. (tried_holds m k l b.story (name_at t.requests p)).link ∙ h.here p (inr i);
    }

-- the session and its book
--
-- what is shown of a message of the queue
queued_some : (b : Book) (t : TurnState) (q : Queued) → Tied b t → q.id < length t.requests → IsQueued b.story t.requests q → q.packed ≢ []
queued_some b t q h within is e = (request_story b t q.id h within).some (sym is.is_of.packs ∙ e)

-- the session is tied to the book with one start more
pub start_tied : (b : Book) (t : TurnState) (link : LinkState) (q : Queued) (qs : List Queued) → Tied b (on_link t (with_queue link (q ∷ qs))) → Tied (entered b (start_action t link q)) (after_start t link q qs)
start_tied b t link q qs h =
    let was = on_link t (with_queue link (q ∷ qs)) in
    let l = b.link t.link in
    let name = owner_of t.requests in
    let n = name_at t.requests q.id in
    let is = h.lines.queued.0 in
    let within = first_within b.story t.requests link t.waiting t.admitted t.started q qs h.lines in
    let other = request_not b was q.id h within in
    let try_is : name q.id ≡ owner.Try n 0 = owner_below t.requests q.id other in
    let new = first_new b.story t.requests link t.waiting t.admitted t.started q qs h.lines other in
    let s = start_from name q in
    let up = h.link refl in
    let g = get_some t.requests q.id within in
    tied_by (entered b (start_action t link q)) (after_start t link q qs) (noted l (begins s))
    (mine_noted l t.link (begins (message_of b t.link (owner.Try n 0))) ∙ ap (λ x. noted l (begins x)) (same_start b t.link t.requests q other is))
    (record {
      numbers = numbers_kept b _ _ _ _ _ _ was _ _ _ _ _ _ _ _ _ _ h.numbers;
      others = others_kept b t.link (begins (message_of b t.link (owner.Try n 0))) h.others;
      notices = h.notices;
      life = h.life;
      course = h.course;
      calm = h.calm;
      creds = record { wanted_is = h.creds.wanted_is; sought = h.creds.sought };
      creation = h.creation;
      uses = h.uses;
      renewal = begins_renewed l t.renewal s (ap is_of_renewal try_is) h.renewal;
      repeat = begins_repeated l s b.tracked t.renewal.within t.again (ap is_of_again try_is) h.repeat;
      setup = record { info_is = h.setup.info_is; sent = setups_begins l s (ap is_of_setup try_is) h.setup.sent; said = set_up_begins l s (ap is_of_setup try_is) h.setup.said };
      link = λ e. queue_tied name (noted l (begins s)) (begun (with_queue link (q ∷ qs)) q) qs (begun_tied name l (with_queue link (q ∷ qs)) q (queued_some b was q h within is) up);
      names = h.names;
      story = one_changed b was q.id (λ x. tried x t.link link.started) h within (tried_request (b.story n) t.requests t.link q.id t.link link.started);
      tries = tries_started l b.story t.requests t.link link.started t.started s q.id other
          (λ m inside i e. new (subst (λ x. IsIn x t.started) (same_name t.table t.requests m q.id h.names inside within e) i))
          (λ m r i e. same_name t.table t.requests m q.id h.names (get_within t.requests m r i) within (name_of_some t.requests m r i ∙ e))
          refl is.is_of.shape_is up.started
          (ap (λ x. (b.story x).tries) (name_of_some t.requests q.id g.0 g.1) ∙ h.tries.untried q.id g.0 g.1 new (sym (ap (λ x. (b.story x).link) (name_of_some t.requests q.id g.0 g.1)) ∙ (h.told refl).here q.id (inl refl))) (asked_unwatched b was q.id h within) h.tries;
      lines = lines_started b.story t.requests link t.waiting t.admitted t.started q qs t.link link.started other h.lines;
      told = λ e. told_started b t link q qs t.link link.started (h.told refl);
      waits = waits_started b t link q qs t.link link.started h;
      permits = permits_same b.story (tried_at n t.link link.started b.story) b.submissions t.requests t.link t.limit t.free t.being_admitted (tried_holds n t.link link.started b.story) h.permits;
      rounds = rounds_same b.story (tried_at n t.link link.started b.story) t.requests t.fresh (tried_rounds n t.link link.started b.story) h.rounds;
      early = λ unserved alive. absurd (let no : q ∷ qs ≡ [] = (h.early unserved alive).empty in cc);
      late = λ p o e. h.late p o (sym (tried_late n t.link link.started b.story (name_at t.requests p)) ∙ e);
    })
