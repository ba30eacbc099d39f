-- A request takes its place in the queue, or waits for one behind the others.
use Rattle.std.proofs.Common.{List, None, Option, Some, [], ap, append_assoc, arith, false, inl, inr, length, refl, subst, sym, true, ℕ, ◌++◌, ◌<◌, ◌∙◌, ◌∷◌, ◌≡◌, ◌≢◌, ◌⊎◌}
use Rattle.std.specs.List.{AllByRecursion}
use Rattle.std.specs.Prelude.{if◌then◌else◌, ◌==◌}
use Rattle.containers.proofs.Choices.{by_test, eq_from, ne_from, not_both}
use Rattle.driver_model.specs.declared.action.WaitKind.{WaitKind}
use Rattle.driver_model.specs.declared.action.WaitKind.TheVariants as wait
use Rattle.link_core.specs.Link.{LinkState, enqueued}
use Rattle.link_core.specs.declared.message.Entry.{Entry}
use Rattle.link_core.specs.declared.message.Queued.{Queued}
use Rattle.link_laws.proofs.TiedLink.{all_push}
use Rattle.link_laws.specs.Settles.{awaited_ids, wanted}
use Rattle.mux_conn.specs.Passes.{message_of}
use Rattle.mux_conn.specs.Requests.{at_progress, is_admitted, is_admitted_at, is_open as is_open_progress, is_open_at, is_placed, is_placed_at, is_waiting, is_waiting_at, name_at, permits_at, is_unbegun_at}
use Rattle.mux_conn.specs.declared.again.Again.{Again}
use Rattle.mux_conn.specs.declared.life.Life.{Life}
use Rattle.mux_conn.specs.declared.life.Life.TheVariants.{Ready}
use Rattle.mux_conn.specs.declared.request.Pending.{Pending}
use Rattle.mux_conn.specs.declared.request.Progress.{Progress}
use Rattle.mux_conn.specs.declared.request.Progress.TheVariants as progress
use Rattle.mux_conn.specs.declared.request.Request.{Request}
use Rattle.mux_conn.specs.declared.request.Waiting.{Waiting}
use Rattle.legal_trace.specs.Ledger.{Ledger, setup_count}
use Rattle.legal_trace.specs.Steps.{is_let_in}
use Rattle.legal_trace.specs.Story.{Story, shape}
use Rattle.conn_laws.proofs.Requests.Closing.{IsOneOf, kept_other, one_of}
use Rattle.conn_laws.proofs.Ties.InLine.{awaited_in, kept_ids}
use Rattle.conn_laws.proofs.Ties.Names.{length_still, name_still, name_was, open_within, owners_still, permits_still, there_other, there_same, there_then}
use Rattle.conn_laws.proofs.Ties.Numbers.{IsIn, Rising, in_either, in_left, in_right, rising_apart, rising_right, rising_tail, rising_without, requests_in}
use Rattle.conn_laws.proofs.Requests.Start.{not_dialing, not_setting, not_wanting, not_resting}
use Rattle.conn_laws.proofs.Links.Server.{setup_owners}
use Rattle.conn_laws.proofs.Ties.Tied.{AreLate, AreQueued, IsEntry, IsKept, IsOf, IsPacked, IsQueued, TiedLines, TiedStory, TiedTries, TiedWaits, owners_each, queue_ids, shown_wait}
use Rattle.conn_laws.proofs.Changes.Requests.{waiting_open}

-- those that wait no longer are passed over
--
-- the line without one that waits for a place
pub line_without : (started queue : List ℕ) (q : Waiting) (qs waiting : List Waiting) (hi : ℕ) → Rising 0 (started ++ (queue ++ kept_ids (q ∷ qs) waiting)) hi → Rising 0 (started ++ (queue ++ kept_ids qs waiting)) hi
line_without started queue q qs waiting hi h =
    let kept = kept_ids qs waiting in
    rising_tail 0 started (queue ++ (q.number ∷ kept)) (queue ++ kept) hi (λ low r. rising_without low queue q.number kept hi r) h

-- an open request comes further, and stays open
--
-- the same are open
pub open_further : (requests : List Request) (p m : ℕ) (now : Progress) → is_open_progress now ≡ true → is_open_at requests p ≡ true → is_open_at (at_progress requests p now) m ≡ is_open_at requests m
open_further requests p m now on e =
    by_test (p == m) _
    (λ t. subst (λ k. is_open_at (at_progress requests p now) k ≡ is_open_at requests k) (eq_from p m t) (there_same is_open_progress requests p now (open_within requests p e) ∙ on ∙ sym e))
    (λ f. there_other is_open_progress requests p m now (ne_from p m f))

-- a story says the same of the session
pub story_further : (s : Story) (requests : List Request) (link p : ℕ) (now : Progress) (at : Option (Option Pending)) → is_open_progress now ≡ true → is_open_at requests p ≡ true → TiedStory s requests link at → TiedStory s (at_progress requests p now) link at
story_further s requests link p now None on e h = h
story_further s requests link p now (Some None) on e h = h
story_further s requests link p now (Some (Some m)) on e h = record {
  what = h.what;
  handed_in = h.handed_in;
  in_time = h.in_time;
  spoken = h.spoken;
  on = λ o. h.on (sym (open_further requests p m.number now on e) ∙ o);
  some = h.some;
  open_is = h.open_is ∙ sym (open_further requests p m.number now on e);
  permits_is = h.permits_is ∙ sym (permits_still requests p m.number now (open_within requests p e));
}

-- who is late is to be answered still
pub late_further : (story : ℕ → Story) (requests : List Request) (p : ℕ) (now : Progress) (ps : List ℕ) → is_open_progress now ≡ true → is_open_at requests p ≡ true → AreLate story requests ps → AreLate story (at_progress requests p now) ps
late_further story requests p now ps on o h m e late = h m (sym (open_further requests p m now on o) ∙ e) (ap (λ n. (story n).overdue) (sym (name_still requests p now m)) ∙ late)

-- the owners are the same
owners_further : (requests : List Request) (p : ℕ) (now : Progress) (started : List ℕ) → owners_each (at_progress requests p now) started ≡ owners_each requests started
owners_further requests p now [] = refl
owners_further requests p now (m ∷ ms) = λ i. owners_still requests p now i m ∷ owners_further requests p now ms i

-- and so are the tries
pub tries_further : (l : Ledger) (story : ℕ → Story) (requests : List Request) (link p : ℕ) (now : Progress) (started : List ℕ) → TiedTries l story requests link started → TiedTries l story (at_progress requests p now) link started
tries_further l story requests link p now started h = record {
  owners = λ plain. h.owners plain ∙ ap (setup_owners (setup_count l.starts)) (sym (owners_further requests p now started));
  greeted = h.greeted;
  shapes = λ k m s l i j. h.shapes k m s (subst (λ x. m < x) (length_still requests p now) l) i j ∙ ap (λ n. shape (story n)) (sym (name_still requests p now m));
  tried = λ k m l i. ap (λ n. (story n).tries) (name_still requests p now m) ∙ h.tried k m (subst (λ x. m < x) (length_still requests p now) l) i;
  untried = λ m r i out on. let w = name_was requests p now m r i in ap (λ n. (story n).tries) (sym w.2) ∙ h.untried m w.0 w.1 out (ap (λ n. (story n).link) w.2 ∙ on);
}

-- those that have their place have it still, where this one gets it, or has none
placed_further : (requests : List Request) (p m : ℕ) (now : Progress) → p < length requests → (is_placed now ≡ true) ⊎ (is_placed_at requests p ≡ false) → is_placed_at requests m ≡ true → is_placed_at (at_progress requests p now) m ≡ true
placed_further requests p m now l seat e =
    by_test (p == m) _
    (λ t. elim seat [
      | inl on ↦ subst (λ k. is_placed_at (at_progress requests p now) k ≡ true) (eq_from p m t) (there_same is_placed requests p now l ∙ on)
      | inr off ↦ absurd (not_both (is_placed_at requests m) (ap (is_placed_at requests) (sym (eq_from p m t)) ∙ off) e)
    ])
    (λ f. there_other is_placed requests p m now (ne_from p m f) ∙ e)

-- the entries of the row
pub entries_further : (requests : List Request) (p : ℕ) (now : Progress) (row : List Entry) → p < length requests → (is_placed now ≡ true) ⊎ (is_placed_at requests p ≡ false) → AllByRecursion (IsEntry requests) row → AllByRecursion (IsEntry (at_progress requests p now)) row
entries_further requests p now [] l seat all = tt
entries_further requests p now (e ∷ es) l seat all = (
  elim all.0 [
    | inl r ↦ inl (record { below = subst (λ n. e.id < n) (sym (length_still requests p now)) r.below; placed_at = λ t. placed_further requests p e.id now l seat (r.placed_at t) })
    | inr a ↦ inr a
  ],
  entries_further requests p now es l seat all.1,
)

-- the messages of the queue, which are others
pub queued_further : (story : ℕ → Story) (requests : List Request) (p : ℕ) (now : Progress) (qs : List Queued) → (IsIn p (queue_ids qs) → ⊥) → AllByRecursion (IsQueued story requests) qs → AllByRecursion (IsQueued story (at_progress requests p now)) qs
queued_further story requests p now [] apart all = tt
queued_further story requests p now (q ∷ qs) apart all = (
  record {
    is_of = subst (λ n. IsOf (story n) q.packed q.shape q.awaited) (sym (name_still requests p now q.id)) all.0.is_of;
    placed_at = λ t. there_other is_placed requests p q.id now (λ same. apart (inl (sym same))) ∙ all.0.placed_at t;
    told = λ f. ap (λ n. (story n).outcomes) (name_still requests p now q.id) ∙ all.0.told f;
  },
  queued_further story requests p now qs (λ i. apart (inr i)) all.1,
)

-- those that wait
pub packs_further : (story : ℕ → Story) (requests : List Request) (p : ℕ) (now : Progress) (ws : List Waiting) → AllByRecursion (IsPacked story requests) ws → AllByRecursion (IsPacked story (at_progress requests p now)) ws
packs_further story requests p now [] all = tt
packs_further story requests p now (w ∷ ws) all = (
  record {
    is_of = subst (λ n. IsOf (story n) w.packed w.shape w.awaited) (sym (name_still requests p now w.number)) all.0.is_of;
    time_is = all.0.time_is ∙ ap (λ n. (story n).timeout) (sym (name_still requests p now w.number));
  },
  packs_further story requests p now ws all.1,
)

-- who was told and has not started is in the queue still
pub told_further : (story : ℕ → Story) (requests : List Request) (number : ℕ) (link : LinkState) (p : ℕ) (now : Progress) → AreQueued story requests number link → AreQueued story (at_progress requests p now) number link
told_further story requests number link p now h = record {
  told = λ n is none on.
      let k = h.told n is none on in
      (k.0, subst (λ m. k.0 < m) (sym (length_still requests p now)) k.1, name_still requests p now k.0 ∙ k.2, k.3);
  here = λ q i. ap (λ n. (story n).link) (name_still requests p now q) ∙ h.here q i;
}

-- what is shown of its wait stays
pub shown_further : (story : ℕ → Story) (requests : List Request) (p : ℕ) (now : Progress) (m : ℕ) → shown_wait story (at_progress requests p now) m ≡ shown_wait story requests m
shown_further story requests p now m = ap (λ n. (story n).waiting) (name_still requests p now m)

-- the next that is moved
--
-- it is the first of those that wait, with these behind it, and was let in, alone, behind its round; no room was shown of it; and it is above
-- all that were moved in this turn
pub record IsNext (story : ℕ → Story) (requests : List Request) (limit : Option ℕ) (being_admitted moved : List ℕ) (was_waiting was_admitted : List Waiting) (q : Waiting) (waiting admitted : List Waiting) : Type 0 where
  pub open_at : is_open_at requests q.number ≡ true
  pub let_in : is_let_in limit (story (name_at requests q.number)) ≡ true
  pub begun : is_unbegun_at requests q.number ≡ false
  pub alone : (p : ℕ) → IsIn p being_admitted → q.number ≡ p
  pub first : kept_ids was_admitted was_waiting ≡ q.number ∷ kept_ids admitted waiting
  pub packed : IsPacked story requests q
  pub packs : AllByRecursion (IsPacked story requests) waiting
  pub packed_in : AllByRecursion (IsPacked story requests) admitted
  pub others : (p : ℕ) → IsKept requests was_waiting was_admitted p → (q.number ≡ p) ⊎ IsKept requests waiting admitted p
  pub shown : shown_wait story requests q.number ≢ Some wait.Room
  pub last : Rising 0 (moved ++ q.number ∷ []) (length requests)

-- a wait that is another
other_wait : (x : Option WaitKind) (one other : WaitKind) → x ≡ Some one → (one ≡ other → ⊥) → x ≢ Some other
other_wait x one other e apart r = apart (some_same one other (sym e ∙ r))
  where
    some_same : (k l : WaitKind) → ◌≡◌ {A = Option WaitKind} (Some k) (Some l) → k ≡ l
    some_same k l same = cc

-- one that waits for the connection, or for a permit, has shown nothing, or one of these waits
pub shown_early : (x : Option WaitKind) → IsOneOf x → (x ≢ Some wait.Place) × (x ≢ Some wait.Room)
shown_early x (inl e) = (λ r. (let no : ◌≡◌ {A = Option WaitKind} None (Some wait.Place) = sym e ∙ r in cc), λ r. (let no : ◌≡◌ {A = Option WaitKind} None (Some wait.Room) = sym e ∙ r in cc))
shown_early x (inr (inl e)) = (other_wait x wait.Backoff wait.Place e (λ r. cc), other_wait x wait.Backoff wait.Room e (λ r. cc))
shown_early x (inr (inr (inl e))) = (other_wait x wait.Connect wait.Place e (λ r. cc), other_wait x wait.Connect wait.Room e (λ r. cc))
shown_early x (inr (inr (inr (inl e)))) = (other_wait x wait.Creds wait.Place e (λ r. cc), other_wait x wait.Creds wait.Room e (λ r. cc))
shown_early x (inr (inr (inr (inr (inl e))))) = (other_wait x wait.Setup wait.Place e (λ r. cc), other_wait x wait.Setup wait.Room e (λ r. cc))
shown_early x (inr (inr (inr (inr (inr (inl e)))))) = (other_wait x wait.Resubscribe wait.Place e (λ r. cc), other_wait x wait.Resubscribe wait.Room e (λ r. cc))
shown_early x (inr (inr (inr (inr (inr (inr e)))))) = (other_wait x wait.Permit wait.Place e (λ r. cc), other_wait x wait.Permit wait.Room e (λ r. cc))

-- the lines
--
-- the ids of a queue with one more
pub queue_ids-push : (qs : List Queued) (m : Queued) → queue_ids (qs ++ m ∷ []) ≡ queue_ids qs ++ m.id ∷ []
queue_ids-push [] m = refl
queue_ids-push (q ∷ qs) m = ap (λ ns. q.id ∷ ns) (queue_ids-push qs m)

-- whose verdict is wanted there
awaited_ids-push : (qs : List Queued) (m : Queued) → awaited_ids (qs ++ m ∷ []) ≡ awaited_ids qs ++ awaited_ids (m ∷ [])
awaited_ids-push [] m = refl
awaited_ids-push (q ∷ qs) m = ap (λ ns. (if q.awaited then q.id ∷ [] else []) ++ ns) (awaited_ids-push qs m) ∙ sym (append_assoc (if q.awaited then q.id ∷ [] else []) (awaited_ids qs) (awaited_ids (m ∷ [])))

-- one of them is one of the others, or the last
awaited_last : (n : ℕ) (qs : List Queued) (m : Queued) → IsIn n (awaited_ids (qs ++ m ∷ [])) → IsIn n (awaited_ids qs) ⊎ (m.id ≡ n)
awaited_last n qs m i = elim (in_either n (awaited_ids qs) (awaited_ids (m ∷ [])) (subst (IsIn n) (awaited_ids-push qs m) i)) [
  | inl j ↦ inl j
  | inr j ↦ inr (elim (awaited_in n (m ∷ []) j) [ inl same ↦ same | inr k ↦ absurd k ])
]

-- it is none of the queue
pub next_apart : (story : ℕ → Story) (requests : List Request) (link : LinkState) (limit : Option ℕ) (being_admitted moved : List ℕ) (was_waiting was_admitted : List Waiting) (started : List ℕ) (q : Waiting) (waiting admitted : List Waiting)
    → IsNext story requests limit being_admitted moved was_waiting was_admitted q waiting admitted → TiedLines story requests link was_waiting was_admitted [] started → IsIn q.number (queue_ids link.queue) → ⊥
next_apart story requests link limit being_admitted moved was_waiting was_admitted started q waiting admitted next h i =
    let queue = queue_ids link.queue in
    let kept = kept_ids was_admitted was_waiting in
    let line = rising_right 0 (requests_in started) (queue ++ kept) (length requests) h.line in
    let k = rising_apart 0 queue kept (length requests) q.number q.number line i (subst (IsIn q.number) (sym next.first) (inl refl)) in
    omega arith

-- it waits no longer, and is to be answered or placed
pub lines_next : (story : ℕ → Story) (requests : List Request) (link : LinkState) (limit : Option ℕ) (being_admitted moved : List ℕ) (was_waiting was_admitted : List Waiting) (started : List ℕ) (q : Waiting) (waiting admitted : List Waiting)
    → IsNext story requests limit being_admitted moved was_waiting was_admitted q waiting admitted → TiedLines story requests link was_waiting was_admitted [] started → TiedLines story requests link waiting admitted (q.number ∷ []) started
lines_next story requests link limit being_admitted moved was_waiting was_admitted started q waiting admitted next h =
    let queue = queue_ids link.queue in
    let kept = kept_ids admitted waiting in
    record {
      line = rising_tail 0 (requests_in started) (queue ++ kept_ids was_admitted was_waiting) (queue ++ kept) (length requests)
          (λ low r. rising_without low queue q.number kept (length requests) (subst (λ ns. Rising low (queue ++ ns) (length requests)) next.first r))
          h.line;
      queued = h.queued;
      entries = h.entries;
      packs = next.packs;
      packed_in = next.packed_in;
      there = λ m e. elim (h.there m e) [
        | inl i ↦ inl (inr i)
        | inr k ↦ elim (next.others m k) [ inl same ↦ inl (inl same) | inr j ↦ inr j ]
      ];
    }

-- the line where its message is the last of the queue
pub line_next : (requests : List Request) (link : LinkState) (moved : List ℕ) (was_waiting was_admitted : List Waiting) (started : List ℕ) (q : Waiting) (waiting admitted : List Waiting) → kept_ids was_admitted was_waiting ≡ q.number ∷ kept_ids admitted waiting
    → Rising 0 (started ++ (queue_ids link.queue ++ kept_ids was_admitted was_waiting)) (length requests) → Rising 0 (started ++ (queue_ids (link.queue ++ message_of q ∷ []) ++ kept_ids admitted waiting)) (length requests)
line_next requests link moved was_waiting was_admitted started q waiting admitted first h =
    let queue = queue_ids link.queue in
    let kept = kept_ids admitted waiting in
    let same : queue ++ kept_ids was_admitted was_waiting ≡ queue_ids (link.queue ++ message_of q ∷ []) ++ kept =
    ap (λ ns. queue ++ ns) first ∙ sym (append_assoc queue (q.number ∷ []) kept) ∙ ap (λ ns. ns ++ kept) (sym (queue_ids-push link.queue (message_of q))) in
    subst (λ ns. Rising 0 (started ++ ns) (length requests)) same h

-- it comes further
pub lines_further : (story : ℕ → Story) (requests : List Request) (link : LinkState) (waiting admitted : List Waiting) (p : ℕ) (now : Progress) (started : List ℕ) → is_open_progress now ≡ true → is_placed now ≡ true → is_open_at requests p ≡ true → (IsIn p (queue_ids link.queue) → ⊥)
    → TiedLines story requests link waiting admitted (p ∷ []) started → TiedLines story (at_progress requests p now) link waiting admitted (p ∷ []) started
lines_further story requests link waiting admitted p now started on seat o apart h = record {
  line = subst (Rising 0 (requests_in started ++ (queue_ids link.queue ++ kept_ids admitted waiting))) (sym (length_still requests p now)) h.line;
  queued = queued_further story requests p now link.queue apart h.queued;
  entries = entries_further requests p now link.row (open_within requests p o) (inl seat) h.entries;
  packs = packs_further story requests p now waiting h.packs;
  packed_in = packs_further story requests p now admitted h.packed_in;
  there = λ m e. elim (h.there m (sym (open_further requests p m now on o) ∙ e)) [
    | inl i ↦ inl i
    | inr k ↦ by_test (p == m) _ (λ t. inl (inl (eq_from p m t))) (λ f. inr (kept_other requests p m now (permits_at requests p) waiting admitted (ne_from p m f) k))
  ];
}

-- its message has the last place of the queue
pub lines_enqueued : (story : ℕ → Story) (requests : List Request) (link : LinkState) (waiting admitted : List Waiting) (m : Queued) (pending started : List ℕ) → IsQueued story requests m
    → Rising 0 (requests_in started ++ (queue_ids (link.queue ++ m ∷ []) ++ kept_ids admitted waiting)) (length requests) → ((n : ℕ) → IsIn n pending → IsIn n (awaited_ids (m ∷ []))) → TiedLines story requests link waiting admitted pending started
    → TiedLines story requests (enqueued link m) waiting admitted [] started
lines_enqueued story requests link waiting admitted m pending started is line placed h =
    let rows = requests_in (wanted link.row) in
    let queue = awaited_ids link.queue in
    let more = awaited_ids (m ∷ []) in
    record {
      line = line;
      queued = all_push (IsQueued story requests) link.queue m h.queued is;
      entries = h.entries;
      packs = h.packs;
      packed_in = h.packed_in;
      there = λ n e. elim (h.there n e) [
        | inl i ↦ inl (subst (λ ns. IsIn n (rows ++ ns)) (sym (awaited_ids-push link.queue m)) (elim (in_either n pending (rows ++ queue) i) [
          | inl j ↦ in_right n rows (queue ++ more) (in_right n queue more (placed n j))
          | inr j ↦ elim (in_either n rows queue j) [ inl k ↦ in_left n rows (queue ++ more) k | inr k ↦ in_right n rows (queue ++ more) (in_left n queue more k) ]
        ]))
        | inr k ↦ inr k
      ];
    }

-- what is shown of waits
--
-- it has its place
pub waits_placed : (story : ℕ → Story) (requests : List Request) (p : ℕ) (a : Again) (life : Life) (fresh moved : List ℕ) → p < length requests → TiedWaits story requests a life fresh moved → TiedWaits story (at_progress requests p progress.Placed) a life fresh moved
waits_placed story requests p a life fresh moved l h =
    let same = shown_further story requests p progress.Placed in
    let long = sym (length_still requests p progress.Placed) in
    record {
      early = λ m w. let k = there_then is_waiting requests p m progress.Placed refl l w in one_of (shown_wait story (at_progress requests p progress.Placed) m) (shown_wait story requests m) (same m) (h.early m k.1);
      backoff = λ m w d. let k = there_then is_waiting requests p m progress.Placed refl l w in elim (h.backoff m k.1 d) [ inl e ↦ inl e | inr e ↦ inr (same m ∙ e) ];
      connect = λ m w d. let k = there_then is_waiting requests p m progress.Placed refl l w in elim (h.connect m k.1 d) [ inl e ↦ inl e | inr e ↦ inr (same m ∙ e) ];
      creds = λ m link w d. let k = there_then is_waiting requests p m progress.Placed refl l w in elim (h.creds m link k.1 d) [ inl e ↦ inl e | inr e ↦ inr (same m ∙ e) ];
      setup = λ m link u w d. let k = there_then is_waiting requests p m progress.Placed refl l w in elim (h.setup m link u k.1 d) [ inl e ↦ inl e | inr e ↦ inr (same m ∙ e) ];
      resubscribe = λ m link w d goes. let k = there_then is_waiting requests p m progress.Placed refl l w in elim (h.resubscribe m link k.1 d goes) [ inl e ↦ inl e | inr e ↦ inr (same m ∙ e) ];
      permit = λ m link w d none. let k = there_then is_waiting requests p m progress.Placed refl l w in elim (h.permit m link k.1 d none) [ inl e ↦ inl e | inr e ↦ inr (same m ∙ e) ];
      place = λ m a. let k = there_then is_admitted requests p m progress.Placed refl l a in elim (h.place m k.1) [ inl i ↦ inl i | inr e ↦ inr (same m ∙ e) ];
      room = λ m i. elim (h.room m i) [ inl j ↦ inl j | inr e ↦ inr (same m ∙ e) ];
      newer = subst (Rising 0 fresh) long h.newer;
      rising = subst (Rising 0 moved) long h.rising;
      no_backoff = λ m i w d. let k = there_then is_waiting requests p m progress.Placed refl l w in same m ∙ h.no_backoff m i k.1 d;
      no_connect = λ m i w d e. let k = there_then is_waiting requests p m progress.Placed refl l w in h.no_connect m i k.1 d (sym (same m) ∙ e);
      no_creds = λ m link i w d e. let k = there_then is_waiting requests p m progress.Placed refl l w in h.no_creds m link i k.1 d (sym (same m) ∙ e);
      no_setup = λ m link u i w d e. let k = there_then is_waiting requests p m progress.Placed refl l w in h.no_setup m link u i k.1 d (sym (same m) ∙ e);
      no_resubscribe = λ m link i w d goes e. let k = there_then is_waiting requests p m progress.Placed refl l w in h.no_resubscribe m link i k.1 d goes (sym (same m) ∙ e);
      unpermitted = λ m link w d goes e. let k = there_then is_waiting requests p m progress.Placed refl l w in h.unpermitted m link k.1 d goes (sym (same m) ∙ e);
      no_permit = λ m link i w d none e. let k = there_then is_waiting requests p m progress.Placed refl l w in h.no_permit m link i k.1 d none (sym (same m) ∙ e);
      seatless = λ m a e. let k = there_then is_admitted requests p m progress.Placed refl l a in h.seatless m k.1 (sym (same m) ∙ e);
      no_place = λ m i a e. let k = there_then is_admitted requests p m progress.Placed refl l a in h.no_place m i k.1 (sym (same m) ∙ e);
      no_room = λ m i j e. h.no_room m i j (sym (same m) ∙ e);
    }

-- its message is in the queue, and it was moved in this turn
pub waits_enqueued : (story : ℕ → Story) (requests : List Request) (a : Again) (link : LinkState) (m : Queued) (fresh moved : List ℕ) → Rising 0 (moved ++ m.id ∷ []) (length requests) → is_admitted_at requests m.id ≡ false → shown_wait story requests m.id ≢ Some wait.Room
    → TiedWaits story requests a (Ready link) fresh moved → TiedWaits story requests a (Ready (enqueued link m)) fresh (moved ++ m.id ∷ [])
waits_enqueued story requests a link m fresh moved last placed shown h =
    let p = m.id in
    let earlier : (n : ℕ) → p ≢ n → IsIn n (moved ++ p ∷ []) → IsIn n moved = λ n other i. elim (in_either n moved (p ∷ []) i) [ inl j ↦ j | inr j ↦ elim j [ inl same ↦ absurd (other same) | inr k ↦ absurd k ] ] in
    record {
      early = h.early;
      backoff = λ n w e. absurd (not_resting (enqueued link m) e);
      connect = λ n w e. absurd (not_dialing (enqueued link m) e);
      creds = λ n l w e. absurd (not_wanting (enqueued link m) l e);
      setup = λ n l u w e. absurd (not_setting (enqueued link m) l u e);
      resubscribe = λ n l w e goes. h.resubscribe n link w refl goes;
      permit = λ n l w e none. h.permit n link w refl none;
      place = λ n a. elim (h.place n a) [ inl i ↦ inl (in_left n moved (p ∷ []) i) | inr e ↦ inr e ];
      room = λ n i. elim (awaited_last n link.queue m i) [
        | inl j ↦ elim (h.room n j) [ inl k ↦ inl (in_left n moved (p ∷ []) k) | inr e ↦ inr e ]
        | inr same ↦ inl (in_right n moved (p ∷ []) (inl same))
      ];
      newer = h.newer;
      rising = last;
      no_backoff = λ n i w e. absurd (not_resting (enqueued link m) e);
      no_connect = λ n i w e. absurd (not_dialing (enqueued link m) e);
      no_creds = λ n l i w e. absurd (not_wanting (enqueued link m) l e);
      no_setup = λ n l u i w e. absurd (not_setting (enqueued link m) l u e);
      no_resubscribe = λ n l i w e goes. h.no_resubscribe n link i w refl goes;
      unpermitted = λ n l w e goes. h.unpermitted n link w refl goes;
      no_permit = λ n l i w e none. h.no_permit n link i w refl none;
      seatless = h.seatless;
      no_place = λ n i a. h.no_place n (earlier n (λ same. not_both (is_admitted_at requests n) (ap (is_admitted_at requests) (sym same) ∙ placed) a) i) a;
      no_room = λ n i j. by_test (p == n) _
          (λ t. subst (λ x. shown_wait story requests x ≢ Some wait.Room) (eq_from p n t) shown)
          (λ f. let other = ne_from p n f in h.no_room n (earlier n other i) (elim (awaited_last n link.queue m j) [ inl k ↦ k | inr same ↦ absurd (other same) ]));
    }

-- one that waits for the connection waits for a place, and was moved in this turn
pub waits_admitted : (story : ℕ → Story) (requests : List Request) (a : Again) (link : LinkState) (p : ℕ) (fresh moved : List ℕ) → is_waiting_at requests p ≡ true → Rising 0 (moved ++ p ∷ []) (length requests)
    → TiedWaits story requests a (Ready link) fresh moved → TiedWaits story (at_progress requests p progress.Admitted) a (Ready link) fresh (moved ++ p ∷ [])
waits_admitted story requests a link p fresh moved w last h =
    let same = shown_further story requests p progress.Admitted in
    let l = open_within requests p (waiting_open requests p w) in
    let shown = shown_early (shown_wait story requests p) (h.early p w) in
    let earlier : (n : ℕ) → p ≢ n → IsIn n (moved ++ p ∷ []) → IsIn n moved = λ n other i. elim (in_either n moved (p ∷ []) i) [ inl j ↦ j | inr j ↦ elim j [ inl same ↦ absurd (other same) | inr k ↦ absurd k ] ] in
    record {
      early = λ m v. let k = there_then is_waiting requests p m progress.Admitted refl l v in one_of (shown_wait story (at_progress requests p progress.Admitted) m) (shown_wait story requests m) (same m) (h.early m k.1);
      backoff = λ m v d. absurd (not_resting link d);
      connect = λ m v d. absurd (not_dialing link d);
      creds = λ m x v d. absurd (not_wanting link x d);
      setup = λ m x u v d. absurd (not_setting link x u d);
      resubscribe = λ m x v d goes. let k = there_then is_waiting requests p m progress.Admitted refl l v in elim (h.resubscribe m link k.1 refl goes) [ inl e ↦ inl e | inr e ↦ inr (same m ∙ e) ];
      permit = λ m x v d none. let k = there_then is_waiting requests p m progress.Admitted refl l v in elim (h.permit m link k.1 refl none) [ inl e ↦ inl e | inr e ↦ inr (same m ∙ e) ];
      place = λ m a. by_test (p == m) _
          (λ t. inl (in_right m moved (p ∷ []) (inl (eq_from p m t))))
          (λ f. elim (h.place m (sym (there_other is_admitted requests p m progress.Admitted (ne_from p m f)) ∙ a)) [ inl i ↦ inl (in_left m moved (p ∷ []) i) | inr e ↦ inr (same m ∙ e) ]);
      room = λ m i. elim (h.room m i) [ inl j ↦ inl (in_left m moved (p ∷ []) j) | inr e ↦ inr (same m ∙ e) ];
      newer = subst (Rising 0 fresh) (sym (length_still requests p progress.Admitted)) h.newer;
      rising = subst (Rising 0 (moved ++ p ∷ [])) (sym (length_still requests p progress.Admitted)) last;
      no_backoff = λ m i v d. absurd (not_resting link d);
      no_connect = λ m i v d. absurd (not_dialing link d);
      no_creds = λ m x i v d. absurd (not_wanting link x d);
      no_setup = λ m x u i v d. absurd (not_setting link x u d);
      no_resubscribe = λ m x i v d goes e. let k = there_then is_waiting requests p m progress.Admitted refl l v in h.no_resubscribe m link i k.1 refl goes (sym (same m) ∙ e);
      unpermitted = λ m x v d goes e. let k = there_then is_waiting requests p m progress.Admitted refl l v in h.unpermitted m link k.1 refl goes (sym (same m) ∙ e);
      no_permit = λ m x i v d none e. let k = there_then is_waiting requests p m progress.Admitted refl l v in h.no_permit m link i k.1 refl none (sym (same m) ∙ e);
      seatless = λ m a e. by_test (p == m) _
          (λ t. shown.1 (ap (shown_wait story requests) (eq_from p m t) ∙ sym (same m) ∙ e))
          (λ f. h.seatless m (sym (there_other is_admitted requests p m progress.Admitted (ne_from p m f)) ∙ a) (sym (same m) ∙ e));
      no_place = λ m i a e. by_test (p == m) _
          (λ t. shown.0 (ap (shown_wait story requests) (eq_from p m t) ∙ sym (same m) ∙ e))
          (λ f. h.no_place m (earlier m (ne_from p m f) i) (sym (there_other is_admitted requests p m progress.Admitted (ne_from p m f)) ∙ a) (sym (same m) ∙ e));
      no_room = λ m i j e. by_test (p == m) _
          (λ t. shown.1 (ap (shown_wait story requests) (eq_from p m t) ∙ sym (same m) ∙ e))
          (λ f. h.no_room m (earlier m (ne_from p m f) i) j (sym (same m) ∙ e));
    }
