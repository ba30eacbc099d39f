-- A request is let in: it takes its permits, and its timer is asked for.
use Rattle.std.proofs.Common.{Bool, List, None, Option, Some, [], ap, false, inl, inr, length, refl, slice_get, subst, sym, true, ℕ, ◌+◌, ◌++◌, ◌<◌, ◌∙◌, ◌∷◌, ◌≡◌, ◌≢◌}
use Rattle.std.specs.List.{AllByRecursion}
use Rattle.std.specs.Prelude.{is_some, not, ◌==◌, ◌&&◌}
use Rattle.containers.proofs.Choices.{by_test, eq_from, ne_from, not_both}
use Rattle.containers.proofs.Places.{get_within}
use Rattle.driver_model.specs.declared.outcome.Shape.{Shape}
use Rattle.link_core.specs.Link.{LinkState}
use Rattle.link_core.specs.declared.message.Entry.{Entry}
use Rattle.link_core.specs.declared.message.Queued.{Queued}
use Rattle.mux_conn.specs.Requests.{if_there, is_admitted, is_admitted_at, is_open as is_open_progress, is_placed, is_waiting, is_waiting_at, name_at, permits_at, with_permits}
use Rattle.mux_conn.specs.declared.life.Life.{Life}
use Rattle.mux_conn.specs.declared.request.Pending.{Pending}
use Rattle.mux_conn.specs.declared.request.Progress.{Progress}
use Rattle.mux_conn.specs.declared.request.Progress.TheVariants as progress
use Rattle.mux_conn.specs.declared.request.Request.{Request}
use Rattle.mux_conn.specs.declared.request.Waiting.{Waiting}
use Rattle.legal_trace.specs.Ledger.{Ledger, setup_count}
use Rattle.legal_trace.specs.Steps.{is_let_in, permits_held}
use Rattle.legal_trace.specs.Story.{Story, awaited_in, is_no_error, is_open, is_told, packed_in, shape}
use Rattle.conn_laws.proofs.Ties.InLine.{kept_ids}
use Rattle.conn_laws.proofs.Ties.Kept.{of_same, tries_same}
use Rattle.conn_laws.proofs.Changes.Requests.{progress_count as length_with, permits_other, test_other as with_other}
use Rattle.conn_laws.proofs.Ties.Names.{name_placed, name_of_some, name_with, owners_with, permits_with, same_name, there_within, was_with, with_same}
use Rattle.conn_laws.proofs.Ties.Numbers.{IsIn, Rising, requests_in}
use Rattle.conn_laws.proofs.Requests.Closing.{one_of}
use Rattle.conn_laws.proofs.Requests.Rounded.{SameRounds}
use Rattle.conn_laws.proofs.Links.Server.{setup_owners}
use Rattle.conn_laws.proofs.Ties.Tied.{AreQueued, IsEntry, IsKept, IsOf, IsPacked, IsQueued, IsRequest, TiedLines, TiedNames, TiedPermits, TiedStory, TiedTries, TiedWaits, owners_each, queue_ids, shown_wait}
use Rattle.mux_conn.specs.declared.again.Again.{Again}

-- requests of which one holds other permits, and waits still
--
-- what is tested of one that waits, whether its round has begun or not
waiting_test : (test : Progress → Bool) (x : Option Request) → test progress.Waiting ≡ test progress.Begun → if_there is_waiting x ≡ true → if_there test x ≡ test progress.Begun
waiting_test test None blind e = cc
waiting_test test (Some r) blind e = by_progress r.progress e
  where
    by_progress : (r : Progress) → is_waiting r ≡ true → test r ≡ test progress.Begun
    by_progress progress.Waiting e = blind
    by_progress progress.Begun e = refl
    by_progress progress.Admitted e = cc
    by_progress progress.Placed e = cc
    by_progress progress.Closed e = cc

-- all tests of progress are as they were, but whether its round has begun
pub test_kept : (test : Progress → Bool) (requests : List Request) (p count m : ℕ) → test progress.Waiting ≡ test progress.Begun → is_waiting_at requests p ≡ true → if_there test (slice_get (with_permits requests p progress.Begun count) m) ≡ if_there test (slice_get requests m)
test_kept test requests p count m blind w =
    by_test (p == m) _
    (λ t.
    subst (λ k. if_there test (slice_get (with_permits requests p progress.Begun count) k) ≡ if_there test (slice_get requests k)) (eq_from p m t)
    (with_same test requests p progress.Begun count (there_within is_waiting requests p w) ∙ sym (waiting_test test (slice_get requests p) blind w)))
    (λ f. with_other test requests p m progress.Begun count (ne_from p m f))

-- stories that change in permits, timers, rounds and waits alone
--
pub record IsEased (s t : Story) : Type 0 where
  pub submission : t.submission ≡ s.submission
  pub late : t.late ≡ s.late
  pub unspoken : t.unspoken ≡ s.unspoken
  pub link : t.link ≡ s.link
  pub timeout : t.timeout ≡ s.timeout
  pub overdue : t.overdue ≡ s.overdue
  pub tries : t.tries ≡ s.tries
  pub outcomes : t.outcomes ≡ s.outcomes
  pub cancelled : t.cancelled ≡ s.cancelled

-- nothing changes
pub eased_same : (s : Story) → IsEased s s
eased_same s = record { submission = refl; late = refl; unspoken = refl; link = refl; timeout = refl; overdue = refl; tries = refl; outcomes = refl; cancelled = refl }

-- it is open where it was
eased_open : (s t : Story) → IsEased s t → is_open t ≡ is_open s
eased_open s t h = λ i. is_some (h.submission i) && (length (h.outcomes i) == 0) && not (h.cancelled i)

-- and told where it was
eased_told : (s t : Story) → IsEased s t → is_told t ≡ is_told s
eased_told s t h = λ i. not (awaited_in (h.submission i)) && is_no_error (h.outcomes i)

-- all stories but one are the same, and that changes so
pub record AreEased (f g : ℕ → Story) (n : ℕ) : Type 0 where
  pub each : (m : ℕ) → IsEased (f m) (g m)
  pub others : (m : ℕ) → n ≢ m → g m ≡ f m

-- none changes
pub none_eased : (f : ℕ → Story) (n : ℕ) → AreEased f f n
none_eased f n = record { each = λ m. eased_same (f m); others = λ m o. refl }

-- what a story says of the session
pub story_let : (f g : ℕ → Story) (table : List (Option Pending)) (requests : List Request) (link p count n : ℕ) → TiedNames table requests → is_waiting_at requests p ≡ true → AreEased f g (name_at requests p) → (g (name_at requests p)).permits ≡ count
    → TiedStory (f n) requests link (slice_get table n) → TiedStory (g n) (with_permits requests p progress.Begun count) link (slice_get table n)
story_let f g table requests link p count n names w eased has h = by_entry (slice_get table n) refl h
  where
    within : p < length requests
    within = there_within is_waiting requests p w

    placed : slice_get table (name_at requests p) ≡ Some (Some (record { number = p }))
    placed = name_placed table requests p names within

    permits_now : (q : ℕ) → slice_get table n ≡ Some (Some (record { number = q })) → IsRequest (f n) requests link q → (g n).permits ≡ permits_at (with_permits requests p progress.Begun count) q
    permits_now q e k =
        let r = names.kept n (record { number = q }) e in
        let named : name_at requests q ≡ n = name_of_some requests q r.0 r.1 ∙ r.2 in
        by_test (p == q) _
        (λ t.
        let same = eq_from p q t in
        ap (λ m. (g m).permits) (sym named ∙ ap (name_at requests) (sym same)) ∙ has ∙ sym (permits_with requests p progress.Begun count within) ∙ ap (permits_at (with_permits requests p progress.Begun count)) same)
        (λ o.
        let apart = ne_from p q o in
        ap (λ (s : Story). s.permits) (eased.others n (λ x. apart (same_name table requests p q names within (get_within requests q r.0 r.1) (x ∙ sym named)))) ∙ k.permits_is ∙ sym (permits_other requests p q progress.Begun count apart))

    apart_none : (x : Option (Option Pending)) → slice_get table n ≡ x → ((q : Pending) → x ≡ Some (Some q) → ⊥) → name_at requests p ≢ n
    apart_none x e out same = out (record { number = p }) (sym e ∙ ap (slice_get table) (sym same) ∙ placed)

    by_entry : (x : Option (Option Pending)) → slice_get table n ≡ x → TiedStory (f n) requests link x → TiedStory (g n) (with_permits requests p progress.Begun count) link x
    by_entry None e s = eased.others n (apart_none None e (λ q i. cc)) ∙ s
    by_entry (Some None) e s = subst (λ (x : Story). TiedStory x requests link (Some None)) (sym (eased.others n (apart_none (Some None) e (λ q i. cc)))) s
    by_entry (Some (Some q)) e s =
        let k = eased.each n in
        record {
          what = s.what;
          handed_in = k.submission ∙ s.handed_in;
          in_time = k.late ∙ s.in_time;
          spoken = k.unspoken ∙ s.spoken;
          on = λ o. k.link ∙ s.on (sym (test_kept is_open_progress requests p count q.number refl w) ∙ o);
          some = λ none. s.some (ap (λ x. packed_in x) (sym k.submission) ∙ none);
          open_is = eased_open (f n) (g n) k ∙ s.open_is ∙ sym (test_kept is_open_progress requests p count q.number refl w);
          permits_is = permits_now q.number e s;
        }

-- what is of a submission is of it still
of_let : (f g : ℕ → Story) (requests : List Request) (p count m : ℕ) (bytes : List ℕ) (of_shape : Shape) (awaited : Bool) → ((n : ℕ) → IsEased (f n) (g n)) → IsOf (f (name_at requests m)) bytes of_shape awaited
    → IsOf (g (name_at (with_permits requests p progress.Begun count) m)) bytes of_shape awaited
of_let f g requests p count m bytes of_shape awaited eased h =
    subst (λ n. IsOf (g n) bytes of_shape awaited) (sym (name_with requests p progress.Begun count m))
    (of_same (f (name_at requests m)) (g (name_at requests m)) bytes of_shape awaited (sym (eased (name_at requests m)).submission) h)

-- those that wait
packs_let : (f g : ℕ → Story) (requests : List Request) (p count : ℕ) (ws : List Waiting) → ((n : ℕ) → IsEased (f n) (g n)) → AllByRecursion (IsPacked f requests) ws → AllByRecursion (IsPacked g (with_permits requests p progress.Begun count)) ws
packs_let f g requests p count [] eased all = tt
packs_let f g requests p count (w ∷ ws) eased all = (
  record {
    is_of = of_let f g requests p count w.number w.packed w.shape w.awaited eased all.0.is_of;
    time_is = all.0.time_is ∙ sym (eased (name_at requests w.number)).timeout ∙ ap (λ n. (g n).timeout) (sym (name_with requests p progress.Begun count w.number));
  },
  packs_let f g requests p count ws eased all.1,
)

-- those in the queue
queued_let : (f g : ℕ → Story) (requests : List Request) (p count : ℕ) (qs : List Queued) → is_waiting_at requests p ≡ true → ((n : ℕ) → IsEased (f n) (g n)) → AllByRecursion (IsQueued f requests) qs
    → AllByRecursion (IsQueued g (with_permits requests p progress.Begun count)) qs
queued_let f g requests p count [] w eased all = tt
queued_let f g requests p count (q ∷ qs) w eased all = (
  record {
    is_of = of_let f g requests p count q.id q.packed q.shape q.awaited eased all.0.is_of;
    placed_at = λ t. test_kept is_placed requests p count q.id refl w ∙ all.0.placed_at t;
    told = λ e. ap (λ n. (g n).outcomes) (name_with requests p progress.Begun count q.id) ∙ (eased (name_at requests q.id)).outcomes ∙ all.0.told e;
  },
  queued_let f g requests p count qs w eased all.1,
)

-- those in the row
entries_let : (requests : List Request) (p count : ℕ) (row : List Entry) → is_waiting_at requests p ≡ true → AllByRecursion (IsEntry requests) row → AllByRecursion (IsEntry (with_permits requests p progress.Begun count)) row
entries_let requests p count [] w all = tt
entries_let requests p count (e ∷ es) w all = (
  elim all.0 [
    | inl r ↦ inl (record { below = subst (λ n. e.id < n) (sym (length_with requests p progress.Begun count)) r.below; placed_at = λ t. test_kept is_placed requests p count e.id refl w ∙ r.placed_at t })
    | inr a ↦ inr a
  ],
  entries_let requests p count es w all.1,
)

-- who waits for a place, or for the connection
kept_let : (requests : List Request) (waiting admitted : List Waiting) (p count m : ℕ) → is_waiting_at requests p ≡ true → IsKept requests waiting admitted m → IsKept (with_permits requests p progress.Begun count) waiting admitted m
kept_let requests waiting admitted p count m w (inl a) = inl (test_kept is_admitted requests p count m refl w ∙ a.0, a.1)
kept_let requests waiting admitted p count m w (inr v) = inr (test_kept is_waiting requests p count m refl w ∙ v.0, v.1)

-- the lines
pub lines_let : (f g : ℕ → Story) (requests : List Request) (link : LinkState) (waiting admitted : List Waiting) (pending started : List ℕ) (p count : ℕ) → is_waiting_at requests p ≡ true → ((n : ℕ) → IsEased (f n) (g n))
    → TiedLines f requests link waiting admitted pending started → TiedLines g (with_permits requests p progress.Begun count) link waiting admitted pending started
lines_let f g requests link waiting admitted pending started p count w eased h = record {
  line = subst (Rising 0 (requests_in started ++ (queue_ids link.queue ++ kept_ids admitted waiting))) (sym (length_with requests p progress.Begun count)) h.line;
  queued = queued_let f g requests p count link.queue w eased h.queued;
  entries = entries_let requests p count link.row w h.entries;
  packs = packs_let f g requests p count waiting eased h.packs;
  packed_in = packs_let f g requests p count admitted eased h.packed_in;
  there = λ m e. elim (h.there m (sym (test_kept is_open_progress requests p count m refl w) ∙ e)) [ inl i ↦ inl i | inr k ↦ inr (kept_let requests waiting admitted p count m w k) ];
}

-- who was told
pub told_let : (f g : ℕ → Story) (requests : List Request) (number : ℕ) (link : LinkState) (p count : ℕ) → ((n : ℕ) → IsEased (f n) (g n)) → AreQueued f requests number link → AreQueued g (with_permits requests p progress.Begun count) number link
told_let f g requests number link p count eased h = record {
  told = λ n is none on.
      let k = h.told n (sym (eased_told (f n) (g n) (eased n)) ∙ is) (sym (eased n).tries ∙ none) (sym (eased n).link ∙ on) in
      (k.0, subst (λ m. k.0 < m) (sym (length_with requests p progress.Begun count)) k.1, name_with requests p progress.Begun count k.0 ∙ k.2, k.3);
  here = λ q i. ap (λ n. (g n).link) (name_with requests p progress.Begun count q) ∙ (eased (name_at requests q)).link ∙ h.here q i;
}

-- what is shown of waits
pub waits_let : (f g : ℕ → Story) (requests : List Request) (a : Again) (life : Life) (fresh moved : List ℕ) (p count : ℕ) → is_waiting_at requests p ≡ true → ((n : ℕ) → (g n).waiting ≡ (f n).waiting) → TiedWaits f requests a life fresh moved
    → TiedWaits g (with_permits requests p progress.Begun count) a life fresh moved
waits_let f g requests a life fresh moved p count w still h =
    let ss = with_permits requests p progress.Begun count in
    let same : (m : ℕ) → shown_wait g ss m ≡ shown_wait f requests m = λ m. ap (λ n. (g n).waiting) (name_with requests p progress.Begun count m) ∙ still (name_at requests m) in
    let waits : (m : ℕ) → is_waiting_at ss m ≡ true → is_waiting_at requests m ≡ true = λ m e. sym (test_kept is_waiting requests p count m refl w) ∙ e in
    let admits : (m : ℕ) → is_admitted_at ss m ≡ true → is_admitted_at requests m ≡ true = λ m e. sym (test_kept is_admitted requests p count m refl w) ∙ e in
    let long = sym (length_with requests p progress.Begun count) in
    record {
      early = λ m v. one_of (shown_wait g ss m) (shown_wait f requests m) (same m) (h.early m (waits m v));
      backoff = λ m v d. elim (h.backoff m (waits m v) d) [ inl e ↦ inl e | inr e ↦ inr (same m ∙ e) ];
      connect = λ m v d. elim (h.connect m (waits m v) d) [ inl e ↦ inl e | inr e ↦ inr (same m ∙ e) ];
      creds = λ m link v d. elim (h.creds m link (waits m v) d) [ inl e ↦ inl e | inr e ↦ inr (same m ∙ e) ];
      setup = λ m link u v d. elim (h.setup m link u (waits m v) d) [ inl e ↦ inl e | inr e ↦ inr (same m ∙ e) ];
      resubscribe = λ m link v d goes. elim (h.resubscribe m link (waits m v) d goes) [ inl e ↦ inl e | inr e ↦ inr (same m ∙ e) ];
      permit = λ m link v d none. elim (h.permit m link (waits m v) d none) [ inl e ↦ inl e | inr e ↦ inr (same m ∙ e) ];
      place = λ m a. elim (h.place m (admits m a)) [ inl i ↦ inl i | inr e ↦ inr (same m ∙ e) ];
      room = λ m i. elim (h.room m i) [ inl j ↦ inl j | inr e ↦ inr (same m ∙ e) ];
      newer = subst (Rising 0 fresh) long h.newer;
      rising = subst (Rising 0 moved) long h.rising;
      no_backoff = λ m i v d. same m ∙ h.no_backoff m i (waits m v) d;
      no_connect = λ m i v d e. h.no_connect m i (waits m v) d (sym (same m) ∙ e);
      no_creds = λ m link i v d e. h.no_creds m link i (waits m v) d (sym (same m) ∙ e);
      no_setup = λ m link u i v d e. h.no_setup m link u i (waits m v) d (sym (same m) ∙ e);
      no_resubscribe = λ m link i v d goes e. h.no_resubscribe m link i (waits m v) d goes (sym (same m) ∙ e);
      unpermitted = λ m link v d goes e. h.unpermitted m link (waits m v) d goes (sym (same m) ∙ e);
      no_permit = λ m link i v d none e. h.no_permit m link i (waits m v) d none (sym (same m) ∙ e);
      no_place = λ m i a e. h.no_place m i (admits m a) (sym (same m) ∙ e);
      seatless = λ m a e. h.seatless m (admits m a) (sym (same m) ∙ e);
      no_room = λ m i j e. h.no_room m i j (sym (same m) ∙ e);
    }

-- the tries
pub tries_let : (l : Ledger) (f g : ℕ → Story) (requests : List Request) (link : ℕ) (started : List ℕ) (p count : ℕ) → ((n : ℕ) → IsEased (f n) (g n)) → TiedTries l f requests link started → TiedTries l g (with_permits requests p progress.Begun count) link started
tries_let l f g requests link started p count eased before =
    let h = tries_same l f g requests link started (λ n. sym (eased n).submission) (λ n. sym (eased n).tries) (λ n. sym (eased n).link) before in
    let still = name_with requests p progress.Begun count in
    let within : (m : ℕ) → m < length (with_permits requests p progress.Begun count) → m < length requests = λ m l. subst (λ x. m < x) (length_with requests p progress.Begun count) l in
    record {
      owners = λ plain. h.owners plain ∙ ap (setup_owners (setup_count l.starts)) (sym (owners_let started));
      greeted = h.greeted;
      shapes = λ k m s l i j. h.shapes k m s (within m l) i j ∙ ap (λ n. shape (g n)) (sym (still m));
      tried = λ k m l i. ap (λ n. (g n).tries) (still m) ∙ h.tried k m (within m l) i;
      untried = λ m r i out on. let x = was_with requests p progress.Begun count m r i in ap (λ n. (g n).tries) (sym x.2) ∙ h.untried m x.0 x.1 out (ap (λ n. (g n).link) x.2 ∙ on);
    }
  where
    owners_let : (ms : List ℕ) → owners_each (with_permits requests p progress.Begun count) ms ≡ owners_each requests ms
    owners_let [] = refl
    owners_let (m ∷ ms) = λ i. owners_with requests p progress.Begun count i m ∷ owners_let ms i

-- the permits
pub permits_eased : (f g : ℕ → Story) (table : List (Option Pending)) (submissions : ℕ) (requests : List Request) (link : ℕ) (limit : Option ℕ) (free now : ℕ) (being_admitted : List ℕ) (p count : ℕ) → TiedNames table requests → is_waiting_at requests p ≡ true
    → ((m : ℕ) → IsIn m being_admitted → p ≡ m) → AreEased f g (name_at requests p) → ((k : ℕ) → limit ≡ Some k → permits_held g link submissions + now ≡ k) → TiedPermits f submissions requests link limit free being_admitted
    → TiedPermits g submissions (with_permits requests p progress.Begun count) link limit now (p ∷ [])
permits_eased f g table submissions requests link limit free now being_admitted p count names w alone eased sum h =
    let within = there_within is_waiting requests p w in
    let ss = with_permits requests p progress.Begun count in
    let own : (m : ℕ) → m < length requests → p ≢ m → g (name_at ss m) ≡ f (name_at requests m) = λ m inside o.
    ap g (name_with requests p progress.Begun count m) ∙ eased.others (name_at requests m) (λ e. o (same_name table requests p m names within inside e)) in
    let apart : (test : Progress → Bool) → test progress.Waiting ≡ test progress.Begun → test progress.Begun ≡ false → (m : ℕ) → if_there test (slice_get ss m) ≡ true → (p ≢ m) × (if_there test (slice_get requests m) ≡ true) = λ test blind no m e.
    ((λ same. not_both (if_there test (slice_get ss m)) (ap (λ k. if_there test (slice_get ss k)) (sym same) ∙ with_same test requests p progress.Begun count within ∙ no) e), sym (test_kept test requests p count m blind w) ∙ e) in
    record {
      counted = sum;
      none = λ m v out.
          let other : p ≢ m = λ e. out (inl e) in
          let was = sym (test_kept is_waiting requests p count m refl w) ∙ v in
          let k = h.none m was (λ i. other (alone m i)) in
          (permits_other requests p m progress.Begun count other ∙ k.0, ap (λ (s : Story). s.clock) (own m (there_within is_waiting requests m was) other) ∙ k.1);
      let_in = λ m e. elim e [
        | inl a ↦ let k = apart is_admitted refl refl m a in ap (is_let_in limit) (own m (there_within is_admitted requests m k.1) k.0) ∙ h.let_in m (inl k.1)
        | inr a ↦ let k = apart is_placed refl refl m a in ap (is_let_in limit) (own m (there_within is_placed requests m k.1) k.0) ∙ h.let_in m (inr k.1)
      ];
    }

-- of stories whose waits and rounds are as they were
pub record AreStill (f g : ℕ → Story) : Type 0 where
  pub waiting : (n : ℕ) → (g n).waiting ≡ (f n).waiting
  pub rounded : SameRounds f g
