-- A request is closed, and with it its submission, by an outcome or by the leave of its caller.
use Rattle.std.proofs.Common.{◌≡◌, ◌≢◌, inl, inr, ℕ, ◌<◌, ◌==◌, Bool, true, List, [], ◌∷◌, length, Option, Some, None, slice_get, refl, sym, ap, ◌∙◌, subst}
use Rattle.std.specs.List.{AllByRecursion}
use Rattle.containers.proofs.Choices.{chosen, left_if, eq_from, ne_from, ne_test}
use Rattle.containers.proofs.Places.{get_within}
use Rattle.driver_model.specs.declared.outcome.Shape.{Shape}
use Rattle.link_core.specs.declared.message.Queued.{Queued}
use Rattle.link_core.specs.Link.{LinkState}
use Rattle.mux_conn.specs.declared.again.Again.{Again}
use Rattle.mux_conn.specs.declared.life.Life.{Life}
use Rattle.mux_conn.specs.declared.life.Life.TheVariants.{Resting, Dialing}
use Rattle.mux_conn.specs.declared.request.Pending.{Pending}
use Rattle.mux_conn.specs.declared.request.Progress.TheVariants as progress
use Rattle.mux_conn.specs.declared.request.Request.{Request}
use Rattle.mux_conn.specs.declared.request.Waiting.{Waiting}
use Rattle.mux_conn.specs.Requests.{is_open as is_open_progress, is_waiting, is_admitted, is_placed, is_waiting_at, is_admitted_at, name_at, with_permits}
use Rattle.legal_trace.specs.Ledger.{Ledger, setup_count}
use Rattle.legal_trace.specs.Story.{Story, is_told, shape, packed_in, shape_in, awaited_in}
use Rattle.legal_trace.specs.Book.{if_own}
use Rattle.conn_laws.proofs.Ties.Numbers.{IsIn, Rising}
use Rattle.conn_laws.proofs.Links.Server.{setup_owners}
use Rattle.conn_laws.proofs.Ties.Tied.{queue_ids, IsRefused, IsRequest, TiedStory, TiedTries, TiedNames, IsOf, IsQueued, IsPacked, AreQueued, shown_wait, TiedWaits, AreLate}
use Rattle.conn_laws.proofs.Ties.Names.{name_placed, same_name, name_of_some, name_with, was_with, there_within, with_then}
use Rattle.conn_laws.proofs.Changes.Requests.{progress_count as length_with, test_other as with_other}
use Rattle.conn_laws.proofs.Requests.Closing.{AreOthers, Closes, IsUntried, WasReady, WasSettingUp, WasWanting, one_of, owners_each_still, request_closed, request_other}

-- the stories where that of request p closes
abbrev pub with_closed : (ℕ → Story) → List Request → ℕ → (ℕ → Story) → ℕ → Story
with_closed story requests p closed n = if_own (name_at requests p == n) (closed n) (story n)

-- any other story is the same
pub closed_other : (story : ℕ → Story) (requests : List Request) (p : ℕ) (closed : ℕ → Story) (n : ℕ) → name_at requests p ≢ n → with_closed story requests p closed n ≡ story n
closed_other story requests p closed n other = left_if (name_at requests p == n) (closed n) (story n) (ne_test (name_at requests p) n other)

-- the tries stay
pub closed_tries : (story : ℕ → Story) (requests : List Request) (p : ℕ) (closed : ℕ → Story) (n : ℕ) → Closes (story n) (closed n) → (with_closed story requests p closed n).tries ≡ (story n).tries
closed_tries story requests p closed n c = chosen (λ (s : Story). s.tries ≡ (story n).tries) (name_at requests p == n) (closed n) (story n) (λ t. c.tries) (λ f. refl)

-- and so does what was handed in
pub closed_submission : (story : ℕ → Story) (requests : List Request) (p : ℕ) (closed : ℕ → Story) (n : ℕ) → Closes (story n) (closed n) → (with_closed story requests p closed n).submission ≡ (story n).submission
closed_submission story requests p closed n c = chosen (λ (s : Story). s.submission ≡ (story n).submission) (name_at requests p == n) (closed n) (story n) (λ t. c.submission) (λ f. refl)

-- and so does the link that it goes to
closed_link : (story : ℕ → Story) (requests : List Request) (p : ℕ) (closed : ℕ → Story) (n : ℕ) → (closed n).link ≡ (story n).link → (with_closed story requests p closed n).link ≡ (story n).link
closed_link story requests p closed n same = chosen (λ (s : Story). s.link ≡ (story n).link) (name_at requests p == n) (closed n) (story n) (λ t. same) (λ f. refl)

-- and so does the time
pub closed_time : (story : ℕ → Story) (requests : List Request) (p : ℕ) (closed : ℕ → Story) (n : ℕ) → Closes (story n) (closed n) → (with_closed story requests p closed n).timeout ≡ (story n).timeout
closed_time story requests p closed n c = chosen (λ (s : Story). s.timeout ≡ (story n).timeout) (name_at requests p == n) (closed n) (story n) (λ t. c.time) (λ f. refl)

-- the stories, by the table
--
-- each submission, by its entry in the table
pub story_closed : (story : ℕ → Story) (table : List (Option Pending)) (requests : List Request) (link p : ℕ) (closed : ℕ → Story) (n : ℕ) → TiedNames table requests → p < length requests → (closed (name_at requests p)).permits ≡ 0 → Closes (story n) (closed n)
    → TiedStory (story n) requests link (slice_get table n) → TiedStory (with_closed story requests p closed n) (with_permits requests p progress.Closed 0) link (slice_get table n)
story_closed story table requests link p closed n names l freed c h = by_entry (slice_get table n) refl h
  where
    placed : slice_get table (name_at requests p) ≡ Some (Some (record { number = p }))
    placed = name_placed table requests p names l

    by_entry : (x : Option (Option Pending)) → slice_get table n ≡ x → TiedStory (story n) requests link x → TiedStory (with_closed story requests p closed n) (with_permits requests p progress.Closed 0) link x
    by_entry None e s =
        let other : name_at requests p ≢ n = λ same. (let at : slice_get table n ≡ Some (Some (record { number = p })) = ap (slice_get table) (sym same) ∙ placed in cc) in
        closed_other story requests p closed n other ∙ s
    by_entry (Some None) e s =
        let other : name_at requests p ≢ n = λ same. (let at : slice_get table n ≡ Some (Some (record { number = p })) = ap (slice_get table) (sym same) ∙ placed in cc) in
        subst IsRefused (sym (closed_other story requests p closed n other)) s
    by_entry (Some (Some q)) e s =
        chosen (λ (x : Story). IsRequest x (with_permits requests p progress.Closed 0) link q.number) (name_at requests p == n) (closed n) (story n)
        (λ t.
        let k = names.kept n q e in
        let named : name_at requests q.number ≡ name_at requests p = name_of_some requests q.number k.0 k.1 ∙ k.2 ∙ sym (eq_from (name_at requests p) n t) in
        let same : q.number ≡ p = same_name table requests q.number p names (get_within requests q.number k.0 k.1) l named in
        subst (IsRequest (closed n) (with_permits requests p progress.Closed 0) link) (sym same) (request_closed (story n) (closed n) requests link p l (subst (λ m. (closed m).permits ≡ 0) (eq_from (name_at requests p) n t) freed) c (subst (IsRequest (story n) requests link) same s)))
        (λ f.
        let k = names.kept n q e in
        request_other (story n) requests link p q.number (λ same. ne_from (name_at requests p) n f (ap (name_at requests) same ∙ name_of_some requests q.number k.0 k.1 ∙ k.2)) s)

-- the tries
--
-- and so do the tries
pub tries_closed : (l : Ledger) (story : ℕ → Story) (requests : List Request) (link p : ℕ) (closed : ℕ → Story) (started : List ℕ) → ((n : ℕ) → Closes (story n) (closed n)) → TiedTries l story requests link started
    → TiedTries l (with_closed story requests p closed) (with_permits requests p progress.Closed 0) link started
tries_closed l story requests link p closed started c h =
    let after = with_closed story requests p closed in
    let still = name_with requests p progress.Closed 0 in
    record {
      owners = λ plain. h.owners plain ∙ ap (setup_owners (setup_count l.starts)) (sym (owners_each_still requests p started));
      greeted = h.greeted;
      shapes = λ k q s w i j. h.shapes k q s (subst (λ n. q < n) (length_with requests p progress.Closed 0) w) i j ∙ ap shape_in (sym (closed_submission story requests p closed (name_at requests q) (c (name_at requests q)))) ∙ ap (λ n. shape (after n)) (sym (still q));
      tried = λ k q w i. ap (λ n. (after n).tries) (still q) ∙ closed_tries story requests p closed (name_at requests q) (c (name_at requests q)) ∙ h.tried k q (subst (λ n. q < n) (length_with requests p progress.Closed 0) w) i;
      untried = λ q r i not_started on.
          let w = was_with requests p progress.Closed 0 q r i in
          closed_tries story requests p closed r.name (c r.name) ∙ ap (λ n. (story n).tries) (sym w.2)
          ∙ h.untried q w.0 w.1 not_started (ap (λ n. (story n).link) w.2 ∙ sym (closed_link story requests p closed r.name (c r.name).link) ∙ on);
    }

-- the lines
--
-- the bytes, the shape and whether it is awaited stay
of_closed : (story : ℕ → Story) (requests : List Request) (p q : ℕ) (closed : ℕ → Story) (bytes : List ℕ) (of_shape : Shape) (awaited : Bool) → ((n : ℕ) → Closes (story n) (closed n))
    → IsOf (story (name_at requests q)) bytes of_shape awaited → IsOf (with_closed story requests p closed (name_at (with_permits requests p progress.Closed 0) q)) bytes of_shape awaited
of_closed story requests p q closed bytes of_shape awaited c h =
    subst (λ n. IsOf (with_closed story requests p closed n) bytes of_shape awaited) (sym (name_with requests p progress.Closed 0 q))
    (let n = name_at requests q in
    let same = sym (closed_submission story requests p closed n (c n)) in
    record { packs = h.packs ∙ ap packed_in same; shape_is = h.shape_is ∙ ap shape_in same; awaited_is = h.awaited_is ∙ ap awaited_in same })

-- what waits is as its submission says
pub packs_closed : (story : ℕ → Story) (requests : List Request) (p : ℕ) (closed : ℕ → Story) (waiting : List Waiting) → ((n : ℕ) → Closes (story n) (closed n)) → AllByRecursion (IsPacked story requests) waiting
    → AllByRecursion (IsPacked (with_closed story requests p closed) (with_permits requests p progress.Closed 0)) waiting
packs_closed story requests p closed [] c all = tt
packs_closed story requests p closed (w ∷ ws) c all = (
  record {
    is_of = of_closed story requests p w.number closed w.packed w.shape w.awaited c all.0.is_of;
    time_is = all.0.time_is ∙ sym (closed_time story requests p closed (name_at requests w.number) (c (name_at requests w.number))) ∙ ap (λ n. (with_closed story requests p closed n).timeout) (sym (name_with requests p progress.Closed 0 w.number));
  },
  packs_closed story requests p closed ws c all.1,
)

-- another message of the queue
pub queued_other : (table : List (Option Pending)) (story : ℕ → Story) (requests : List Request) (p : ℕ) (closed : ℕ → Story) (q : Queued) → TiedNames table requests → p < length requests → q.id < length requests → p ≢ q.id
    → ((n : ℕ) → Closes (story n) (closed n)) → IsQueued story requests q → IsQueued (with_closed story requests p closed) (with_permits requests p progress.Closed 0) q
queued_other table story requests p closed q names l m other c h = record {
  is_of = of_closed story requests p q.id closed q.packed q.shape q.awaited c h.is_of;
  placed_at = λ t. with_other is_placed requests p q.id progress.Closed 0 other ∙ h.placed_at t;
  told = λ f.
      let apart : name_at requests p ≢ name_at requests q.id = λ same. other (same_name table requests p q.id names l m same) in
      ap (λ n. (with_closed story requests p closed n).outcomes) (name_with requests p progress.Closed 0 q.id) ∙ ap (λ (s : Story). s.outcomes) (closed_other story requests p closed (name_at requests q.id) apart) ∙ h.told f;
}

-- and so those in the queue that are others
pub queue_closed : (table : List (Option Pending)) (story : ℕ → Story) (requests : List Request) (p : ℕ) (closed : ℕ → Story) (queue : List Queued) → TiedNames table requests → p < length requests
    → ((n : ℕ) → IsIn n (queue_ids queue) → n < length requests) → (IsIn p (queue_ids queue) → ⊥) → ((n : ℕ) → Closes (story n) (closed n)) → AllByRecursion (IsQueued story requests) queue
    → AllByRecursion (IsQueued (with_closed story requests p closed) (with_permits requests p progress.Closed 0)) queue
queue_closed table story requests p closed [] names l within apart c all = tt
queue_closed table story requests p closed (q ∷ qs) names l within apart c all = (
  queued_other table story requests p closed q names l (within q.id (inl refl)) (λ e. apart (inl (sym e))) c all.0,
  queue_closed table story requests p closed qs names l (λ n i. within n (inr i)) (λ i. apart (inr i)) c all.1,
)

-- the waits
--
-- the wait that was shown of another request stays
pub shown_closed : (table : List (Option Pending)) (story : ℕ → Story) (requests : List Request) (p q : ℕ) (closed : ℕ → Story) → TiedNames table requests → p < length requests → q < length requests → p ≢ q
    → shown_wait (with_closed story requests p closed) (with_permits requests p progress.Closed 0) q ≡ shown_wait story requests q
shown_closed table story requests p q closed names l m other =
    ap (λ n. (with_closed story requests p closed n).waiting) (name_with requests p progress.Closed 0 q)
    ∙ ap (λ (s : Story). s.waiting) (closed_other story requests p closed (name_at requests q) (λ same. other (same_name table requests p q names l m same)))

-- the waits of the others stay
pub waits_closed : (table : List (Option Pending)) (story : ℕ → Story) (requests : List Request) (p : ℕ) (closed : ℕ → Story) (a : Again) (life after : Life) (fresh moved : List ℕ) → TiedNames table requests → p < length requests
    → (after ≡ Resting → life ≡ Resting) → (after ≡ Dialing → life ≡ Dialing) → WasWanting life after → WasSettingUp life after → WasReady life after → AreOthers requests p life after → TiedWaits story requests a life fresh moved
    → TiedWaits (with_closed story requests p closed) (with_permits requests p progress.Closed 0) a after fresh moved
waits_closed table story requests p closed a life after fresh moved names l rests dials wants sets ready others h =
    let waits : (q : ℕ) → is_waiting_at (with_permits requests p progress.Closed 0) q ≡ true → (p ≢ q) × (is_waiting_at requests q ≡ true) = λ q w. with_then is_waiting requests p q progress.Closed 0 refl l w in
    let admits : (q : ℕ) → is_admitted_at (with_permits requests p progress.Closed 0) q ≡ true → (p ≢ q) × (is_admitted_at requests q ≡ true) = λ q a. with_then is_admitted requests p q progress.Closed 0 refl l a in
    let same : (q : ℕ) → p ≢ q → q < length requests → shown_wait (with_closed story requests p closed) (with_permits requests p progress.Closed 0) q ≡ shown_wait story requests q = λ q other m. shown_closed table story requests p q closed names l m other in
    record {
      early = λ q w.
          let k = waits q w in
          one_of (shown_wait (with_closed story requests p closed) (with_permits requests p progress.Closed 0) q) (shown_wait story requests q) (same q k.0 (there_within is_waiting requests q k.1)) (h.early q k.1);
      backoff = λ q w d.
          let k = waits q w in
          elim (h.backoff q k.1 (rests d)) [ inl i ↦ inl i | inr e ↦ inr (same q k.0 (there_within is_waiting requests q k.1) ∙ e) ];
      connect = λ q w d.
          let k = waits q w in
          elim (h.connect q k.1 (dials d)) [ inl i ↦ inl i | inr e ↦ inr (same q k.0 (there_within is_waiting requests q k.1) ∙ e) ];
      creds = λ q link w c.
          let k = waits q w in
          let x = wants link c in
          elim (h.creds q x.0 k.1 x.1) [ inl i ↦ inl i | inr e ↦ inr (same q k.0 (there_within is_waiting requests q k.1) ∙ e) ];
      setup = λ q link greeting w s.
          let k = waits q w in
          let x = sets link greeting s in
          elim (h.setup q x.0 greeting k.1 x.1) [ inl i ↦ inl i | inr e ↦ inr (same q k.0 (there_within is_waiting requests q k.1) ∙ e) ];
      resubscribe = λ q link w r goes.
          let k = waits q w in
          let x = ready link r in
          elim (h.resubscribe q x.0 k.1 x.1 goes) [ inl i ↦ inl i | inr e ↦ inr (same q k.0 (there_within is_waiting requests q k.1) ∙ e) ];
      permit = λ q link w r none.
          let k = waits q w in
          let x = ready link r in
          elim (h.permit q x.0 k.1 x.1 none) [ inl i ↦ inl i | inr e ↦ inr (same q k.0 (there_within is_waiting requests q k.1) ∙ e) ];
      place = λ q a.
          let k = admits q a in
          elim (h.place q k.1) [ inl i ↦ inl i | inr e ↦ inr (same q k.0 (there_within is_admitted requests q k.1) ∙ e) ];
      room = λ q i.
          let k = others q i in
          elim (h.room q k.2) [ inl j ↦ inl j | inr e ↦ inr (same q k.0 k.1 ∙ e) ];
      newer = subst (Rising 0 fresh) (sym (length_with requests p progress.Closed 0)) h.newer;
      rising = subst (Rising 0 moved) (sym (length_with requests p progress.Closed 0)) h.rising;
      no_backoff = λ q i w d. let k = waits q w in same q k.0 (there_within is_waiting requests q k.1) ∙ h.no_backoff q i k.1 (rests d);
      no_connect = λ q i w d e. let k = waits q w in h.no_connect q i k.1 (dials d) (sym (same q k.0 (there_within is_waiting requests q k.1)) ∙ e);
      no_creds = λ q link i w c e. let k = waits q w in let x = wants link c in h.no_creds q x.0 i k.1 x.1 (sym (same q k.0 (there_within is_waiting requests q k.1)) ∙ e);
      no_setup = λ q link greeting i w s e. let k = waits q w in let x = sets link greeting s in h.no_setup q x.0 greeting i k.1 x.1 (sym (same q k.0 (there_within is_waiting requests q k.1)) ∙ e);
      no_resubscribe = λ q link i w r goes e. let k = waits q w in let x = ready link r in h.no_resubscribe q x.0 i k.1 x.1 goes (sym (same q k.0 (there_within is_waiting requests q k.1)) ∙ e);
      unpermitted = λ q link w r goes e. let k = waits q w in let x = ready link r in h.unpermitted q x.0 k.1 x.1 goes (sym (same q k.0 (there_within is_waiting requests q k.1)) ∙ e);
      no_permit = λ q link i w r none e. let k = waits q w in let x = ready link r in h.no_permit q x.0 i k.1 x.1 none (sym (same q k.0 (there_within is_waiting requests q k.1)) ∙ e);
      no_place = λ q i a e. let k = admits q a in h.no_place q i k.1 (sym (same q k.0 (there_within is_admitted requests q k.1)) ∙ e);
      seatless = λ q a e. let k = admits q a in h.seatless q k.1 (sym (same q k.0 (there_within is_admitted requests q k.1)) ∙ e);
      no_room = λ q i r e. let k = others q r in h.no_room q i k.2 (sym (same q k.0 k.1) ∙ e);
    }

-- who was told at its place
--
-- who was told and has not started is in the queue still
pub told_closed : (story : ℕ → Story) (requests : List Request) (number p : ℕ) (closed : ℕ → Story) (link after : LinkState) → (let n = name_at requests p in IsUntried (closed n) → IsUntried (story n)) → ((n : ℕ) → (closed n).link ≡ (story n).link)
    → ((q : ℕ) → is_told (story (name_at requests q)) ≡ true → IsIn q (queue_ids link.queue) → IsIn q (queue_ids after.queue)) → ((q : ℕ) → IsIn q (queue_ids after.queue) → IsIn q (queue_ids link.queue)) → AreQueued story requests number link
    → AreQueued (with_closed story requests p closed) (with_permits requests p progress.Closed 0) number after
told_closed story requests number p closed link after own same stays was_in h = record {
  told = λ n is none on.
      let was = chosen (λ (s : Story). IsUntried s → IsUntried (story n)) (name_at requests p == n) (closed n) (story n)
      (λ t. subst (λ m. IsUntried (closed m) → IsUntried (story m)) (eq_from (name_at requests p) n t) own)
      (λ f u. u) (is, none) in
      let k = h.told n was.0 was.1 (sym (closed_link story requests p closed n (same n)) ∙ on) in
      (k.0, subst (λ m. k.0 < m) (sym (length_with requests p progress.Closed 0)) k.1, name_with requests p progress.Closed 0 k.0 ∙ k.2, stays k.0 (subst (λ m. is_told (story m) ≡ true) (sym k.2) was.0) k.3);
  here = λ q i.
      let m = name_at requests q in
      ap (λ n. (with_closed story requests p closed n).link) (name_with requests p progress.Closed 0 q) ∙ closed_link story requests p closed m (same m) ∙ h.here q (was_in q i);
}

-- who is late
--
-- the story of another request stays
story_other : (table : List (Option Pending)) (story : ℕ → Story) (requests : List Request) (p q : ℕ) (closed : ℕ → Story) → TiedNames table requests → p < length requests → q < length requests → p ≢ q
    → with_closed story requests p closed (name_at (with_permits requests p progress.Closed 0) q) ≡ story (name_at requests q)
story_other table story requests p q closed names l m other =
    ap (with_closed story requests p closed) (name_with requests p progress.Closed 0 q)
    ∙ closed_other story requests p closed (name_at requests q) (λ same. other (same_name table requests p q names l m same))

-- the others that are late are to be answered still
pub late_closed : (table : List (Option Pending)) (story : ℕ → Story) (requests : List Request) (p : ℕ) (closed : ℕ → Story) (ps qs : List ℕ) → TiedNames table requests → p < length requests → ((q : ℕ) → p ≢ q → IsIn q ps → IsIn q qs) → AreLate story requests ps
    → AreLate (with_closed story requests p closed) (with_permits requests p progress.Closed 0) qs
late_closed table story requests p closed ps qs names l still h q o e =
    let k = with_then is_open_progress requests p q progress.Closed 0 refl l o in
    still q k.0 (h q k.1 (ap (λ (s : Story). s.overdue) (sym (story_other table story requests p q closed names l (there_within is_open_progress requests q k.1) k.0)) ∙ e))
