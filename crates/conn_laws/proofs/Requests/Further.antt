-- One more submission, and perhaps one more request.
use Rattle.std.proofs.Common.{◌≡◌, ◌≢◌, ◌⊎◌, ◌+◌, false, inl, inr, ℕ, zero, suc, ◌<◌, ◌≤◌, ◌==◌, nat_lt, Bool, true, List, [], ◌∷◌, ◌++◌, length, Option, Some, None, slice_get, refl, sym, ap, ◌∙◌, subst, arith, length-append, ◌^◌}
use Rattle.std.specs.List.{AllByRecursion}
use Rattle.containers.proofs.Places.{get_within}
use Rattle.containers.proofs.Choices.{by_test, chosen, not_both, eq_from, ne_from, lt_from, not_lt_from, taken_if}
use Rattle.driver_model.specs.declared.action.Owner.TheVariants as owner
use Rattle.driver_model.specs.declared.outcome.Shape.{Shape}
use Rattle.link_core.specs.declared.message.Entry.{Entry}
use Rattle.link_core.specs.declared.message.Queued.{Queued}
use Rattle.link_laws.proofs.Lists.{get_before, get_last}
use Rattle.link_laws.proofs.TiedLink.{SameNames, TiedLink, named_tied}
use Rattle.mux_conn.specs.declared.request.Pending.{Pending}
use Rattle.mux_conn.specs.declared.request.Progress.{Progress}
use Rattle.mux_conn.specs.declared.request.Request.{Request}
use Rattle.mux_conn.specs.declared.request.Waiting.{Waiting}
use Rattle.mux_conn.specs.Requests.{is_open as is_open_progress, is_waiting, is_admitted, is_placed, is_open_at, is_waiting_at, is_unbegun_at, is_admitted_at, is_placed_at, if_there, name_or_none, name_at, permits_or_none, permits_at}
use Rattle.mux_conn.specs.declared.again.Again.{Again}
use Rattle.mux_conn.specs.declared.life.Life.{Life}
use Rattle.mux_conn.specs.declared.life.Life.TheVariants.{Resting, Dialing, Ended, Ready, Wanting, SettingUp}
use Rattle.link_core.specs.Link.{LinkState}
use Rattle.link_laws.specs.Settles.{awaited_ids}
use Rattle.legal_trace.specs.Ledger.{Ledger, setup_count}
use Rattle.legal_trace.specs.Story.{Story, is_told, shape}
use Rattle.conn_laws.proofs.Ties.Numbers.{IsIn, Rising, is_own, below_own}
use Rattle.conn_laws.proofs.Links.Server.{setup_owners}
use Rattle.conn_laws.proofs.Ties.Tied.{carried, link_in, no_link, owner_of, owners_each, queue_ids, waiting_ids, whole_link, IsRequest, TiedStory, TiedTries, TiedNames, IsOf, IsQueued, IsEntry, IsPacked, AreQueued, AreLate, shown_wait, TiedWaits, TiedPermits, own_owner}
use Rattle.conn_laws.proofs.Ties.Permits.{held_same}
use Rattle.legal_trace.specs.Steps.{is_let_in, permits_held, permits_on}
use Rattle.driver_model.specs.declared.action.WaitKind.{WaitKind}
use Rattle.driver_model.specs.declared.action.WaitKind.TheVariants as wait
use Rattle.conn_laws.proofs.Requests.Closing.{IsUntried, one_of}
use Rattle.conn_laws.proofs.Ties.Names.{name_within, owner_below}

-- nothing stands beyond the end
pub get_beyond : {X : Type 0} (xs : List X) (n : ℕ) → length xs ≤ n → slice_get xs n ≡ None
get_beyond [] n l = refl
get_beyond (x ∷ xs) zero l = absurd (omega arith)
get_beyond (x ∷ xs) (suc n) l = get_beyond xs n (omega arith)

-- the same requests, and perhaps more
pub record IsLonger (requests more : List Request) : Type 0 where
  pub same : (p : ℕ) → p < length requests → slice_get more p ≡ slice_get requests p
  pub long : length requests ≤ length more

-- no request more
pub no_longer : (requests : List Request) → IsLonger requests requests
no_longer requests = record { same = λ p l. refl; long = omega arith }

-- one request more
pub one_longer : (requests : List Request) (r : Request) → IsLonger requests (requests ++ r ∷ [])
one_longer requests r = record { same = λ p l. get_before requests (r ∷ []) p l; long = omega (arith, length-append requests (r ∷ [])) }

-- names stay
pub name_longer : (requests more : List Request) (p : ℕ) → IsLonger requests more → p < length requests → name_at more p ≡ name_at requests p
name_longer requests more p h l = ap name_or_none (h.same p l)

-- and so does what each has come to
pub there_longer : (test : Progress → Bool) (requests more : List Request) (p : ℕ) → IsLonger requests more → p < length requests → if_there test (slice_get more p) ≡ if_there test (slice_get requests p)
there_longer test requests more p h l = ap (if_there test) (h.same p l)

-- and the permits that it holds
pub permits_at_longer : (requests more : List Request) (p : ℕ) → IsLonger requests more → p < length requests → permits_at more p ≡ permits_at requests p
permits_at_longer requests more p h l = ap permits_or_none (h.same p l)

-- what stands at a place is one of those before, or is new
pub before_or_new : (requests more : List Request) (p : ℕ) (P : Type 0) → (p < length requests → P) → (length requests ≤ p → P) → P
before_or_new requests more p P old new = by_test (nat_lt p (length requests)) P (λ t. old (lt_from p (length requests) t)) (λ f. new (not_lt_from p (length requests) f))

-- only the story of the next submission changes
abbrev pub SameBefore : (ℕ → Story) → (ℕ → Story) → ℕ → Type 0
SameBefore story after size = (n : ℕ) → n ≢ size → after n ≡ story n

-- the story of a request stays
pub story_at : (table : List (Option Pending)) (story after : ℕ → Story) (requests more : List Request) (p : ℕ) → TiedNames table requests → SameBefore story after (length table) → IsLonger requests more → p < length requests
    → after (name_at more p) ≡ story (name_at requests p)
story_at table story after requests more p names same h l = ap after (name_longer requests more p h l) ∙ same (name_at requests p) (λ e. absurd (let k = name_within table requests p names l in omega arith))

-- the stories, by the table
--
-- a request is the same
request_longer : (s : Story) (requests more : List Request) (link p : ℕ) → IsLonger requests more → p < length requests → IsRequest s requests link p → IsRequest s more link p
request_longer s requests more link p longer l h = record {
  what = h.what;
  handed_in = h.handed_in;
  in_time = h.in_time;
  spoken = h.spoken;
  on = λ o. h.on (sym (there_longer is_open_progress requests more p longer l) ∙ o);
  some = h.some;
  open_is = h.open_is ∙ sym (there_longer is_open_progress requests more p longer l);
  permits_is = h.permits_is ∙ sym (permits_at_longer requests more p longer l);
}

-- whatever the table has
story_longer : (table : List (Option Pending)) (s : Story) (requests more : List Request) (link n : ℕ) (x : Option (Option Pending)) → TiedNames table requests → IsLonger requests more → slice_get table n ≡ x → TiedStory s requests link x → TiedStory s more link x
story_longer table s requests more link n None names longer e h = h
story_longer table s requests more link n (Some None) names longer e h = h
story_longer table s requests more link n (Some (Some p)) names longer e h = let k = names.kept n p e in request_longer s requests more link p.number longer (get_within requests p.number k.0 k.1) h

-- each submission, with one more in the table
pub further_story : (table : List (Option Pending)) (story after : ℕ → Story) (requests more : List Request) (link : ℕ) (x : Option Pending) → TiedNames table requests → SameBefore story after (length table) → IsLonger requests more
    → ((n : ℕ) → TiedStory (story n) requests link (slice_get table n)) → TiedStory (after (length table)) more link (Some x) → (n : ℕ) → TiedStory (after n) more link (slice_get (table ++ x ∷ []) n)
further_story table story after requests more link x names same longer h new n =
    let here = TiedStory (after n) more link (slice_get (table ++ x ∷ []) n) in
    by_test (nat_lt n (length table)) here
    (λ t.
    let l = lt_from n (length table) t in
    subst (TiedStory (after n) more link) (sym (get_before table (x ∷ []) n l))
    (subst (λ (s : Story). TiedStory s more link (slice_get table n)) (sym (same n (λ e. absurd (omega arith)))) (story_longer table (story n) requests more link n (slice_get table n) names longer refl (h n))))
    (λ f.
    by_test (n == length table) here
    (λ t.
    let e = eq_from n (length table) t in
    subst (λ m. TiedStory (after m) more link (slice_get (table ++ x ∷ []) m)) (sym e) (subst (TiedStory (after (length table)) more link) (sym (get_last table x)) new))
    (λ o.
    let other = ne_from n (length table) o in
    let past = not_lt_from n (length table) f in
    let none : slice_get table n ≡ None = get_beyond table n past in
    let still : slice_get (table ++ x ∷ []) n ≡ None = get_beyond (table ++ x ∷ []) n (omega (arith, length-append table (x ∷ []))) in
    subst (TiedStory (after n) more link) (sym still) (same n other ∙ subst (TiedStory (story n) requests link) none (h n))))

-- the tries
--
-- the owners of starts stay
owner_longer : (requests more : List Request) (p : ℕ) → IsLonger requests more → (is_own p ≡ false → p < length requests) → owner_of more p ≡ owner_of requests p
owner_longer requests more p longer within = by_test (is_own p) _
    (λ t. taken_if (is_own p) (own_owner p) (owner.Try (name_at more p) 0) t ∙ sym (taken_if (is_own p) (own_owner p) (owner.Try (name_at requests p) 0) t))
    (λ f. owner_below more p f ∙ ap (λ n. owner.Try n 0) (name_longer requests more p longer (within f)) ∙ sym (owner_below requests p f))

-- of all starts
owners_longer : (requests more : List Request) (started : List ℕ) → IsLonger requests more → ((p : ℕ) → is_own p ≡ false → IsIn p started → p < length requests) → owners_each more started ≡ owners_each requests started
owners_longer requests more [] longer within = refl
owners_longer requests more (p ∷ ps) longer within = (λ i. owner_longer requests more p longer (λ other. within p other (inl refl)) i ∷ owners_longer requests more ps longer (λ q other j. within q other (inr j)) i)

-- and so do the tries
pub tries_longer : (table : List (Option Pending)) (l : Ledger) (story after : ℕ → Story) (requests more : List Request) (link : ℕ) (started : List ℕ) → TiedNames table requests → SameBefore story after (length table) → IsLonger requests more
    → length more ≤ 2 ^ 32 → ((p : ℕ) → is_own p ≡ false → IsIn p started → p < length requests) → ((k p : ℕ) → is_own p ≡ false → slice_get started k ≡ Some p → p < length requests) → ((p : ℕ) (r : Request) → slice_get more p ≡ Some r → length requests ≤ p → (after r.name).tries ≡ [])
    → TiedTries l story requests link started → TiedTries l after more link started
tries_longer table l story after requests more link started names same longer few within at new h = record {
  owners = λ plain. h.owners plain ∙ ap (setup_owners (setup_count l.starts)) (sym (owners_longer requests more started longer within));
  greeted = h.greeted;
  shapes = λ k p s inside i j. let was = at k p (numbered p inside) i in h.shapes k p s was i j ∙ ap shape (sym (story_at table story after requests more p names same longer was));
  tried = λ k p inside i. let was = at k p (numbered p inside) i in ap (λ (s : Story). s.tries) (story_at table story after requests more p names same longer was) ∙ h.tried k p was i;
  untried = λ p r i out on. before_or_new requests more p ((after r.name).tries ≡ [])
      (λ old.
      let was : slice_get requests p ≡ Some r = sym (longer.same p old) ∙ i in
      let in_table = get_within table r.name (Some (record { number = p })) (names.named p r was) in
      let still = same r.name (λ e. absurd (omega arith)) in
      ap (λ (s : Story). s.tries) still ∙ h.untried p r was out (sym (ap (λ (s : Story). s.link) still) ∙ on))
      (λ past. new p r i past);
}
  where
    numbered : (p : ℕ) → p < length more → is_own p ≡ false
    numbered p inside = below_own p (omega (arith, inside, few))

-- the lines
--
-- a story that is the same is of the same
of_longer : (s after : Story) (bytes : List ℕ) (of_shape : Shape) (awaited : Bool) → after ≡ s → IsOf s bytes of_shape awaited → IsOf after bytes of_shape awaited
of_longer s after bytes of_shape awaited e h = subst (λ (x : Story). IsOf x bytes of_shape awaited) (sym e) h

-- the messages of the queue stay
pub queue_longer : (table : List (Option Pending)) (story after : ℕ → Story) (requests more : List Request) (queue : List Queued) → TiedNames table requests → SameBefore story after (length table) → IsLonger requests more
    → ((p : ℕ) → IsIn p (queue_ids queue) → p < length requests) → AllByRecursion (IsQueued story requests) queue → AllByRecursion (IsQueued after more) queue
queue_longer table story after requests more [] names same longer within all = tt
queue_longer table story after requests more (q ∷ qs) names same longer within all =
    let l = within q.id (inl refl) in
    let e = story_at table story after requests more q.id names same longer l in (
      record {
        is_of = of_longer (story (name_at requests q.id)) (after (name_at more q.id)) q.packed q.shape q.awaited e all.0.is_of;
        placed_at = λ t. there_longer is_placed requests more q.id longer l ∙ all.0.placed_at t;
        told = λ f. ap (λ (s : Story). s.outcomes) e ∙ all.0.told f;
      },
      queue_longer table story after requests more qs names same longer (λ p i. within p (inr i)) all.1,
    )

-- and so do those that wait
pub packs_longer : (table : List (Option Pending)) (story after : ℕ → Story) (requests more : List Request) (waiting : List Waiting) → TiedNames table requests → SameBefore story after (length table) → IsLonger requests more
    → ((p : ℕ) → IsIn p (waiting_ids waiting) → p < length requests) → AllByRecursion (IsPacked story requests) waiting → AllByRecursion (IsPacked after more) waiting
packs_longer table story after requests more [] names same longer within all = tt
packs_longer table story after requests more (w ∷ ws) names same longer within all =
    let e = story_at table story after requests more w.number names same longer (within w.number (inl refl)) in (
      record {
        is_of = of_longer (story (name_at requests w.number)) (after (name_at more w.number)) w.packed w.shape w.awaited e all.0.is_of;
        time_is = all.0.time_is ∙ ap (λ (s : Story). s.timeout) (sym e);
      },
      packs_longer table story after requests more ws names same longer (λ p i. within p (inr i)) all.1,
    )

-- and the entries of a row
pub entries_longer : (requests more : List Request) (row : List Entry) → IsLonger requests more → AllByRecursion (IsEntry requests) row → AllByRecursion (IsEntry more) row
entries_longer requests more [] longer all = tt
entries_longer requests more (e ∷ es) longer all = (
  elim all.0 [
    | inl r ↦ inl (record { below = (let l = r.below in let m = longer.long in omega arith); placed_at = λ t. there_longer is_placed requests more e.id longer r.below ∙ r.placed_at t })
    | inr a ↦ inr a
  ],
  entries_longer requests more es longer all.1,
)

-- the owners of a row's messages are the same
pub owners_of_row : (requests more : List Request) (row : List Entry) → IsLonger requests more → AllByRecursion (IsEntry requests) row → SameNames (owner_of requests) (owner_of more) row
owners_of_row requests more [] longer all = tt
owners_of_row requests more (e ∷ es) longer all = (sym (owner_longer requests more e.id longer (λ other. elim all.0 [ inl r ↦ r.below | inr a ↦ absurd (not_both (is_own e.id) other a.is) ])), owners_of_row requests more es longer all.1)

-- so the link is tied
pub link_longer : (l : Ledger) (requests more : List Request) (life : Life) → IsLonger requests more → AllByRecursion (IsEntry requests) (link_in life).row → TiedLink (carried life requests) l (whole_link life) → TiedLink (carried life more) l (whole_link life)
link_longer l requests more Resting longer all h = named_tied (owner_of requests) (owner_of more) l no_link tt h
link_longer l requests more Dialing longer all h = named_tied (owner_of requests) (owner_of more) l no_link tt h
link_longer l requests more (Wanting link) longer all h = h
link_longer l requests more (SettingUp link greeting) longer all h = h
link_longer l requests more (Ready link) longer all h = named_tied (owner_of requests) (owner_of more) l link (owners_of_row requests more link.row longer all) h
link_longer l requests more (Ended e) longer all h = named_tied (owner_of requests) (owner_of more) l no_link tt h

-- who was told and has not started is in the queue still
pub told_longer : (table : List (Option Pending)) (story after : ℕ → Story) (requests more : List Request) (number : ℕ) (link : LinkState) → TiedNames table requests → SameBefore story after (length table) → IsLonger requests more → (IsUntried (after (length table)) → ⊥)
    → ((p : ℕ) → IsIn p (queue_ids link.queue) → p < length requests) → AreQueued story requests number link → AreQueued after more number link
told_longer table story after requests more number link names same longer new within h = record {
  told = λ n is none on. by_test (n == length table) _
      (λ t. absurd (new (subst (λ m. IsUntried (after m)) (eq_from n (length table) t) (is, none))))
      (λ f.
      let e = same n (ne_from n (length table) f) in
      let k = h.told n (ap is_told (sym e) ∙ is) (ap (λ (s : Story). s.tries) (sym e) ∙ none) (ap (λ (s : Story). s.link) (sym e) ∙ on) in
      (k.0, (let l = k.1 in let m = longer.long in omega arith), name_longer requests more k.0 longer k.1 ∙ k.2, k.3));
  here = λ p i. ap (λ (s : Story). s.link) (story_at table story after requests more p names same longer (within p i)) ∙ h.here p i;
}

-- the waits
--
-- numbers that rise below a bound do so below a greater one
rising_below : (lo hi high : ℕ) (xs : List ℕ) → hi ≤ high → Rising lo xs hi → Rising lo xs high
rising_below lo hi high [] l h = omega arith
rising_below lo hi high (x ∷ xs) l h = (h.0, rising_below (suc x) hi high xs l h.1)

-- what was shown of a request's wait stays
pub shown_longer : (table : List (Option Pending)) (story after : ℕ → Story) (requests more : List Request) (p : ℕ) → TiedNames table requests → SameBefore story after (length table) → IsLonger requests more → p < length requests
    → shown_wait after more p ≡ shown_wait story requests p
shown_longer table story after requests more p names same longer l = ap (λ (s : Story). s.waiting) (story_at table story after requests more p names same longer l)

-- a request more waits for the connection, and is the one of this turn; nothing is shown of its wait, it holds no
-- permits and has no timer, its time isn't over, and its round has not begun
pub record IsNext (after : ℕ → Story) (requests more : List Request) (later : List ℕ) : Type 0 where
  pub newer : Rising 0 later (length more)
  pub only : (p : ℕ) → IsIn p later → length requests ≤ p
  pub shown : (p : ℕ) → is_waiting_at more p ≡ true → length requests ≤ p → (shown_wait after more p ≡ None) × IsIn p later
  pub none : (p : ℕ) → (is_admitted_at more p ≡ true) ⊎ (is_placed_at more p ≡ true) → length requests ≤ p → ⊥
  pub free : (p : ℕ) → is_waiting_at more p ≡ true → length requests ≤ p → (permits_at more p ≡ 0) × ((after (name_at more p)).clock ≡ None)
  pub early : (p : ℕ) → is_open_at more p ≡ true → length requests ≤ p → (after (name_at more p)).overdue ≡ false
  pub unbegun : (p : ℕ) → is_unbegun_at more p ≡ true → length requests ≤ p → ((after (name_at more p)).rounded ≡ false) × IsIn p later
  pub begun : (p : ℕ) → is_open_at more p ≡ true → is_unbegun_at more p ≡ false → length requests ≤ p → ⊥

-- nothing is no wait
pub no_wait : (x : Option WaitKind) (kind : WaitKind) → x ≡ None → x ≢ Some kind
no_wait x kind none e = let no : ◌≡◌ {A = Option WaitKind} None (Some kind) = sym none ∙ e in cc

-- so the waits stay
pub waits_longer : (table : List (Option Pending)) (story after : ℕ → Story) (requests more : List Request) (a : Again) (life : Life) (fresh later moved : List ℕ) → TiedNames table requests → SameBefore story after (length table) → IsLonger requests more
    → ((p : ℕ) → IsIn p (awaited_ids (link_in life).queue) → p < length requests) → fresh ≡ [] → IsNext after requests more later → TiedWaits story requests a life fresh moved → TiedWaits after more a life later moved
waits_longer table story after requests more a life fresh later moved names same longer within no_fresh next h =
    let still : (p : ℕ) → p < length requests → shown_wait after more p ≡ shown_wait story requests p = λ p l. shown_longer table story after requests more p names same longer l in
    let was : (p : ℕ) → p < length requests → is_waiting_at more p ≡ true → is_waiting_at requests p ≡ true = λ p l w. sym (there_longer is_waiting requests more p longer l) ∙ w in
    let old_one : (p : ℕ) → IsIn p fresh → ⊥ = λ p i. subst (IsIn p) no_fresh i in
    record {
      early = λ p w. before_or_new requests more p _
          (λ old. one_of (shown_wait after more p) (shown_wait story requests p) (still p old) (h.early p (was p old w)))
          (λ past. inl (next.shown p w past).0);
      backoff = λ p w d. before_or_new requests more p _
          (λ old. elim (h.backoff p (was p old w) d) [ inl i ↦ absurd (old_one p i) | inr e ↦ inr (still p old ∙ e) ])
          (λ past. inl (next.shown p w past).1);
      connect = λ p w d. before_or_new requests more p _
          (λ old. elim (h.connect p (was p old w) d) [ inl i ↦ absurd (old_one p i) | inr e ↦ inr (still p old ∙ e) ])
          (λ past. inl (next.shown p w past).1);
      creds = λ p link w r. before_or_new requests more p _
          (λ old. elim (h.creds p link (was p old w) r) [ inl i ↦ absurd (old_one p i) | inr e ↦ inr (still p old ∙ e) ])
          (λ past. inl (next.shown p w past).1);
      setup = λ p link u w r. before_or_new requests more p _
          (λ old. elim (h.setup p link u (was p old w) r) [ inl i ↦ absurd (old_one p i) | inr e ↦ inr (still p old ∙ e) ])
          (λ past. inl (next.shown p w past).1);
      resubscribe = λ p link w r goes. before_or_new requests more p _
          (λ old. elim (h.resubscribe p link (was p old w) r goes) [ inl i ↦ absurd (old_one p i) | inr e ↦ inr (still p old ∙ e) ])
          (λ past. inl (next.shown p w past).1);
      permit = λ p link w r none. before_or_new requests more p _
          (λ old. elim (h.permit p link (was p old w) r none) [ inl i ↦ absurd (old_one p i) | inr e ↦ inr (still p old ∙ e) ])
          (λ past. inl (next.shown p w past).1);
      place = λ p a. before_or_new requests more p _
          (λ old. elim (h.place p (sym (there_longer is_admitted requests more p longer old) ∙ a)) [ inl i ↦ inl i | inr e ↦ inr (still p old ∙ e) ])
          (λ past. absurd (next.none p (inl a) past));
      room = λ p i. elim (h.room p i) [ inl j ↦ inl j | inr e ↦ inr (still p (within p i) ∙ e) ];
      newer = next.newer;
      rising = rising_below 0 (length requests) (length more) moved longer.long h.rising;
      no_backoff = λ p i w d. (next.shown p w (next.only p i)).0;
      no_connect = λ p i w d. no_wait (shown_wait after more p) wait.Connect (next.shown p w (next.only p i)).0;
      no_creds = λ p link i w r. no_wait (shown_wait after more p) wait.Creds (next.shown p w (next.only p i)).0;
      no_setup = λ p link u i w r. no_wait (shown_wait after more p) wait.Setup (next.shown p w (next.only p i)).0;
      no_resubscribe = λ p link i w r goes. no_wait (shown_wait after more p) wait.Resubscribe (next.shown p w (next.only p i)).0;
      unpermitted = λ p link w r goes. before_or_new requests more p _
          (λ old e. h.unpermitted p link (was p old w) r goes (sym (still p old) ∙ e))
          (λ past. no_wait (shown_wait after more p) wait.Permit (next.shown p w past).0);
      no_permit = λ p link i w r none. no_wait (shown_wait after more p) wait.Permit (next.shown p w (next.only p i)).0;
      seatless = λ p a. before_or_new requests more p _
          (λ old e. h.seatless p (sym (there_longer is_admitted requests more p longer old) ∙ a) (sym (still p old) ∙ e))
          (λ past. absurd (next.none p (inl a) past));
      no_place = λ p i a. before_or_new requests more p _
          (λ old e. h.no_place p i (sym (there_longer is_admitted requests more p longer old) ∙ a) (sym (still p old) ∙ e))
          (λ past. absurd (next.none p (inl a) past));
      no_room = λ p i r e. h.no_room p i r (sym (still p (within p r)) ∙ e);
    }

-- and the permits, where the next submission holds none
pub permits_longer : (table : List (Option Pending)) (story after : ℕ → Story) (submissions : ℕ) (requests more : List Request) (link : ℕ) (limit : Option ℕ) (free : ℕ) (later : List ℕ) → TiedNames table requests → SameBefore story after (length table)
    → IsLonger requests more → submissions ≡ length table → (after (length table)).permits ≡ 0 → IsNext after requests more later → TiedPermits story submissions requests link limit free [] → TiedPermits after (submissions + 1) more link limit free []
permits_longer table story after submissions requests more link limit free later names same longer size none next h = record {
  counted = λ k e.
      let sum = held_same story after link submissions (λ m less. ap (permits_on link) (same m (λ x. absurd (omega arith)))) in
      let last : permits_on link (after submissions) ≡ 0 = ap (λ m. permits_on link (after m)) size ∙ none_on (after (length table)) none in
      let one : submissions + 1 ≡ suc submissions = omega arith in
      let all : permits_held after link (submissions + 1) ≡ permits_held after link (suc submissions) = ap (permits_held after link) one in
      let was = h.counted k e in
      omega arith;
  none = λ p w out. before_or_new requests more p _
      (λ old.
      let k = h.none p (sym (there_longer is_waiting requests more p longer old) ∙ w) out in
      (permits_at_longer requests more p longer old ∙ k.0, ap (λ (s : Story). s.clock) (story_at table story after requests more p names same longer old) ∙ k.1))
      (λ past. next.free p w past);
  let_in = λ p e. before_or_new requests more p _
      (λ old. ap (is_let_in limit) (story_at table story after requests more p names same longer old) ∙ h.let_in p (elim e [
        | inl a ↦ inl (sym (there_longer is_admitted requests more p longer old) ∙ a)
        | inr a ↦ inr (sym (there_longer is_placed requests more p longer old) ∙ a)
      ]))
      (λ past. absurd (next.none p e past));
}
  where
    none_on : (s : Story) → s.permits ≡ 0 → permits_on link s ≡ 0
    none_on s e = chosen (λ n. n ≡ 0) (s.link == link) s.permits 0 (λ t. e) (λ f. refl)

-- and nobody is late
pub late_longer : (table : List (Option Pending)) (story after : ℕ → Story) (requests more : List Request) (later : List ℕ) → TiedNames table requests → SameBefore story after (length table) → IsLonger requests more → IsNext after requests more later
    → AreLate story requests [] → AreLate after more []
late_longer table story after requests more later names same longer next h p o e =
    before_or_new requests more p _
    (λ old. h p (sym (there_longer is_open_progress requests more p longer old) ∙ o) (ap (λ (s : Story). s.overdue) (sym (story_at table story after requests more p names same longer old)) ∙ e))
    (λ past. not_both (after (name_at more p)).overdue (next.early p o past) e)
