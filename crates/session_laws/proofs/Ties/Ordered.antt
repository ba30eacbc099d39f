-- Which requests are ahead of new credentials, by the connection and by the book.
use Rattle.std.proofs.Common.{◌≡◌, inl, inr, ℕ, suc, ◌-◌, ◌<◌, ◌≤◌, ◌==◌, nat_lt, true, false, ◌&&◌, ◌||◌, List, [], ◌∷◌, ◌++◌, length, Option, Some, slice_get, refl, sym, ap, ◌∙◌, subst, arith}
use Rattle.containers.proofs.Choices.{by_test, both_left, both_right, eq_from, eq_test, not_lt_from, not_both}
use Rattle.containers.proofs.Places.{get_within}
use Rattle.driver_model.specs.declared.action.Action.{Action}
use Rattle.driver_model.specs.declared.action.Action.TheVariants as action
use Rattle.driver_model.specs.declared.action.Cause.TheVariants as cause
use Rattle.link_core.specs.Link.{LinkState, is_first_up_to, is_up_to, last_in}
use Rattle.mux_conn.specs.declared.life.Life.{Life}
use Rattle.mux_conn.specs.declared.life.Life.TheVariants.{Ready}
use Rattle.mux_conn.specs.declared.renewal.Renewal.{Renewal}
use Rattle.mux_conn.specs.declared.request.Pending.{Pending}
use Rattle.mux_conn.specs.Connection.{is_due as is_renewal_due, is_ready}
use Rattle.mux_conn.specs.Requests.{name_at}
use Rattle.single_session.specs.declared.core_state.Core.{Core}
use Rattle.legal_trace.specs.Book.{Book, book, entered, entered_each}
use Rattle.legal_trace.specs.Legal.{AllStand, CanMove}
use Rattle.legal_trace.specs.Steps.{any_below, is_ahead, is_taken_before}
use Rattle.legal_trace.specs.Story.{Story, has_place, is_room, is_told, is_unstarted}
use Rattle.legal_trace.proofs.Ahead.{ahead_is_on, ahead_is_placed, ahead_moves, any_from}
use Rattle.legal_laws.proofs.Internal.Since.{SinceBegun}
use Rattle.legal_laws.proofs.Submissions.ByPlace.{turns_each}
use Rattle.legal_laws.proofs.Submissions.InLine.{is_to_start, stays_out}
use Rattle.legal_laws.proofs.Submissions.Places.{Knows, turns_grow}
use Rattle.conn_laws.proofs.Ties.Ahead.{admitted_open, not_room, queue_awaited}
use Rattle.conn_laws.proofs.Changes.Requests.{waiting_open}
use Rattle.session_laws.proofs.Ties.Ahead.{open_told}
use Rattle.conn_laws.proofs.Ties.InLine.{kept_ids, kept_in}
use Rattle.conn_laws.proofs.Ties.Moves.{or_true}
use Rattle.session_laws.proofs.Ties.Moves.{IsLater, later_of}
use Rattle.conn_laws.proofs.Ties.Names.{name_placed}
use Rattle.conn_laws.proofs.Ties.Numbers.{IsIn, Rising, requests_in, rising_in, rising_right, rising_within}
use Rattle.conn_laws.proofs.Ties.Places.{place_of_taken, taken_still}
use Rattle.session_laws.proofs.Ties.Places.{places_stay, untaken}
use Rattle.conn_laws.proofs.Ties.Tied.{IsKept, has_ended, link_in, queue_ids}
use Rattle.session_laws.proofs.Ties.Tied.{TurnState, Tied}
use Rattle.conn_laws.proofs.Ties.Ordered.{behind_queue, early_unroomed, last_in_queue, none_up_to, number_in, queue_up_to}

-- of the requests of a session that are to start on its link, those up to this one took their places before new credentials of the link
-- became due; and that is a request
pub record AreOrdered (b : Book) (l : ℕ) (table : List (Option Pending)) (last : Option ℕ) : Type 0 where
  pub known : (k : ℕ) → last ≡ Some k → (n : ℕ) × (slice_get table n ≡ Some (Some (record { number = k })))
  pub ahead : (n k : ℕ) → slice_get table n ≡ Some (Some (record { number = k })) → is_to_start l (b.story n) ≡ true → is_taken_before (b.since l) (b.placed n) ≡ is_up_to last k

-- so it is where new credentials are to be told
abbrev pub IsOrdered : Book → ℕ → List (Option Pending) → Life → Renewal → Type 0
IsOrdered b l table life r = is_ready life ≡ true → r.pending ≡ true → r.lost ≡ false → AreOrdered b l table r.last

-- of a session behind this trace
abbrev pub IsOrderedBy : List Action → Core → Type 0
IsOrderedBy trace c = IsOrdered (book trace) c.single.link c.table c.single.connection.life c.single.connection.renewal

-- before new credentials are to be told: so it is where they were already; and where they are new, all who have a place took it before
pub record StaysOrdered (b : Book) (l : ℕ) (table : List (Option Pending)) (r : Renewal) : Type 0 where
  pub ordered : r.pending ≡ true → r.lost ≡ false → AreOrdered b l table r.last
  pub before : r.pending ≡ false → is_renewal_due r ≡ true → (n j : ℕ) → is_to_start l (b.story n) ≡ true → b.placed n ≡ Some j → j < b.since l

-- places that were taken
--
-- who is in the queue has its place, where none was moved
pub queue_placed : (b : Book) (t : TurnState) (p : ℕ) → Tied b t → t.moved ≡ [] → IsIn p (queue_ids (link_in t.life).queue) → has_place (b.story (name_at t.requests p)) ≡ true
queue_placed b t p h none i =
    let s : Story = b.story (name_at t.requests p) in
    elim (queue_awaited b.story t.requests (link_in t.life).queue p h.lines.queued i) [
      | inl j ↦ elim (h.waits.room p j) [
        | inl moved ↦ absurd (subst (IsIn p) none moved)
        | inr shown ↦ ap (λ x. is_room x || is_told s) shown
      ]
      | inr told ↦ ap (λ x. is_room s.waiting || x) told ∙ or_true (is_room s.waiting)
    ]

-- and who waits so, or for a place, has none
pub kept_unplaced : (b : Book) (t : TurnState) (p : ℕ) → Tied b t → IsKept t.requests t.waiting t.admitted p → has_place (b.story (name_at t.requests p)) ≡ false
kept_unplaced b t p h (inl a) =
    let s : Story = b.story (name_at t.requests p) in
    λ i. not_room s.waiting (h.waits.seatless p a.0) i || open_told b t p h (admitted_open t.requests p a.0).0 i
kept_unplaced b t p h (inr w) =
    let s : Story = b.story (name_at t.requests p) in
    λ i. early_unroomed s.waiting (h.waits.early p w.0) i || open_told b t p h (waiting_open t.requests p w.0) i

-- who is to start on the link of a session that has not ended is a request, in the queue, or one that waits
pub start_later : (b : Book) (t : TurnState) (n : ℕ) → Tied b t → t.pending ≡ [] → has_ended t.life ≡ false → is_to_start t.link (b.story n) ≡ true → IsLater t n
start_later b t n h none up to = later_of b t n h none up
    (eq_from (b.story n).link t.link (both_left ((b.story n).link == t.link) (is_unstarted (b.story n)) to)) (both_right ((b.story n).link == t.link) (is_unstarted (b.story n)) to)

-- the last of a queue
--
-- the line of a session, from the queue on
pub queue_line : (b : Book) (t : TurnState) → Tied b t → Rising 0 (queue_ids (link_in t.life).queue ++ kept_ids t.admitted t.waiting) (length t.requests)
queue_line b t h = rising_right 0 (requests_in t.started) (queue_ids (link_in t.life).queue ++ kept_ids t.admitted t.waiting) (length t.requests) h.lines.line

-- the number of a request is that of its submission
pub number_of : (b : Book) (t : TurnState) (n k : ℕ) → Tied b t → (x : IsLater t n) → slice_get t.table n ≡ Some (Some (record { number = k })) → x.p ≡ k
number_of b t n k h x e =
    let own : slice_get t.table n ≡ Some (Some (record { number = x.p })) = subst (λ m. slice_get t.table m ≡ Some (Some (record { number = x.p }))) x.name (name_placed t.table t.requests x.p h.names x.within) in
    same_number x.p k (sym own ∙ e)
  where
    same_number : (m j : ℕ) → ◌≡◌ {A = Option (Option Pending)} (Some (Some (record { number = m }))) (Some (Some (record { number = j }))) → m ≡ j
    same_number m j e = ap number_in e

-- they are asked for
--
-- all that are in the queue then are ahead of them, where they took their places before
pub asked_ordered : (b : Book) (t : TurnState) (link : LinkState) → Tied b t → Knows b → t.pending ≡ [] → t.moved ≡ [] → t.life ≡ Ready link
    → ((n j : ℕ) → is_to_start t.link (b.story n) ≡ true → b.placed n ≡ Some j → j < b.since t.link) → AreOrdered b t.link t.table (last_in link.queue)
asked_ordered b t link h k settled none life before = record {
  known = λ p e.
      let i : IsIn p (queue_ids (link_in t.life).queue) = subst (λ (x : Life). IsIn p (queue_ids (link_in x).queue)) (sym life) (last_in_queue link.queue p e) in
      let within = rising_in 0 (queue_ids (link_in t.life).queue ++ kept_ids t.admitted t.waiting) (length t.requests) p (queue_line b t h) (in_first p (queue_ids (link_in t.life).queue) (kept_ids t.admitted t.waiting) i) in
      (name_at t.requests p, name_placed t.table t.requests p h.names within.1);
  ahead = λ n p e to.
      let x : IsLater t n = start_later b t n h settled (ap has_ended life) to in
      let same : x.p ≡ p = number_of b t n p h x e in
      let line : Rising 0 (queue_ids link.queue ++ kept_ids t.admitted t.waiting) (length t.requests) = subst (λ (y : Life). Rising 0 (queue_ids (link_in y).queue ++ kept_ids t.admitted t.waiting) (length t.requests)) life (queue_line b t h) in
      elim x.later [
        | inl i ↦
            let had = k.places.since n (ap (λ m. has_place (b.story m)) (sym x.name) ∙ queue_placed b t x.p h none i) in
            ap (is_taken_before (b.since t.link)) had.1 ∙ lt_is had.0 (b.since t.link) (before n had.0 to had.1)
            ∙ sym (queue_up_to link.queue 0 (length t.requests) p (rising_front (queue_ids link.queue) (kept_ids t.admitted t.waiting) 0 (length t.requests) line) (subst (λ m. IsIn m (queue_ids link.queue)) same (subst (λ (y : Life). IsIn x.p (queue_ids (link_in y).queue)) life i)))
        | inr w ↦
            ap (is_taken_before (b.since t.link)) (untaken b n k (ap (λ m. has_place (b.story m)) (sym x.name) ∙ kept_unplaced b t x.p h w))
            ∙ sym (behind_queue link.queue 0 (length t.requests) p (kept_ids t.admitted t.waiting) line (subst (λ m. IsIn m (kept_ids t.admitted t.waiting)) same (kept_in t.requests t.waiting t.admitted x.p w)))
      ];
}
  where
    lt_is : (m j : ℕ) → m < j → nat_lt m j ≡ true
    lt_is m j less = by_test (nat_lt m j) (nat_lt m j ≡ true) (λ t. t) (λ f. absurd (let most : j ≤ m = not_lt_from m j f in omega (arith, less, most)))

    in_first : (p : ℕ) (xs ys : List ℕ) → IsIn p xs → IsIn p (xs ++ ys)
    in_first p [] ys i = absurd i
    in_first p (x ∷ xs) ys (inl e) = inl e
    in_first p (x ∷ xs) ys (inr i) = inr (in_first p xs ys i)

    rising_front : (xs ys : List ℕ) (lo hi : ℕ) → Rising lo (xs ++ ys) hi → Rising lo xs hi
    rising_front [] ys lo hi r = rising_within lo ys hi r
    rising_front (x ∷ xs) ys lo hi r = (r.0, rising_front xs ys (suc x) hi r.1)

-- behind further actions
--
-- since when they are due changes with a turn alone
since_action : (b : Book) (a : Action) (l : ℕ) → (entered b a).turns ≡ b.turns → (entered b a).since l ≡ b.since l
since_action b (action.Turn k (cause.Event e)) l same = absurd (omega (arith, same))
since_action b (action.Turn k (cause.Opening config word)) l same = refl
since_action b _ l same = refl

pub since_same : (b : Book) (front : List Action) (l : ℕ) → (entered_each b front).turns ≡ b.turns → (entered_each b front).since l ≡ b.since l
since_same b [] l same = refl
since_same b (a ∷ more) l same =
    let one : b.turns ≤ (entered b a).turns = turns_grow b a in
    let rest : (entered b a).turns ≤ (entered_each (entered b a) more).turns = turns_each (entered b a) more in
    let here : (entered b a).turns ≡ b.turns = omega (arith, one, rest, same) in
    since_same (entered b a) more l (same ∙ sym here) ∙ since_action b a l here

-- so who is ahead of them is
pub ordered_on : (b : Book) (front : List Action) (l : ℕ) (table : List (Option Pending)) (last : Option ℕ) → AllStand b front → Knows b → SinceBegun b → l < b.links → length table ≤ b.submissions → (entered_each b front).since l ≡ b.since l
    → AreOrdered b l table last → AreOrdered (entered_each b front) l table last
ordered_on b front l table last all k begun asked counted same h = record {
  known = h.known;
  ahead = λ n p e to.
      let c : Book = entered_each b front in
      let within : n < length table = get_within table n (Some (record { number = p })) e in
      let before : is_to_start l (b.story n) ≡ true = by_test (is_to_start l (b.story n)) (is_to_start l (b.story n) ≡ true) (λ x. x)
      (λ f. absurd (stays_out b front all l n asked (omega (arith, within, counted)) (λ x. not_both (is_to_start l (b.story n)) f x) to)) in
      ap (λ s. is_taken_before s (c.placed n)) same ∙ taken_still (b.turns - 1) (b.since l) (b.placed n) (c.placed n) (begun l) (places_stay b front l n all k asked to) ∙ h.ahead n p e before;
}

-- nobody is ahead of them, where the first of the queue isn't
pub none_ahead : (b : Book) (t : TurnState) (link : LinkState) (last : Option ℕ) → Tied b t → Knows b → t.pending ≡ [] → t.life ≡ Ready link → AreOrdered b t.link t.table last → is_first_up_to last link.queue ≡ false → any_below (is_ahead b t.link) b.submissions ≡ false
none_ahead b t link last h k settled life ordered none = by_test (any_below (is_ahead b t.link) b.submissions) (any_below (is_ahead b t.link) b.submissions ≡ false)
    (λ some.
    let x = any_from (is_ahead b t.link) b.submissions some in
    let n : ℕ = x.0 in
    let moves : CanMove b n = ahead_moves b t.link n x.2 in
    let placed = ahead_is_placed b t.link n x.2 in
    let to : is_to_start t.link (b.story n) ≡ true = λ i. eq_test (b.story n).link t.link (ahead_is_on b t.link n x.2) i && moves.unstarted i in
    let y : IsLater t n = start_later b t n h settled (ap has_ended life) to in
    let entry : slice_get t.table n ≡ Some (Some (record { number = y.p })) = subst (λ m. slice_get t.table m ≡ Some (Some (record { number = y.p }))) y.name (name_placed t.table t.requests y.p h.names y.within) in
    let up : is_up_to last y.p ≡ true = sym (ordered.ahead n y.p entry to) ∙ placed in
    absurd (elim y.later [
      | inl i ↦ not_both (is_up_to last y.p) (none_up_to last link.queue 0 (length t.requests) y.p (queue_rising link) none (subst (λ (z : Life). IsIn y.p (queue_ids (link_in z).queue)) life i)) up
      | inr w ↦
          let at = place_of_taken (b.since t.link) (b.placed n) placed in
          not_both (has_place (b.story n)) (ap (λ m. has_place (b.story m)) (sym y.name) ∙ kept_unplaced b t y.p h w) (k.places.has n at.0 at.1)
    ]))
    (λ f. f)
  where
    front : (xs ys : List ℕ) (lo hi : ℕ) → Rising lo (xs ++ ys) hi → Rising lo xs hi
    front [] ys lo hi r = rising_within lo ys hi r
    front (x ∷ xs) ys lo hi r = (r.0, front xs ys (suc x) hi r.1)

    queue_rising : (x : LinkState) → Rising 0 (queue_ids link.queue) (length t.requests)
    queue_rising x = subst (λ (y : Life). Rising 0 (queue_ids (link_in y).queue) (length t.requests)) life (front (queue_ids (link_in t.life).queue) (kept_ids t.admitted t.waiting) 0 (length t.requests) (queue_line b t h))
