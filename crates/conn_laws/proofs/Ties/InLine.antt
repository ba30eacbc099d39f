-- The line that open requests stand in: those to be answered, those whose messages take items, those in the queue, and
-- those that wait for a place.
use Rattle.std.proofs.Common.{◌≡◌, inl, inr, ℕ, zero, suc, ◌≤◌, Bool, true, false, List, [], ◌∷◌, ◌++◌, length, Some, slice_get, if◌then◌else◌, sym, subst, append_assoc, arith}
use Rattle.legal_trace.specs.Story.{Story}
use Rattle.link_core.specs.declared.message.Entry.{Entry}
use Rattle.link_core.specs.declared.message.Queued.{Queued}
use Rattle.link_core.specs.Link.{LinkState}
use Rattle.link_laws.specs.Settles.{wanted, awaited_ids}
use Rattle.mux_conn.specs.declared.request.Request.{Request}
use Rattle.mux_conn.specs.declared.request.Waiting.{Waiting}
use Rattle.mux_conn.specs.Requests.{is_open_at}
use Rattle.conn_laws.proofs.Ties.Numbers.{IsIn, in_left, in_right, in_either, requests_in, Rising, rising_from, rising_in, rising_right, is_own}
use Rattle.conn_laws.proofs.Ties.Tied.{queue_ids, waiting_ids, IsKept, TiedLines}

-- who the entries of a row are of
abbrev pub row_ids : List Entry → List ℕ
row_ids [] = []
row_ids (e ∷ es) = e.id ∷ row_ids es

-- those that wait for a place, and then those that wait for the connection
abbrev pub kept_ids : List Waiting → List Waiting → List ℕ
kept_ids admitted waiting = waiting_ids admitted ++ waiting_ids waiting

-- the line of a link's messages, of those that wait for a place, and of those that wait for the connection
abbrev pub line_of : LinkState → List Waiting → List Waiting → List ℕ
line_of link admitted waiting = requests_in (wanted link.row) ++ (queue_ids link.queue ++ kept_ids admitted waiting)

-- it rises, behind those that are to be answered
abbrev pub IsInLine : List Request → LinkState → List Waiting → List Waiting → List ℕ → Type 0
IsInLine requests link admitted waiting pending = Rising 0 (pending ++ line_of link admitted waiting) (length requests)

-- what a choice of one has
pub chosen_in : (b : Bool) (n m : ℕ) → IsIn n (if b then m ∷ [] else []) → m ≡ n
chosen_in true n m i = elim i [ inl e ↦ e | inr k ↦ absurd k ]
chosen_in false n m i = absurd i

-- an awaited message of a queue is one of the queue
pub awaited_in : (n : ℕ) (queue : List Queued) → IsIn n (awaited_ids queue) → IsIn n (queue_ids queue)
awaited_in n [] i = i
awaited_in n (q ∷ qs) i = elim (in_either n (if q.awaited then q.id ∷ [] else []) (awaited_ids qs) i) [ inl j ↦ inl (chosen_in q.awaited n q.id j) | inr j ↦ inr (awaited_in n qs j) ]

-- a wanted message of a row is one of the row
pub wanted_in : (n : ℕ) (row : List Entry) → IsIn n (wanted row) → IsIn n (row_ids row)
wanted_in n [] i = i
wanted_in n (e ∷ es) i = elim (in_either n (if e.awaited then e.id ∷ [] else []) (wanted es) i) [ inl j ↦ inl (chosen_in e.awaited n e.id j) | inr j ↦ inr (wanted_in n es j) ]

-- one that is kept is one of those that wait
pub kept_in : (requests : List Request) (waiting admitted : List Waiting) (p : ℕ) → IsKept requests waiting admitted p → IsIn p (kept_ids admitted waiting)
kept_in requests waiting admitted p (inl a) = in_left p (waiting_ids admitted) (waiting_ids waiting) a.1
kept_in requests waiting admitted p (inr w) = in_right p (waiting_ids admitted) (waiting_ids waiting) w.1

-- each open request is in the line
pub open_in_line : (story : ℕ → Story) (requests : List Request) (link : LinkState) (waiting admitted : List Waiting) (pending started : List ℕ) (p : ℕ) → TiedLines story requests link waiting admitted pending started
    → is_open_at requests p ≡ true → IsIn p (pending ++ line_of link admitted waiting)
open_in_line story requests link waiting admitted pending started p h e =
    let rows = requests_in (wanted link.row) in
    let queue = queue_ids link.queue in
    let last = kept_ids admitted waiting in
    elim (h.there p e) [
      | inl i ↦ elim (in_either p pending (rows ++ awaited_ids link.queue) i) [
        | inl j ↦ in_left p pending (rows ++ (queue ++ last)) j
        | inr j ↦ in_right p pending (rows ++ (queue ++ last)) (elim (in_either p rows (awaited_ids link.queue) j) [
          | inl k ↦ in_left p rows (queue ++ last) k
          | inr k ↦ in_right p rows (queue ++ last) (in_left p queue last (awaited_in p link.queue k))
        ])
      ]
      | inr w ↦ in_right p pending (rows ++ (queue ++ last)) (in_right p rows (queue ++ last) (in_right p queue last (kept_in requests waiting admitted p w)))
    ]

-- none is before the first of a line
pub first_is_least : (lo q : ℕ) (xs : List ℕ) (hi p : ℕ) → Rising lo (q ∷ xs) hi → IsIn p (q ∷ xs) → q ≤ p
first_is_least lo q xs hi p h (inl e) = omega (arith, e)
first_is_least lo q xs hi p h (inr i) = let k = rising_in (suc q) xs hi p h.1 i in omega (arith, k.0)

-- nor is it among the others
pub first_is_apart : (lo q : ℕ) (xs : List ℕ) (hi : ℕ) → Rising lo (q ∷ xs) hi → IsIn q xs → ⊥
first_is_apart lo q xs hi h i = let k = rising_in (suc q) xs hi q h.1 i in omega (arith, k.0)

-- parts of a line rise
--
-- where a number may be left out
chosen_rises : (b : Bool) (lo n : ℕ) (ys : List ℕ) (hi : ℕ) → (lo ≤ n) × Rising (suc n) ys hi → Rising lo ((if b then n ∷ [] else []) ++ ys) hi
chosen_rises true lo n ys hi h = h
chosen_rises false lo n ys hi h = rising_from (suc n) lo ys hi (omega (arith, h.0)) h.1

-- where AUTH's number is left out
asked_rises : (b : Bool) (lo n : ℕ) (ids rest ys : List ℕ) (hi : ℕ) → ((low : ℕ) → Rising low (ids ++ ys) hi → Rising low (rest ++ ys) hi) → Rising lo ((if b then ids else n ∷ ids) ++ ys) hi → Rising lo ((if b then rest else n ∷ rest) ++ ys) hi
asked_rises true lo n ids rest ys hi f h = f lo h
asked_rises false lo n ids rest ys hi f h = (h.0, f (suc n) h.1)

-- or any
left_rises : (b : Bool) (lo n : ℕ) (ids rest ys : List ℕ) (hi : ℕ) → ((low : ℕ) → Rising low (ids ++ ys) hi → Rising low (rest ++ ys) hi) → Rising lo ((if b then ids else n ∷ ids) ++ ys) hi → Rising lo (rest ++ ys) hi
left_rises true lo n ids rest ys hi f h = f lo h
left_rises false lo n ids rest ys hi f h = rising_from (suc n) lo (rest ++ ys) hi (let l : lo ≤ n = h.0 in omega arith) (f (suc n) h.1)

-- as one is awaited or not
by_awaited : (a : Bool) (lo n : ℕ) (ids ws ys : List ℕ) (hi : ℕ) → ((low : ℕ) → Rising low (ids ++ ys) hi → Rising low (requests_in ws ++ ys) hi) → Rising lo ((if is_own n then ids else n ∷ ids) ++ ys) hi
    → Rising lo (requests_in ((if a then n ∷ [] else []) ++ ws) ++ ys) hi
by_awaited true lo n ids ws ys hi f h = asked_rises (is_own n) lo n ids (requests_in ws) ys hi f h
by_awaited false lo n ids ws ys hi f h = left_rises (is_own n) lo n ids (requests_in ws) ys hi f h

-- the wanted of a row
pub wanted_rises : (lo : ℕ) (row : List Entry) (ys : List ℕ) (hi : ℕ) → Rising lo (requests_in (row_ids row) ++ ys) hi → Rising lo (requests_in (wanted row) ++ ys) hi
wanted_rises lo [] ys hi h = h
wanted_rises lo (e ∷ es) ys hi h =
    let rest : (low : ℕ) → Rising low (requests_in (row_ids es) ++ ys) hi → Rising low (requests_in (wanted es) ++ ys) hi = λ low k. wanted_rises low es ys hi k in
    by_awaited e.awaited lo e.id (requests_in (row_ids es)) (wanted es) ys hi rest h

-- the awaited of a queue
pub awaited_rises : (lo : ℕ) (queue : List Queued) (ys : List ℕ) (hi : ℕ) → Rising lo (queue_ids queue ++ ys) hi → Rising lo (awaited_ids queue ++ ys) hi
awaited_rises lo [] ys hi h = h
awaited_rises lo (q ∷ qs) ys hi h =
    subst (λ ns. Rising lo ns hi) (sym (append_assoc (if q.awaited then q.id ∷ [] else []) (awaited_ids qs) ys))
    (chosen_rises q.awaited lo q.id (awaited_ids qs ++ ys) hi (h.0, awaited_rises (suc q.id) qs ys hi h.1))

-- what stands at places one after another
--
-- these stand in a list from a place on
abbrev pub AtPlaces : List ℕ → ℕ → List ℕ → Type 0
AtPlaces xs k [] = Unit {0}
AtPlaces xs k (y ∷ ys) = (slice_get xs k ≡ Some y) × AtPlaces xs (suc k) ys

-- the first is of no account for those behind it
places_behind : (x : ℕ) (xs : List ℕ) (k : ℕ) (ys : List ℕ) → AtPlaces (x ∷ xs) (suc k) ys → AtPlaces xs k ys
places_behind x xs k [] all = tt
places_behind x xs k (y ∷ ys) all = (all.0, places_behind x xs (suc k) ys all.1)

-- those that are requests rise where all do
pub places_rise : (lo : ℕ) (xs : List ℕ) (k : ℕ) (ids ys : List ℕ) (hi : ℕ) → AtPlaces xs k ids → Rising lo (requests_in xs ++ ys) hi → Rising lo (requests_in ids ++ ys) hi
places_rise lo xs k [] ys hi all h = rising_right lo (requests_in xs) ys hi h
places_rise lo [] k (n ∷ ids) ys hi all h = absurd (cc all.0)
places_rise lo (x ∷ xs) zero (n ∷ ids) ys hi all h =
    let same : x ≡ n = let e = all.0 in cc in
    let rest : (low : ℕ) → Rising low (requests_in xs ++ ys) hi → Rising low (requests_in ids ++ ys) hi = λ low k. places_rise low xs zero ids ys hi (places_behind x xs zero ids all.1) k in
    subst (λ m. Rising lo (requests_in (m ∷ ids) ++ ys) hi) same (asked_rises (is_own x) lo x (requests_in xs) (requests_in ids) ys hi rest h)
places_rise lo (x ∷ xs) (suc k) (n ∷ ids) ys hi all h =
    let rest : (low : ℕ) → Rising low (requests_in xs ++ ys) hi → Rising low (requests_in (n ∷ ids) ++ ys) hi = λ low r. places_rise low xs k (n ∷ ids) ys hi (all.0, places_behind x xs (suc k) ids all.1) r in
    left_rises (is_own x) lo x (requests_in xs) (requests_in (n ∷ ids)) ys hi rest h
