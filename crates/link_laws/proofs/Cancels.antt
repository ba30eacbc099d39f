-- A cancel of a started message: from then on its link does all as it would have, but for that message's own verdict.
use Rattle.std.proofs.Common.{◌≡◌, ℕ, ◌==◌, Bool, true, false, List, [], ◌∷◌, ◌++◌, if◌then◌else◌, refl, sym, ap, subst, inl, inr}
use Rattle.containers.proofs.Choices.{eq_from}
use Rattle.redis_error.specs.declared.redis_error.RedisError.TheVariants as error
use Rattle.resp_read.specs.Values.{values}
use Rattle.driver_model.specs.Hearing.{hears_messages, is_watching}
use Rattle.driver_model.specs.declared.hearing.Hearing.{Hearing}
use Rattle.driver_model.specs.declared.news.LinkFault.{LinkFault}
use Rattle.link_core.specs.declared.message.Entry.{Entry}
use Rattle.link_core.specs.declared.message.Queued.{Queued}
use Rattle.link_core.specs.declared.message.Settled.{Settled}
use Rattle.link_core.specs.declared.message.Started.{Started}
use Rattle.link_core.specs.Dealing.{Dealing, dealing_with, taken_each}
use Rattle.link_core.specs.Ends.{row_closed, row_hit, queue_closed, hit_by, failed_by}
use Rattle.link_core.specs.Link.{LinkState, Starting, entry_of, begun, enqueued, holds_back, started_one, started_each, started_all, offered_of, wrote_of, Reading, cancelled, came_all, nothing_read, piece_read, read_on, read_with, emptied, closed_all, faulted}
use Rattle.link_core.specs.Row.{silent, silenced}
use Rattle.link_core.specs.Waiting.{without}
use Rattle.link_laws.specs.Alike.{SameEntry, SameRow, SameDealing, SameLink, SameStarting, SameSettling, SameReading, SetsUp, others, told}
use Rattle.link_laws.proofs.Alike.{others_joined, same_row_refl, same_failed, same_items, tells_taken_each, tells_with}

-- a message that started stays where it is
silenced_if : (b : Bool) (id : ℕ) (e : Entry) (es : List Entry) → (b ≡ true → e.id ≡ id) → SameRow id es (silenced es id) → SameRow id (e ∷ es) (if b then silent e ∷ es else e ∷ silenced es id)
silenced_if true id e es own rest = (inr (own refl, refl), same_row_refl id es)
silenced_if false id e es own rest = (inl refl, rest)

row_stays : (id : ℕ) (row : List Entry) → SameRow id row (silenced row id)
row_stays id [] = tt
row_stays id (e ∷ es) = silenced_if (e.id == id) id e es (eq_from e.id id) (row_stays id es)

-- the cancel of a message that has no place in the queue
pub cancel_stays : (id : ℕ) (s : LinkState) → without s.queue id ≡ s.queue → SameLink id s (cancelled s id)
cancel_stays id s started = record {
  row = row_stays id s.row;
  rest = ap (λ queue. record s { queue = queue; row = silenced s.row id }) started;
}

-- what comes later
--
pub enqueue_alike : (id : ℕ) (s t : LinkState) (q : Queued) → SameLink id s t → SameLink id (enqueued s q) (enqueued t q)
enqueue_alike id s t q h = record { row = h.row; rest = ap (λ x. enqueued x q) h.rest }

pub offer_alike : (id : ℕ) (s t : LinkState) → SameLink id s t → SameLink id (offered_of s) (offered_of t)
offer_alike id s t h = record { row = h.row; rest = ap offered_of h.rest }

pub wrote_alike : (id : ℕ) (s t : LinkState) (n : ℕ) → SameLink id s t → SameLink id (wrote_of s n) (wrote_of t n)
wrote_alike id s t n h = record { row = h.row; rest = ap (λ x. wrote_of x n) h.rest }

row_behind : (id : ℕ) (row row' : List Entry) (e : Entry) → SameRow id row row' → SameRow id (row ++ e ∷ []) (row' ++ e ∷ [])
row_behind id [] [] e h = (inl refl, tt)
row_behind id (x ∷ xs) (y ∷ ys) e h = (h.0, row_behind id xs ys e h.1)
row_behind id [] (y ∷ ys) e h = absurd h
row_behind id (x ∷ xs) [] e h = absurd h

-- a message starts at once
pub begin_alike : (id : ℕ) (s t : LinkState) (q : Queued) → SameLink id s t → SameLink id (begun s q) (begun t q)
begin_alike id s t q h = record { row = row_behind id s.row t.row (entry_of q) h.row; rest = ap (λ x. begun x q) h.rest }

start_branch : (id : ℕ) (b : Bool) (x y x' y' : Starting) → SameStarting id x x' → SameStarting id y y' → SameStarting id (if b then x else y) (if b then x' else y')
start_branch id true x y x' y' p q = p
start_branch id false x y x' y' p q = q

starts_alike : (id : ℕ) (s : LinkState) (row : List Entry) (out : List Started) (queue : List Queued) → SameRow id s.row row
    → SameStarting id (started_each (record { link = s; out = out }) queue) (started_each (record { link = record s { row = row }; out = out }) queue)
starts_alike id s row out [] h = record { link = record { row = h; rest = refl }; out = refl }
starts_alike id s row out (q ∷ qs) h =
    let one = started_one (record { link = s; out = out }) q in
    let other = started_one (record { link = record s { row = row }; out = out }) q in
    start_branch id (holds_back s)
    (record { link = record s { queue = q ∷ qs }; out = out }) (started_each one qs)
    (record { link = record s { row = row; queue = q ∷ qs }; out = out }) (started_each other qs)
    (record { link = record { row = h; rest = refl }; out = refl })
    (starts_alike id one.link (row ++ entry_of q ∷ []) one.out qs (row_behind id s.row row (entry_of q) h))

-- the same messages start, in the same order
pub start_alike : (id : ℕ) (s t : LinkState) (out : List Started) → SameLink id s t → SameStarting id (started_all (record { link = s; out = out })) (started_all (record { link = t; out = out }))
start_alike id s t out h = subst (λ x. SameStarting id (started_all (record { link = s; out = out })) (started_all (record { link = x; out = out }))) (sym h.rest) (starts_alike id s t.row out s.queue h.row)

-- bytes
--
read_branch : (id : ℕ) (b : Bool) (x y x' y' : Reading) → SameReading id x x' → SameReading id y y' → SameReading id (if b then x else y) (if b then x' else y')
read_branch id true x y x' y' p q = p
read_branch id false x y x' y' p q = q

-- what a link has read, by what it has dealt
came_as : (id : ℕ) (s : LinkState) (row : List Entry) (bytes : List ℕ) (d d' : Dealing) → SameDealing id d d' → SameReading id (read_with (read_on s bytes) d) (read_with (read_on (record s { row = row }) bytes) d')
came_as id s row bytes d d' k = record { link = record { row = k.row; rest = refl }; out = k.out; strange = k.strange }

-- links that are alike tell the same, where they are set up alike
came_alike : (id : ℕ) (h : Hearing) (ready : Bool) (s : LinkState) (row : List Entry) (piece : List ℕ) → SameRow id s.row row → SetsUp ready row
    → (let t : LinkState = record s { row = row } in SameReading id (piece_read h ready s piece) (piece_read h ready t piece) × (told (piece_read h ready s piece).notices ≡ told (piece_read h ready t piece).notices))
came_alike id h ready s row piece same sets =
    let t : LinkState = record s { row = row } in
    let bytes = s.rest ++ piece in
    let k = tells_taken_each id h ready (dealing_with s.row) (dealing_with row) (values bytes) (tells_with id ready s.row row same sets) in (
      read_branch id s.broken (nothing_read s) (came_all h ready s bytes) (nothing_read t) (came_all h ready t bytes)
          (record { link = record { row = same; rest = refl }; out = refl; strange = refl })
          (came_as id s row bytes (taken_each h ready (dealing_with s.row) (values bytes)) (taken_each h ready (dealing_with row) (values bytes)) k.same),
      says_branch s.broken (nothing_read s) (came_all h ready s bytes) (nothing_read t) (came_all h ready t bytes) refl k.says,
    )
  where
    says_branch : (b : Bool) (x y x' y' : Reading) → told x.notices ≡ told x'.notices → told y.notices ≡ told y'.notices → told (if b then x else y).notices ≡ told (if b then x' else y').notices
    says_branch true x y x' y' p q = p
    says_branch false x y x' y' p q = q

-- each item goes to the same message, every other verdict is the same, and the same is told
pub bytes_alike : (id : ℕ) (h : Hearing) (ready : Bool) (s t : LinkState) (piece : List ℕ) → SameLink id s t → SetsUp ready t.row
    → SameReading id (piece_read h ready s piece) (piece_read h ready t piece) × (told (piece_read h ready s piece).notices ≡ told (piece_read h ready t piece).notices)
bytes_alike id h ready s t piece same sets =
    subst (λ (x : LinkState). SameReading id (piece_read h ready s piece) (piece_read h ready x piece) × (told (piece_read h ready s piece).notices ≡ told (piece_read h ready x piece).notices)) (sym same.rest)
    (came_alike id h ready s t.row piece same.row sets)

-- also where they aren't, but for what is told
pub items_alike : (id : ℕ) (h : Hearing) (ready : Bool) (s t : LinkState) (piece : List ℕ) → hears_messages h ≡ false → is_watching h ≡ false → SameLink id s t → SameReading id (piece_read h ready s piece) (piece_read h ready t piece)
items_alike id h ready s t piece plain unwatched same =
    let u : LinkState = record s { row = t.row } in
    let bytes = s.rest ++ piece in
    subst (λ (x : LinkState). SameReading id (piece_read h ready s piece) (piece_read h ready x piece)) (sym same.rest)
    (read_branch id s.broken (nothing_read s) (came_all h ready s bytes) (nothing_read u) (came_all h ready u bytes)
    (record { link = record { row = same.row; rest = refl }; out = refl; strange = refl })
    (came_as id s t.row bytes (taken_each h ready (dealing_with s.row) (values bytes)) (taken_each h ready (dealing_with t.row) (values bytes))
    (same_items id h ready (dealing_with s.row) (dealing_with t.row) (values bytes) plain unwatched (record { row = same.row; out = refl; strange = refl }))))

-- ends
--
row_ends_alike : (id : ℕ) (row row' : List Entry) → SameRow id row row' → others id (row_closed row) ≡ others id (row_closed row')
row_ends_alike id [] [] h = refl
row_ends_alike id (e ∷ es) (f ∷ fs) h =
    others_joined id (failed_by e.awaited e.id error.Closed) (row_closed es) (failed_by f.awaited f.id error.Closed) (row_closed fs) (same_failed id e f error.Closed error.Closed h.0 refl) (row_ends_alike id es fs h.1)
row_ends_alike id [] (f ∷ fs) h = absurd h
row_ends_alike id (e ∷ es) [] h = absurd h

same_hit : (id : ℕ) (fault : LinkFault) (e f : Entry) → SameEntry id e f → hit_by fault e.shape ≡ hit_by fault f.shape
same_hit id fault e f (inl p) = ap (λ (x : Entry). hit_by fault x.shape) p
same_hit id fault e f (inr p) = sym (ap (λ (x : Entry). hit_by fault x.shape) p.1)

row_hits_alike : (id : ℕ) (fault : LinkFault) (row row' : List Entry) → SameRow id row row' → others id (row_hit fault row) ≡ others id (row_hit fault row')
row_hits_alike id fault [] [] h = refl
row_hits_alike id fault (e ∷ es) (f ∷ fs) h =
    others_joined id (failed_by e.awaited e.id (hit_by fault e.shape)) (row_closed es) (failed_by f.awaited f.id (hit_by fault f.shape)) (row_closed fs)
    (same_failed id e f (hit_by fault e.shape) (hit_by fault f.shape) h.0 (same_hit id fault e f h.0)) (row_ends_alike id es fs h.1)
row_hits_alike id fault [] (f ∷ fs) h = absurd h
row_hits_alike id fault (e ∷ es) [] h = absurd h

same_emptied : (id : ℕ) (s : LinkState) (row : List Entry) (out out' more more' : List Settled) → others id out ≡ others id out' → others id more ≡ others id more'
    → SameSettling id (emptied (record { link = s; out = out }) more) (emptied (record { link = record s { row = row }; out = out' }) more')
same_emptied id s row out out' more more' o m = record { link = record { row = tt; rest = refl }; out = others_joined id out more out' more' o m }

-- where the link is closed, or ends by a fault
pub close_alike : (id : ℕ) (s t : LinkState) (out out' : List Settled) → SameLink id s t → others id out ≡ others id out' → SameSettling id (closed_all (record { link = s; out = out })) (closed_all (record { link = t; out = out' }))
close_alike id s t out out' h o =
    subst (λ x. SameSettling id (closed_all (record { link = s; out = out })) (closed_all (record { link = x; out = out' }))) (sym h.rest)
    (same_emptied id s t.row out out' (row_closed s.row ++ queue_closed s.queue) (row_closed t.row ++ queue_closed s.queue) o
    (others_joined id (row_closed s.row) (queue_closed s.queue) (row_closed t.row) (queue_closed s.queue) (row_ends_alike id s.row t.row h.row) refl))

pub fault_alike : (id : ℕ) (fault : LinkFault) (s t : LinkState) (out out' : List Settled) → SameLink id s t → others id out ≡ others id out' → SameSettling id (faulted (record { link = s; out = out }) fault) (faulted (record { link = t; out = out' }) fault)
fault_alike id fault s t out out' h o =
    subst (λ x. SameSettling id (faulted (record { link = s; out = out }) fault) (faulted (record { link = x; out = out' }) fault)) (sym h.rest)
    (same_emptied id s t.row out out' (row_hit fault s.row ++ queue_closed s.queue) (row_hit fault t.row ++ queue_closed s.queue) o
    (others_joined id (row_hit fault s.row) (queue_closed s.queue) (row_hit fault t.row) (queue_closed s.queue) (row_hits_alike id fault s.row t.row h.row) refl))

-- the cancel of a further message
silenced_alike_if : (b : Bool) (id other : ℕ) (e f : Entry) (es fs : List Entry) → SameEntry id e f → SameRow id es fs → SameRow id (silenced es other) (silenced fs other)
    → SameRow id (if b then silent e ∷ es else e ∷ silenced es other) (if b then silent f ∷ fs else f ∷ silenced fs other)
silenced_alike_if true id other e f es fs (inl p) rest later = (inl (ap silent p), rest)
silenced_alike_if true id other e f es fs (inr p) rest later = (inl (sym (ap silent p.1)), rest)
silenced_alike_if false id other e f es fs s rest later = (s, later)

same_id : (id : ℕ) (e f : Entry) → SameEntry id e f → f.id ≡ e.id
same_id id e f (inl p) = ap (λ (x : Entry). x.id) (sym p)
same_id id e f (inr p) = ap (λ (x : Entry). x.id) p.1

silenced_alike : (id other : ℕ) (row row' : List Entry) → SameRow id row row' → SameRow id (silenced row other) (silenced row' other)
silenced_alike id other [] [] h = tt
silenced_alike id other (e ∷ es) (f ∷ fs) h =
    subst (λ (n : ℕ). SameRow id (silenced (e ∷ es) other) (if n == other then silent f ∷ fs else f ∷ silenced fs other)) (sym (same_id id e f h.0))
    (silenced_alike_if (e.id == other) id other e f es fs h.0 h.1 (silenced_alike id other es fs h.1))
silenced_alike id other [] (f ∷ fs) h = absurd h
silenced_alike id other (e ∷ es) [] h = absurd h

pub cancel_alike : (id other : ℕ) (s t : LinkState) → SameLink id s t → SameLink id (cancelled s other) (cancelled t other)
cancel_alike id other s t h = record {
  row = silenced_alike id other s.row t.row h.row;
  rest = ap (λ (x : LinkState). record x { queue = without x.queue other; row = silenced t.row other }) h.rest;
}
