-- Where nobody awaits one message in the queue and in the row of a link, nobody does after starts, bytes and cancels.
use Rattle.std.proofs.Common.{◌≡◌, ℕ, ◌==◌, ◌&&◌, nat_lt, Bool, true, false, List, [], ◌∷◌, ◌++◌, length, if◌then◌else◌, refl, ap, ◌∙◌, arith}
use Rattle.std.proofs.Math.Bool.{and-false}
use Rattle.containers.proofs.Choices.{chosen, left_if}
use Rattle.resp_value.specs.Data.{Data}
use Rattle.resp_read.specs.Values.{values}
use Rattle.driver_model.specs.Shape.{need_of}
use Rattle.driver_model.specs.declared.hearing.Hearing.{Hearing}
use Rattle.link_core.specs.declared.message.Entry.{Entry}
use Rattle.link_core.specs.declared.message.Queued.{Queued}
use Rattle.link_core.specs.Dealing.{Dealing, dealing_with, with_item, dealt_to, dealt, noticed_behind, taking_in, taken_as, taken, taken_each}
use Rattle.link_core.specs.Link.{LinkState, Starting, Reading, entry_of, holds_back, started_one, started_each, nothing_read, came_all, piece_read}
use Rattle.link_core.specs.Row.{silenced}
use Rattle.link_core.specs.Waiting.{is_wanted, without}

-- nobody awaits message p in the queue, and in the row
--
-- in the queue
abbrev pub NoneOf : ℕ → List Queued → Type 0
NoneOf p [] = Unit {0}
NoneOf p (q ∷ qs) = (is_wanted p q ≡ false) × NoneOf p qs

-- and in the row
abbrev pub NoneWanted : ℕ → List Entry → Type 0
NoneWanted p [] = Unit {0}
NoneWanted p (e ∷ es) = (((e.id == p) && e.awaited) ≡ false) × NoneWanted p es

-- the queue
--
-- one more message, which is not that one
pub none_push : (p : ℕ) (queue : List Queued) (q : Queued) → NoneOf p queue → is_wanted p q ≡ false → NoneOf p (queue ++ q ∷ [])
none_push p [] q h e = (e, tt)
none_push p (x ∷ xs) q h e = (h.0, none_push p xs q h.1 e)

-- one message less
pub none_without : (p m : ℕ) (queue : List Queued) → NoneOf p queue → NoneOf p (without queue m)
none_without p m [] h = tt
none_without p m (q ∷ qs) h = chosen (NoneOf p) (is_wanted m q) _ _ (λ t. h.1) (λ f. (h.0, none_without p m qs h.1))

-- bytes come
pub none_came : (p : ℕ) (what : Hearing) (l : LinkState) (piece : List ℕ) → NoneOf p l.queue → NoneOf p (piece_read what true l piece).link.queue
none_came p what l piece h = chosen (λ (x : Reading). NoneOf p x.link.queue) l.broken (nothing_read l) (came_all what true l (l.rest ++ piece)) (λ t. h) (λ f. h)

-- a list with one item less is not the same
one_less : (p : ℕ) (q : Queued) (qs : List Queued) (b : Bool) → (if b then qs else q ∷ without qs p) ≡ q ∷ qs → (b ≡ false) × (without qs p ≡ qs)
one_less p q qs true e = absurd (let l : length qs ≡ length (q ∷ qs) = ap length e in omega arith)
one_less p q qs false e = (refl, cc)

-- what a cancel would leave as it is has no such message
pub none_from : (p : ℕ) (queue : List Queued) → without queue p ≡ queue → NoneOf p queue
none_from p [] e = tt
none_from p (q ∷ qs) e = let h = one_less p q qs (is_wanted p q) e in (h.0, none_from p qs h.1)

-- and what has no such message a cancel leaves as it is
pub none_leaves : (p : ℕ) (queue : List Queued) → NoneOf p queue → without queue p ≡ queue
none_leaves p [] h = refl
none_leaves p (q ∷ qs) h = left_if (is_wanted p q) qs (q ∷ without qs p) h.0 ∙ ap (λ (xs : List Queued). q ∷ xs) (none_leaves p qs h.1)

-- the row
--
-- one more entry, of another message
pub quiet_behind : (p : ℕ) (row : List Entry) (q : Queued) → is_wanted p q ≡ false → NoneWanted p row → NoneWanted p (row ++ entry_of q ∷ [])
quiet_behind p [] q e h = (e, tt)
quiet_behind p (x ∷ row) q e h = (h.0, quiet_behind p row q e h.1)

-- some messages start
pub quiet_starts : (p : ℕ) (s : Starting) (queue : List Queued) → NoneOf p queue → NoneWanted p s.link.row → NoneWanted p (started_each s queue).link.row
quiet_starts p s [] n h = h
quiet_starts p s (q ∷ qs) n h =
    chosen (λ (x : Starting). NoneWanted p x.link.row) (holds_back s.link) _ _ (λ t. h) (λ f. quiet_starts p (started_one s q) qs n.1 (quiet_behind p s.link.row q n.0 h))

-- an item is dealt
quiet_dealt_to : (p : ℕ) (d : Dealing) (item : Data) (row : List Entry) → NoneWanted p d.row → NoneWanted p row → NoneWanted p (dealt_to d item row).row
quiet_dealt_to p d item [] h r = h
quiet_dealt_to p d item (e ∷ es) h r = chosen (λ (x : Dealing). NoneWanted p x.row) (nat_lt (length (with_item e item).got) (need_of e.shape)) _ _ (λ t. (r.0, r.1)) (λ f. r.1)

-- a value comes
quiet_taken : (p : ℕ) (what : Hearing) (d : Dealing) (v : Data) → NoneWanted p d.row → NoneWanted p (taken what true d v).row
quiet_taken p what d v h =
    let t = taking_in what true d v in
    let m : Dealing = record d { notices = d.notices ++ noticed_behind (length d.out) t.told; strange = t.ends } in
    chosen (λ (x : Dealing). NoneWanted p x.row) d.strange d (taken_as d t v) (λ y. h)
    (λ n. chosen (λ (x : Dealing). NoneWanted p x.row) t.dealt (dealt m v) m (λ y. quiet_dealt_to p m v d.row h h) (λ y. h))

-- and more do
quiet_values : (p : ℕ) (what : Hearing) (d : Dealing) (vs : List Data) → NoneWanted p d.row → NoneWanted p (taken_each what true d vs).row
quiet_values p what d [] h = h
quiet_values p what d (v ∷ vs) h = quiet_values p what (taken what true d v) vs (quiet_taken p what d v h)

-- bytes come
pub quiet_came : (p : ℕ) (what : Hearing) (l : LinkState) (piece : List ℕ) → NoneWanted p l.row → NoneWanted p (piece_read what true l piece).link.row
quiet_came p what l piece h =
    chosen (λ (x : Reading). NoneWanted p x.link.row) l.broken (nothing_read l) (came_all what true l (l.rest ++ piece)) (λ t. h) (λ f. quiet_values p what (dealing_with l.row) (values (l.rest ++ piece)) h)

-- one more verdict is not wanted
pub quiet_silenced : (p m : ℕ) (row : List Entry) → NoneWanted p row → NoneWanted p (silenced row m)
quiet_silenced p m [] h = tt
quiet_silenced p m (e ∷ es) h = chosen (NoneWanted p) (e.id == m) _ _ (λ t. (and-false (e.id == p), h.1)) (λ f. (h.0, quiet_silenced p m es h.1))
