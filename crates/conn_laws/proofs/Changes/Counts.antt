-- How many messages a link has, and what changes that.
use Rattle.std.proofs.Common.{◌≡◌, ℕ, ◌+◌, ◌≤◌, nat_lt, Bool, List, [], ◌∷◌, ◌++◌, length, refl, sym, subst, arith, length-append}
use Rattle.containers.proofs.Choices.{chosen}
use Rattle.resp_value.specs.Data.{Data}
use Rattle.resp_read.specs.Values.{values}
use Rattle.driver_model.specs.Shape.{need_of}
use Rattle.driver_model.specs.declared.hearing.Hearing.{Hearing}
use Rattle.link_core.specs.declared.message.Entry.{Entry}
use Rattle.link_core.specs.declared.message.Queued.{Queued}
use Rattle.link_core.specs.declared.message.Settled.{Settled}
use Rattle.link_core.specs.Dealing.{Dealing, dealing_with, with_item, settled_by, dealt_to, dealt, noticed_behind, taking_in, taken_as, taken, taken_each}
use Rattle.link_core.specs.Link.{LinkState, Starting, Reading, entry_of, enqueued, holds_back, started_one, started_each, started_all, nothing_read, came_all, piece_read}

-- those that started, and those in the queue
abbrev pub count_on : LinkState → ℕ
count_on l = length l.row + length l.queue

-- one more in the queue
pub count_push : (l : LinkState) (q : Queued) → count_on (enqueued l q) ≡ count_on l + 1
count_push l q = omega (arith, length-append l.queue (q ∷ []))

-- who starts is on the link before and after
starts_count : (s : Starting) (queue : List Queued) → count_on (started_each s queue).link ≡ length s.link.row + length queue
starts_count s [] = refl
starts_count s (q ∷ qs) =
    chosen (λ (x : Starting). count_on x.link ≡ length s.link.row + length (q ∷ qs)) (holds_back s.link) _ _ (λ t. refl)
    (λ f. omega (arith, starts_count (started_one s q) qs, length-append s.link.row (entry_of q ∷ [])))

-- so all are where messages start
pub count_started : (l : LinkState) → count_on (started_all (record { link = l; out = [] })).link ≤ count_on l
count_started l = omega (arith, starts_count (record { link = l; out = [] }) l.queue)

-- one entry settles one message at most
one_settled : (e : Entry) → length (settled_by e) ≤ 1
one_settled e = chosen (λ (xs : List Settled). length xs ≤ 1) e.awaited _ [] (λ t. omega arith) (λ f. omega arith)

-- an item settles no more than leave the row
item_count : (d : Dealing) (item : Data) (row : List Entry) → d.row ≡ row → length (dealt_to d item row).row + length (dealt_to d item row).out ≤ length row + length d.out
item_count d item [] e = subst (λ (xs : List Entry). length xs + length d.out ≤ 0 + length d.out) (sym e) (omega arith)
item_count d item (e ∷ es) same =
    let f = with_item e item in
    chosen (λ (x : Dealing). length x.row + length x.out ≤ length (e ∷ es) + length d.out) (nat_lt (length f.got) (need_of f.shape)) _ _
    (λ t. omega arith)
    (λ g. omega (arith, one_settled f, length-append d.out (settled_by f)))

-- nor does a value
value_count : (h : Hearing) (ready : Bool) (d : Dealing) (v : Data) → length (taken h ready d v).row + length (taken h ready d v).out ≤ length d.row + length d.out
value_count h ready d v =
    let t = taking_in h ready d v in
    let m : Dealing = record d { notices = d.notices ++ noticed_behind (length d.out) t.told; strange = t.ends } in
    chosen (λ (x : Dealing). length x.row + length x.out ≤ length d.row + length d.out) d.strange d (taken_as d t v) (λ y. omega arith)
    (λ n. chosen (λ (x : Dealing). length x.row + length x.out ≤ length d.row + length d.out) t.dealt (dealt m v) m (λ y. item_count m v d.row refl) (λ y. omega arith))

-- nor do more
values_count : (h : Hearing) (ready : Bool) (d : Dealing) (vs : List Data) → length (taken_each h ready d vs).row + length (taken_each h ready d vs).out ≤ length d.row + length d.out
values_count h ready d [] = omega arith
values_count h ready d (v ∷ vs) = omega (arith, values_count h ready (taken h ready d v) vs, value_count h ready d v)

-- nor do bytes
pub count_came : (h : Hearing) (ready : Bool) (l : LinkState) (piece : List ℕ) → count_on (piece_read h ready l piece).link + length (piece_read h ready l piece).out ≤ count_on l
count_came h ready l piece =
    chosen (λ (x : Reading). count_on x.link + length x.out ≤ count_on l) l.broken (nothing_read l) (came_all h ready l (l.rest ++ piece)) (λ t. omega arith)
    (λ f. omega (arith, values_count h ready (dealing_with l.row) (values (l.rest ++ piece))))
