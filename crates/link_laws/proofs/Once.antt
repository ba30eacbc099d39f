-- Who is settled: each message whose verdict is wanted, in order, and once.
use Rattle.std.proofs.Common.{◌≡◌, ℕ, nat_lt, Bool, true, false, if◌then◌else◌, List, [], ◌∷◌, ◌++◌, length, refl, sym, ap, ◌∙◌, append_assoc}
use Rattle.containers.proofs.Choices.{chosen}
use Rattle.resp_value.specs.Data.{Data}
use Rattle.redis_error.specs.declared.redis_error.RedisError.{RedisError}
use Rattle.redis_error.specs.declared.redis_error.RedisError.TheVariants as error
use Rattle.driver_model.specs.Shape.{need_of, verdict_of}
use Rattle.driver_model.specs.declared.hearing.Hearing.{Hearing}
use Rattle.driver_model.specs.declared.news.LinkFault.{LinkFault}
use Rattle.link_core.specs.declared.message.Entry.{Entry}
use Rattle.link_core.specs.declared.message.Queued.{Queued}
use Rattle.link_core.specs.declared.message.Settled.{Settled}
use Rattle.link_core.specs.Dealing.{Dealing, with_item, settled_by, dealt_to, dealt, noticed_behind, taking_in, taken_as, taken, taken_each}
use Rattle.link_core.specs.Ends.{failed_by, hit_by, row_closed, row_hit, queue_closed}
use Rattle.link_laws.specs.Settles.{settled_ids, wanted, awaited_ids}

-- those settled, of two lists
pub settled_ids-append : (xs ys : List Settled) → settled_ids (xs ++ ys) ≡ settled_ids xs ++ settled_ids ys
settled_ids-append [] ys = refl
settled_ids-append (x ∷ xs) ys = ap (λ ns. x.id ∷ ns) (settled_ids-append xs ys)

-- those wanted, of two rows
pub wanted-append : (xs ys : List Entry) → wanted (xs ++ ys) ≡ wanted xs ++ wanted ys
wanted-append [] ys = refl
wanted-append (x ∷ xs) ys = ap (λ ns. (if x.awaited then x.id ∷ [] else []) ++ ns) (wanted-append xs ys) ∙ sym (append_assoc (if x.awaited then x.id ∷ [] else []) (wanted xs) (wanted ys))

-- those awaited, of two queues
pub awaited_ids-append : (xs ys : List Queued) → awaited_ids (xs ++ ys) ≡ awaited_ids xs ++ awaited_ids ys
awaited_ids-append [] ys = refl
awaited_ids-append (x ∷ xs) ys = ap (λ ns. (if x.awaited then x.id ∷ [] else []) ++ ns) (awaited_ids-append xs ys) ∙ sym (append_assoc (if x.awaited then x.id ∷ [] else []) (awaited_ids xs) (awaited_ids ys))

-- items
--
settled_by_id : (b : Bool) (e : Entry) → settled_ids (if b then record { id = e.id; verdict = verdict_of e.shape e.got } ∷ [] else []) ≡ (if b then e.id ∷ [] else [])
settled_by_id true e = refl
settled_by_id false e = refl

-- who is full leaves the front of the row for the end of those settled
full_keeps : (out : List Settled) (e : Entry) (es : List Entry) → settled_ids (out ++ settled_by e) ++ wanted es ≡ settled_ids out ++ wanted (e ∷ es)
full_keeps out e es =
    ap (λ ns. ns ++ wanted es) (settled_ids-append out (settled_by e) ∙ ap (λ ns. settled_ids out ++ ns) (settled_by_id e.awaited e))
    ∙ append_assoc (settled_ids out) (if e.awaited then e.id ∷ [] else []) (wanted es)

-- one item leaves all in line
item_keeps : (d : Dealing) (item : Data) (row : List Entry) → d.row ≡ row → settled_ids (dealt_to d item row).out ++ wanted (dealt_to d item row).row ≡ settled_ids d.out ++ wanted row
item_keeps d item [] is = ap (λ row. settled_ids d.out ++ wanted row) is
item_keeps d item (e ∷ es) is =
    let f = with_item e item in
    chosen (λ (x : Dealing). settled_ids x.out ++ wanted x.row ≡ settled_ids d.out ++ wanted (e ∷ es)) (nat_lt (length f.got) (need_of e.shape)) _ _
    (λ t. refl)
    (λ n. full_keeps d.out f es)

-- and so does a value
value_keeps : (h : Hearing) (ready : Bool) (d : Dealing) (v : Data) → settled_ids (taken h ready d v).out ++ wanted (taken h ready d v).row ≡ settled_ids d.out ++ wanted d.row
value_keeps h ready d v =
    let t = taking_in h ready d v in
    let m : Dealing = record d { notices = d.notices ++ noticed_behind (length d.out) t.told; strange = t.ends } in
    chosen (λ (x : Dealing). settled_ids x.out ++ wanted x.row ≡ settled_ids d.out ++ wanted d.row) d.strange d (taken_as d t v)
    (λ y. refl)
    (λ n. chosen (λ (x : Dealing). settled_ids x.out ++ wanted x.row ≡ settled_ids d.out ++ wanted d.row) t.dealt (dealt m v) m (λ y. item_keeps m v d.row refl) (λ y. refl))

-- those that values settle, and then those still wanted, are those wanted before
pub taken_keeps : (h : Hearing) (ready : Bool) (d : Dealing) (vs : List Data) → settled_ids (taken_each h ready d vs).out ++ wanted (taken_each h ready d vs).row ≡ settled_ids d.out ++ wanted d.row
taken_keeps h ready d [] = refl
taken_keeps h ready d (v ∷ vs) = taken_keeps h ready (taken h ready d v) vs ∙ value_keeps h ready d v

-- the end
--
failed_ids : (b : Bool) (n : ℕ) (e : RedisError) → settled_ids (failed_by b n e) ≡ (if b then n ∷ [] else [])
failed_ids true n e = refl
failed_ids false n e = refl

-- all that started and are wanted, where the link is closed
row_closed_ids : (row : List Entry) → settled_ids (row_closed row) ≡ wanted row
row_closed_ids [] = refl
row_closed_ids (e ∷ es) = settled_ids-append (failed_by e.awaited e.id error.Closed) (row_closed es) ∙ (λ i. failed_ids e.awaited e.id error.Closed i ++ row_closed_ids es i)

-- and where it ends by a fault
row_hit_ids : (f : LinkFault) (row : List Entry) → settled_ids (row_hit f row) ≡ wanted row
row_hit_ids f [] = refl
row_hit_ids f (e ∷ es) = settled_ids-append (failed_by e.awaited e.id (hit_by f e.shape)) (row_closed es) ∙ (λ i. failed_ids e.awaited e.id (hit_by f e.shape) i ++ row_closed_ids es i)

-- all that wait and are awaited
queue_closed_ids : (queue : List Queued) → settled_ids (queue_closed queue) ≡ awaited_ids queue
queue_closed_ids [] = refl
queue_closed_ids (q ∷ qs) = settled_ids-append (failed_by q.awaited q.id error.Closed) (queue_closed qs) ∙ (λ i. failed_ids q.awaited q.id error.Closed i ++ queue_closed_ids qs i)

-- where the link is closed, or ends by a fault: those that started, and then those that wait
pub closed_ids : (row : List Entry) (queue : List Queued) → settled_ids (row_closed row ++ queue_closed queue) ≡ wanted row ++ awaited_ids queue
closed_ids row queue = settled_ids-append (row_closed row) (queue_closed queue) ∙ (λ i. row_closed_ids row i ++ queue_closed_ids queue i)

-- a fault settles the same
pub hit_ids : (f : LinkFault) (row : List Entry) (queue : List Queued) → settled_ids (row_hit f row ++ queue_closed queue) ≡ wanted row ++ awaited_ids queue
hit_ids f row queue = settled_ids-append (row_hit f row) (queue_closed queue) ∙ (λ i. row_hit_ids f row i ++ queue_closed_ids queue i)
