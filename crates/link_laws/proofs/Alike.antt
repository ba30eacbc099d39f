-- What alike rows come to.
use Rattle.std.proofs.Common.{◌≡◌, ◌⊎◌, ℕ, ◌+◌, ◌==◌, Option, Some, None, arith, length-append, nat_lt, Bool, true, false, ◌||◌, not, List, [], ◌∷◌, ◌++◌, length, if◌then◌else◌, refl, sym, ap, ◌∙◌, subst, inl, inr}
use Rattle.containers.proofs.Choices.{by_test, taken_if, eq_test, ne_from, ne_test, not_both}
use Rattle.resp_value.specs.Data.{Data}
use Rattle.resp_value.specs.Kinds.{is_item}
use Rattle.redis_error.specs.declared.redis_error.RedisError.{RedisError}
use Rattle.driver_model.specs.Shape.{need_of, verdict_of}
use Rattle.driver_model.specs.Hearing.{Taking, taking, hears_messages, is_watching}
use Rattle.driver_model.specs.declared.hearing.Hearing.{Hearing}
use Rattle.driver_model.specs.declared.hearing.Hearing.TheVariants as hearing
use Rattle.driver_model.specs.declared.outcome.Verdict.TheVariants.{Fault}
use Rattle.driver_model.specs.declared.hearing.Notice.{Notice}
use Rattle.link_core.specs.declared.message.Entry.{Entry}
use Rattle.link_core.specs.declared.message.NoticeAt.{NoticeAt}
use Rattle.link_core.specs.declared.message.Settled.{Settled}
use Rattle.link_core.specs.Dealing.{Dealing, dealing_with, with_item, settled_by, given, dealt_to, dealt, is_awaiting, is_set_up_in, noticed_behind, taking_in, taken_as, taken, taken_each}
use Rattle.link_core.specs.Ends.{failed_by}
use Rattle.link_laws.specs.Alike.{SameEntry, SameRow, SameDealing, SetsUp, is_first_wanted, others, told}
use Rattle.link_laws.proofs.Choices.{chosen_both}
use Rattle.link_laws.proofs.Taken.{item_tells}

pub same_row_refl : (id : ℕ) (row : List Entry) → SameRow id row row
same_row_refl id [] = tt
same_row_refl id (e ∷ es) = (inl refl, same_row_refl id es)

kept_before : (b : Bool) (s : Settled) (xs ys : List Settled) → (if b then xs ++ ys else s ∷ (xs ++ ys)) ≡ (if b then xs else s ∷ xs) ++ ys
kept_before true s xs ys = refl
kept_before false s xs ys = refl

pub others_append : (id : ℕ) (xs ys : List Settled) → others id (xs ++ ys) ≡ others id xs ++ others id ys
others_append id [] ys = refl
others_append id (s ∷ ss) ys = ap (λ zs. if s.id == id then zs else s ∷ zs) (others_append id ss ys) ∙ kept_before (s.id == id) s (others id ss) (others id ys)

pub others_joined : (id : ℕ) (xs ys xs' ys' : List Settled) → others id xs ≡ others id xs' → others id ys ≡ others id ys' → others id (xs ++ ys) ≡ others id (xs' ++ ys')
others_joined id xs ys xs' ys' p q = others_append id xs ys ∙ ap (λ zs. zs ++ others id ys) p ∙ ap (λ zs. others id xs' ++ zs) q ∙ sym (others_append id xs' ys')

-- what that message itself comes to doesn't count
pub own_is_out : (id : ℕ) (s : Settled) → s.id ≡ id → others id (s ∷ []) ≡ []
own_is_out id s e = taken_if (s.id == id) [] (s ∷ []) (eq_test s.id id e)

own_if : (id : ℕ) (b : Bool) (s : Settled) → s.id ≡ id → others id (if b then s ∷ [] else []) ≡ []
own_if id true s e = own_is_out id s e
own_if id false s e = refl

pub same_settled : (id : ℕ) (e f : Entry) → SameEntry id e f → others id (settled_by e) ≡ others id (settled_by f)
same_settled id e f (inl p) = ap (λ x. others id (settled_by x)) p
same_settled id e f (inr p) = own_if id e.awaited (record { id = e.id; verdict = verdict_of e.shape e.got }) p.0 ∙ sym (ap (λ x. others id (settled_by x)) p.1)

pub same_failed : (id : ℕ) (e f : Entry) (error error' : RedisError) → SameEntry id e f → error ≡ error' → others id (failed_by e.awaited e.id error) ≡ others id (failed_by f.awaited f.id error')
same_failed id e f error error' (inl p) q = ap (λ (x : Entry). others id (failed_by x.awaited x.id error)) p ∙ ap (λ (r : RedisError). others id (failed_by f.awaited f.id r)) q
same_failed id e f error error' (inr p) q = own_if id e.awaited (record { id = e.id; verdict = Fault error }) p.0 ∙ sym (ap (λ (x : Entry). others id (failed_by x.awaited x.id error')) p.1)

with_same_item : (id : ℕ) (e f : Entry) (item : Data) → SameEntry id e f → SameEntry id (with_item e item) (with_item f item)
with_same_item id e f item (inl p) = inl (ap (λ x. with_item x item) p)
with_same_item id e f item (inr p) = inr (p.0, ap (λ x. with_item x item) p.1)

branch : (id : ℕ) (b : Bool) (x y x' y' : Dealing) → SameDealing id x x' → SameDealing id y y' → SameDealing id (if b then x else y) (if b then x' else y')
branch id true x y x' y' p q = p
branch id false x y x' y' p q = q

given_same_test : (id : ℕ) (d d' : Dealing) (e f : Entry) (es fs : List Entry) → f.got ≡ e.got → f.shape ≡ e.shape → SameEntry id e f → SameRow id es fs → SameDealing id d d' → SameDealing id (given d e es) (given d' f fs)
given_same_test id d d' e f es fs got shape s rest h =
    let test : nat_lt (length f.got) (need_of f.shape) ≡ nat_lt (length e.got) (need_of e.shape) = cc (got, shape) in
    let x' : Dealing = record d' { row = f ∷ fs } in
    let y' : Dealing = record d' { row = fs; out = d'.out ++ settled_by f } in
    subst (λ b. SameDealing id (given d e es) (if b then x' else y')) (sym test)
    (branch id (nat_lt (length e.got) (need_of e.shape)) (record d { row = e ∷ es }) (record d { row = es; out = d.out ++ settled_by e }) x' y'
    (record { row = (s, rest); out = h.out; strange = h.strange })
    (record { row = rest; out = others_joined id d.out (settled_by e) d'.out (settled_by f) h.out (same_settled id e f s); strange = h.strange }))

pub same_given : (id : ℕ) (d d' : Dealing) (e f : Entry) (es fs : List Entry) → SameEntry id e f → SameRow id es fs → SameDealing id d d' → SameDealing id (given d e es) (given d' f fs)
same_given id d d' e f es fs (inl p) rest h = given_same_test id d d' e f es fs (ap (λ (x : Entry). x.got) (sym p)) (ap (λ (x : Entry). x.shape) (sym p)) (inl p) rest h
same_given id d d' e f es fs (inr p) rest h = given_same_test id d d' e f es fs (ap (λ (x : Entry). x.got) p.1) (ap (λ (x : Entry). x.shape) p.1) (inr p) rest h

same_dealt_to : (id : ℕ) (d d' : Dealing) (item : Data) (row row' : List Entry) → SameDealing id d d' → SameRow id row row' → SameDealing id (dealt_to d item row) (dealt_to d' item row')
same_dealt_to id d d' item [] [] h r = h
same_dealt_to id d d' item (e ∷ es) (f ∷ fs) h r = same_given id d d' (with_item e item) (with_item f item) es fs (with_same_item id e f item r.0) r.1 h
same_dealt_to id d d' item [] (f ∷ fs) h r = absurd r
same_dealt_to id d d' item (e ∷ es) [] h r = absurd r

-- messages take items in both
pub same_awaiting : (id : ℕ) (row row' : List Entry) → SameRow id row row' → is_awaiting row ≡ is_awaiting row'
same_awaiting id [] [] h = refl
same_awaiting id (e ∷ es) (f ∷ fs) h = refl
same_awaiting id [] (f ∷ fs) h = absurd h
same_awaiting id (e ∷ es) [] h = absurd h

-- values
--
-- each item goes to the same message, and every other verdict is the same, whatever is told of it
pub same_taken_as : (id : ℕ) (d d' : Dealing) (t u : Taking) (v : Data) → t.dealt ≡ u.dealt → t.ends ≡ u.ends → SameDealing id d d' → SameDealing id (taken_as d t v) (taken_as d' u v)
same_taken_as id d d' t u v dealt_so ends_so h =
    let m : Dealing = record d { notices = d.notices ++ noticed_behind (length d.out) t.told; strange = t.ends } in
    let m' : Dealing = record d' { notices = d'.notices ++ noticed_behind (length d'.out) u.told; strange = u.ends } in
    let k : SameDealing id m m' = record { row = h.row; out = h.out; strange = ends_so } in
    subst (λ (b : Bool). SameDealing id (taken_as d t v) (if b then dealt m' v else m')) dealt_so
    (branch id t.dealt (dealt m v) m (dealt m' v) m' (same_dealt_to id m m' v d.row d'.row k h.row) k)

-- so it is with a value
pub same_taken : (id : ℕ) (h : Hearing) (ready : Bool) (d d' : Dealing) (v : Data) → (let t = taking_in h ready d v in let u = taking_in h ready d' v in (t.dealt ≡ u.dealt) × (t.ends ≡ u.ends)) → SameDealing id d d' → SameDealing id (taken h ready d v) (taken h ready d' v)
same_taken id h ready d d' v same k =
    let x = taken_as d' (taking_in h ready d' v) v in
    subst (λ (b : Bool). SameDealing id (taken h ready d v) (if b then d' else x)) k.strange
    (branch id d.strange d (taken_as d (taking_in h ready d v) v) d' x k (same_taken_as id d d' (taking_in h ready d v) (taking_in h ready d' v) v same.0 same.1 k))

-- where each item is dealt
--
-- as it is where neither messages are heard nor the server is put into monitor mode
items_dealt : (h : Hearing) (b awaited : Bool) (v : Data) → hears_messages h ≡ false → is_watching h ≡ false → (let t = taking h b awaited v in (t.dealt ≡ is_item v) × (t.ends ≡ false))
items_dealt h false awaited v plain unwatched = (refl, refl)
items_dealt hearing.Nothing true awaited v plain unwatched = (refl, refl)
items_dealt hearing.Pushes true awaited v plain unwatched = (refl, refl)
items_dealt hearing.Messages true awaited v plain unwatched = cc plain
items_dealt hearing.Monitor true awaited v plain unwatched = cc unwatched

-- so any values are taken alike there
pub same_items : (id : ℕ) (h : Hearing) (ready : Bool) (d d' : Dealing) (vs : List Data) → hears_messages h ≡ false → is_watching h ≡ false → SameDealing id d d' → SameDealing id (taken_each h ready d vs) (taken_each h ready d' vs)
same_items id h ready d d' [] plain unwatched k = k
same_items id h ready d d' (v ∷ vs) plain unwatched k =
    let a = items_dealt h (is_set_up_in ready d) (is_awaiting d.row) v plain unwatched in
    let b = items_dealt h (is_set_up_in ready d') (is_awaiting d'.row) v plain unwatched in
    same_items id h ready (taken h ready d v) (taken h ready d' v) vs plain unwatched (same_taken id h ready d d' v (a.0 ∙ sym b.0, a.1 ∙ sym b.1) k)

-- where both links are set up alike
--
-- what was settled is nothing in both or something in both, and while it is nothing, the verdict of the first message is wanted
pub record SetsAlike (d d' : Dealing) : Type 0 where
  pub both : (length d.out == 0) ≡ (length d'.out == 0)
  pub first : (length d'.out == 0) ≡ true → is_first_wanted d'.row ≡ true

-- so the same becomes of a value
pub same_taking : (id : ℕ) (h : Hearing) (ready : Bool) (d d' : Dealing) (v : Data) → (ready ≡ true) ⊎ SetsAlike d d' → SameDealing id d d' → taking_in h ready d v ≡ taking_in h ready d' v
same_taking id h ready d d' v (inl set) k =
    let up : (b : Bool) → (ready || b) ≡ true = λ b i. set i || b in
    let set_so : is_set_up_in ready d ≡ is_set_up_in ready d' = up (not (length d.out == 0)) ∙ sym (up (not (length d'.out == 0))) in
    (λ i. taking h (set_so i) (same_awaiting id d.row d'.row k.row i) v)
same_taking id h ready d d' v (inr alike) k = (λ i. taking h (ready || not (alike.both i)) (same_awaiting id d.row d'.row k.row i) v)

-- something stays something with more
some_more : (xs ys : List Settled) → (length xs == 0) ≡ false → (length (xs ++ ys) == 0) ≡ false
some_more xs ys f = let n = ne_from (length xs) 0 f in ne_test (length (xs ++ ys)) 0 (λ e. n (let both : length (xs ++ ys) ≡ length xs + length ys = length-append xs ys in omega (arith, e, both)))

-- and what a message settles whose verdict is wanted is something
wanted_more : (out : List Settled) (e : Entry) → e.awaited ≡ true → (length (out ++ settled_by e) == 0) ≡ false
wanted_more out e t =
    let s : Settled = record { id = e.id; verdict = verdict_of e.shape e.got } in
    ap (λ (b : Bool). length (out ++ (if b then s ∷ [] else [])) == 0) t
    ∙ ne_test (length (out ++ s ∷ [])) 0 (λ none. let both : length (out ++ s ∷ []) ≡ length out + 1 = length-append out (s ∷ []) in let l : length out + 1 ≡ 0 = sym both ∙ none in absurd (omega arith))

-- where the second's verdict is wanted, so is the first's
first_too : (id : ℕ) (e f : Entry) → SameEntry id e f → f.awaited ≡ true → e.awaited ≡ true
first_too id e f (inl p) t = ap (λ (x : Entry). x.awaited) p ∙ t
first_too id e f (inr p) t = absurd (not_both f.awaited (ap (λ (x : Entry). x.awaited) p.1) t)

-- they are set up alike where an item has filled both first messages
full_sets : (id : ℕ) (d d' : Dealing) (e f : Entry) → SameEntry id e f → SetsAlike d d' → ((length d'.out == 0) ≡ true → f.awaited ≡ true)
    → ((length (d.out ++ settled_by e) == 0) ≡ false) × ((length (d'.out ++ settled_by f) == 0) ≡ false)
full_sets id d d' e f s alike first = by_test (length d'.out == 0) _
    (λ t. (wanted_more d.out e (first_too id e f s (first t)), wanted_more d'.out f (first t)))
    (λ n. (some_more d.out (settled_by e) (alike.both ∙ n), some_more d'.out (settled_by f) n))

-- they stay so where both have taken an item
item_sets : (id : ℕ) (d d' : Dealing) (v : Data) (row row' : List Entry) → d'.row ≡ row' → SameRow id row row' → SetsAlike d d' → SetsAlike (dealt_to d v row) (dealt_to d' v row')
item_sets id d d' v [] [] is h k = k
item_sets id d d' v (e ∷ es) (f ∷ fs) is h k =
    let x = with_item e v in
    let y = with_item f v in
    let first : (length d'.out == 0) ≡ true → f.awaited ≡ true = (λ t. sym (ap is_first_wanted is) ∙ k.first t) in
    let full = full_sets id d d' x y (with_same_item id e f v h.0) k first in
    let test : nat_lt (length y.got) (need_of y.shape) ≡ nat_lt (length x.got) (need_of x.shape) = same_test id e f v h.0 in
    subst (λ (b : Bool). SetsAlike (given d x es) (if b then record d' { row = y ∷ fs } else record d' { row = fs; out = d'.out ++ settled_by y })) (sym test)
    (chosen_both SetsAlike (nat_lt (length x.got) (need_of x.shape)) (record d { row = x ∷ es }) (record d { row = es; out = d.out ++ settled_by x }) (record d' { row = y ∷ fs }) (record d' { row = fs; out = d'.out ++ settled_by y })
    (λ t. record { both = k.both; first = first })
    (λ n. record { both = full.0 ∙ sym full.1; first = λ t. absurd (not_both (length (d'.out ++ settled_by y) == 0) full.1 t) }))
  where
    same_test : (id : ℕ) (e f : Entry) (v : Data) → SameEntry id e f → nat_lt (length (with_item f v).got) (need_of f.shape) ≡ nat_lt (length (with_item e v).got) (need_of e.shape)
    same_test id e f v (inl p) = ap (λ (x : Entry). nat_lt (length (with_item x v).got) (need_of x.shape)) (sym p)
    same_test id e f v (inr p) = ap (λ (x : Entry). nat_lt (length (with_item x v).got) (need_of x.shape)) p.1
item_sets id d d' v [] (f ∷ fs) is h k = absurd h
item_sets id d d' v (e ∷ es) [] is h k = absurd h

-- what is told, and then more
pub told_append : (xs ys : List NoticeAt) → told (xs ++ ys) ≡ told xs ++ told ys
told_append [] ys = refl
told_append (x ∷ xs) ys = ap (λ ns. x.notice ∷ ns) (told_append xs ys)

-- the same, behind any number
told_anywhere : (m n : ℕ) (o : Option Notice) → told (noticed_behind m o) ≡ told (noticed_behind n o)
told_anywhere m n None = refl
told_anywhere m n (Some what) = refl

-- links of which the same is told, and which are set up alike
pub record TellsAlike (id : ℕ) (ready : Bool) (d d' : Dealing) : Type 0 where
  pub same : SameDealing id d d'
  pub sets : (ready ≡ true) ⊎ SetsAlike d d'
  pub says : told d.notices ≡ told d'.notices

-- so they are when a value has come, of which the same becomes
as_tells : (id : ℕ) (ready : Bool) (d d' : Dealing) (t : Taking) (v : Data) → TellsAlike id ready d d' → TellsAlike id ready (taken_as d t v) (taken_as d' t v)
as_tells id ready d d' t v k =
    let m : Dealing = record d { notices = d.notices ++ noticed_behind (length d.out) t.told; strange = t.ends } in
    let m' : Dealing = record d' { notices = d'.notices ++ noticed_behind (length d'.out) t.told; strange = t.ends } in
    let says : told m.notices ≡ told m'.notices =
    told_append d.notices (noticed_behind (length d.out) t.told)
    ∙ (λ i. k.says i ++ told_anywhere (length d.out) (length d'.out) t.told i)
    ∙ sym (told_append d'.notices (noticed_behind (length d'.out) t.told)) in
    record {
      same = same_taken_as id d d' t t v refl refl k.same;
      sets = elim k.sets [
        | inl set ↦ inl set
        | inr alike ↦ inr (chosen_both SetsAlike t.dealt (dealt m v) m (dealt m' v) m'
            (λ y. item_sets id m m' v d.row d'.row refl k.same.row (record { both = alike.both; first = alike.first }))
            (λ n. record { both = alike.both; first = alike.first }))
      ];
      says = chosen_both (λ (x y : Dealing). told x.notices ≡ told y.notices) t.dealt (dealt m v) m (dealt m' v) m'
          (λ y. ap told (item_tells m v d.row).0 ∙ says ∙ sym (ap told (item_tells m' v d'.row).0))
          (λ n. says);
    }

-- any value
pub tells_taken : (id : ℕ) (h : Hearing) (ready : Bool) (d d' : Dealing) (v : Data) → TellsAlike id ready d d' → TellsAlike id ready (taken h ready d v) (taken h ready d' v)
tells_taken id h ready d d' v k =
    let t = taking_in h ready d v in
    let same = same_taking id h ready d d' v k.sets k.same in
    let x = taken_as d' (taking_in h ready d' v) v in
    subst (λ (b : Bool). TellsAlike id ready (taken h ready d v) (if b then d' else x)) k.same.strange
    (chosen_both (TellsAlike id ready) d.strange d (taken_as d t v) d' x
    (λ y. k)
    (λ n. subst (λ (u : Taking). TellsAlike id ready (taken_as d t v) (taken_as d' u v)) same (as_tells id ready d d' t v k)))

-- and any values
pub tells_taken_each : (id : ℕ) (h : Hearing) (ready : Bool) (d d' : Dealing) (vs : List Data) → TellsAlike id ready d d' → TellsAlike id ready (taken_each h ready d vs) (taken_each h ready d' vs)
tells_taken_each id h ready d d' [] k = k
tells_taken_each id h ready d d' (v ∷ vs) k = tells_taken_each id h ready (taken h ready d v) (taken h ready d' v) vs (tells_taken id h ready d d' v k)

-- rows of which nothing was dealt
pub tells_with : (id : ℕ) (ready : Bool) (row row' : List Entry) → SameRow id row row' → SetsUp ready row' → TellsAlike id ready (dealing_with row) (dealing_with row')
tells_with id ready row row' h sets = record {
  same = record { row = h; out = refl; strange = refl };
  sets = elim sets [
    | inl set ↦ inl set
    | inr first ↦ inr (record { both = refl; first = λ t. first })
  ];
  says = refl;
}
