-- The messages of a ledger that take more items, and where they stand.
use Rattle.std.proofs.Common.{◌≡◌, ℕ, zero, suc, ◌+◌, ◌<◌, ◌≤◌, nat_le, true, if◌then◌else◌, List, [], ◌∷◌, ◌++◌, length, take, drop, Some, slice_get, refl, ap, subst, arith, length-drop, length-append}
use Rattle.std.proofs.lemmas.List.{drop-append-le, length_push, drop_all}
use Rattle.containers.proofs.Choices.{by_test, le_from, not_le_from, le_test, not_le_test}
use Rattle.resp_value.specs.Data.{Data}
use Rattle.driver_model.specs.declared.action.Owner.{Owner}
use Rattle.driver_model.specs.declared.outcome.Shape.{Shape}
use Rattle.driver_model.specs.Shape.{need_of}
use Rattle.link_core.specs.declared.message.Entry.{Entry}
use Rattle.legal_trace.specs.Ledger.{Start, need_in, reach, full_count}
use Rattle.link_laws.specs.Settles.{StandsAs}
use Rattle.legal_trace.proofs.Ledgers.{takes_one}
use Rattle.link_laws.proofs.Lists.{heads_same}

-- one start more
pub reach_next : (ss : List Start) (k : ℕ) (items : List Data) (s : Start) → slice_get ss k ≡ Some s → reach (take (suc k) ss) items ≡ reach (take k ss) items + need_in s.shape (drop (reach (take k ss) items) items)
reach_next [] k items s e = cc
reach_next (x ∷ ss) zero items s e =
    let same : x ≡ s = cc in
    subst (λ (y : Start). need_of x.shape + 0 ≡ 0 + need_of y.shape) same (omega arith)
reach_next (x ∷ ss) (suc k) items s e = omega (arith, reach_next ss k (drop (need_of x.shape) items) s e)

-- more starts reach further
pub reach-push : (ss : List Start) (items : List Data) (s : Start) → reach ss items ≤ reach (ss ++ s ∷ []) items
reach-push [] items s = omega arith
reach-push (x ∷ ss) items s = omega (arith, reach-push ss (drop (need_of x.shape) items) s)

-- a message that takes more items, and what it has got
pub record Open : Type 0 where
  pub owner : Owner
  pub shape : Shape
  pub got : List Data

-- a message that got nothing yet
abbrev pub untouched : Start → Open
untouched s = record { owner = s.owner; shape = s.shape; got = [] }

-- messages that got nothing yet
abbrev pub untouched_each : List Start → List Open
untouched_each [] = []
untouched_each (s ∷ ss) = untouched s ∷ untouched_each ss

-- the starts that these items don't fill, in order, and what each has got
abbrev pub open_rows : List Start → List Data → List Open
open_rows [] items = []
open_rows (s ∷ ss) items =
    if nat_le (need_in s.shape items) (length items) then open_rows ss (drop (need_in s.shape items) items)
    else record { owner = s.owner; shape = s.shape; got = items } ∷ untouched_each ss

-- the same of a link, by the names of its messages
abbrev pub open_of : (ℕ → Owner) → Entry → Open
open_of name e = record { owner = name e.id; shape = e.shape; got = e.got }

-- the messages of a row, in order
abbrev pub open_list : (ℕ → Owner) → List Entry → List Open
open_list name [] = []
open_list name (e ∷ es) = open_of name e ∷ open_list name es

-- one more entry is one more row
pub open_list-append : (name : ℕ → Owner) (es : List Entry) (e : Entry) → open_list name (es ++ e ∷ []) ≡ open_list name es ++ open_of name e ∷ []
open_list-append name [] e = refl
open_list-append name (x ∷ es) e = ap (λ os. open_of name x ∷ os) (open_list-append name es e)

-- one more start is one more untouched
untouched-append : (ss : List Start) (s : Start) → untouched_each (ss ++ s ∷ []) ≡ untouched_each ss ++ untouched s ∷ []
untouched-append [] s = refl
untouched-append (x ∷ ss) s = ap (λ os. untouched x ∷ os) (untouched-append ss s)

-- one more start is one more row
pub open_rows-start : (ss : List Start) (items : List Data) (s : Start) → length items ≤ reach ss items → open_rows (ss ++ s ∷ []) items ≡ open_rows ss items ++ untouched s ∷ []
open_rows-start [] [] s within = rw (not_le_test (need_of s.shape) 0 (takes_one s.shape)) refl
open_rows-start [] (d ∷ items) s within = absurd (omega arith)
open_rows-start (x ∷ ss) items s within =
    by_test (nat_le (need_of x.shape) (length items)) _
    (λ t. let l : length (drop (need_of x.shape) items) ≤ reach ss (drop (need_of x.shape) items) = omega (arith, length-drop (need_of x.shape) items) in rw t (open_rows-start ss (drop (need_of x.shape) items) s l))
    (λ f. rw f (ap (λ os. record { owner = x.owner; shape = x.shape; got = items } ∷ os) (untouched-append ss s)))

-- where no row is open, no more items are wanted
pub none_open : (ss : List Start) (items : List Data) → open_rows ss items ≡ [] → reach ss items ≤ length items
none_open [] items e = omega arith
none_open (s ∷ ss) items e =
    by_test (nat_le (need_of s.shape) (length items)) _
    (λ t. let h : reach ss (drop (need_of s.shape) items) ≤ length (drop (need_of s.shape) items) = none_open ss (drop (need_of s.shape) items) (rw t at e) in omega (arith, le_from _ _ t, length-drop (need_of s.shape) items))
    (λ f. let g : record { owner = s.owner; shape = s.shape; got = items } ∷ untouched_each ss ≡ [] = rw f at e in cc)

-- without items all are untouched
pub open_rows-none : (ss : List Start) → open_rows ss [] ≡ untouched_each ss
open_rows-none [] = refl
open_rows-none (s ∷ ss) = rw (not_le_test (need_of s.shape) 0 (takes_one s.shape)) refl

-- rows whose first got an item more, which may fill it
abbrev pub after_item : Open → Data → List Open → List Open
after_item o item rows = if nat_le (need_of o.shape) (length o.got + 1) then rows else record o { got = o.got ++ item ∷ [] } ∷ rows

-- an item goes to the first row
pub open_rows-item : (ss : List Start) (items : List Data) (item : Data) (o : Open) (rows : List Open) → open_rows ss items ≡ o ∷ rows
    → (length items < reach ss items) × (open_rows ss (items ++ item ∷ []) ≡ after_item o item rows)
open_rows-item [] items item o rows e = cc
open_rows-item (s ∷ ss) items item o rows e =
    let n = need_of s.shape in
    by_test (nat_le n (length items)) _
    (λ t.
    let l : n ≤ length items = le_from _ _ t in
    let h = open_rows-item ss (drop n items) item o rows (rw t at e) in
    let u : nat_le n (length (items ++ item ∷ [])) ≡ true = le_test _ _ (omega (arith, length-append items (item ∷ []))) in
    (omega (arith, length-drop n items), rw (u, drop-append-le n items (item ∷ []) l) h.1))
    (λ f.
    let l : length items < n = not_le_from _ _ f in
    let h = heads_same _ _ _ _ (rw f at e) in
    let more : length (items ++ item ∷ []) ≡ length items + 1 = length_push items item in (
      omega arith,
      rw (← h.0, ← h.1, more) (by_test (nat_le n (length items + 1)) _
          (λ t.
          let k : n ≤ length items + 1 = le_from _ _ t in
          let d : drop n (items ++ item ∷ []) ≡ [] = drop_all n (items ++ item ∷ []) (omega arith) in
          rw (t, d) (open_rows-none ss))
          (λ g. rw g refl)),
    ))

-- where the rows stand
--
-- the rows are the starts from number k on
abbrev pub StandFrom : List Start → ℕ → List Open → Type 0
StandFrom ss k [] = Unit {0}
StandFrom ss k (o ∷ os) = StandsAs ss o.owner o.shape k × StandFrom ss (suc k) os

-- rows stand where they did, one number later, behind one start more
stand_past : (s : Start) (ss : List Start) (k : ℕ) (os : List Open) → StandFrom ss k os → StandFrom (s ∷ ss) (suc k) os
stand_past s ss k [] h = tt
stand_past s ss k (o ∷ os) h = (record { start = h.0.start; stands = h.0.stands; owned = h.0.owned; shaped = h.0.shaped }, stand_past s ss (suc k) os h.1)

-- what is untouched stands from the first number on
untouched_stand : (ss : List Start) → StandFrom ss 0 (untouched_each ss)
untouched_stand [] = tt
untouched_stand (s ∷ ss) = (record { start = s; stands = refl; owned = refl; shaped = refl }, stand_past s ss 0 (untouched_each ss) (untouched_stand ss))

-- the first row is the oldest start that isn't full, and the others follow it
pub rows_stand : (ss : List Start) (items : List Data) → StandFrom ss (full_count ss items) (open_rows ss items)
rows_stand [] items = tt
rows_stand (s ∷ ss) items =
    let n = need_of s.shape in
    by_test (nat_le n (length items)) _
    (λ t. rw t (stand_past s ss (full_count ss (drop n items)) (open_rows ss (drop n items)) (rows_stand ss (drop n items))))
    (λ f. rw f (record { start = s; stands = refl; owned = refl; shaped = refl }, stand_past s ss 0 (untouched_each ss) (untouched_stand ss)))

-- none of them has all its items
pub unfilled : (ss : List Start) (items : List Data) (k : ℕ) (s : Start) → slice_get ss k ≡ Some s → full_count ss items ≤ k → length items < reach (take (suc k) ss) items
unfilled [] items k s e l = cc
unfilled (x ∷ ss) items zero s e l =
    let n = need_of x.shape in
    by_test (nat_le n (length items)) _
    (λ t. absurd (let no : suc (full_count ss (drop n items)) ≤ 0 = rw t at l in omega arith))
    (λ f. omega (arith, not_le_from _ _ f))
unfilled (x ∷ ss) items (suc k) s e l =
    let n = need_of x.shape in
    by_test (nat_le n (length items)) _
    (λ t.
    let more : suc (full_count ss (drop n items)) ≤ suc k = rw t at l in
    omega (arith, le_from _ _ t, length-drop n items, unfilled ss (drop n items) k s e (omega arith)))
    (λ f. omega (arith, not_le_from _ _ f))

-- the starts before them have all their items
pub filled : (ss : List Start) (items : List Data) (k : ℕ) → k < full_count ss items → reach (take (suc k) ss) items ≤ length items
filled [] items k l = absurd (omega arith)
filled (x ∷ ss) items zero l =
    let n = need_of x.shape in
    by_test (nat_le n (length items)) _
    (λ t. omega (arith, le_from _ _ t))
    (λ f. absurd (let no : 0 < 0 = rw f at l in omega arith))
filled (x ∷ ss) items (suc k) l =
    let n = need_of x.shape in
    by_test (nat_le n (length items)) _
    (λ t.
    let fewer : suc k < suc (full_count ss (drop n items)) = rw t at l in
    omega (arith, le_from _ _ t, length-drop n items, filled ss (drop n items) k (omega arith)))
    (λ f. absurd (let no : suc k < 0 = rw f at l in omega arith))

-- there are as many untouched as starts
untouched_length : (ss : List Start) → length (untouched_each ss) ≡ length ss
untouched_length [] = refl
untouched_length (s ∷ ss) = ap suc (untouched_length ss)

-- and each start is among those or these
pub rows_length : (ss : List Start) (items : List Data) → full_count ss items + length (open_rows ss items) ≡ length ss
rows_length [] items = refl
rows_length (s ∷ ss) items =
    let n = need_of s.shape in
    by_test (nat_le n (length items)) _
    (λ t. rw t (omega (arith, rows_length ss (drop n items))))
    (λ f. rw f (omega (arith, untouched_length ss)))
