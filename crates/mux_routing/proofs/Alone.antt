-- Rows have one table of ranges.
use Rattle.std.proofs.Common.{◌≡◌, ◌≢◌, ℕ, suc, ◌<◌, ◌≤◌, ◌==◌, nat_lt, not, ◌&&◌, Bool, true, false, List, [], ◌∷◌, Option, Some, None, refl, ap, sym, ◌∙◌, arith, if◌then◌else◌}
use Rattle.std.proofs.lemmas.Bool.Decides.{nat_tests}
use Rattle.containers.proofs.Choices.{both_true, by_test, eq_test, not_lt_from, lt_from}
use Rattle.mux_routing.specs.declared.range_table.SlotRange.{SlotRange}
use Rattle.mux_routing.specs.declared.rows.SlotRow.{SlotRow}
use Rattle.mux_routing.specs.Kept.{AreRanges}
use Rattle.mux_routing.specs.Ranges.{are_apart_from, are_maximal, covers, goes_on, row_in}
use Rattle.mux_routing.proofs.Searching.{lies_in, none_below, not_before, not_behind, parts}

some_none : (n : ℕ) → Some n ≡ None → ⊥
some_none n e = cc

one : (n m : ℕ) → Some n ≡ Some m → n ≡ m
one n m e = cc e

neither : (a b : ℕ) → (a < b → ⊥) → (b < a → ⊥) → a ≡ b
neither a b h g =
    by_test (nat_lt a b) (a ≡ b)
    (λ t. absurd (h (lt_from a b t)))
    (λ f. by_test (nat_lt b a) (a ≡ b) (λ t. absurd (g (lt_from b a t))) (λ k. omega (arith, not_lt_from a b f, not_lt_from b a k)))

at : (first : ℕ) (r : SlotRange) (rs : List SlotRange) (slot : ℕ) → are_apart_from first (r ∷ rs) ≡ true → r.start ≤ slot → slot ≤ r.end → row_in (r ∷ rs) slot ≡ Some r.row
at first r rs slot h from to = lies_in first (r ∷ rs) 0 r slot h refl from to

below_first : (first : ℕ) (r : SlotRange) (rs : List SlotRange) (slot : ℕ) → are_apart_from first (r ∷ rs) ≡ true → slot < r.start → row_in (r ∷ rs) slot ≡ None
below_first first r rs slot h lt =
    let p = parts first r rs h in
    ap (λ t. if t then Some r.row else row_in rs slot) (not_before r slot lt) ∙ none_below (suc r.end) rs slot p.further (omega (arith, lt, p.some))

no_earlier : (a b : ℕ) (x y : SlotRange) (xs ys : List SlotRange) → are_apart_from a (x ∷ xs) ≡ true → are_apart_from b (y ∷ ys) ≡ true → ((s : ℕ) → row_in (x ∷ xs) s ≡ row_in (y ∷ ys) s) → x.start < y.start → ⊥
no_earlier a b x y xs ys h g f lt =
    some_none x.row (sym (at a x xs x.start h (omega arith) (parts a x xs h).some) ∙ f x.start ∙ below_first b y ys x.start g lt)

not_maximal : (x q : SlotRange) (qs : List SlotRange) → are_maximal (x ∷ q ∷ qs) ≡ true → suc x.end ≡ q.start → x.row ≡ q.row → ⊥
not_maximal x q qs h e r = by (both_true (not (goes_on x q)) (are_maximal (q ∷ qs)) h).0
  where
    on : goes_on x q ≡ true
    on = ap (λ t. t && (x.row == q.row)) (eq_test (suc x.end) q.start e) ∙ eq_test x.row q.row r

    never : false ≡ true → ⊥
    never k = cc

    by : not (goes_on x q) ≡ true → ⊥
    by k = never (sym (ap not on) ∙ k)

-- a range ends where the next slot isn't of its row
ends_there : (x : SlotRange) (xs : List SlotRange) → are_apart_from (suc x.end) xs ≡ true → are_maximal (x ∷ xs) ≡ true → row_in xs (suc x.end) ≡ Some x.row → ⊥
ends_there x [] h m e = some_none x.row (sym e)
ends_there x (q ∷ qs) h m e = not_maximal x q qs m adjoin (one x.row q.row (sym e ∙ at (suc x.end) q qs (suc x.end) h (omega (arith, adjoin)) (omega (arith, adjoin, (parts (suc x.end) q qs h).some))))
  where
    adjoin : suc x.end ≡ q.start
    adjoin = neither (suc x.end) q.start (λ lt. some_none x.row (sym e ∙ below_first (suc x.end) q qs (suc x.end) h lt)) (λ gt. absurd (omega (arith, gt, (parts (suc x.end) q qs h).first_is)))

no_shorter : (a b : ℕ) (x y : SlotRange) (xs ys : List SlotRange) → are_apart_from a (x ∷ xs) ≡ true → are_apart_from b (y ∷ ys) ≡ true → are_maximal (x ∷ xs) ≡ true → ((s : ℕ) → row_in (x ∷ xs) s ≡ row_in (y ∷ ys) s) → x.start ≡ y.start → x.row ≡ y.row → x.end < y.end → ⊥
no_shorter a b x y xs ys h g m f starts rows lt =
    let p = parts a x xs h in
    let next : row_in (x ∷ xs) (suc x.end) ≡ Some x.row = f (suc x.end) ∙ at b y ys (suc x.end) g (omega (arith, starts, p.some)) (omega (arith, lt)) ∙ ap (λ n. Some n) (sym rows) in
    ends_there x xs p.further m (sym (ap (λ t. if t then Some x.row else row_in xs (suc x.end)) (not_behind x (suc x.end) (omega arith))) ∙ next)

rest_maximal : (x : SlotRange) (xs : List SlotRange) → are_maximal (x ∷ xs) ≡ true → are_maximal xs ≡ true
rest_maximal x [] h = refl
rest_maximal x (q ∷ qs) h = (both_true (not (goes_on x q)) (are_maximal (q ∷ qs)) h).1

rest_same : (x y : SlotRange) (xs ys : List SlotRange) → are_apart_from (suc x.end) xs ≡ true → are_apart_from (suc y.end) ys ≡ true → x.end ≡ y.end → ((s : ℕ) → row_in (x ∷ xs) s ≡ row_in (y ∷ ys) s) → (s : ℕ) → row_in xs s ≡ row_in ys s
rest_same x y xs ys h g e f s =
    by_test (nat_lt x.end s) (row_in xs s ≡ row_in ys s)
    (λ t.
    let lt = lt_from x.end s t in
    sym (ap (λ u. if u then Some x.row else row_in xs s) (not_behind x s lt)) ∙ f s ∙ ap (λ u. if u then Some y.row else row_in ys s) (not_behind y s (omega (arith, lt, e))))
    (λ k.
    let le = not_lt_from x.end s k in
    none_below (suc x.end) xs s h (omega (arith, le)) ∙ sym (none_below (suc y.end) ys s g (omega (arith, le, e))))

same_ranges : (a b : ℕ) (xs ys : List SlotRange) → are_apart_from a xs ≡ true → are_apart_from b ys ≡ true → are_maximal xs ≡ true → are_maximal ys ≡ true → ((s : ℕ) → row_in xs s ≡ row_in ys s) → xs ≡ ys
same_ranges a b [] [] h g m n f = refl
same_ranges a b (x ∷ xs) [] h g m n f = absurd (some_none x.row (sym (at a x xs x.start h (omega arith) (parts a x xs h).some) ∙ f x.start))
same_ranges a b [] (y ∷ ys) h g m n f = absurd (some_none y.row (sym (at b y ys y.start g (omega arith) (parts b y ys g).some) ∙ sym (f y.start)))
same_ranges a b (x ∷ xs) (y ∷ ys) h g m n f =
    let p = parts a x xs h in
    let q = parts b y ys g in
    let starts : x.start ≡ y.start = neither x.start y.start (no_earlier a b x y xs ys h g f) (no_earlier b a y x ys xs g h (λ s. sym (f s))) in
    let rows : x.row ≡ y.row = one x.row y.row (sym (at a x xs x.start h (omega arith) p.some) ∙ f x.start ∙ at b y ys x.start g (omega (arith, starts)) (omega (arith, starts, q.some))) in
    let ends : x.end ≡ y.end = neither x.end y.end (no_shorter a b x y xs ys h g m f starts rows) (no_shorter b a y x ys xs g h n (λ s. sym (f s)) (sym starts) (sym rows)) in
    let rest = same_ranges (suc x.end) (suc y.end) xs ys p.further q.further (rest_maximal x xs m) (rest_maximal y ys n) (rest_same x y xs ys p.further q.further ends f) in
    λ i. record { start = starts i; end = ends i; row = rows i } ∷ rest i

pub alone : (ranges others : List SlotRange) (rows : List SlotRow) → AreRanges ranges rows → AreRanges others rows → ranges ≡ others
alone ranges others rows h g = same_ranges 0 0 ranges others h.apart g.apart h.maximal g.maximal (λ s. h.each s ∙ sym (g.each s))
