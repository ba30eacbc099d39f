-- One more count in a tally.
use Rattle.std.proofs.Common.{◌≡◌, ℕ, ◌+◌, ◌^◌, ◌<◌, ℤ, pos, ◌+ℤ◌, Bor, Ordering, Less, Equal, Greater, Bool, true, false, cond, ◌||◌, List, [], ◌∷◌, ◌++◌, length, take, get_or, map, fold, bytes_eq, unwrap_or, Some, refl, sym, ap, ap₂, ◌∙◌, subst, arith, lit<, if◌then◌else◌}
use Rattle.std.specs.Ordering.{is_eq, match_ordering}
use Rattle.std.specs.BTreeMap.{insert_entry, is_at}
use Rattle.std.specs.BTreeSet.{insert_key}
use Rattle.std.specs.Map.{lookup}
use Rattle.std.specs.Cmp.Lexicographic.{nat_list_cmp_total, texts_ties}
use Rattle.std.proofs.lemmas.Slice.Eq.{bytes_eq-Decides}
use Rattle.std.proofs.lemmas.Int.{ints}
use Rattle.std.proofs.lemmas.List.{map_more}
use Rattle.std.specs.Int.{w64, w128}
use Rattle.std.specs.Prelude.{FitsSigned}
use Rattle.std.specs.List.Sorted.{IsStrictlySortedBy}
use Rattle.fan_out.specs.Laws.{NamesAscend, SumsStandUnderNames}
use Rattle.fan_out.specs.Tallies.{Count, byte_order, count_now, names_with, number_for, number_of, sum_for, tally}
use Rattle.fan_out.proofs.Summing.{IsWithin, wide, within_more}
use Rattle.fan_out.proofs.Order.{Ascending, Below, ascending_inserted, below_rest, has, has_inserted}

-- names that the order finds equal are equal
equal_names : (a b : List ℕ) → byte_order a b ≡ Equal → a ≡ b
equal_names a b e = (bytes_eq-Decides a b).0 (texts_ties a b ∙ ap is_eq e)

other_names : (a b : List ℕ) → is_eq (byte_order a b) ≡ false → bytes_eq a b ≡ false
other_names a b e = texts_ties a b ∙ e

same_name : (a : List ℕ) → bytes_eq a a ≡ true
same_name a = (bytes_eq-Decides a a).1 refl

-- names, each with its number
abbrev each_with : (List ℕ → ℤ) → List (List ℕ) → List Count
each_with f names = map (λ n. (n, f n)) names

names_with_one_more : (names : List (List ℕ)) (cs : List Count) (c : Count) → names_with names (cs ++ c ∷ []) ≡ insert_key byte_order (names_with names cs) c.0
names_with_one_more names [] c = refl
names_with_one_more names (d ∷ cs) c = names_with_one_more (insert_key byte_order names d.0) cs c

folded_one_more : (name : List ℕ) (a : ℤ) (cs : List Count) (c : Count) → fold ◌+ℤ◌ a (map (number_for name) (cs ++ c ∷ [])) ≡ fold ◌+ℤ◌ a (map (number_for name) cs) +ℤ number_for name c
folded_one_more name a [] c = refl
folded_one_more name a (d ∷ cs) c = folded_one_more name (a +ℤ number_for name d) cs c

sum_with_one_more : (name : List ℕ) (cs : List Count) (c : Count) → sum_for name (cs ++ c ∷ []) ≡ sum_for name cs +ℤ number_for name c
sum_with_one_more name cs c = folded_one_more name (pos 0) cs c

names_ascend : (names : List (List ℕ)) (cs : List Count) → Ascending nat_list_cmp_total names → Ascending nat_list_cmp_total (names_with names cs)
names_ascend names [] s = s
names_ascend names (c ∷ cs) s = names_ascend (insert_key byte_order names c.0) cs (ascending_inserted nat_list_cmp_total c.0 names s)

left_false : (a b : Bool) → (a || b) ≡ false → a ≡ false
left_false true b e = cc
left_false false b e = refl

right_false : (a b : Bool) → (a || b) ≡ false → b ≡ false
right_false true b e = cc
right_false false b e = e

-- a name that isn't there in the end wasn't there before
not_before : (name : List ℕ) (names : List (List ℕ)) (cs : List Count) → has nat_list_cmp_total name (names_with names cs) ≡ false → has nat_list_cmp_total name names ≡ false
not_before name names [] h = h
not_before name names (c ∷ cs) h =
    right_false (is_eq (byte_order name c.0)) (has nat_list_cmp_total name names) (sym (has_inserted nat_list_cmp_total name c.0 names) ∙ not_before name (insert_key byte_order names c.0) cs h)

bytes_eq_turned : (a b : List ℕ) → bytes_eq a b ≡ false → bytes_eq b a ≡ false
bytes_eq_turned a b e = by (bytes_eq b a) refl
  where
    by : (t : Bool) → bytes_eq b a ≡ t → t ≡ false
    by false s = refl
    by true s = let turned : bytes_eq a b ≡ true = (bytes_eq-Decides a b).1 (sym ((bytes_eq-Decides b a).0 s)) in cc

number_of_other : (name : List ℕ) (c : Count) → bytes_eq c.0 name ≡ false → number_for name c ≡ pos 0
number_of_other name c e = ap (λ t. if t then c.1 else pos 0) e

number_of_same : (c : Count) → number_for c.0 c ≡ c.1
number_of_same c = ap (λ t. if t then c.1 else pos 0) (same_name c.0)

with_zero : (a b : ℤ) → b ≡ pos 0 → a +ℤ b ≡ a
with_zero a b e = omega (arith, ints)

absent : (name : List ℕ) (names : List (List ℕ)) (a : ℤ) (cs : List Count) → has nat_list_cmp_total name (names_with names cs) ≡ false → fold ◌+ℤ◌ a (map (number_for name) cs) ≡ a
absent name names a [] h = refl
absent name names a (c ∷ cs) h =
    let here = left_false (is_eq (byte_order name c.0)) (has nat_list_cmp_total name names) (sym (has_inserted nat_list_cmp_total name c.0 names) ∙ not_before name (insert_key byte_order names c.0) cs h) in
    let nothing : number_for name c ≡ pos 0 = number_of_other name c (bytes_eq_turned name c.0 (other_names name c.0 here)) in
    absent name (insert_key byte_order names c.0) (a +ℤ number_for name c) cs h ∙ with_zero a (number_for name c) nothing

-- what is found under a name, where each name has its number, and one that isn't there has 0
found_number : (f : List ℕ → ℤ) (name : List ℕ) (names : List (List ℕ)) → (has nat_list_cmp_total name names ≡ false → f name ≡ pos 0) → number_of name (each_with f names) ≡ f name
found_number f name [] zero_if_absent = sym (zero_if_absent refl)
found_number f name (x ∷ xs) zero_if_absent = by (byte_order name x) refl (found_number f name xs)
  where
    by : (r : Ordering) → byte_order name x ≡ r → ((has nat_list_cmp_total name xs ≡ false → f name ≡ pos 0) → number_of name (each_with f xs) ≡ f name) → unwrap_or (cond (is_eq r) (Some (f x)) (lookup (is_at (byte_order name)) (each_with f xs))) (pos 0) ≡ f name
    by Equal e rest = ap f (sym (equal_names name x e))
    by Less e rest = rest (λ h. zero_if_absent (ap (λ r. is_eq r || has nat_list_cmp_total name xs) e ∙ h))
    by Greater e rest = rest (λ h. zero_if_absent (ap (λ r. is_eq r || has nat_list_cmp_total name xs) e ∙ h))

pub number_in_tally : (name : List ℕ) (cs : List Count) → number_of name (tally cs) ≡ sum_for name cs
number_in_tally name cs = found_number (λ n. sum_for n cs) name (names_with [] cs) (λ h. absent name [] (pos 0) cs h)

-- the names of a tally
only_names : (f : List ℕ → ℤ) (names : List (List ℕ)) → map (λ c. c.0) (each_with f names) ≡ names
only_names f [] = refl
only_names f (n ∷ names) = ap (λ ns. n ∷ ns) (only_names f names)

sorted : (names : List (List ℕ)) → Ascending nat_list_cmp_total names → IsStrictlySortedBy byte_order names
unfolding IsStrictlySortedBy
sorted [] s = tt
sorted (n ∷ names) s = (s.0, sorted names s.1)

pub names_stand_in_order : NamesAscend
names_stand_in_order cs = subst (IsStrictlySortedBy byte_order) (sym (only_names (λ n. sum_for n cs) (names_with [] cs))) (sorted (names_with [] cs) (names_ascend [] cs tt))

pub sums_stand_under_names : SumsStandUnderNames
sums_stand_under_names cs name = number_in_tally name cs

-- numbers that differ for one name alone are the same behind it
same_behind : (f g : List ℕ → ℤ) (name : List ℕ) (names : List (List ℕ)) → ((q : List ℕ) → is_eq (byte_order name q) ≡ false → f q ≡ g q) → Below nat_list_cmp_total name names → each_with f names ≡ each_with g names
same_behind f g name [] others b = refl
same_behind f g name (x ∷ xs) others b =
    ap₂ (λ n ns. (x, n) ∷ ns) (others x (ap is_eq b.0)) (same_behind f g name xs others b.1)

inserted : (f g : List ℕ → ℤ) (name : List ℕ) (names : List (List ℕ)) → ((q : List ℕ) → is_eq (byte_order name q) ≡ false → f q ≡ g q) → Ascending nat_list_cmp_total names → insert_entry byte_order (each_with f names) name (g name) ≡ each_with g (insert_key byte_order names name)
inserted f g name [] others s = refl
inserted f g name (x ∷ xs) others s = by (byte_order name x) refl (inserted f g name xs others s.1)
  where
    by : (r : Ordering) → byte_order name x ≡ r → insert_entry byte_order (each_with f xs) name (g name) ≡ each_with g (insert_key byte_order xs name) → match_ordering r ((name, g name) ∷ (x, f x) ∷ each_with f xs) ((x, g name) ∷ each_with f xs) ((x, f x) ∷ insert_entry byte_order (each_with f xs) name (g name)) ≡ each_with g (match_ordering r (name ∷ x ∷ xs) (x ∷ xs) (x ∷ insert_key byte_order xs name))
    by Less e rest = ap (λ ns. (name, g name) ∷ ns) (same_behind f g name (x ∷ xs) others (e, below_rest nat_list_cmp_total name x xs e s.0))
    by Equal e rest =
        let same = equal_names name x e in
        let P : List ℕ → Type 0 = λ n. Below nat_list_cmp_total n xs in
        ap₂ (λ n ns. (x, n) ∷ ns) (ap g same) (same_behind f g name xs others (subst P (sym same) s.0))
    by Greater e rest = ap₂ (λ n ns. (x, n) ∷ ns) (others x (ap is_eq e)) rest

-- one more count
pub tally_with_one_more : (cs : List Count) (c : Count) → insert_entry byte_order (tally cs) c.0 (number_of c.0 (tally cs) +ℤ c.1) ≡ tally (cs ++ c ∷ [])
tally_with_one_more cs c =
    let g : List ℕ → ℤ = λ n. sum_for n (cs ++ c ∷ []) in
    let others : (q : List ℕ) → is_eq (byte_order c.0 q) ≡ false → sum_for q cs ≡ g q =
    λ q e. sym (sum_with_one_more q cs c ∙ with_zero (sum_for q cs) (number_for q c) (number_of_other q c (other_names c.0 q e))) in
    let value : number_of c.0 (tally cs) +ℤ c.1 ≡ g c.0 =
    ap₂ ◌+ℤ◌ (number_in_tally c.0 cs) (sym (number_of_same c)) ∙ sym (sum_with_one_more c.0 cs c) in
    ap (insert_entry byte_order (tally cs) c.0) value
    ∙ inserted (λ n. sum_for n cs) g c.0 (names_with [] cs) others (names_ascend [] cs tt)
    ∙ ap (each_with g) (sym (names_with_one_more [] cs c))

one_taken : (cs : List (Bor (List ℕ) × ℤ)) (i : ℕ) (x : Bor (List ℕ) × ℤ) → i < length cs → x ≡ get_or cs i x → map count_now (take (i + 1) cs) ≡ map count_now (take i cs) ++ count_now x ∷ []
one_taken cs i x h is = map_more count_now cs i x h ∙ ap (λ y. map count_now (take i cs) ++ count_now y ∷ []) (sym is)

pub tallied : (t more : List Count) (cs : List (Bor (List ℕ) × ℤ)) (i : ℕ) (x : Bor (List ℕ) × ℤ) → i < length cs → x ≡ get_or cs i x → t ≡ tally (map count_now (take i cs)) → more ≡ insert_entry byte_order t x.0.now (number_of x.0.now t +ℤ x.1) → more ≡ tally (map count_now (take (i + 1) cs))
tallied t more cs i x h is so_far added =
    added
    ∙ ap (λ s. insert_entry byte_order s x.0.now (number_of x.0.now s +ℤ x.1)) so_far
    ∙ tally_with_one_more (map count_now (take i cs)) (count_now x)
    ∙ ap tally (sym (one_taken cs i x h is))

number_within : (name : List ℕ) (c : Count) (n : ℕ) (z : ℤ) → FitsSigned w64 c.1 → IsWithin n z → IsWithin (n + 1) (z +ℤ number_for name c)
number_within name c n z fits w = by (bytes_eq c.0 name)
  where
    by : (b : Bool) → IsWithin (n + 1) (z +ℤ (if b then c.1 else pos 0))
    by true = within_more z c.1 n w fits
    by false = within_more z (pos 0) n w (record { sfits = lit< tt })

pub still_within : (name : List ℕ) (cs : List (Bor (List ℕ) × ℤ)) (i : ℕ) (x : Bor (List ℕ) × ℤ) → i < length cs → x ≡ get_or cs i x → FitsSigned w64 x.1 → IsWithin i (sum_for name (map count_now (take i cs))) → IsWithin (i + 1) (sum_for name (map count_now (take (i + 1) cs)))
still_within name cs i x h is fits w =
    let e : sum_for name (map count_now (take i cs)) +ℤ number_for name (count_now x) ≡ sum_for name (map count_now (take (i + 1) cs)) =
    sym (ap (sum_for name) (one_taken cs i x h is) ∙ sum_with_one_more name (map count_now (take i cs)) (count_now x)) in
    subst (IsWithin (i + 1)) e (number_within name (count_now x) i (sum_for name (map count_now (take i cs))) fits w)

-- one more number fits twice as many bits
pub fits_once_more : (t cs : List Count) (name : List ℕ) (n : ℤ) (i : ℕ) → i < 2 ^ 64 → t ≡ tally cs → IsWithin i (sum_for name cs) → FitsSigned w64 n → FitsSigned w128 (number_of name t +ℤ n)
fits_once_more t cs name n i small so_far w fits =
    let e : sum_for name cs ≡ number_of name t = sym (ap (number_of name) so_far ∙ number_in_tally name cs) in
    wide (number_of name t) n i small (subst (IsWithin i) e w) fits
