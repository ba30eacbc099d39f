-- The order of addresses by a test and by a comparison is one; and a binary search finds places.
use Rattle.std.proofs.Common.{◌≡◌, ℕ, zero, suc, ◌+◌, ◌<◌, ◌≤◌, nat_lt, true, false, ◌&&◌, ◌||◌, List, [], ◌∷◌, length, get_or, Result, Ok, Err, MatchResult, refl, ap, sym, ◌∙◌, arith, if◌then◌else◌}
use Rattle.std.specs.List.{AllByRecursion, list_all}
use Rattle.std.specs.List.Sorted.{IsBinarySearchResult, IsSearchInRange, IsSortedBy, IsStrictlySortedBy}
use Rattle.std.specs.declared.cmp.Ordering.{Ordering}
use Rattle.std.specs.declared.cmp.Ordering.TheVariants.{Less, Equal, Greater}
use Rattle.std.specs.Cmp.Lexicographic.{slice_cmp, texts_ties}
use Rattle.std.specs.Ordering.{is_eq, is_lt, nat_cmp, ordering_reverse, ordering_then}
use Rattle.std.specs.Str.{bytes_eq}
use Rattle.std.proofs.lemmas.Bool.Decides.{nat_tests}
use Rattle.std.proofs.lemmas.Cmp.{same_from_slice_cmp}
use Rattle.std.proofs.lemmas.List.Sorted.{searchable_from_sorted}
use Rattle.std.proofs.lemmas.Map.Keys.{Less-from_sorted}
use Rattle.containers.proofs.Choices.{both_true}
use Rattle.slot_hash.specs.declared.address.NodeAddress.{NodeAddress}
use Rattle.slot_hash.specs.Order.{address_cmp}
use Rattle.slot_hash.specs.OrderLaws.{cmp_total, eq_ties}
use Rattle.slot_hash.proofs.Order.{same_exactly}
use Rattle.mux_routing.specs.Shards.{address_less, in_order, place_of, text_less}

text_lt : (xs ys : List ℕ) → is_lt (slice_cmp nat_cmp xs ys) ≡ text_less xs ys
text_lt xs ys = same_from_slice_cmp nat_cmp is_lt text_less refl (λ _ _. refl) (λ _ _. refl) (λ x y xs ys o h. grind (arith, nat_tests)) xs ys (slice_cmp nat_cmp xs ys) refl

port_lt : (p q : ℕ) → is_lt (nat_cmp p q) ≡ nat_lt p q
port_lt p q = grind (arith, nat_tests)

then_lt : (first second : Ordering) → is_lt (ordering_then first second) ≡ (is_lt first || (is_eq first && is_lt second))
then_lt Less second = refl
then_lt Equal second = refl
then_lt Greater second = refl

-- one address comes before another where the comparison says so
pub less_is : (a b : NodeAddress) → is_lt (address_cmp a b) ≡ address_less a b
unfolding address_less
less_is a b =
    then_lt (slice_cmp nat_cmp a.host b.host) (nat_cmp a.port b.port)
    ∙ ap (λ t. t || (is_eq (slice_cmp nat_cmp a.host b.host) && is_lt (nat_cmp a.port b.port))) (text_lt a.host b.host)
    ∙ ap (λ t. text_less a.host b.host || (t && is_lt (nat_cmp a.port b.port))) (sym (texts_ties a.host b.host))
    ∙ ap (λ t. text_less a.host b.host || (bytes_eq a.host b.host && t)) (port_lt a.port b.port)

is_less : (o : Ordering) → is_lt o ≡ true → o ≡ Less
is_less Less h = refl
is_less Equal h = absurd (cc)
is_less Greater h = absurd (cc)

less_from : (a b : NodeAddress) → address_less a b ≡ true → address_cmp a b ≡ Less
less_from a b h = is_less (address_cmp a b) (less_is a b ∙ h)

less_to : (a b : NodeAddress) → address_cmp a b ≡ Less → address_less a b ≡ true
less_to a b e = sym (less_is a b) ∙ ap is_lt e

not_less : (a b : NodeAddress) (o : Ordering) → is_lt o ≡ false → address_cmp a b ≡ o → address_less a b ≡ false
not_less a b o h e = sym (less_is a b) ∙ ap is_lt e ∙ h

all_after : (a : NodeAddress) (xs : List NodeAddress) → list_all (address_less a) xs ≡ true → AllByRecursion (λ x. address_cmp a x ≡ Less) xs
all_after a [] h = tt
all_after a (x ∷ xs) h =
    let both = both_true (address_less a x) (list_all (address_less a) xs) h in
    (less_from a x both.0, all_after a xs both.1)

after_all : (a : NodeAddress) (xs : List NodeAddress) → AllByRecursion (λ x. address_cmp a x ≡ Less) xs → list_all (address_less a) xs ≡ true
after_all a [] h = refl
after_all a (x ∷ xs) h = ap (λ t. t && list_all (address_less a) xs) (less_to a x h.0) ∙ after_all a xs h.1

pub strictly : (xs : List NodeAddress) → in_order xs ≡ true → IsStrictlySortedBy address_cmp xs
unfolding IsStrictlySortedBy
strictly [] h = tt
strictly (x ∷ xs) h =
    let both = both_true (list_all (address_less x) xs) (in_order xs) h in
    (all_after x xs both.0, strictly xs both.1)

pub ordered : (xs : List NodeAddress) → IsStrictlySortedBy address_cmp xs → in_order xs ≡ true
unfolding IsStrictlySortedBy
ordered [] h = refl
ordered (x ∷ xs) h = ap (λ t. t && in_order xs) (after_all x xs h.0) ∙ ordered xs h.1

reversed : (o p : Ordering) → o ≡ ordering_reverse p → p ≡ Less → is_lt o ≡ false
reversed o p e l = ap is_lt (e ∙ ap ordering_reverse l)

sorted : (xs : List NodeAddress) → in_order xs ≡ true → IsSortedBy (λ a b. is_lt (address_cmp a b)) xs
sorted xs h = λ k d _ within.
    reversed (address_cmp (get_or xs (k + 1) d) (get_or xs k d)) (address_cmp (get_or xs k d) (get_or xs (k + 1) d))
    (cmp_total.antisymm (get_or xs (k + 1) d) (get_or xs k d))
    (Less-from_sorted address_cmp xs k (k + 1) d (strictly xs h) (omega arith) within)

-- a place that only lesser addresses stand before
placed_by : (a : NodeAddress) (xs : List NodeAddress) (i : ℕ) → i ≤ length xs → ((k : ℕ) (d : NodeAddress) → k < i → address_less (get_or xs k d) a ≡ true) → ((d : NodeAddress) → i < length xs → address_less (get_or xs i d) a ≡ false) → place_of xs a ≡ i
placed_by a [] i le before here = omega (arith, le)
placed_by a (x ∷ xs) zero le before here = ap (λ t. if t then suc (place_of xs a) else 0) (here x (omega arith))
placed_by a (x ∷ xs) (suc i) le before here =
    ap (λ t. if t then suc (place_of xs a) else 0) (before 0 x (omega arith))
    ∙ ap suc (placed_by a xs i (omega (arith, le)) (λ k d h. before (suc k) d (omega (arith, h))) (λ d h. here d (omega (arith, h))))

found_at : (a : NodeAddress) (xs : List NodeAddress) (i : ℕ) → in_order xs ≡ true → i < length xs → ((d : NodeAddress) → address_cmp (get_or xs i d) a ≡ Equal) → place_of xs a ≡ i
found_at a xs i h within equal =
    placed_by a xs i (omega arith)
    (λ k d lower. less_to (get_or xs k d) a (ap (λ b. address_cmp (get_or xs k d) b) (sym (one d)) ∙ Less-from_sorted address_cmp xs k i d (strictly xs h) lower within))
    (λ d _. not_less (get_or xs i d) a Equal refl (equal d))
  where
    one : (d : NodeAddress) → get_or xs i d ≡ a
    one d = (same_exactly (get_or xs i d) a).0 (eq_ties (get_or xs i d) a ∙ ap is_eq (equal d))

pub searched : (a : NodeAddress) (xs : List NodeAddress) (r : Result ℕ ℕ) → in_order xs ≡ true → IsSearchInRange r (length xs) → IsBinarySearchResult (λ x. address_cmp x a) xs r → MatchResult r (λ i. i ≡ place_of xs a) (λ i. i ≡ place_of xs a)
searched a xs (Ok i) h range found = sym (found_at a xs i h range found)
searched a xs (Err i) h range found =
    let parts = found (searchable_from_sorted cmp_total (λ x. x) xs a (sorted xs h)) in
    sym (placed_by a xs i range
    (λ k d lower. less_to (get_or xs k d) a (parts.0 k d (omega arith) lower))
    (λ d within. not_less (get_or xs i d) a Greater refl (parts.1 i d (omega arith) within)))

-- an address that stands at a place has that place
pub at_its_place : (a : NodeAddress) (xs : List NodeAddress) (i : ℕ) → in_order xs ≡ true → i < length xs → ((d : NodeAddress) → get_or xs i d ≡ a) → place_of xs a ≡ i
at_its_place a xs i h within here = found_at a xs i h within (λ d. ap (λ b. address_cmp b a) (here d) ∙ tied)
  where
    is_equal : (o : Ordering) → is_eq o ≡ true → o ≡ Equal
    is_equal Less e = absurd (cc)
    is_equal Equal e = refl
    is_equal Greater e = absurd (cc)

    tied : address_cmp a a ≡ Equal
    tied = is_equal (address_cmp a a) (sym (eq_ties a a) ∙ (same_exactly a a).1 refl)
