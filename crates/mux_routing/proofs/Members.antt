-- The addresses of a map are those that its rows name; two lists in order with the same addresses are one.
use Rattle.std.proofs.Common.{◌≡◌, ◌⊎◌, inl, inr, zero, suc, Bool, true, false, List, [], ◌∷◌, ◌++◌, get_or, Some, refl, ap, sym, subst, ◌∙◌, arith, if◌then◌else◌}
use Rattle.std.specs.Prelude.{slice_get}
use Rattle.std.specs.List.{Contains, dedup, list_all}
use Rattle.std.specs.List.Sorted.{IsPermutation, IsSorted}
use Rattle.std.proofs.lemmas.List.Kept.{Contains-dedup, Contains-from_dedup, IsStrictlySortedBy-dedup}
use Rattle.std.proofs.lemmas.List.Sorted.{Contains-permutation, IsPermutation-sym}
use Rattle.std.proofs.lemmas.Option.{get_or_from_slice_get, slice_get-get_or, slice_get_within}
use Rattle.containers.proofs.Choices.{both_true, not_both}
use Rattle.slot_hash.specs.declared.address.NodeAddress.{NodeAddress}
use Rattle.slot_hash.specs.Order.{address_cmp, address_eq}
use Rattle.slot_hash.specs.OrderLaws.{cmp_total, eq_equiv, eq_ties}
use Rattle.slot_hash.proofs.Order.{same_exactly}
use Rattle.mux_routing.specs.declared.rows.SlotRow.{SlotRow}
use Rattle.mux_routing.specs.Members.{AreNamed, named}
use Rattle.mux_routing.specs.Shards.{address_less, addresses, addresses_from, all_inserted, in_order, inserted, place_of}
use Rattle.mux_routing.proofs.Finding.{AreAt, IsAt, are_in_order, row_comes, same, stay_with, through}
use Rattle.mux_routing.proofs.Ordered.{at_its_place, ordered}

-- membership by recursion
abbrev pub In : {T : Type 0} → T → List T → Type 0
In a [] = ⊥
In a (x ∷ xs) = (x ≡ a) ⊎ In a xs

pub in_from : {T : Type 0} (a : T) (xs : List T) → Contains xs a → In a xs
in_from a [] (k, lt, e) = absurd (omega (arith, lt))
in_from a (x ∷ xs) (zero, lt, e) = inl e
in_from a (x ∷ xs) (suc k, lt, e) = inr (in_from a xs (k, omega (arith, lt), e))

pub contains_from : {T : Type 0} (a : T) (xs : List T) → In a xs → Contains xs a
contains_from a [] h = absurd h
contains_from a (x ∷ xs) (inl e) = (0, omega arith, e)
contains_from a (x ∷ xs) (inr h) =
    let c = contains_from a xs h in
    (suc c.0, omega (arith, c.1), c.2)

in_further : {T : Type 0} (a x : T) (xs : List T) (Q : Type 0) → In a xs ⊎ Q → In a (x ∷ xs) ⊎ Q
in_further a x xs Q (inl l) = inl (inr l)
in_further a x xs Q (inr r) = inr r

pub in_append : {T : Type 0} (a : T) (xs ys : List T) → In a (xs ++ ys) → In a xs ⊎ In a ys
in_append a [] ys h = inr h
in_append a (x ∷ xs) ys (inl e) = inl (inl e)
in_append a (x ∷ xs) ys (inr h) = in_further a x xs (In a ys) (in_append a xs ys h)

pub in_left : {T : Type 0} (a : T) (xs ys : List T) → In a xs → In a (xs ++ ys)
in_left a [] ys h = absurd h
in_left a (x ∷ xs) ys (inl e) = inl e
in_left a (x ∷ xs) ys (inr h) = inr (in_left a xs ys h)

pub in_right : {T : Type 0} (a : T) (xs ys : List T) → In a ys → In a (xs ++ ys)
in_right a [] ys h = h
in_right a (x ∷ xs) ys h = inr (in_right a xs ys h)

-- what an address comes among stands there, or it is that address
behind : (a b x : NodeAddress) (xs : List NodeAddress) → (b ≡ a) ⊎ In a xs → (b ≡ a) ⊎ In a (x ∷ xs)
behind a b x xs (inl e) = inl e
behind a b x xs (inr m) = inr (inr m)

of_later : (a b x : NodeAddress) (xs : List NodeAddress) → (In a (inserted b xs) → (b ≡ a) ⊎ In a xs) → In a (x ∷ inserted b xs) → (b ≡ a) ⊎ In a (x ∷ xs)
of_later a b x xs f (inl e) = inr (inl e)
of_later a b x xs f (inr m) = behind a b x xs (f m)

of_here : (a b x : NodeAddress) (xs : List NodeAddress) (t : Bool) → In a (if t then b ∷ x ∷ xs else (x ∷ xs)) → (b ≡ a) ⊎ In a (x ∷ xs)
of_here a b x xs true (inl e) = inl e
of_here a b x xs true (inr m) = inr m
of_here a b x xs false m = inr m

of_either : (a b x : NodeAddress) (xs : List NodeAddress) (t u : Bool) → (In a (inserted b xs) → (b ≡ a) ⊎ In a xs) → In a (if t then x ∷ inserted b xs else (if u then b ∷ x ∷ xs else (x ∷ xs))) → (b ≡ a) ⊎ In a (x ∷ xs)
of_either a b x xs true u f m = of_later a b x xs f m
of_either a b x xs false u f m = of_here a b x xs u m

of_inserted : (a b : NodeAddress) (xs : List NodeAddress) → In a (inserted b xs) → (b ≡ a) ⊎ In a xs
of_inserted a b [] (inl e) = inl e
of_inserted a b [] (inr h) = absurd h
of_inserted a b (x ∷ xs) h = of_either a b x xs (address_less x b) (address_less b x) (of_inserted a b xs) h

of_more : (a b : NodeAddress) (xs more : List NodeAddress) → In a more ⊎ In a (inserted b xs) → In a (b ∷ more) ⊎ In a xs
of_more a b xs more (inl m) = inl (inr m)
of_more a b xs more (inr m) = by (of_inserted a b xs m)
  where
    by : (b ≡ a) ⊎ In a xs → In a (b ∷ more) ⊎ In a xs
    by (inl e) = inl (inl e)
    by (inr n) = inr n

of_all_inserted : (a : NodeAddress) (xs more : List NodeAddress) → In a (all_inserted xs more) → In a more ⊎ In a xs
of_all_inserted a xs [] h = inr h
of_all_inserted a xs (b ∷ more) h = of_more a b xs more (of_all_inserted a (inserted b xs) more h)

of_row : (a : NodeAddress) (xs : List NodeAddress) (r : SlotRow) (rest : List NodeAddress) → In a rest ⊎ In a (all_inserted (inserted r.primary xs) r.replicas) → In a (r.primary ∷ (r.replicas ++ rest)) ⊎ In a xs
of_row a xs r rest (inl m) = inl (inr (in_right a r.replicas rest m))
of_row a xs r rest (inr m) = row (of_all_inserted a (inserted r.primary xs) r.replicas m)
  where
    primary : (r.primary ≡ a) ⊎ In a xs → In a (r.primary ∷ (r.replicas ++ rest)) ⊎ In a xs
    primary (inl e) = inl (inl e)
    primary (inr n) = inr n

    row : In a r.replicas ⊎ In a (inserted r.primary xs) → In a (r.primary ∷ (r.replicas ++ rest)) ⊎ In a xs
    row (inl n) = inl (inr (in_left a r.replicas rest n))
    row (inr n) = primary (of_inserted a r.primary xs n)

of_rows : (a : NodeAddress) (xs : List NodeAddress) (rows : List SlotRow) → In a (addresses_from xs rows) → In a (named rows) ⊎ In a xs
of_rows a xs [] h = inr h
of_rows a xs (r ∷ rs) h = of_row a xs r (named rs) (of_rows a (all_inserted (inserted r.primary xs) r.replicas) rs h)

-- what stands at its place stands there
pub at_in : (a : NodeAddress) (xs : List NodeAddress) → IsAt xs a → In a xs
at_in a xs h = in_from a xs (place_of xs a, slice_get_within xs (place_of xs a) a h, get_or_from_slice_get xs (place_of xs a) a a h)

among : (a : NodeAddress) (xs ns : List NodeAddress) → AreAt xs ns → In a ns → IsAt xs a
among a xs [] h m = absurd m
among a xs (n ∷ ns) h (inl e) = subst (IsAt xs) e h.0
among a xs (n ∷ ns) h (inr m) = among a xs ns h.1 m

one_comes : (a : NodeAddress) (nodes : List NodeAddress) (r : SlotRow) (rest : List NodeAddress) → AreAt nodes (r.primary ∷ r.replicas) → (In a rest → IsAt nodes a) → (r.primary ≡ a) ⊎ (In a r.replicas ⊎ In a rest) → IsAt nodes a
one_comes a nodes r rest h f (inl e) = among a nodes (r.primary ∷ r.replicas) h (inl e)
one_comes a nodes r rest h f (inr (inl n)) = among a nodes (r.primary ∷ r.replicas) h (inr n)
one_comes a nodes r rest h f (inr (inr n)) = f n

of_named : (a : NodeAddress) (r : SlotRow) (rest : List NodeAddress) → In a (r.primary ∷ (r.replicas ++ rest)) → (r.primary ≡ a) ⊎ (In a r.replicas ⊎ In a rest)
of_named a r rest (inl e) = inl e
of_named a r rest (inr m) = inr (in_append a r.replicas rest m)

each_comes : (a : NodeAddress) (xs : List NodeAddress) (rows : List SlotRow) → In a (named rows) → IsAt (addresses_from xs rows) a
each_comes a xs [] m = absurd m
each_comes a xs (r ∷ rs) m =
    let next = all_inserted (inserted r.primary xs) r.replicas in
    one_comes a (addresses_from next rs) r (named rs) (stay_with (r.primary ∷ r.replicas) next rs (row_comes xs r)) (each_comes a next rs) (of_named a r (named rs) m)

only_named : (a : NodeAddress) (rows : List SlotRow) → In a (addresses rows) → In a (named rows)
only_named a rows h = by (of_rows a [] rows h)
  where
    by : In a (named rows) ⊎ ⊥ → In a (named rows)
    by (inl m) = m
    by (inr m) = absurd m

pub are_named : (rows : List SlotRow) → AreNamed rows (addresses rows)
are_named rows = λ a. (
  λ c. contains_from a (named rows) (only_named a rows (in_from a (addresses rows) c)),
  λ c. contains_from a (addresses rows) (at_in a (addresses rows) (each_comes a [] rows (in_from a (named rows) c))),
)

-- what is among addresses in order stands at its place
pub stands_at : (a : NodeAddress) (xs : List NodeAddress) → in_order xs ≡ true → Contains xs a → slice_get xs (place_of xs a) ≡ Some a
stands_at a xs h (k, lt, e) =
    let here = λ (d : NodeAddress). get_or_from_slice_get xs k (get_or xs k a) d (slice_get-get_or xs k a lt) ∙ e in
    ap (slice_get xs) (at_its_place a xs k h lt here) ∙ slice_get-get_or xs k a lt ∙ ap Some e

-- two lists in order with the same addresses are one
lower : (a x : NodeAddress) (xs : List NodeAddress) → list_all (address_less x) xs ≡ true → In a xs → address_less x a ≡ true
lower a x [] h m = absurd m
lower a x (y ∷ ys) h (inl e) = subst (λ b. address_less x b ≡ true) e (both_true (address_less x y) (list_all (address_less x) ys) h).0
lower a x (y ∷ ys) h (inr m) = lower a x ys (both_true (address_less x y) (list_all (address_less x) ys) h).1 m

never : (a : NodeAddress) → address_less a a ≡ true → ⊥
never a h = not_both (address_less a a) (same a) h

tail_of : (x y : NodeAddress) (xs ys : List NodeAddress) → x ≡ y → list_all (address_less x) xs ≡ true → ((a : NodeAddress) → In a (x ∷ xs) → In a (y ∷ ys)) → (a : NodeAddress) → In a xs → In a ys
tail_of x y xs ys e h f a m = by (f a (inr m))
  where
    by : (y ≡ a) ⊎ In a ys → In a ys
    by (inl same_one) = absurd (never a (subst (λ b. address_less b a ≡ true) (e ∙ same_one) (lower a x xs h m)))
    by (inr n) = n

first_is : (x y : NodeAddress) (xs ys : List NodeAddress) → list_all (address_less x) xs ≡ true → list_all (address_less y) ys ≡ true → In x (y ∷ ys) → In y (x ∷ xs) → x ≡ y
first_is x y xs ys h g (inl e) n = sym e
first_is x y xs ys h g (inr m) (inl e) = e
first_is x y xs ys h g (inr m) (inr n) = absurd (never x (through x y x (lower y x xs h n) (lower x y ys g m)))

pub one_list : (xs ys : List NodeAddress) → in_order xs ≡ true → in_order ys ≡ true → ((a : NodeAddress) → In a xs → In a ys) → ((a : NodeAddress) → In a ys → In a xs) → xs ≡ ys
one_list [] [] h g f b = refl
one_list [] (y ∷ ys) h g f b = absurd (b y (inl refl))
one_list (x ∷ xs) [] h g f b = absurd (f x (inl refl))
one_list (x ∷ xs) (y ∷ ys) h g f b =
    let left = both_true (list_all (address_less x) xs) (in_order xs) h in
    let right = both_true (list_all (address_less y) ys) (in_order ys) g in
    let first = first_is x y xs ys left.0 right.0 (f x (inl refl)) (b y (inl refl)) in
    let rest = one_list xs ys left.1 right.1 (tail_of x y xs ys first left.0 f) (tail_of y x ys xs (sym first) right.0 b) in
    λ i. first i ∷ rest i

once_of : (rows : List SlotRow) (sorted once : List NodeAddress) → IsPermutation (named rows) sorted → IsSorted address_cmp sorted → once ≡ dedup address_eq sorted → once ≡ addresses rows
once_of rows sorted once moved up is =
    is ∙ one_list (dedup address_eq sorted) (addresses rows)
    (ordered (dedup address_eq sorted) (IsStrictlySortedBy-dedup cmp_total eq_ties sorted up))
    (are_in_order rows)
    (λ a m. in_from a (addresses rows) ((are_named rows a).1 (Contains-permutation sorted (named rows) a (IsPermutation-sym (named rows) sorted moved) (Contains-from_dedup address_eq sorted a (contains_from a (dedup address_eq sorted) m)))))
    (λ a m. in_from a (dedup address_eq sorted) (Contains-dedup eq_equiv (λ x y. (same_exactly x y).0) sorted a (Contains-permutation (named rows) sorted a moved ((are_named rows a).0 (contains_from a (addresses rows) m)))))

-- what is named, sorted and each once, is the list of addresses
pub sorted_once : (rows : List SlotRow) (found sorted once : List NodeAddress) → found ≡ named rows → IsPermutation found sorted → IsSorted address_cmp sorted → once ≡ dedup address_eq sorted → once ≡ addresses rows
sorted_once rows found sorted once e moved up is = once_of rows sorted once (subst (λ ns. IsPermutation ns sorted) e moved) up is
