-- Addresses that are put in their places: in any order, each once.
use Rattle.std.proofs.Common.{◌≡◌, ◌&&◌, ◌||◌, Bool, true, false, if◌then◌else◌, List, [], ◌∷◌, ◌++◌, refl, sym, ap, subst, ◌∙◌, append_assoc, append-nil}
use Rattle.std.specs.List.{list_all}
use Rattle.std.proofs.lemmas.List.Folds.{list_any-append}
use Rattle.containers.proofs.Choices.{both_left, both_right, left_if, taken_if}
use Rattle.slot_hash.specs.declared.address.NodeAddress.{NodeAddress}
use Rattle.mux_routing.specs.Shards.{address_less, all_inserted, in_order, inserted}
use Rattle.cluster_retries.specs.Actions.{is_among, same_address, union}
use Rattle.cluster_retries.proofs.AddressOrder.{Side, before, equal, after, side, not_back, not_itself, onwards}

-- one step of putting an address in
go : (a x : NodeAddress) (xs : List NodeAddress) → address_less x a ≡ true → inserted a (x ∷ xs) ≡ x ∷ inserted a xs
go a x xs h = taken_if (address_less x a) (x ∷ inserted a xs) (if address_less a x then a ∷ x ∷ xs else x ∷ xs) h

here : (a x : NodeAddress) (xs : List NodeAddress) → address_less a x ≡ true → inserted a (x ∷ xs) ≡ a ∷ x ∷ xs
here a x xs h =
    left_if (address_less x a) (x ∷ inserted a xs) (if address_less a x then a ∷ x ∷ xs else x ∷ xs) (not_back a x h)
    ∙ taken_if (address_less a x) (a ∷ x ∷ xs) (x ∷ xs) h

there : (x : NodeAddress) (xs : List NodeAddress) → inserted x (x ∷ xs) ≡ x ∷ xs
there x xs =
    left_if (address_less x x) (x ∷ inserted x xs) (if address_less x x then x ∷ x ∷ xs else x ∷ xs) (not_itself x)
    ∙ left_if (address_less x x) (x ∷ x ∷ xs) (x ∷ xs) (not_itself x)

-- two addresses put in, whichever first
abbrev Commute : NodeAddress → NodeAddress → List NodeAddress → Type 0
Commute a b xs = inserted a (inserted b xs) ≡ inserted b (inserted a xs)

both_go : (a b x : NodeAddress) (xs : List NodeAddress) → address_less x a ≡ true → address_less x b ≡ true → Commute a b xs → Commute a b (x ∷ xs)
both_go a b x xs h k rest =
    ap (inserted a) (go b x xs k) ∙ go a x (inserted b xs) h ∙ ap (λ ys. x ∷ ys) rest
    ∙ sym (ap (inserted b) (go a x xs h) ∙ go b x (inserted a xs) k)

one_goes : (a b x : NodeAddress) (xs : List NodeAddress) → address_less x a ≡ true → address_less b x ≡ true → Commute a b (x ∷ xs)
one_goes a b x xs h k =
    ap (inserted a) (here b x xs k) ∙ go a b (x ∷ xs) (onwards b x a k h) ∙ ap (λ ys. b ∷ ys) (go a x xs h)
    ∙ sym (ap (inserted b) (go a x xs h) ∙ here b x (inserted a xs) k)

both_here : (a b x : NodeAddress) (xs : List NodeAddress) → address_less a b ≡ true → address_less a x ≡ true → address_less b x ≡ true → Commute a b (x ∷ xs)
both_here a b x xs first h k =
    ap (inserted a) (here b x xs k) ∙ here a b (x ∷ xs) first
    ∙ sym (ap (inserted b) (here a x xs h) ∙ go b a (x ∷ xs) first ∙ ap (λ ys. a ∷ ys) (here b x xs k))

beside : (a x : NodeAddress) (xs : List NodeAddress) → Side a x → Commute a x (x ∷ xs)
beside a x xs (before h) =
    ap (inserted a) (there x xs) ∙ here a x xs h
    ∙ sym (ap (inserted x) (here a x xs h) ∙ go x a (x ∷ xs) h ∙ ap (λ ys. a ∷ ys) (there x xs))
beside a x xs (equal e) = subst (λ c. Commute c x (x ∷ xs)) (sym e) refl
beside a x xs (after h) =
    ap (inserted a) (there x xs) ∙ go a x xs h ∙ sym (ap (inserted x) (go a x xs h) ∙ there x (inserted a xs))

alone : (a b : NodeAddress) → Side a b → Commute a b []
alone a b (before h) = here a b [] h ∙ sym (go b a [] h)
alone a b (equal e) = subst (λ c. Commute c b []) (sym e) refl
alone a b (after h) = go a b [] h ∙ sym (here b a [] h)

both_before : (a b x : NodeAddress) (xs : List NodeAddress) → address_less a x ≡ true → address_less b x ≡ true → Side a b → Commute a b (x ∷ xs)
both_before a b x xs h k (before first) = both_here a b x xs first h k
both_before a b x xs h k (equal e) = subst (λ c. Commute c b (x ∷ xs)) (sym e) refl
both_before a b x xs h k (after first) = sym (both_here b a x xs first k h)

by_sides : (a b x : NodeAddress) (xs : List NodeAddress) → Side a x → Side b x → Commute a b xs → Commute a b (x ∷ xs)
by_sides a b x xs (before h) (before k) rest = both_before a b x xs h k (side a b)
by_sides a b x xs (before h) (equal e) rest = subst (λ c. Commute a c (x ∷ xs)) (sym e) (beside a x xs (before h))
by_sides a b x xs (before h) (after k) rest = sym (one_goes b a x xs k h)
by_sides a b x xs (equal e) other rest = sym (subst (λ c. Commute b c (x ∷ xs)) (sym e) (beside b x xs other))
by_sides a b x xs (after h) (before k) rest = one_goes a b x xs h k
by_sides a b x xs (after h) (equal e) rest = subst (λ c. Commute a c (x ∷ xs)) (sym e) (beside a x xs (after h))
by_sides a b x xs (after h) (after k) rest = both_go a b x xs h k rest

commute : (a b : NodeAddress) (xs : List NodeAddress) → Commute a b xs
commute a b [] = alone a b (side a b)
commute a b (x ∷ xs) = by_sides a b x xs (side a x) (side b x) (commute a b xs)

-- one that is put in first is as one that is put in last
put_last : (a : NodeAddress) (nodes more : List NodeAddress) → all_inserted (inserted a nodes) more ≡ inserted a (all_inserted nodes more)
put_last a nodes [] = refl
put_last a nodes (m ∷ more) = ap (λ ns. all_inserted ns more) (commute m a nodes) ∙ put_last a (inserted m nodes) more

in_turn : (nodes xs ys : List NodeAddress) → all_inserted nodes (xs ++ ys) ≡ all_inserted (all_inserted nodes xs) ys
in_turn nodes [] ys = refl
in_turn nodes (x ∷ xs) ys = in_turn (inserted x nodes) xs ys

pub union_commutes : (xs ys : List NodeAddress) → union xs ys ≡ union ys xs
union_commutes [] ys = ap (all_inserted []) (sym (append-nil ys))
union_commutes (x ∷ xs) ys =
    put_last x [] (xs ++ ys)
    ∙ ap (inserted x) (union_commutes xs ys ∙ in_turn [] ys xs)
    ∙ sym (in_turn [] ys (x ∷ xs) ∙ put_last x (all_inserted [] ys) xs)

-- order
below_inserted : (b a : NodeAddress) (xs : List NodeAddress) → address_less b a ≡ true → list_all (address_less b) xs ≡ true → list_all (address_less b) (inserted a xs) ≡ true
below_inserted b a [] l all = ap (λ t. t && true) l
below_inserted b a (x ∷ xs) l all = by (side a x) (below_inserted b a xs l (both_right (address_less b x) (list_all (address_less b) xs) all))
  where
    by : Side a x → list_all (address_less b) (inserted a xs) ≡ true → list_all (address_less b) (inserted a (x ∷ xs)) ≡ true
    by (before h) rest = ap (list_all (address_less b)) (here a x xs h) ∙ ap (λ t. t && list_all (address_less b) (x ∷ xs)) l ∙ all
    by (equal e) rest = subst (λ c. list_all (address_less b) (inserted c (x ∷ xs)) ≡ true) (sym e) (ap (list_all (address_less b)) (there x xs) ∙ all)
    by (after h) rest =
        ap (list_all (address_less b)) (go a x xs h)
        ∙ ap (λ t. t && list_all (address_less b) (inserted a xs)) (both_left (address_less b x) (list_all (address_less b) xs) all)
        ∙ rest

below_others : (a x : NodeAddress) (xs : List NodeAddress) → address_less a x ≡ true → list_all (address_less x) xs ≡ true → list_all (address_less a) xs ≡ true
below_others a x [] l all = refl
below_others a x (y ∷ ys) l all =
    ap (λ t. t && list_all (address_less a) ys) (onwards a x y l (both_left (address_less x y) (list_all (address_less x) ys) all))
    ∙ below_others a x ys l (both_right (address_less x y) (list_all (address_less x) ys) all)

pub ordered_inserted : (a : NodeAddress) (xs : List NodeAddress) → in_order xs ≡ true → in_order (inserted a xs) ≡ true
ordered_inserted a [] o = refl
ordered_inserted a (x ∷ xs) o = by (side a x) (ordered_inserted a xs (both_right (list_all (address_less x) xs) (in_order xs) o))
  where
    above : list_all (address_less x) xs ≡ true
    above = both_left (list_all (address_less x) xs) (in_order xs) o

    by : Side a x → in_order (inserted a xs) ≡ true → in_order (inserted a (x ∷ xs)) ≡ true
    by (before h) rest =
        ap in_order (here a x xs h)
        ∙ ap (λ t. (t && list_all (address_less a) xs) && in_order (x ∷ xs)) h
        ∙ ap (λ t. t && in_order (x ∷ xs)) (below_others a x xs h above)
        ∙ o
    by (equal e) rest = subst (λ c. in_order (inserted c (x ∷ xs)) ≡ true) (sym e) (ap in_order (there x xs) ∙ o)
    by (after h) rest =
        ap in_order (go a x xs h)
        ∙ ap (λ t. t && in_order (inserted a xs)) (below_inserted x a xs h above)
        ∙ rest

ordered_all : (nodes more : List NodeAddress) → in_order nodes ≡ true → in_order (all_inserted nodes more) ≡ true
ordered_all nodes [] o = o
ordered_all nodes (m ∷ more) o = ordered_all (inserted m nodes) more (ordered_inserted m nodes o)

pub union_ordered : (xs ys : List NodeAddress) → in_order (union xs ys) ≡ true
union_ordered xs ys = ordered_all [] (xs ++ ys) refl

-- addresses in order are put in as they stand
put_in_front : (a : NodeAddress) (xs : List NodeAddress) → list_all (address_less a) xs ≡ true → inserted a xs ≡ a ∷ xs
put_in_front a [] all = refl
put_in_front a (x ∷ xs) all = here a x xs (both_left (address_less a x) (list_all (address_less a) xs) all)

kept : (xs : List NodeAddress) → in_order xs ≡ true → all_inserted [] xs ≡ xs
kept [] o = refl
kept (x ∷ xs) o =
    put_last x [] xs
    ∙ ap (inserted x) (kept xs (both_right (list_all (address_less x) xs) (in_order xs) o))
    ∙ put_in_front x xs (both_left (list_all (address_less x) xs) (in_order xs) o)

pub union_is : (xs ys zs : List NodeAddress) → in_order xs ≡ true → zs ≡ all_inserted xs ys → zs ≡ union xs ys
union_is xs ys zs o e = e ∙ ap (λ ns. all_inserted ns ys) (sym (kept xs o)) ∙ sym (in_turn [] xs ys)

-- so far some of the next addresses were put in, and these are left
abbrev pub IsPutIn : List NodeAddress → List NodeAddress → List NodeAddress → List NodeAddress → Type 0
IsPutIn first next left now = (put : List NodeAddress) × (next ≡ put ++ left) × (now ≡ union first put)

pub none_put_in : (first next : List NodeAddress) → in_order first ≡ true → IsPutIn first next next first
none_put_in first next o = ([], refl, union_is first [] first o refl)

pub one_put_in : (first next rest left now new : List NodeAddress) (a : NodeAddress) → IsPutIn first next rest now → rest ≡ a ∷ left → new ≡ inserted a now → IsPutIn first next left new
one_put_in first next rest left now new a so_far e f = (
  so_far.0 ++ a ∷ [],
  so_far.1 ∙ ap (λ more. so_far.0 ++ more) e ∙ sym (append_assoc so_far.0 (a ∷ []) left),
  f ∙ ap (inserted a) so_far.2 ∙ sym (in_turn [] (first ++ so_far.0) (a ∷ [])) ∙ ap (all_inserted []) (append_assoc first so_far.0 (a ∷ [])),
)

pub one_less : (rest left now new : List NodeAddress) (a : NodeAddress) → rest ≡ a ∷ left → new ≡ inserted a now → all_inserted new left ≡ all_inserted now rest
one_less rest left now new a e f = ap (λ ns. all_inserted ns left) f ∙ ap (all_inserted now) (sym e)

first_of_three : (xs ys zs : List NodeAddress) → union (union xs ys) zs ≡ all_inserted [] ((xs ++ ys) ++ zs)
first_of_three xs ys zs = sym (union_is (union xs ys) zs (all_inserted [] ((xs ++ ys) ++ zs)) (union_ordered xs ys) (in_turn [] (xs ++ ys) zs))

pub union_associates : (xs ys zs : List NodeAddress) → union (union xs ys) zs ≡ union xs (union ys zs)
union_associates xs ys zs =
    first_of_three xs ys zs
    ∙ ap (all_inserted []) (append_assoc xs ys zs)
    ∙ union_commutes xs (ys ++ zs)
    ∙ sym (first_of_three ys zs xs)
    ∙ union_commutes (union ys zs) xs

-- membership
swapped : (a b c : Bool) → (a || (b || c)) ≡ (b || (a || c))
swapped true true c = refl
swapped true false c = refl
swapped false b c = refl

twice : (a b : Bool) → (a || b) ≡ (a || (a || b))
twice true b = refl
twice false b = refl

moved_on : (a b c : Bool) → ((a || b) || c) ≡ (b || (a || c))
moved_on true true c = refl
moved_on true false c = refl
moved_on false b c = refl

or_nothing : (a : Bool) → a ≡ (a || false)
or_nothing true = refl
or_nothing false = refl

among_inserted : (q a : NodeAddress) (xs : List NodeAddress) → is_among q (inserted a xs) ≡ (same_address q a || is_among q xs)
among_inserted q a [] = refl
among_inserted q a (x ∷ xs) = by (side a x) (among_inserted q a xs)
  where
    by : Side a x → is_among q (inserted a xs) ≡ (same_address q a || is_among q xs) → is_among q (inserted a (x ∷ xs)) ≡ (same_address q a || is_among q (x ∷ xs))
    by (before h) rest = ap (is_among q) (here a x xs h)
    by (equal e) rest = subst (λ c. is_among q (inserted c (x ∷ xs)) ≡ (same_address q c || is_among q (x ∷ xs))) (sym e) (ap (is_among q) (there x xs) ∙ twice (same_address q x) (is_among q xs))
    by (after h) rest =
        ap (is_among q) (go a x xs h)
        ∙ ap (λ t. same_address q x || t) rest
        ∙ swapped (same_address q x) (same_address q a) (is_among q xs)

among_all : (q : NodeAddress) (nodes more : List NodeAddress) → is_among q (all_inserted nodes more) ≡ (is_among q nodes || is_among q more)
among_all q nodes [] = or_nothing (is_among q nodes)
among_all q nodes (m ∷ more) =
    among_all q (inserted m nodes) more
    ∙ ap (λ t. t || is_among q more) (among_inserted q m nodes)
    ∙ moved_on (same_address q m) (is_among q nodes) (is_among q more)

pub among_union : (q : NodeAddress) (xs ys : List NodeAddress) → is_among q (union xs ys) ≡ (is_among q xs || is_among q ys)
among_union q xs ys = among_all q [] (xs ++ ys) ∙ list_any-append (same_address q) xs ys
