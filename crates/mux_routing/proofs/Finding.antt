-- Addresses that were put in order are found at their places.
use Rattle.std.proofs.Common.{◌≡◌, ℕ, nat_lt, true, false, ◌&&◌, ◌||◌, List, [], ◌∷◌, Some, refl, sym, arith}
use Rattle.std.specs.Prelude.{slice_get}
use Rattle.std.specs.List.{list_all}
use Rattle.std.specs.Str.{bytes_eq}
use Rattle.std.proofs.lemmas.Bool.Decides.{nat_tests}
use Rattle.std.proofs.lemmas.Slice.Eq.{bytes_eq-Decides}
use Rattle.slot_hash.specs.declared.address.NodeAddress.{NodeAddress}
use Rattle.mux_routing.specs.declared.rows.SlotRow.{SlotRow}
use Rattle.mux_routing.specs.Shards.{address_less, addresses, addresses_from, all_inserted, in_order, inserted, place_of, text_less}

text_same : (xs : List ℕ) → text_less xs xs ≡ false
text_same [] = refl
text_same (x ∷ xs) = grind (arith, nat_tests, text_same xs)

text_through : (xs ys zs : List ℕ) → text_less xs ys ≡ true → text_less ys zs ≡ true → text_less xs zs ≡ true
text_through [] [] zs h g = absurd (cc)
text_through [] (y ∷ ys) [] h g = absurd (cc)
text_through [] (y ∷ ys) (z ∷ zs) h g = refl
text_through (x ∷ xs) [] zs h g = absurd (cc)
text_through (x ∷ xs) (y ∷ ys) [] h g = absurd (cc)
text_through (x ∷ xs) (y ∷ ys) (z ∷ zs) h g = grind (arith, nat_tests, text_through xs ys zs)

text_tied : (xs ys : List ℕ) → text_less xs ys ≡ false → text_less ys xs ≡ false → xs ≡ ys
text_tied [] [] h g = refl
text_tied [] (y ∷ ys) h g = absurd (cc)
text_tied (x ∷ xs) [] h g = absurd (cc)
text_tied (x ∷ xs) (y ∷ ys) h g =
    let e : x ≡ y = grind (arith, nat_tests) in
    let es : xs ≡ ys = text_tied xs ys (grind (arith, nat_tests)) (grind (arith, nat_tests)) in
    λ i. e i ∷ es i

same_host : (xs ys : List ℕ) → bytes_eq xs ys ≡ true → xs ≡ ys
same_host xs ys = (bytes_eq-Decides xs ys).0

own_host : (xs : List ℕ) → bytes_eq xs xs ≡ true
own_host xs = (bytes_eq-Decides xs xs).1 refl

pub same : (a : NodeAddress) → address_less a a ≡ false
unfolding address_less
same a = grind (arith, nat_tests, text_same a.host)

-- the order of texts, and of numbers where these are one
through_by : (x y z : List ℕ) (p q r : ℕ) → (text_less x y || (bytes_eq x y && nat_lt p q)) ≡ true → (text_less y z || (bytes_eq y z && nat_lt q r)) ≡ true → (text_less x z || (bytes_eq x z && nat_lt p r)) ≡ true
through_by x y z p q r h g = grind (arith, nat_tests, same_host x y, same_host y z, own_host x, text_through x y z)

pub through : (a b c : NodeAddress) → address_less a b ≡ true → address_less b c ≡ true → address_less a c ≡ true
unfolding address_less
through a b c h g = through_by a.host b.host c.host a.port b.port c.port h g

tied : (a b : NodeAddress) → address_less a b ≡ false → address_less b a ≡ false → a ≡ b
unfolding address_less
tied a b h g =
    let hosts : a.host ≡ b.host = text_tied a.host b.host (grind (arith, nat_tests)) (grind (arith, nat_tests)) in
    let left : bytes_eq a.host b.host ≡ true = (bytes_eq-Decides a.host b.host).1 hosts in
    let right : bytes_eq b.host a.host ≡ true = (bytes_eq-Decides b.host a.host).1 (sym hosts) in
    let ports : a.port ≡ b.port = grind (arith, nat_tests) in
    λ i. record { host = hosts i; port = ports i }

-- an address stands at its place
abbrev pub IsAt : List NodeAddress → NodeAddress → Type 0
IsAt nodes a = slice_get nodes (place_of nodes a) ≡ Some a

abbrev pub AreAt : List NodeAddress → List NodeAddress → Type 0
AreAt nodes [] = Unit {0}
AreAt nodes (a ∷ more) = IsAt nodes a × AreAt nodes more

comes : (a : NodeAddress) (xs : List NodeAddress) → IsAt (inserted a xs) a
comes a [] = grind (arith, nat_tests, same a)
comes a (x ∷ xs) = grind (arith, nat_tests, same a, tied x a, comes a xs)

stays : (a b : NodeAddress) (xs : List NodeAddress) → IsAt xs a → IsAt (inserted b xs) a
stays a b [] h = absurd (cc)
stays a b (x ∷ xs) h = grind (arith, nat_tests, same a, through b x a, stays a b xs)

stay : (b : NodeAddress) (xs ns : List NodeAddress) → AreAt xs ns → AreAt (inserted b xs) ns
stay b xs [] h = tt
stay b xs (a ∷ ns) h = (stays a b xs h.0, stay b xs ns h.1)

stays_all : (a : NodeAddress) (xs bs : List NodeAddress) → IsAt xs a → IsAt (all_inserted xs bs) a
stays_all a xs [] h = h
stays_all a xs (b ∷ bs) h = stays_all a (inserted b xs) bs (stays a b xs h)

stay_all : (ns xs bs : List NodeAddress) → AreAt xs ns → AreAt (all_inserted xs bs) ns
stay_all [] xs bs h = tt
stay_all (a ∷ ns) xs bs h = (stays_all a xs bs h.0, stay_all ns xs bs h.1)

come_all : (xs bs : List NodeAddress) → AreAt (all_inserted xs bs) bs
come_all xs [] = tt
come_all xs (b ∷ bs) = (stays_all b (inserted b xs) bs (comes b xs), come_all (inserted b xs) bs)

-- the nodes of a row stand at their places
abbrev pub IsPlaced : List NodeAddress → SlotRow → Type 0
IsPlaced nodes row = AreAt nodes (row.primary ∷ row.replicas)

pub stay_with : (ns nodes : List NodeAddress) (rows : List SlotRow) → AreAt nodes ns → AreAt (addresses_from nodes rows) ns
stay_with ns nodes [] h = h
stay_with ns nodes (r ∷ rs) h = stay_with ns (all_inserted (inserted r.primary nodes) r.replicas) rs (stay_all ns (inserted r.primary nodes) r.replicas (stay r.primary nodes ns h))

pub row_comes : (nodes : List NodeAddress) (r : SlotRow) → IsPlaced (all_inserted (inserted r.primary nodes) r.replicas) r
row_comes nodes r = (stays_all r.primary (inserted r.primary nodes) r.replicas (comes r.primary nodes), come_all (inserted r.primary nodes) r.replicas)

-- each address comes before all behind it
before_all : (a : NodeAddress) (x : NodeAddress) (xs : List NodeAddress) → address_less a x ≡ true → list_all (address_less x) xs ≡ true → list_all (address_less a) xs ≡ true
before_all a x [] h g = refl
before_all a x (y ∷ ys) h g = grind (arith, nat_tests, through a x y, before_all a x ys)

also_before : (x a : NodeAddress) (xs : List NodeAddress) → address_less x a ≡ true → list_all (address_less x) xs ≡ true → list_all (address_less x) (inserted a xs) ≡ true
also_before x a [] h g = grind (arith, nat_tests)
also_before x a (y ∷ ys) h g = grind (arith, nat_tests, also_before x a ys)

kept_in_order : (a : NodeAddress) (xs : List NodeAddress) → in_order xs ≡ true → in_order (inserted a xs) ≡ true
kept_in_order a [] h = refl
kept_in_order a (x ∷ xs) h = grind (arith, nat_tests, also_before x a xs, before_all a x xs, kept_in_order a xs)

all_in_order : (nodes more : List NodeAddress) → in_order nodes ≡ true → in_order (all_inserted nodes more) ≡ true
all_in_order nodes [] h = h
all_in_order nodes (a ∷ more) h = all_in_order (inserted a nodes) more (kept_in_order a nodes h)

from_in_order : (nodes : List NodeAddress) (rows : List SlotRow) → in_order nodes ≡ true → in_order (addresses_from nodes rows) ≡ true
from_in_order nodes [] h = h
from_in_order nodes (r ∷ rs) h = from_in_order (all_inserted (inserted r.primary nodes) r.replicas) rs (all_in_order (inserted r.primary nodes) r.replicas (kept_in_order r.primary nodes h))

pub are_in_order : (rows : List SlotRow) → in_order (addresses rows) ≡ true
are_in_order rows = from_in_order [] rows refl
