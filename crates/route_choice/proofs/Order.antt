-- Addresses are in a total order.
use Rattle.std.proofs.Common.{◌≡◌, ℕ, ◌==◌, nat_lt, ◌&&◌, ◌||◌, Bool, true, false, List, [], ◌∷◌, Some, refl, sym, arith}
use Rattle.std.specs.Ordering.{is_lt, is_some_and, nat_cmp}
use Rattle.std.specs.Cmp.Lexicographic.{slice_partial_cmp}
use Rattle.std.specs.Str.{bytes_eq}
use Rattle.std.proofs.lemmas.Bool.Decides.{nat_tests}
use Rattle.std.proofs.lemmas.Cmp.{same_from_slice_cmp_tested}
use Rattle.std.proofs.lemmas.Slice.Eq.{bytes_eq-Decides}
use Rattle.containers.proofs.Choices.{both_left, both_right, eq_from}
use Rattle.slot_hash.specs.declared.address.NodeAddress.{NodeAddress}
use Rattle.mux_routing.specs.Shards.{address_less, text_less}
use Rattle.cluster_plan.specs.Asks.{same_address}

-- std's order of byte lists is that of texts
pub less_is : (xs ys : List ℕ) (r : Bool) → r ≡ is_some_and is_lt (slice_partial_cmp (λ x y. Some (nat_cmp x y)) xs ys) → r ≡ text_less xs ys
less_is = same_from_slice_cmp_tested nat_cmp is_lt text_less refl (λ _ _. refl) (λ _ _. refl) (λ x y xs ys o h. grind (arith, nat_tests))

text_itself : (xs : List ℕ) → text_less xs xs ≡ false
text_itself [] = refl
text_itself (x ∷ xs) = grind (arith, nat_tests, text_itself xs)

text_onwards : (xs ys zs : List ℕ) → text_less xs ys ≡ true → text_less ys zs ≡ true → text_less xs zs ≡ true
text_onwards [] [] zs h k = cc
text_onwards [] (y ∷ ys) [] h k = cc
text_onwards [] (y ∷ ys) (z ∷ zs) h k = refl
text_onwards (x ∷ xs) [] zs h k = cc
text_onwards (x ∷ xs) (y ∷ ys) [] h k = cc
text_onwards (x ∷ xs) (y ∷ ys) (z ∷ zs) h k = grind (arith, nat_tests, text_onwards xs ys zs)

text_tied : (xs ys : List ℕ) → text_less xs ys ≡ false → text_less ys xs ≡ false → xs ≡ ys
text_tied [] [] h k = refl
text_tied [] (y ∷ ys) h k = cc
text_tied (x ∷ xs) [] h k = cc
text_tied (x ∷ xs) (y ∷ ys) h k =
    let first : x ≡ y = grind (arith, nat_tests) in
    let rest : xs ≡ ys = text_tied xs ys (grind (arith, nat_tests)) (grind (arith, nat_tests)) in
    λ i. first i ∷ rest i

one_host : (xs ys : List ℕ) → bytes_eq xs ys ≡ true → xs ≡ ys
one_host xs ys = (bytes_eq-Decides xs ys).0

own_host : (xs : List ℕ) → bytes_eq xs xs ≡ true
own_host xs = (bytes_eq-Decides xs xs).1 refl

pub itself : (a : NodeAddress) → address_less a a ≡ false
unfolding address_less
itself a = grind (arith, nat_tests, text_itself a.host)

onwards_by : (x y z : List ℕ) (p q r : ℕ) → (text_less x y || (bytes_eq x y && nat_lt p q)) ≡ true → (text_less y z || (bytes_eq y z && nat_lt q r)) ≡ true → (text_less x z || (bytes_eq x z && nat_lt p r)) ≡ true
onwards_by x y z p q r h k = grind (arith, nat_tests, one_host x y, one_host y z, own_host x, text_onwards x y z)

pub onwards : (a b c : NodeAddress) → address_less a b ≡ true → address_less b c ≡ true → address_less a c ≡ true
unfolding address_less
onwards a b c h k = onwards_by a.host b.host c.host a.port b.port c.port h k

pub tied : (a b : NodeAddress) → address_less a b ≡ false → address_less b a ≡ false → a ≡ b
unfolding address_less
tied a b h k =
    let hosts : a.host ≡ b.host = text_tied a.host b.host (grind (arith, nat_tests)) (grind (arith, nat_tests)) in
    let left : bytes_eq a.host b.host ≡ true = (bytes_eq-Decides a.host b.host).1 hosts in
    let right : bytes_eq b.host a.host ≡ true = (bytes_eq-Decides b.host a.host).1 (sym hosts) in
    let ports : a.port ≡ b.port = grind (arith, nat_tests) in
    λ i. record { host = hosts i; port = ports i }

-- two addresses that are one
pub one : (a b : NodeAddress) → same_address a b ≡ true → a ≡ b
one a b h =
    let hosts : a.host ≡ b.host = one_host a.host b.host (both_left (bytes_eq a.host b.host) (a.port == b.port) h) in
    let ports : a.port ≡ b.port = eq_from a.port b.port (both_right (bytes_eq a.host b.host) (a.port == b.port) h) in
    λ i. record { host = hosts i; port = ports i }

itself_by : (xs : List ℕ) (p : ℕ) → bytes_eq xs xs ≡ true → (bytes_eq xs xs && p == p) ≡ true
itself_by xs p h = grind (arith, nat_tests)

pub same : (a : NodeAddress) → same_address a a ≡ true
same a = itself_by a.host a.port (own_host a.host)
