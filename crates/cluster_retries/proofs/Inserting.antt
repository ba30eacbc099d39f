-- An address is put where its place is.
use Rattle.std.proofs.Common.{◌≡◌, ◌<◌, ◌≤◌, true, false, List, [], ◌∷◌, ◌++◌, length, get_or, take, drop, refl, arith}
use Rattle.std.proofs.lemmas.Bool.Decides.{nat_tests}
use Rattle.slot_hash.specs.declared.address.NodeAddress.{NodeAddress}
use Rattle.mux_routing.specs.Shards.{address_less, inserted, place_of}

-- it is there
pub stands : (a d : NodeAddress) (xs : List NodeAddress) → place_of xs a < length xs → address_less a (get_or xs (place_of xs a) d) ≡ false → inserted a xs ≡ xs
stands a d [] lt h = absurd (omega arith)
stands a d (x ∷ xs) lt h = grind (arith, nat_tests, stands a d xs)

-- or it comes before what stands at its place
pub comes_in : (a d : NodeAddress) (xs : List NodeAddress) → place_of xs a < length xs → address_less a (get_or xs (place_of xs a) d) ≡ true → inserted a xs ≡ take (place_of xs a) xs ++ a ∷ drop (place_of xs a) xs
comes_in a d [] lt h = absurd (omega arith)
comes_in a d (x ∷ xs) lt h = grind (arith, nat_tests, comes_in a d xs)

-- or it comes behind all
pub comes_last : (a : NodeAddress) (xs : List NodeAddress) → length xs ≤ place_of xs a → inserted a xs ≡ take (place_of xs a) xs ++ a ∷ drop (place_of xs a) xs
comes_last a [] h = refl
comes_last a (x ∷ xs) h = grind (arith, nat_tests, comes_last a xs)
