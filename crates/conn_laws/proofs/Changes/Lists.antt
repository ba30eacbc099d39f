-- Places of lists.
use Rattle.std.proofs.Common.{◌≡◌, ◌≢◌, ℕ, zero, suc, List, [], ◌∷◌, ◌++◌, Some, slice_get, slice_set, refl, ap}

-- the second item that is put at a place stays
pub set_twice : {X : Type 0} (xs : List X) (n : ℕ) (x y : X) → slice_set (slice_set xs n x) n y ≡ slice_set xs n y
set_twice [] n x y = refl
set_twice (z ∷ xs) zero x y = refl
set_twice (z ∷ xs) (suc n) x y = ap (λ zs. z ∷ zs) (set_twice xs n x y)

-- items put at two places, in any order
pub set_apart : {X : Type 0} (xs : List X) (n m : ℕ) (x y : X) → n ≢ m → slice_set (slice_set xs n x) m y ≡ slice_set (slice_set xs m y) n x
set_apart [] n m x y o = refl
set_apart (z ∷ xs) zero zero x y o = absurd (o refl)
set_apart (z ∷ xs) zero (suc m) x y o = refl
set_apart (z ∷ xs) (suc n) zero x y o = refl
set_apart (z ∷ xs) (suc n) (suc m) x y o = ap (λ zs. z ∷ zs) (set_apart xs n m x y (λ e. o (ap suc e)))

-- an item is put at a place, and stands at the end
pub set_push_same : {X : Type 0} (xs : List X) (n : ℕ) (x : X) → slice_set (xs ++ x ∷ []) n x ≡ slice_set xs n x ++ x ∷ []
set_push_same [] zero x = refl
set_push_same [] (suc n) x = refl
set_push_same (z ∷ xs) zero x = refl
set_push_same (z ∷ xs) (suc n) x = ap (λ zs. z ∷ zs) (set_push_same xs n x)

-- what stands in a list that grows
pub get_push : {X : Type 0} (xs : List X) (n : ℕ) (x y : X) → slice_get xs n ≡ Some x → slice_get (xs ++ y ∷ []) n ≡ Some x
get_push [] n x y e = cc
get_push (z ∷ xs) zero x y e = e
get_push (z ∷ xs) (suc n) x y e = get_push xs n x y e
