-- Places of a list.
use Rattle.std.proofs.Common.{◌≡◌, ◌≢◌, ℕ, zero, suc, ◌<◌, List, [], ◌∷◌, length, Some, slice_get, slice_set, refl, ap, arith}

pub get_set_same : {X : Type 0} (xs : List X) (n : ℕ) (x : X) → n < length xs → slice_get (slice_set xs n x) n ≡ Some x
get_set_same [] n x l = absurd (omega arith)
get_set_same (y ∷ xs) zero x l = refl
get_set_same (y ∷ xs) (suc n) x l = get_set_same xs n x (omega arith)

pub get_set_other : {X : Type 0} (xs : List X) (n m : ℕ) (x : X) → n ≢ m → slice_get (slice_set xs n x) m ≡ slice_get xs m
get_set_other [] n m x o = refl
get_set_other (y ∷ xs) zero zero x o = absurd (o refl)
get_set_other (y ∷ xs) zero (suc m) x o = refl
get_set_other (y ∷ xs) (suc n) zero x o = refl
get_set_other (y ∷ xs) (suc n) (suc m) x o = get_set_other xs n m x (λ e. o (ap suc e))

pub get_within : {X : Type 0} (xs : List X) (n : ℕ) (x : X) → slice_get xs n ≡ Some x → n < length xs
get_within [] n x e = cc
get_within (y ∷ xs) zero x e = omega arith
get_within (y ∷ xs) (suc n) x e = let l = get_within xs n x e in omega arith
