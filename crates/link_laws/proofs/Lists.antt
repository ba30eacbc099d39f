-- Places of a list that grows, and its equal heads.
use Rattle.std.proofs.Common.{◌≡◌, ℕ, zero, suc, ◌<◌, List, [], ◌∷◌, ◌++◌, length, take, Some, slice_get, refl, arith}

-- what stands in the first of two lists
pub get_before : {X : Type 0} (xs ys : List X) (n : ℕ) → n < length xs → slice_get (xs ++ ys) n ≡ slice_get xs n
get_before [] ys n l = absurd (omega arith)
get_before (x ∷ xs) ys zero l = refl
get_before (x ∷ xs) ys (suc n) l = get_before xs ys n (omega arith)

-- what stands last
pub get_last : {X : Type 0} (xs : List X) (x : X) → slice_get (xs ++ x ∷ []) (length xs) ≡ Some x
get_last [] x = refl
get_last (y ∷ xs) x = get_last xs x

-- equal lists have equal heads and equal rests
pub heads_same : {X : Type 0} (x y : X) (xs ys : List X) → x ∷ xs ≡ y ∷ ys → (x ≡ y) × (xs ≡ ys)
heads_same x y xs ys e = (cc, cc)

-- of nothing nothing is taken
pub take_none : {X : Type 0} (n : ℕ) → take {A = X} n [] ≡ []
take_none zero = refl
take_none (suc n) = refl
