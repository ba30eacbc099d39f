-- Facts of the items of lists, with their places.
use Rattle.std.specs.Prelude.{ℕ, ◌+◌, ◌⊎◌, List, [], ◌∷◌}

-- the lists are as long, and P holds of the first items, of the second and so on, with their place, which counts from n
abbrev pub EachAt : {A B : Type 0} → (ℕ → A → B → Type 0) → ℕ → List A → List B → Type 0
EachAt P n [] [] = Unit {0}
EachAt P n [] (y ∷ ys) = ⊥
EachAt P n (x ∷ xs) [] = ⊥
EachAt P n (x ∷ xs) (y ∷ ys) = P n x y × EachAt P (n + 1) xs ys

-- P holds of the items at some place
abbrev pub AnyAt : {A B : Type 0} → (ℕ → A → B → Type 0) → ℕ → List A → List B → Type 0
AnyAt P n [] ys = ⊥
AnyAt P n (x ∷ xs) [] = ⊥
AnyAt P n (x ∷ xs) (y ∷ ys) = P n x y ⊎ AnyAt P (n + 1) xs ys
