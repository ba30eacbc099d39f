-- Which lines a caller submits.
use Rattle.std.specs.Prelude.{ℕ, zero, suc, ◌+◌, ◌%◌, ◌==◌, Bool, true, false, List, [], ◌∷◌, ◌++◌}

-- the item, or nothing
abbrev pub one_if : {A : Type 0} → Bool → A → List A
one_if true x = x ∷ []
one_if false x = []

-- the items whose place, counted from n, is c modulo k
abbrev pub share_from : {A : Type 0} → ℕ → ℕ → ℕ → List A → List A
share_from k c n [] = []
share_from k c n (x ∷ xs) = one_if (n % k == c) x ++ share_from k c (n + 1) xs

-- the items i with i modulo k equal to c, in order
abbrev pub share : {A : Type 0} → ℕ → ℕ → List A → List A
share k c xs = share_from k c 0 xs

-- 1 or 0
abbrev pub count_if : Bool → ℕ
count_if true = 1
count_if false = 0

-- how many of so many places, counted from n, are c modulo k
abbrev pub count_from : ℕ → ℕ → ℕ → ℕ → ℕ
count_from k c n zero = 0
count_from k c n (suc m) = count_if (n % k == c) + count_from k c (n + 1) m
