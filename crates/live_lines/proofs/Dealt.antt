-- What holds of each share of a list holds of the list.
use Rattle.std.proofs.Common.{◌≡◌, ℕ, zero, suc, ◌+◌, ◌%◌, ◌<◌, ◌≤◌, ◌==◌, Bool, true, false, true≢false, if◌then◌else◌, List, [], ◌∷◌, ◌++◌, length, refl, sym, ◌∙◌, subst, arith, add-zero, eq-eqb}
use Rattle.std.proofs.lemmas.Bool.Decides.{nat_tests}
use Rattle.session_callers.specs.Rule.{Each, total}
use Rattle.caller_threads.specs.Each.{EachAt}
use Rattle.caller_threads.specs.Lines.{one_if, share_from}

-- the fact at a place, with one of the second ones
pub pair_at : {A B : Type 0} (P : ℕ → A → B → Type 0) (Q : B → Type 0) (n : ℕ) (xs : List A) (ys : List B) → EachAt P n xs ys → Each Q ys → (i : ℕ) → i < length xs → (x : A) × (y : B) × P (n + i) x y × Q y
pair_at P Q n [] ys h q i lt = absurd (omega arith)
pair_at P Q n (x ∷ xs) [] h q i lt = absurd h
pair_at P Q n (x ∷ xs) (y ∷ ys) h q zero lt = (x, y, subst (λ (m : ℕ). P m x y) (sym (add-zero n)) h.0, q.0)
pair_at P Q n (x ∷ xs) (y ∷ ys) h q (suc i) lt =
    let r = pair_at P Q (n + 1) xs ys h.1 q.1 i (omega arith) in
    (r.0, r.1, subst (λ (m : ℕ). P m r.0 r.1) (let e : (n + 1) + i ≡ n + suc i = omega arith in e) r.2, r.3)

module _ {A B : Type 0} (P : A → B → Type 0) where
  abbrev Pairs : ℕ → List A → List B → Type 0
  Pairs n xs ys = EachAt (λ (i : ℕ). P) n xs ys

  moved : (n m : ℕ) (xs : List A) (ys : List B) → Pairs n xs ys → Pairs m xs ys
  moved n m [] [] h = tt
  moved n m [] (y ∷ ys) h = absurd h
  moved n m (x ∷ xs) [] h = absurd h
  moved n m (x ∷ xs) (y ∷ ys) h = (h.0, moved (n + 1) (m + 1) xs ys h.1)

  first_by : (b : Bool) (x : A) (y : B) (xs : List A) (ys : List B) → b ≡ true → Pairs 0 (one_if b x ++ xs) (one_if b y ++ ys) → P x y
  first_by true x y xs ys is h = h.0
  first_by false x y xs ys is h = absurd (true≢false (sym is))

  rest_by : (b : Bool) (x : A) (y : B) (xs : List A) (ys : List B) → Pairs 0 (one_if b x ++ xs) (one_if b y ++ ys) → Pairs 0 xs ys
  rest_by true x y xs ys h = moved 1 0 xs ys h.1
  rest_by false x y xs ys h = h

  -- where the items of each share are so with those of the other list's, all are
  pub whole : (k n m : ℕ) → 0 < k → (xs : List A) (ys : List B) → length ys ≡ length xs → ((c : ℕ) → c < k → Pairs 0 (share_from k c n xs) (share_from k c n ys)) → Pairs m xs ys
  whole k n m some [] [] l h = tt
  whole k n m some [] (y ∷ ys) l h = absurd (omega arith)
  whole k n m some (x ∷ xs) [] l h = absurd (omega arith)
  whole k n m some (x ∷ xs) (y ∷ ys) l h =
      let c = n % k in
      let less : c < k = omega (arith, some) in (
        first_by (n % k == c) x y (share_from k c (n + 1) xs) (share_from k c (n + 1) ys) (eq-eqb (n % k) c refl) (h c less),
        whole k (n + 1) (m + 1) some xs ys (omega arith) (λ c less. rest_by (n % k == c) x y (share_from k c (n + 1) xs) (share_from k c (n + 1) ys) (h c less)),
      )

-- g of so many numbers from one on, added up
abbrev pub sum_from : (ℕ → ℕ) → ℕ → ℕ → ℕ
sum_from g c zero = 0
sum_from g c (suc m) = g c + sum_from g (c + 1) m

-- what is added up of the second ones by their places
pub total_by_place : {A B : Type 0} (P : ℕ → A → B → Type 0) (f : B → ℕ) (g : ℕ → ℕ) (n : ℕ) (xs : List A) (ys : List B) → ((c : ℕ) (x : A) (y : B) → P c x y → f y ≡ g c) → EachAt P n xs ys → total f ys ≡ sum_from g n (length xs)
total_by_place P f g n [] [] is h = refl
total_by_place P f g n [] (y ∷ ys) is h = absurd h
total_by_place P f g n (x ∷ xs) [] is h = absurd h
total_by_place P f g n (x ∷ xs) (y ∷ ys) is h = let a = is n x y h.0 in let r = total_by_place P f g (n + 1) xs ys is h.1 in omega arith

sum_same : (g h : ℕ → ℕ) → ((c : ℕ) → g c ≡ h c) → (c m : ℕ) → sum_from g c m ≡ sum_from h c m
sum_same g h is c zero = refl
sum_same g h is c (suc m) = let a = is c in let r = sum_same g h is (c + 1) m in omega arith

pub sum_add : (g h : ℕ → ℕ) (c m : ℕ) → sum_from (λ i. g i + h i) c m ≡ sum_from g c m + sum_from h c m
sum_add g h c zero = refl
sum_add g h c (suc m) = let r = sum_add g h (c + 1) m in omega arith

sum_none : (c m : ℕ) → sum_from (λ i. 0) c m ≡ 0
sum_none c zero = refl
sum_none c (suc m) = let r = sum_none (c + 1) m in omega arith

-- a number that one of them has
abbrev at_one : ℕ → ℕ → ℕ → ℕ
at_one v j i = if j == i then v else 0

sum_after : (v j c m : ℕ) → j < c → sum_from (at_one v j) c m ≡ 0
sum_after v j c zero lt = refl
sum_after v j c (suc m) lt = let r = sum_after v j (c + 1) m (omega arith) in let a : at_one v j c ≡ 0 = grind (arith, nat_tests) in omega arith

sum_one_by : (v j c m : ℕ) (b : Bool) → (j == c) ≡ b → c ≤ j → (c + 1 ≤ j → sum_from (at_one v j) (c + 1) m ≡ v) → sum_from (at_one v j) c (suc m) ≡ v
sum_one_by v j c m true is le rest = let a : at_one v j c ≡ v = grind (arith, nat_tests) in let r = sum_after v j (c + 1) m (grind (arith, nat_tests)) in omega arith
sum_one_by v j c m false is le rest = let a : at_one v j c ≡ 0 = grind (arith, nat_tests) in let r = rest (grind (arith, nat_tests)) in omega arith

sum_one : (v j c m : ℕ) → c ≤ j → j < c + m → sum_from (at_one v j) c m ≡ v
sum_one v j c zero le lt = absurd (omega arith)
sum_one v j c (suc m) le lt = sum_one_by v j c m (j == c) refl le (λ le'. sum_one v j (c + 1) m le' (omega arith))

zero_left : (n : ℕ) → n ≡ 0 + n
zero_left n = omega arith

module _ {A : Type 0} (f : A → ℕ) where
  total_one : (b : Bool) (x : A) (xs : List A) → total f (one_if b x ++ xs) ≡ (if b then f x else 0) + total f xs
  total_one true x xs = refl
  total_one false x xs = zero_left (total f xs)

  -- the sums of the shares, added up, are the sum of the list
  pub total_shares : (k n : ℕ) → 0 < k → (xs : List A) → sum_from (λ c. total f (share_from k c n xs)) 0 k ≡ total f xs
  total_shares k n some [] = sum_none 0 k
  total_shares k n some (x ∷ xs) =
      let j = n % k in
      let less : j < k = omega (arith, some) in
      sum_same (λ c. total f (share_from k c n (x ∷ xs))) (λ c. at_one (f x) j c + total f (share_from k c (n + 1) xs)) (λ c. total_one (n % k == c) x (share_from k c (n + 1) xs)) 0 k
      ∙ (let a = sum_add (at_one (f x) j) (λ c. total f (share_from k c (n + 1) xs)) 0 k in let b = sum_one (f x) j 0 k (omega arith) (omega (arith, less)) in let r = total_shares k (n + 1) some xs in omega arith)
