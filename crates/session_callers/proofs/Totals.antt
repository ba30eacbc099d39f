-- Totals over lists read by `get_elem?`.
use Rattle.std.proofs.Common.{◌≡◌, ◌≢◌, ℕ, zero, suc, ◌+◌, ◌<◌, ◌≤◌, List, [], ◌∷◌, ◌++◌, length, set, refl, sym, ap, ◌∙◌, arith, zero-le, append_assoc, length-append}
use mathlib.Core.Option.{some, some-ne-none, some-injective}
use mathlib.Core.List.{IsPrefix}
use lib.ListN.{get_elem?}
use Rattle.session_callers.specs.Rule.{total, Each, same, below, times, between, Ascends}

module _ {A : Type 0} (f : A → ℕ) where
  pub total_set : (l : List A) (i : ℕ) (v w : A) → get_elem? l i ≡ some v → total f (set l i w) + f v ≡ total f l + f w
  total_set [] i v w e = absurd (some-ne-none v (sym e))
  total_set (x ∷ xs) zero v w e = let same : f x ≡ f v = ap f (some-injective x v e) in omega arith
  total_set (x ∷ xs) (suc i) v w e = let rest = total_set xs i v w e in omega arith

  pub total_at : (l : List A) (i : ℕ) (v : A) → get_elem? l i ≡ some v → f v ≤ total f l
  total_at [] i v e = absurd (some-ne-none v (sym e))
  total_at (x ∷ xs) zero v e = let same : f x ≡ f v = ap f (some-injective x v e) in omega arith
  total_at (x ∷ xs) (suc i) v e = let rest = total_at xs i v e in omega arith

  pub total_two : (l : List A) (i j : ℕ) (u v : A) → i ≢ j → get_elem? l i ≡ some u → get_elem? l j ≡ some v → f u + f v ≤ total f l
  total_two [] i j u v n e d = absurd (some-ne-none u (sym e))
  total_two (x ∷ xs) zero zero u v n e d = absurd (n refl)
  total_two (x ∷ xs) zero (suc j) u v n e d = let same : f x ≡ f u = ap f (some-injective x u e) in let rest = total_at xs j v d in omega arith
  total_two (x ∷ xs) (suc i) zero u v n e d = let same : f x ≡ f v = ap f (some-injective x v d) in let rest = total_at xs i u e in omega arith
  total_two (x ∷ xs) (suc i) (suc j) u v n e d = let rest = total_two xs i j u v (λ k. n (ap suc k)) e d in omega arith

  pub total_last : (l : List A) (w : A) → total f (l ++ w ∷ []) ≡ total f l + f w
  total_last [] w = omega arith
  total_last (x ∷ xs) w = let rest = total_last xs w in omega arith

module _ {A : Type 0} (f g : A → ℕ) where
  pub total_le : (l : List A) → ((j : ℕ) (u : A) → get_elem? l j ≡ some u → f u ≤ g u) → total f l ≤ total g l
  total_le [] h = zero-le
  total_le (x ∷ xs) h = let here = h 0 x refl in let rest = total_le xs (λ j u e. h (suc j) u e) in omega arith

  -- where f is at most g everywhere, the totals are as far apart as at one place
  pub total_gap : (l : List A) (i : ℕ) (v : A) → get_elem? l i ≡ some v → ((j : ℕ) (u : A) → get_elem? l j ≡ some u → f u ≤ g u) → total f l + g v ≤ total g l + f v
  total_gap [] i v e h = absurd (some-ne-none v (sym e))
  total_gap (x ∷ xs) zero v e h =
      let a : f x ≡ f v = ap f (some-injective x v e) in
      let b : g x ≡ g v = ap g (some-injective x v e) in
      let rest = total_le xs (λ j u e. h (suc j) u e) in omega arith
  total_gap (x ∷ xs) (suc i) v e h =
      let here = h 0 x refl in let rest = total_gap xs i v e (λ j u e. h (suc j) u e) in omega arith

module _ {A : Type 0} where
  pub total_most : (f : A → ℕ) → ((x : A) → f x ≤ 1) → (l : List A) → total f l ≤ length l
  total_most f h [] = zero-le
  total_most f h (x ∷ xs) = let here = h x in let rest = total_most f h xs in omega arith

  pub prefix_all : (xs : List A) → IsPrefix xs xs
  prefix_all [] = ([], refl)
  prefix_all (x ∷ xs) = let r = prefix_all xs in (r.0, ap (λ l. x ∷ l) r.1)

  pub prefix_more : (xs ys zs : List A) → IsPrefix xs ys → IsPrefix xs (ys ++ zs)
  prefix_more [] ys zs p = (ys ++ zs, refl)
  prefix_more (x ∷ xs) ys zs p = (p.0 ++ zs, sym (append_assoc (x ∷ xs) p.0 zs) ∙ ap (λ l. l ++ zs) p.1)

pub times_last : (p : ℕ) (xs : List ℕ) (q : ℕ) → times p (xs ++ q ∷ []) ≡ times p xs + same p q
times_last p xs q = total_last (same p) xs q

pub ascends_more : (from : ℕ) (ps : List ℕ) (top : ℕ) → Ascends from ps top → Ascends from ps (suc top)
ascends_more from [] top h = omega arith
ascends_more from (p ∷ ps) top h = (h.0, ascends_more (suc p) ps top h.1)

pub ascends_up : (from : ℕ) (ps : List ℕ) (top more : ℕ) → top ≤ more → Ascends from ps top → Ascends from ps more
ascends_up from [] top more le h = omega arith
ascends_up from (p ∷ ps) top more le h = (h.0, ascends_up (suc p) ps top more le h.1)

pub ascends_last : (from : ℕ) (ps : List ℕ) (top : ℕ) → Ascends from ps top → Ascends from (ps ++ top ∷ []) (suc top)
ascends_last from [] top h = (h, omega arith)
ascends_last from (p ∷ ps) top h = (h.0, ascends_last (suc p) ps top h.1)

pub prefix_of : {A : Type 0} (xs ys zs : List A) → IsPrefix xs ys → IsPrefix ys zs → IsPrefix xs zs
prefix_of xs ys zs p q = (p.0 ++ q.0, sym (append_assoc xs p.0 q.0) ∙ ap (λ l. l ++ q.0) p.1 ∙ q.1)

pub prefix_length : {A : Type 0} (xs ys : List A) → IsPrefix xs ys → length xs ≤ length ys
prefix_length xs ys p = let e : length xs + length p.0 ≡ length ys = sym (length-append xs p.0) ∙ ap length p.1 in omega arith

pub below_up : (n t : ℕ) → below n (t + 1) ≡ below n t + same n t
below_up n t = omega arith

pub same_self : (n : ℕ) → same n n ≡ 1
same_self n = omega arith

module _ {A : Type 0} (f g : A → ℕ) where
  pub total_up : (xs : List A) → ((x : A) → f x ≤ g x) → total f xs ≤ total g xs
  total_up [] h = zero-le
  total_up (x ∷ xs) h = let here = h x in let rest = total_up xs h in omega arith

pub between_up : (a m b c : ℕ) → b ≤ c → between a m b ≤ between a m c
between_up a m b c le = omega arith

pub total_append : {A : Type 0} (f : A → ℕ) (xs ys : List A) → total f (xs ++ ys) ≡ total f xs + total f ys
total_append f [] ys = omega arith
total_append f (x ∷ xs) ys = let rest = total_append f xs ys in omega arith

pub each_append : {A : Type 0} (P : A → Type 0) (xs ys : List A) → Each P xs → Each P ys → Each P (xs ++ ys)
each_append P [] ys a b = b
each_append P (x ∷ xs) ys a b = (a.0, each_append P xs ys a.1 b)

pub each_up : (xs : List ℕ) (a b : ℕ) → a ≤ b → Each (λ (n : ℕ). n < a) xs → Each (λ (n : ℕ). n < b) xs
each_up [] a b le h = tt
each_up (x ∷ xs) a b le h = (let e = h.0 in omega arith, each_up xs a b le h.1)

-- of numbers that are counted below a bound, each is below it
pub each_counted : (xs : List ℕ) (b : ℕ) → ((n : ℕ) → times n xs ≤ below n b) → Each (λ (n : ℕ). n < b) xs
each_counted [] b h = tt
each_counted (x ∷ xs) b h = (let e = h x in omega arith, each_counted xs b (λ n. let e = h n in omega arith))
