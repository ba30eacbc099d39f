-- Shares of lists.
use Rattle.std.proofs.Common.{◌≡◌, ℕ, zero, suc, ◌+◌, ◌-◌, ◌%◌, ◌<◌, ◌==◌, Bool, true, false, List, [], ◌∷◌, ◌++◌, length, refl, sym, ap, ◌∙◌, arith, append_assoc, append-nil, length-append, add-zero, zero-add, eq-eqb}
use Rattle.session_callers.specs.Rule.{Each}
use Rattle.caller_threads.specs.Lines.{one_if, share_from, share, count_if, count_from}

module _ {A : Type 0} where
  pub share_append : (k c n : ℕ) (xs ys : List A) → share_from k c n (xs ++ ys) ≡ share_from k c n xs ++ share_from k c (n + length xs) ys
  share_append k c n [] ys = ap (λ m. share_from k c m ys) (sym (add-zero n))
  share_append k c n (x ∷ xs) ys =
      let h = share_append k c (n + 1) xs ys in
      let e : (n + 1) + length xs ≡ n + length (x ∷ xs) = omega arith in
      ap (λ s. one_if (n % k == c) x ++ s) (h ∙ ap (λ m. share_from k c (n + 1) xs ++ share_from k c m ys) e)
      ∙ sym (append_assoc (one_if (n % k == c) x) (share_from k c (n + 1) xs) (share_from k c (n + length (x ∷ xs)) ys))

  -- one item more
  pub share_more : (k c : ℕ) (xs : List A) (x : A) → share k c (xs ++ x ∷ []) ≡ share k c xs ++ one_if (length xs % k == c) x
  share_more k c xs x =
      share_append k c 0 xs (x ∷ [])
      ∙ ap (λ s. share k c xs ++ s) (append-nil (one_if ((0 + length xs) % k == c) x) ∙ ap (λ m. one_if (m % k == c) x) (omega arith))

  length_one_if : (b : Bool) (x : A) → length (one_if b x) ≡ count_if b
  length_one_if true x = refl
  length_one_if false x = refl

  pub length_share : (k c n : ℕ) (xs : List A) → length (share_from k c n xs) ≡ count_from k c n (length xs)
  length_share k c n [] = refl
  length_share k c n (x ∷ xs) =
      length-append (one_if (n % k == c) x) (share_from k c (n + 1) xs)
      ∙ (let a = length_one_if (n % k == c) x in let b = length_share k c (n + 1) xs in omega arith)

  -- what each item has, each of the share has
  pub each_share : (P : A → Type 0) (k c n : ℕ) (xs : List A) → Each P xs → Each P (share_from k c n xs)
  each_share P k c n [] h = tt
  each_share P k c n (x ∷ xs) h = before (n % k == c) (share_from k c (n + 1) xs) (each_share P k c (n + 1) xs h.1)
    where
      before : (b : Bool) (ys : List A) → Each P ys → Each P (one_if b x ++ ys)
      before true ys r = (h.0, r)
      before false ys r = r

count_add : (k c n a b : ℕ) → count_from k c n (a + b) ≡ count_from k c n a + count_from k c (n + a) b
count_add k c n zero b = let e = ap (λ x. count_from k c x b) (add-zero n) in let z = ap (λ x. count_from k c n x) (zero-add b) in omega arith
count_add k c n (suc a) b =
    let e : suc a + b ≡ suc (a + b) = omega arith in
    let d : (n + 1) + a ≡ n + suc a = omega arith in
    let h = count_add k c (n + 1) a b in
    ap (λ x. count_from k c n x) e ∙ (let g = ap (λ x. count_from k c x b) d in omega arith)

-- the place i is one of its own share
pub count_less : (k i total : ℕ) → i < total → count_from k (i % k) 0 i < count_from k (i % k) 0 total
count_less k i total lt =
    let e : i + suc (total - i - 1) ≡ total = omega arith in
    let a = count_add k (i % k) 0 i (suc (total - i - 1)) in
    let z : 0 + i ≡ i = omega arith in
    let b : count_from k (i % k) (0 + i) (suc (total - i - 1)) ≡ count_from k (i % k) i (suc (total - i - 1)) = ap (λ m. count_from k (i % k) m (suc (total - i - 1))) z in
    let t : (i % k == i % k) ≡ true = eq-eqb (i % k) (i % k) refl in
    let o : count_if (i % k == i % k) ≡ 1 = ap count_if t in
    let s = ap (λ m. count_from k (i % k) 0 m) e in
    omega arith
