-- Facts of the items of lists, with their places.
use Rattle.std.proofs.Common.{◌≡◌, ℕ, zero, suc, ◌+◌, ◌<◌, ◌≤◌, List, [], ◌∷◌, ◌++◌, length, get_or, set, All, refl, sym, ap, subst, inl, inr, arith, add-zero}
use Rattle.session_callers.specs.Rule.{Each}
use Rattle.caller_threads.specs.Each.{EachAt, AnyAt}

module _ {A B : Type 0} where
  pub each_length : (P : ℕ → A → B → Type 0) (n : ℕ) (xs : List A) (ys : List B) → EachAt P n xs ys → length ys ≡ length xs
  each_length P n [] [] h = refl
  each_length P n [] (y ∷ ys) h = absurd h
  each_length P n (x ∷ xs) [] h = absurd h
  each_length P n (x ∷ xs) (y ∷ ys) h = ap suc (each_length P (n + 1) xs ys h.1)

  pub each_map : (P Q : ℕ → A → B → Type 0) → ((c : ℕ) (x : A) (y : B) → P c x y → Q c x y) → (n : ℕ) (xs : List A) (ys : List B) → EachAt P n xs ys → EachAt Q n xs ys
  each_map P Q f n [] [] h = tt
  each_map P Q f n [] (y ∷ ys) h = absurd h
  each_map P Q f n (x ∷ xs) [] h = absurd h
  each_map P Q f n (x ∷ xs) (y ∷ ys) h = (f n x y h.0, each_map P Q f (n + 1) xs ys h.1)

  pub any_map : (P Q : ℕ → A → B → Type 0) → ((c : ℕ) (x : A) (y : B) → P c x y → Q c x y) → (n : ℕ) (xs : List A) (ys : List B) → AnyAt P n xs ys → AnyAt Q n xs ys
  any_map P Q f n [] ys h = absurd h
  any_map P Q f n (x ∷ xs) [] h = absurd h
  any_map P Q f n (x ∷ xs) (y ∷ ys) (inl h) = inl (f n x y h)
  any_map P Q f n (x ∷ xs) (y ∷ ys) (inr h) = inr (any_map P Q f (n + 1) xs ys h)

  pub each_append : (P : ℕ → A → B → Type 0) (n : ℕ) (xs us : List A) (ys vs : List B) → EachAt P n xs ys → EachAt P (n + length xs) us vs → EachAt P n (xs ++ us) (ys ++ vs)
  each_append P n [] us [] vs p q = subst (λ (m : ℕ). EachAt P m us vs) (add-zero n) q
  each_append P n [] us (y ∷ ys) vs p q = absurd p
  each_append P n (x ∷ xs) us [] vs p q = absurd p
  each_append P n (x ∷ xs) us (y ∷ ys) vs p q =
      (p.0, each_append P (n + 1) xs us ys vs p.1 (subst (λ (m : ℕ). EachAt P m us vs) (let e : n + length (x ∷ xs) ≡ (n + 1) + length xs = omega arith in e) q))

  -- a fact that does not speak of places
  pub each_moved : (R : A → B → Type 0) (n m : ℕ) (xs : List A) (ys : List B) → EachAt (λ c. R) n xs ys → EachAt (λ c. R) m xs ys
  each_moved R n m [] [] h = tt
  each_moved R n m [] (y ∷ ys) h = absurd h
  each_moved R n m (x ∷ xs) [] h = absurd h
  each_moved R n m (x ∷ xs) (y ∷ ys) h = (h.0, each_moved R (n + 1) (m + 1) xs ys h.1)

  -- with a fact of the first ones
  pub each_with : (P : A → Type 0) (Q : ℕ → A → B → Type 0) (n : ℕ) (xs : List A) (ys : List B) → Each P xs → EachAt Q n xs ys → EachAt (λ c x y. P x × Q c x y) n xs ys
  each_with P Q n [] [] p q = tt
  each_with P Q n [] (y ∷ ys) p q = absurd q
  each_with P Q n (x ∷ xs) [] p q = absurd q
  each_with P Q n (x ∷ xs) (y ∷ ys) p q = ((p.0, q.0), each_with P Q (n + 1) xs ys p.1 q.1)

  -- a fact that speaks of the first ones alone
  pub each_first : (P : ℕ → A → Type 0) (n : ℕ) (xs : List A) (ys : List B) → EachAt (λ c x y. P c x) n xs ys → EachAt (λ c x y. P c x) n xs xs
  each_first P n [] ys h = tt
  each_first P n (x ∷ xs) [] h = absurd h
  each_first P n (x ∷ xs) (y ∷ ys) h = (h.0, each_first P (n + 1) xs ys h.1)

  pub each_second : (P : ℕ → B → Type 0) (n : ℕ) (xs : List A) (ys : List B) → EachAt (λ c x y. P c y) n xs ys → EachAt (λ c x y. P c x) n ys ys
  each_second P n xs [] h = tt
  each_second P n [] (y ∷ ys) h = absurd h
  each_second P n (x ∷ xs) (y ∷ ys) h = (h.0, each_second P (n + 1) xs ys h.1)

  pub any_never : (P : ℕ → A → B → Type 0) (n : ℕ) (xs : List A) (ys : List B) → ((c : ℕ) (x : A) (y : B) → P c x y → ⊥) → AnyAt P n xs ys → ⊥
  any_never P n [] ys f h = h
  any_never P n (x ∷ xs) [] f h = h
  any_never P n (x ∷ xs) (y ∷ ys) f (inl h) = f n x y h
  any_never P n (x ∷ xs) (y ∷ ys) f (inr h) = any_never P (n + 1) xs ys f h

  -- the items at a place
  pub some_at : (P : ℕ → A → B → Type 0) (n : ℕ) (xs : List A) (ys : List B) → EachAt P n xs ys → (i : ℕ) → i < length xs → (x : A) × (y : B) × P (n + i) x y
  some_at P n [] ys h i lt = absurd (omega arith)
  some_at P n (x ∷ xs) [] h i lt = absurd h
  some_at P n (x ∷ xs) (y ∷ ys) h zero lt = (x, y, subst (λ (m : ℕ). P m x y) (sym (add-zero n)) h.0)
  some_at P n (x ∷ xs) (y ∷ ys) h (suc i) lt =
      let r = some_at P (n + 1) xs ys h.1 i (omega arith) in
      (r.0, r.1, subst (λ (m : ℕ). P m r.0 r.1) (let q : (n + 1) + i ≡ n + suc i = omega arith in q) r.2)

  -- a fact of the second ones
  pub all_from : (P : B → Type 0) (n : ℕ) (xs : List A) (ys : List B) → EachAt (λ c x y. P y) n xs ys → All P ys
  all_from P n [] [] h k d lt = absurd (omega arith)
  all_from P n [] (y ∷ ys) h k d lt = absurd h
  all_from P n (x ∷ xs) [] h k d lt = absurd (omega arith)
  all_from P n (x ∷ xs) (y ∷ ys) h zero d lt = h.0
  all_from P n (x ∷ xs) (y ∷ ys) h (suc k) d lt = all_from P (n + 1) xs ys h.1 k d (omega arith)

module _ {A B C : Type 0} where
  -- two steps, one after the other
  pub each_then : (P : ℕ → A → B → Type 0) (Q : ℕ → B → C → Type 0) (R : ℕ → A → C → Type 0) → ((c : ℕ) (x : A) (y : B) (z : C) → P c x y → Q c y z → R c x z) → (n : ℕ) (xs : List A) (ys : List B) (zs : List C) → EachAt P n xs ys → EachAt Q n ys zs → EachAt R n xs zs
  each_then P Q R f n [] [] [] p q = tt
  each_then P Q R f n [] [] (z ∷ zs) p q = absurd q
  each_then P Q R f n [] (y ∷ ys) zs p q = absurd p
  each_then P Q R f n (x ∷ xs) [] zs p q = absurd p
  each_then P Q R f n (x ∷ xs) (y ∷ ys) [] p q = absurd q
  each_then P Q R f n (x ∷ xs) (y ∷ ys) (z ∷ zs) p q = (f n x y z p.0 q.0, each_then P Q R f (n + 1) xs ys zs p.1 q.1)

  pub any_before : (P : ℕ → A → B → Type 0) (Q : ℕ → B → C → Type 0) (R : ℕ → A → C → Type 0) → ((c : ℕ) (x : A) (y : B) (z : C) → P c x y → Q c y z → R c x z) → (n : ℕ) (xs : List A) (ys : List B) (zs : List C) → EachAt P n xs ys → AnyAt Q n ys zs → AnyAt R n xs zs
  any_before P Q R f n [] [] zs p q = absurd q
  any_before P Q R f n [] (y ∷ ys) zs p q = absurd p
  any_before P Q R f n (x ∷ xs) [] zs p q = absurd p
  any_before P Q R f n (x ∷ xs) (y ∷ ys) [] p q = absurd q
  any_before P Q R f n (x ∷ xs) (y ∷ ys) (z ∷ zs) p (inl q) = inl (f n x y z p.0 q)
  any_before P Q R f n (x ∷ xs) (y ∷ ys) (z ∷ zs) p (inr q) = inr (any_before P Q R f (n + 1) xs ys zs p.1 q)

module _ {A B C : Type 0} where
  -- with a fact of the second ones
  pub each_after : (P : ℕ → A → B → Type 0) (Q : ℕ → B → Type 0) (n : ℕ) (xs : List A) (ys : List B) (zs : List C) → EachAt P n xs ys → EachAt (λ c y z. Q c y) n ys zs → EachAt (λ c x y. P c x y × Q c y) n xs ys
  each_after P Q n [] [] zs p q = tt
  each_after P Q n [] (y ∷ ys) zs p q = absurd p
  each_after P Q n (x ∷ xs) [] zs p q = absurd p
  each_after P Q n (x ∷ xs) (y ∷ ys) [] p q = absurd q
  each_after P Q n (x ∷ xs) (y ∷ ys) (z ∷ zs) p q = ((p.0, q.0), each_after P Q (n + 1) xs ys zs p.1 q.1)

  -- with a fact of the first ones
  pub each_before : (Q : ℕ → A → Type 0) (P : ℕ → A → B → Type 0) (n : ℕ) (xs : List A) (zs : List C) (ys : List B) → EachAt (λ c x z. Q c x) n xs zs → EachAt P n xs ys → EachAt (λ c x y. Q c x × P c x y) n xs ys
  each_before Q P n [] zs [] q p = tt
  each_before Q P n [] zs (y ∷ ys) q p = absurd p
  each_before Q P n (x ∷ xs) [] ys q p = absurd q
  each_before Q P n (x ∷ xs) (z ∷ zs) [] q p = absurd p
  each_before Q P n (x ∷ xs) (z ∷ zs) (y ∷ ys) q p = ((q.0, p.0), each_before Q P (n + 1) xs zs ys q.1 p.1)

  pub any_after : (P : ℕ → A → B → Type 0) (Q : ℕ → B → Type 0) (n : ℕ) (xs : List A) (ys : List B) (zs : List C) → EachAt P n xs ys → AnyAt (λ c y z. Q c y) n ys zs → AnyAt (λ c x y. P c x y × Q c y) n xs ys
  any_after P Q n [] [] zs p q = absurd q
  any_after P Q n [] (y ∷ ys) zs p q = absurd p
  any_after P Q n (x ∷ xs) [] zs p q = absurd p
  any_after P Q n (x ∷ xs) (y ∷ ys) [] p q = absurd q
  any_after P Q n (x ∷ xs) (y ∷ ys) (z ∷ zs) p (inl q) = inl (p.0, q)
  any_after P Q n (x ∷ xs) (y ∷ ys) (z ∷ zs) p (inr q) = inr (any_after P Q (n + 1) xs ys zs p.1 q)

module _ {A : Type 0} where
  pub each_same : (P : ℕ → A → A → Type 0) (n : ℕ) (xs : List A) → ((c : ℕ) (x : A) → n ≤ c → P c x x) → EachAt P n xs xs
  each_same P n [] f = tt
  each_same P n (x ∷ xs) f = (f n x (omega arith), each_same P (n + 1) xs (λ c z l. f c z (omega arith)))

  -- one item was changed, and the others stay
  pub each_set : (P : ℕ → A → A → Type 0) (n i : ℕ) (xs : List A) (y d : A) → i < length xs → P (n + i) (get_or xs i d) y → ((c : ℕ) (x : A) → (c ≡ n + i → ⊥) → P c x x) → EachAt P n xs (set xs i y)
  each_set P n i [] y d lt here others = absurd (omega arith)
  each_set P n zero (x ∷ xs) y d lt here others =
      (subst (λ (m : ℕ). P m x y) (add-zero n) here, each_same P (n + 1) xs (λ c z l. others c z (λ e. omega arith)))
  each_set P n (suc i) (x ∷ xs) y d lt here others = (
    others n x (λ e. omega arith),
    each_set P (n + 1) i xs y d (omega arith)
        (subst (λ (m : ℕ). P m (get_or xs i d) y) (let q : n + suc i ≡ (n + 1) + i = omega arith in q) here)
        (λ c z f. others c z (λ e. f (omega arith))),
  )

module _ {A : Type 0} where
  pub each_more : (P : A → Type 0) (xs : List A) (x : A) → Each P xs → P x → Each P (xs ++ x ∷ [])
  each_more P [] x h p = (p, tt)
  each_more P (y ∷ xs) x h p = (h.0, each_more P xs x h.1 p)

  -- from the fact at each index
  pub each_from : (P : ℕ → A → A → Type 0) (n : ℕ) (xs ys : List A) → length ys ≡ length xs → ((i : ℕ) (d : A) → i < length xs → P (n + i) (get_or xs i d) (get_or ys i d)) → EachAt P n xs ys
  each_from P n [] [] l h = tt
  each_from P n [] (y ∷ ys) l h = absurd (omega arith)
  each_from P n (x ∷ xs) [] l h = absurd (omega arith)
  each_from P n (x ∷ xs) (y ∷ ys) l h = (
    subst (λ (m : ℕ). P m x y) (add-zero n) (h 0 x (omega arith)),
    each_from P (n + 1) xs ys (omega arith) (λ i d lt.
        subst (λ (m : ℕ). P m (get_or xs i d) (get_or ys i d)) (let q : n + suc i ≡ (n + 1) + i = omega arith in q) (h (suc i) d (omega arith))),
  )
