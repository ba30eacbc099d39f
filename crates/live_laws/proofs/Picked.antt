-- Lists that come of others by leaving some out, and numbers that rise.
use Rattle.std.proofs.Common.{◌≡◌, inl, inr, ℕ, ◌+◌, ◌<◌, ◌≤◌, ◌==◌, suc, List, [], ◌∷◌, ◌++◌, refl, sym, ◌∙◌, subst, arith}
use Rattle.containers.proofs.Choices.{chosen, eq_from}
use Rattle.live_run.specs.Closing.{times}
use Rattle.live_laws.specs.Dials.{IsPicked, Rises}

pub picked_same : (xs : List ℕ) → IsPicked xs xs
picked_same [] = tt
picked_same (x ∷ xs) = inl (refl, picked_same xs)

pub picked_trans : (xs ys zs : List ℕ) → IsPicked xs ys → IsPicked ys zs → IsPicked xs zs
picked_trans [] ys zs h k = tt
picked_trans (x ∷ xs) [] zs h k = absurd h
picked_trans (x ∷ xs) (y ∷ ys) [] h k = absurd k
picked_trans (x ∷ xs) (y ∷ ys) (z ∷ zs) h (inr k) = inr (picked_trans (x ∷ xs) (y ∷ ys) zs h k)
picked_trans (x ∷ xs) (y ∷ ys) (z ∷ zs) (inl h) (inl k) = inl (h.0 ∙ k.0, picked_trans xs ys zs h.1 k.1)
picked_trans (x ∷ xs) (y ∷ ys) (z ∷ zs) (inr h) (inl k) = inr (picked_trans (x ∷ xs) ys zs h k.1)

-- of a longer list
pub picked_more : (xs ys zs : List ℕ) → IsPicked xs ys → IsPicked xs (ys ++ zs)
picked_more [] ys zs h = tt
picked_more (x ∷ xs) [] zs h = absurd h
picked_more (x ∷ xs) (y ∷ ys) zs (inl h) = inl (h.0, picked_more xs ys zs h.1)
picked_more (x ∷ xs) (y ∷ ys) zs (inr h) = inr (picked_more (x ∷ xs) ys zs h)

-- a front of it
pub picked_front : (xs us ys : List ℕ) → IsPicked (xs ++ us) ys → IsPicked xs ys
picked_front xs us ys h = picked_trans xs (xs ++ us) ys (picked_more xs xs us (picked_same xs)) h

-- without its first
pub picked_behind : (x : ℕ) (xs : List ℕ) → IsPicked xs (x ∷ xs)
picked_behind x [] = tt
picked_behind x (y ∷ ys) = inr (picked_same (y ∷ ys))

-- behind the same front
pub picked_under : (xs us vs : List ℕ) → IsPicked us vs → IsPicked (xs ++ us) (xs ++ vs)
picked_under [] us vs h = h
picked_under (x ∷ xs) us vs h = inl (refl, picked_under xs us vs h)

last_picked : (n : ℕ) (ys : List ℕ) → IsPicked (n ∷ []) (ys ++ n ∷ [])
last_picked n [] = inl (refl, tt)
last_picked n (y ∷ ys) = inr (last_picked n ys)

-- with one more at both ends
pub picked_last : (n : ℕ) (xs ys : List ℕ) → IsPicked xs ys → IsPicked (xs ++ n ∷ []) (ys ++ n ∷ [])
picked_last n [] ys h = last_picked n ys
picked_last n (x ∷ xs) [] h = absurd h
picked_last n (x ∷ xs) (y ∷ ys) (inl h) = inl (h.0, picked_last n xs ys h.1)
picked_last n (x ∷ xs) (y ∷ ys) (inr h) = inr (picked_last n (x ∷ xs) ys h)

pub rises_from : (from low : ℕ) (xs : List ℕ) → low ≤ from → Rises from xs → Rises low xs
rises_from from low [] l h = tt
rises_from from low (x ∷ xs) l h = let k : from ≤ x = h.0 in (omega (arith, l, k), h.1)

pub rises_picked : (from : ℕ) (xs ys : List ℕ) → IsPicked xs ys → Rises from ys → Rises from xs
rises_picked from [] ys p h = tt
rises_picked from (x ∷ xs) [] p h = absurd p
rises_picked from (x ∷ xs) (y ∷ ys) (inl p) h = (subst (λ (n : ℕ). from ≤ n) (sym p.0) h.0, subst (λ (n : ℕ). Rises (suc n) xs) (sym p.0) (rises_picked (suc y) xs ys p.1 h.1))
rises_picked from (x ∷ xs) (y ∷ ys) (inr p) h = let k : from ≤ y = h.0 in rises_picked from (x ∷ xs) ys p (rises_from (suc y) from ys (omega (arith, k)) h.1)

-- a number below all of them
times_below : (n from : ℕ) (xs : List ℕ) → n < from → Rises from xs → times n xs ≡ 0
times_below n from [] less h = refl
times_below n from (x ∷ xs) less h =
    let k : from ≤ x = h.0 in
    let rest : times n xs ≡ 0 = times_below n (suc x) xs (omega (arith, less, k)) h.1 in
    chosen (λ (c : ℕ). c + times n xs ≡ 0) (x == n) 1 0 (λ same. let e : x ≡ n = eq_from x n same in absurd (omega (arith, less, k, e))) (λ apart. omega (arith, rest))

-- numbers that rise stand there once
pub times_once : (n from : ℕ) (xs : List ℕ) → Rises from xs → times n xs ≤ 1
times_once n from [] h = omega arith
times_once n from (x ∷ xs) h =
    chosen (λ (c : ℕ). c + times n xs ≤ 1) (x == n) 1 0
    (λ same. let e : x ≡ n = eq_from x n same in let rest : times n xs ≡ 0 = times_below n (suc x) xs (omega (arith, e)) h.1 in omega (arith, rest))
    (λ apart. let rest : times n xs ≤ 1 = times_once n (suc x) xs h.1 in omega (arith, rest))
