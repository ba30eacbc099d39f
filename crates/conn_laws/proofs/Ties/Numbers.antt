-- Numbers that rise.
use Rattle.std.proofs.Common.{◌≡◌, ◌⊎◌, inl, inr, ℕ, suc, ◌+◌, ◌<◌, ◌≤◌, ◌^◌, ◌==◌, Bool, true, false, ◌||◌, if◌then◌else◌, List, [], ◌∷◌, ◌++◌, refl, sym, ap, ◌∙◌, subst, arith}
use Rattle.containers.proofs.Choices.{by_test, chosen, if_false, left_if, taken_if, eq_test, ne_test}
use Rattle.mux_conn.specs.Renewals.{renewal_id}
use Rattle.mux_conn.specs.Repeats.{repeat_id}

abbrev pub IsIn : ℕ → List ℕ → Type 0
IsIn n [] = ⊥
IsIn n (x ∷ xs) = (x ≡ n) ⊎ IsIn n xs

pub in_left : (n : ℕ) (xs ys : List ℕ) → IsIn n xs → IsIn n (xs ++ ys)
in_left n [] ys h = absurd h
in_left n (x ∷ xs) ys (inl e) = inl e
in_left n (x ∷ xs) ys (inr h) = inr (in_left n xs ys h)

pub in_right : (n : ℕ) (xs ys : List ℕ) → IsIn n ys → IsIn n (xs ++ ys)
in_right n [] ys h = h
in_right n (x ∷ xs) ys h = inr (in_right n xs ys h)

pub in_either : (n : ℕ) (xs ys : List ℕ) → IsIn n (xs ++ ys) → IsIn n xs ⊎ IsIn n ys
in_either n [] ys h = inr h
in_either n (x ∷ xs) ys (inl e) = inl (inl e)
in_either n (x ∷ xs) ys (inr h) = elim (in_either n xs ys h) [ inl a ↦ inl (inr a) | inr b ↦ inr b ]

-- numbers from lo on, each above the one before it, and below hi
abbrev pub Rising : ℕ → List ℕ → ℕ → Type 0
Rising lo [] hi = lo ≤ hi
Rising lo (x ∷ xs) hi = (lo ≤ x) × Rising (suc x) xs hi

pub rising_from : (lo low : ℕ) (xs : List ℕ) (hi : ℕ) → low ≤ lo → Rising lo xs hi → Rising low xs hi
rising_from lo low [] hi l h = omega arith
rising_from lo low (x ∷ xs) hi l h = let k : lo ≤ x = h.0 in (omega arith, h.1)

pub rising_within : (lo : ℕ) (xs : List ℕ) (hi : ℕ) → Rising lo xs hi → lo ≤ hi
rising_within lo [] hi h = h
rising_within lo (x ∷ xs) hi h = let k : lo ≤ x = h.0 in let m = rising_within (suc x) xs hi h.1 in omega arith

-- the next number
pub rising_next : (lo : ℕ) (xs : List ℕ) (hi : ℕ) → Rising lo xs hi → Rising lo (xs ++ hi ∷ []) (hi + 1)
rising_next lo [] hi h = (h, omega arith)
rising_next lo (x ∷ xs) hi h = (h.0, rising_next (suc x) xs hi h.1)

-- one of them is left out
pub rising_without : (lo : ℕ) (xs : List ℕ) (x : ℕ) (ys : List ℕ) (hi : ℕ) → Rising lo (xs ++ x ∷ ys) hi → Rising lo (xs ++ ys) hi
rising_without lo [] x ys hi h = let k : lo ≤ x = h.0 in rising_from (suc x) lo ys hi (omega arith) h.1
rising_without lo (y ∷ xs) x ys hi h = (h.0, rising_without (suc y) xs x ys hi h.1)

pub rising_in : (lo : ℕ) (xs : List ℕ) (hi n : ℕ) → Rising lo xs hi → IsIn n xs → (lo ≤ n) × (n < hi)
rising_in lo [] hi n h i = absurd i
rising_in lo (x ∷ xs) hi n h (inl e) = let k : lo ≤ x = h.0 in let m = rising_within (suc x) xs hi h.1 in (omega arith, omega arith)
rising_in lo (x ∷ xs) hi n h (inr i) = let k : lo ≤ x = h.0 in let m = rising_in (suc x) xs hi n h.1 i in (omega (arith, m.0), m.1)

pub rising_right : (lo : ℕ) (xs ys : List ℕ) (hi : ℕ) → Rising lo (xs ++ ys) hi → Rising lo ys hi
rising_right lo [] ys hi h = h
rising_right lo (x ∷ xs) ys hi h = let k : lo ≤ x = h.0 in rising_from (suc x) lo ys hi (omega arith) (rising_right (suc x) xs ys hi h.1)

pub rising_left : (lo : ℕ) (xs ys : List ℕ) (hi : ℕ) → Rising lo (xs ++ ys) hi → Rising lo xs hi
rising_left lo [] ys hi h = rising_within lo ys hi h
rising_left lo (x ∷ xs) ys hi h = (h.0, rising_left (suc x) xs ys hi h.1)

-- what stands before is smaller
pub rising_apart : (lo : ℕ) (xs ys : List ℕ) (hi m n : ℕ) → Rising lo (xs ++ ys) hi → IsIn m xs → IsIn n ys → m < n
rising_apart lo [] ys hi m n h i j = absurd i
rising_apart lo (x ∷ xs) ys hi m n h (inl e) j = let k = rising_in (suc x) ys hi n (rising_right (suc x) xs ys hi h.1) j in omega (arith, k.0)
rising_apart lo (x ∷ xs) ys hi m n h (inr i) j = rising_apart (suc x) xs ys hi m n h.1 i j

-- another rest
pub rising_tail : (lo : ℕ) (xs ys zs : List ℕ) (hi : ℕ) → ((low : ℕ) → Rising low ys hi → Rising low zs hi) → Rising lo (xs ++ ys) hi → Rising lo (xs ++ zs) hi
rising_tail lo [] ys zs hi f h = f lo h
rising_tail lo (x ∷ xs) ys zs hi f h = (h.0, rising_tail (suc x) xs ys zs hi f h.1)

-- messages of the driver's own
--
-- the number of one on a link that is set up: AUTH's, or that of what is subscribed again
abbrev pub is_own : ℕ → Bool
is_own n = (n == renewal_id) || (n == repeat_id)

-- AUTH's is
pub auth_is_own : (n : ℕ) → n ≡ renewal_id → is_own n ≡ true
auth_is_own n e = ap (λ b. b || (n == repeat_id)) (eq_test n renewal_id e)

-- and so is the other
pub repeat_is_own : (n : ℕ) → n ≡ repeat_id → is_own n ≡ true
repeat_is_own n e = ap (λ b. (n == renewal_id) || b) (eq_test n repeat_id e) ∙ or_true (n == renewal_id)
  where
    or_true : (b : Bool) → (b || true) ≡ true
    or_true true = refl
    or_true false = refl

-- which isn't AUTH's
pub repeat_other : (n : ℕ) → n ≡ repeat_id → (n == renewal_id) ≡ false
repeat_other n e = ne_test n renewal_id (λ same. omega (arith, e, same))

-- no number below them is
pub below_own : (n : ℕ) → n < 2 ^ 32 → is_own n ≡ false
below_own n less = (λ i. ne_test n renewal_id (λ same. omega (arith, less, same)) i || ne_test n repeat_id (λ same. omega (arith, less, same)) i)

-- the numbers of messages that are requests', in order: the driver's own are left out
--
abbrev pub requests_in : List ℕ → List ℕ
requests_in [] = []
requests_in (p ∷ ps) = if is_own p then requests_in ps else p ∷ requests_in ps

-- of these, and then of those
pub requests_in-append : (xs ys : List ℕ) → requests_in (xs ++ ys) ≡ requests_in xs ++ requests_in ys
requests_in-append [] ys = refl
requests_in-append (x ∷ xs) ys =
    chosen_append (is_own x) (requests_in xs) (requests_in (xs ++ ys)) (requests_in-append xs ys)
  where
    chosen_append : (b : Bool) (zs all : List ℕ) → all ≡ zs ++ requests_in ys → (if b then all else x ∷ all) ≡ (if b then zs else x ∷ zs) ++ requests_in ys
    chosen_append true zs all e = e
    chosen_append false zs all e = ap (λ ns. x ∷ ns) e

-- a request's number is one of them
pub request_in : (n : ℕ) (xs : List ℕ) → is_own n ≡ false → IsIn n xs → IsIn n (requests_in xs)
request_in n [] other i = i
request_in n (x ∷ xs) other (inl e) =
    if_false (IsIn n) (is_own x) (requests_in xs) (x ∷ requests_in xs) (ap is_own e ∙ other) (inl e)
request_in n (x ∷ xs) other (inr i) =
    let rest = request_in n xs other i in
    chosen (IsIn n) (is_own x) (requests_in xs) (x ∷ requests_in xs) (λ t. rest) (λ f. inr rest)

-- each of them is one of all
pub request_of : (n : ℕ) (xs : List ℕ) → IsIn n (requests_in xs) → IsIn n xs
request_of n [] i = i
request_of n (x ∷ xs) i = by_test (is_own x) (IsIn n (x ∷ xs))
    (λ t. inr (request_of n xs (subst (IsIn n) (taken_if (is_own x) (requests_in xs) (x ∷ requests_in xs) t) i)))
    (λ f. elim (subst (IsIn n) (left_if (is_own x) (requests_in xs) (x ∷ requests_in xs) f) i) [ inl e ↦ inl e | inr j ↦ inr (request_of n xs j) ])

-- and none is the driver's own
pub request_other : (n : ℕ) (xs : List ℕ) → IsIn n (requests_in xs) → is_own n ≡ false
request_other n [] i = absurd i
request_other n (x ∷ xs) i = by_test (is_own x) (is_own n ≡ false)
    (λ t. request_other n xs (subst (IsIn n) (taken_if (is_own x) (requests_in xs) (x ∷ requests_in xs) t) i))
    (λ f. elim (subst (IsIn n) (left_if (is_own x) (requests_in xs) (x ∷ requests_in xs) f) i) [ inl e ↦ sym (ap is_own e) ∙ f | inr j ↦ request_other n xs j ])

-- the driver's own first leaves them
pub requests_behind : (n : ℕ) (xs : List ℕ) → is_own n ≡ true → requests_in (n ∷ xs) ≡ requests_in xs
requests_behind n xs own = taken_if (is_own n) (requests_in xs) (n ∷ requests_in xs) own

-- and a request's number comes first
pub requests_first : (n : ℕ) (xs : List ℕ) → is_own n ≡ false → requests_in (n ∷ xs) ≡ n ∷ requests_in xs
requests_first n xs other = left_if (is_own n) (requests_in xs) (n ∷ requests_in xs) other

-- where none is the driver's own, they are all
pub all_requests : (xs : List ℕ) → ((n : ℕ) → IsIn n xs → is_own n ≡ false) → requests_in xs ≡ xs
all_requests [] other = refl
all_requests (x ∷ xs) other = requests_first x xs (other x (inl refl)) ∙ ap (λ ns. x ∷ ns) (all_requests xs (λ n i. other n (inr i)))
