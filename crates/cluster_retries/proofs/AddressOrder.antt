-- Addresses are in a total order.
use Rattle.std.proofs.Common.{◌≡◌, ℕ, ◌<◌, ◌≤◌, nat_lt, ◌&&◌, ◌||◌, Bool, true, false, List, [], ◌∷◌, Some, ◌⊎◌, inl, inr, refl, sym, ap, subst, ◌∙◌, arith}
use Rattle.std.specs.Ordering.{is_lt, is_some_and, nat_cmp}
use Rattle.std.specs.Cmp.Lexicographic.{slice_partial_cmp}
use Rattle.std.specs.Str.{bytes_eq}
use Rattle.std.proofs.lemmas.Bool.Decides.{nat_tests}
use Rattle.std.proofs.lemmas.Cmp.{same_from_slice_cmp_tested}
use Rattle.std.proofs.lemmas.Slice.Eq.{bytes_eq-Decides}
use Rattle.containers.proofs.Choices.{by_test, both_left, both_right, lt_from, or_left}
use Rattle.slot_hash.specs.declared.address.NodeAddress.{NodeAddress}
use Rattle.mux_routing.specs.Shards.{address_less, text_less}

-- std's order of byte lists is that of texts
pub less_is : (xs ys : List ℕ) (r : Bool) → r ≡ is_some_and is_lt (slice_partial_cmp (λ x y. Some (nat_cmp x y)) xs ys) → r ≡ text_less xs ys
less_is = same_from_slice_cmp_tested nat_cmp is_lt text_less refl (λ _ _. refl) (λ _ _. refl) (λ x y xs ys o h. grind (arith, nat_tests))

-- texts
text_not_back : (xs ys : List ℕ) → text_less xs ys ≡ true → text_less ys xs ≡ false
text_not_back [] [] h = refl
text_not_back [] (y ∷ ys) h = refl
text_not_back (x ∷ xs) [] h = cc
text_not_back (x ∷ xs) (y ∷ ys) h = grind (arith, nat_tests, text_not_back xs ys)

text_onwards : (xs ys zs : List ℕ) → text_less xs ys ≡ true → text_less ys zs ≡ true → text_less xs zs ≡ true
text_onwards [] [] zs h k = cc
text_onwards [] (y ∷ ys) [] h k = cc
text_onwards [] (y ∷ ys) (z ∷ zs) h k = refl
text_onwards (x ∷ xs) [] zs h k = cc
text_onwards (x ∷ xs) (y ∷ ys) [] h k = cc
text_onwards (x ∷ xs) (y ∷ ys) (z ∷ zs) h k = grind (arith, nat_tests, text_onwards xs ys zs)

text_same : (xs ys : List ℕ) → text_less xs ys ≡ false → text_less ys xs ≡ false → xs ≡ ys
text_same [] [] h k = refl
text_same [] (y ∷ ys) h k = cc
text_same (x ∷ xs) [] h k = cc
text_same (x ∷ xs) (y ∷ ys) h k =
    let first : x ≡ y = grind (arith, nat_tests) in
    let on : text_less xs ys ≡ false = grind (arith, nat_tests) in
    let back : text_less ys xs ≡ false = grind (arith, nat_tests) in
    let rest = text_same xs ys on back in
    λ i. first i ∷ rest i

text_not_itself : (xs : List ℕ) → text_less xs xs ≡ false
text_not_itself xs = by_test (text_less xs xs) (text_less xs xs ≡ false) (λ t. text_not_back xs xs t) (λ f. f)

-- what it means that an address comes before another
abbrev Before : NodeAddress → NodeAddress → Type 0
Before a b = (text_less a.host b.host ≡ true) ⊎ ((a.host ≡ b.host) × (a.port < b.port))

either_true : (t e : Bool) (P : Type 0) → (t ≡ true → P) → (e ≡ true → P) → (t || e) ≡ true → P
either_true true e P f g h = f refl
either_true false e P f g h = g h

or_true : (t : Bool) → (t || true) ≡ true
or_true true = refl
or_true false = refl

before_from : (a b : NodeAddress) → address_less a b ≡ true → Before a b
unfolding address_less
before_from a b h =
    either_true (text_less a.host b.host) (bytes_eq a.host b.host && nat_lt a.port b.port) (Before a b)
    (λ t. inl t)
    (λ t. inr ((bytes_eq-Decides a.host b.host).0 (both_left (bytes_eq a.host b.host) (nat_lt a.port b.port) t), lt_from a.port b.port (both_right (bytes_eq a.host b.host) (nat_lt a.port b.port) t)))
    h

less_by_host : (a b : NodeAddress) → text_less a.host b.host ≡ true → address_less a b ≡ true
unfolding address_less
less_by_host a b t = ap (λ u. u || (bytes_eq a.host b.host && nat_lt a.port b.port)) t

less_by_port : (a b : NodeAddress) → a.host ≡ b.host → a.port < b.port → address_less a b ≡ true
unfolding address_less
less_by_port a b e l =
    let lower : nat_lt a.port b.port ≡ true = grind (arith, nat_tests) in
    ap (λ u. text_less a.host b.host || (u && nat_lt a.port b.port)) ((bytes_eq-Decides a.host b.host).1 e)
    ∙ ap (λ u. text_less a.host b.host || u) lower
    ∙ or_true (text_less a.host b.host)

less_from : (a b : NodeAddress) → Before a b → address_less a b ≡ true
less_from a b (inl t) = less_by_host a b t
less_from a b (inr p) = less_by_port a b p.0 p.1

true_is_not_false : (b : Bool) → b ≡ true → b ≡ false → ⊥
true_is_not_false b t f = let no : ◌≡◌ {A = Bool} true false = sym t ∙ f in cc

-- no two come before each other
not_both_before : (a b : NodeAddress) → Before a b → Before b a → ⊥
not_both_before a b (inl t) (inl u) = true_is_not_false (text_less b.host a.host) u (text_not_back a.host b.host t)
not_both_before a b (inl t) (inr q) = true_is_not_false (text_less a.host b.host) t (subst (λ h. text_less a.host h ≡ false) (sym q.0) (text_not_itself a.host))
not_both_before a b (inr p) (inl u) = true_is_not_false (text_less b.host a.host) u (subst (λ h. text_less h a.host ≡ false) p.0 (text_not_itself a.host))
not_both_before a b (inr p) (inr q) = absurd (omega (arith, p.1, q.1))

pub not_back : (a b : NodeAddress) → address_less a b ≡ true → address_less b a ≡ false
not_back a b h = by_test (address_less b a) (address_less b a ≡ false) (λ t. absurd (not_both_before a b (before_from a b h) (before_from b a t))) (λ f. f)

pub not_itself : (a : NodeAddress) → address_less a a ≡ false
not_itself a = by_test (address_less a a) (address_less a a ≡ false) (λ t. not_back a a t) (λ f. f)

before_onwards : (a b c : NodeAddress) → Before a b → Before b c → Before a c
before_onwards a b c (inl t) (inl u) = inl (text_onwards a.host b.host c.host t u)
before_onwards a b c (inl t) (inr q) = inl (subst (λ h. text_less a.host h ≡ true) q.0 t)
before_onwards a b c (inr p) (inl u) = inl (subst (λ h. text_less h c.host ≡ true) (sym p.0) u)
before_onwards a b c (inr p) (inr q) = inr (p.0 ∙ q.0, omega (arith, p.1, q.1))

pub onwards : (a b c : NodeAddress) → address_less a b ≡ true → address_less b c ≡ true → address_less a c ≡ true
onwards a b c h k = less_from a c (before_onwards a b c (before_from a b h) (before_from b c k))

host_not_less : (a b : NodeAddress) → address_less a b ≡ false → text_less a.host b.host ≡ false
unfolding address_less
host_not_less a b h = or_left (text_less a.host b.host) (bytes_eq a.host b.host && nat_lt a.port b.port) h

port_not_less : (a b : NodeAddress) → address_less a b ≡ false → a.host ≡ b.host → b.port ≤ a.port
port_not_less a b h e =
    by_test (nat_lt a.port b.port) (b.port ≤ a.port)
    (λ t. absurd (true_is_not_false (address_less a b) (less_by_port a b e (lt_from a.port b.port t)) h))
    (λ f. grind (arith, nat_tests))

-- of two addresses one comes before the other, or they are the same
pub same : (a b : NodeAddress) → address_less a b ≡ false → address_less b a ≡ false → a ≡ b
same a b h k =
    let hosts : a.host ≡ b.host = text_same a.host b.host (host_not_less a b h) (host_not_less b a k) in
    let left = port_not_less a b h hosts in
    let right = port_not_less b a k (sym hosts) in
    let ports : a.port ≡ b.port = omega arith in
    λ i. record { host = hosts i; port = ports i }

pub data Side (a b : NodeAddress) : Type 0 where
  before : address_less a b ≡ true → Side a b
  equal : a ≡ b → Side a b
  after : address_less b a ≡ true → Side a b

pub side : (a b : NodeAddress) → Side a b
side a b =
    by_test (address_less a b) (Side a b)
    (λ t. before t)
    (λ f. by_test (address_less b a) (Side a b) (λ t. after t) (λ g. equal (same a b f g)))
