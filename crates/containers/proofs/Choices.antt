-- What tests mean, and choices by a test.
use Rattle.std.proofs.Common.{◌≡◌, ◌≢◌, sym, ◌∙◌, ℕ, ◌<◌, ◌≤◌, ◌==◌, nat_lt, nat_le, ◌&&◌, ◌||◌, Bool, true, false, if◌then◌else◌, refl, arith}
use Rattle.std.proofs.lemmas.Bool.Decides.{nat_tests}

pub by_test : (b : Bool) (P : Type 0) → (b ≡ true → P) → (b ≡ false → P) → P
by_test true P t f = t refl
by_test false P t f = f refl

-- a fact of both choices, with how the test came out
pub chosen : {X : Type 0} (P : X → Type 0) (b : Bool) (x y : X) → (b ≡ true → P x) → (b ≡ false → P y) → P (if b then x else y)
chosen P true x y t f = t refl
chosen P false x y t f = f refl

pub if_true : {X : Type 0} (P : X → Type 0) (b : Bool) (x y : X) → b ≡ true → P x → P (if b then x else y)
if_true P true x y e p = p
if_true P false x y e p = cc

pub if_false : {X : Type 0} (P : X → Type 0) (b : Bool) (x y : X) → b ≡ false → P y → P (if b then x else y)
if_false P true x y e p = cc
if_false P false x y e p = p

-- what is taken by a test that came out
pub taken_if : {X : Type 0} (b : Bool) (x y : X) → b ≡ true → (if b then x else y) ≡ x
taken_if true x y e = refl
taken_if false x y e = cc

pub left_if : {X : Type 0} (b : Bool) (x y : X) → b ≡ false → (if b then x else y) ≡ y
left_if true x y e = cc
left_if false x y e = refl

-- two choices by one test
pub either : {X Y : Type 0} (f : X → Y) (b : Bool) (x y : X) (p q : Y) → (b ≡ true → f x ≡ p) → (b ≡ false → f y ≡ q) → f (if b then x else y) ≡ (if b then p else q)
either f true x y p q t e = t refl
either f false x y p q t e = e refl

-- two choices by tests that come out the same
pub either_by : {X Y : Type 0} (f : X → Y) (b d : Bool) (x y : X) (p q : Y) → b ≡ d → (b ≡ true → f x ≡ p) → (b ≡ false → f y ≡ q) → f (if b then x else y) ≡ (if d then p else q)
either_by f true true x y p q s t e = t refl
either_by f false false x y p q s t e = e refl
either_by f true false x y p q s t e = cc
either_by f false true x y p q s t e = cc

pub le_from : (a b : ℕ) → nat_le a b ≡ true → a ≤ b
le_from a b t = grind (arith, nat_tests)

pub not_le_from : (a b : ℕ) → nat_le a b ≡ false → b < a
not_le_from a b t = grind (arith, nat_tests)

pub le_test : (a b : ℕ) → a ≤ b → nat_le a b ≡ true
le_test a b l = grind (arith, nat_tests)

pub not_le_test : (a b : ℕ) → b < a → nat_le a b ≡ false
not_le_test a b l = grind (arith, nat_tests)

pub lt_from : (a b : ℕ) → nat_lt a b ≡ true → a < b
lt_from a b t = grind (arith, nat_tests)

pub not_lt_from : (a b : ℕ) → nat_lt a b ≡ false → b ≤ a
not_lt_from a b t = grind (arith, nat_tests)

pub eq_from : (a b : ℕ) → (a == b) ≡ true → a ≡ b
eq_from a b t = grind (arith, nat_tests)

pub ne_from : (a b : ℕ) → (a == b) ≡ false → a ≢ b
ne_from a b t = grind (arith, nat_tests)

pub eq_test : (a b : ℕ) → a ≡ b → (a == b) ≡ true
eq_test a b e = grind (arith, nat_tests)

pub ne_test : (a b : ℕ) → a ≢ b → (a == b) ≡ false
ne_test a b n = grind (arith, nat_tests)

-- what a test of two tells
pub both_left : (a b : Bool) → (a && b) ≡ true → a ≡ true
both_left true b e = refl
both_left false b e = cc

pub both_right : (a b : Bool) → (a && b) ≡ true → b ≡ true
both_right true b e = e
both_right false b e = cc

pub both_true : (a b : Bool) → (a && b) ≡ true → (a ≡ true) × (b ≡ true)
both_true true b e = (refl, e)
both_true false b e = cc

pub or_left : (a b : Bool) → (a || b) ≡ false → a ≡ false
or_left true b e = cc
or_left false b e = refl

pub or_right : (a b : Bool) → (a || b) ≡ false → b ≡ false
or_right true b e = cc
or_right false b e = e

pub not_both : (b : Bool) → b ≡ false → b ≡ true → ⊥
not_both b f t = let no : ◌≡◌ {A = Bool} true false = sym t ∙ f in cc
