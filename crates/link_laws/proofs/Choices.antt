-- Two choices by one test, and tests of what is known.
use Rattle.std.proofs.Common.{◌≡◌, ℕ, ◌<◌, ◌≤◌, nat_lt, Bool, true, false, if◌then◌else◌, refl, arith}
use Rattle.std.proofs.lemmas.Bool.Decides.{nat_tests}

-- a fact of two choices by one test, with how the test came out
pub chosen_both : {X Y : Type 0} (P : X → Y → Type 0) (b : Bool) (x y : X) (p q : Y) → (b ≡ true → P x p) → (b ≡ false → P y q) → P (if b then x else y) (if b then p else q)
chosen_both P true x y p q t f = t refl
chosen_both P false x y p q t f = f refl

-- a number below another passes the test
pub lt_test : (a b : ℕ) → a < b → nat_lt a b ≡ true
lt_test a b l = grind (arith, nat_tests)

-- and one that is not below it does not
pub not_lt_test : (a b : ℕ) → b ≤ a → nat_lt a b ≡ false
not_lt_test a b l = grind (arith, nat_tests)
