-- Sums of numbers, one more at a time.
use Rattle.std.proofs.Common.{◌≡◌, ℕ, suc, ◌+◌, ◌*◌, ◌^◌, ◌<◌, ◌≤◌, ℤ, pos, ◌+ℤ◌, neg_ℤ, ◌≤ℤ◌, Bor, List, length, get_or, drop, map, fold, sym, ap, ◌∙◌, subst, arith, rules, add-one, drop-cons, to_z, of_z}
use Rattle.std.proofs.lemmas.Int.{ints, to_z-of_z}
use Rattle.std.specs.Int.{w64, w128}
use Rattle.std.specs.Prelude.{FitsSigned}
use Rattle.resp_value.specs.declared.value.Value.{Value}
use Rattle.fan_out.specs.Numbers.{number}

-- a number lies between so many times the least and the greatest of 64 bits
pub record IsWithin (n : ℕ) (z : ℤ) : Type 0 where
  pub low : neg_ℤ (pos (2 ^ 63 * n)) ≤ℤ z
  pub high : z ≤ℤ pos (2 ^ 63 * n)

-- one more number of 64 bits fits in 128
pub wide : (z n : ℤ) (i : ℕ) → i < 2 ^ 64 → IsWithin i z → FitsSigned w64 n → FitsSigned w128 (z +ℤ n)
wide z n i small w fits =
    let l = w.low in
    let h = w.high in
    first_of (search rules, grind (arith, ints), omega (arith, ints))

also_wide : (n : ℤ) → FitsSigned w64 n → FitsSigned w128 n
also_wide n fits = let l = fits.sfits in record { sfits = omega arith }

pub added : (z n : ℤ) (i : ℕ) → i < 2 ^ 64 → IsWithin i z → FitsSigned w64 n → to_z w128 (of_z w128 (z +ℤ to_z w128 (of_z w128 n))) ≡ z +ℤ n
added z n i small w fits =
    ap (λ m. to_z w128 (of_z w128 (z +ℤ m))) (to_z-of_z w128 n (also_wide n fits)) ∙ to_z-of_z w128 (z +ℤ n) (wide z n i small w fits)

pub within_more : (z n : ℤ) (i : ℕ) → IsWithin i z → FitsSigned w64 n → IsWithin (i + 1) (z +ℤ n)
within_more z n i w fits = let l = w.low in let h = w.high in record { low = omega (arith, ints); high = omega (arith, ints) }

pub fold_step : (a : ℤ) (vs : List (Bor Value)) (i : ℕ) (x : Bor Value) → i < length vs → x ≡ get_or vs i x → fold ◌+ℤ◌ a (map number (map (λ v. v.now) (drop i vs))) ≡ fold ◌+ℤ◌ (a +ℤ number x.now) (map number (map (λ v. v.now) (drop (i + 1) vs)))
fold_step a vs i x h is =
    ap (λ xs. fold ◌+ℤ◌ a (map number (map (λ v. v.now) xs))) (drop-cons vs i x h)
    ∙ ap (λ y. fold ◌+ℤ◌ (a +ℤ number y.now) (map number (map (λ v. v.now) (drop (suc i) vs)))) (sym is)
    ∙ ap (λ k. fold ◌+ℤ◌ (a +ℤ number x.now) (map number (map (λ v. v.now) (drop k vs)))) (sym (add-one i))

-- the sum so far with one more number
pub sum_step : (t f m : ℤ) (vs : List (Bor Value)) (i : ℕ) (x : Bor Value) (all : ℤ) → i < 2 ^ 64 → IsWithin i t → FitsSigned w64 m → i < length vs → x ≡ get_or vs i x → f ≡ to_z w64 (of_z w64 m) → m ≡ number x.now
    → fold ◌+ℤ◌ t (map number (map (λ v. v.now) (drop i vs))) ≡ all → fold ◌+ℤ◌ (to_z w128 (of_z w128 (t +ℤ to_z w128 (of_z w128 f)))) (map number (map (λ v. v.now) (drop (i + 1) vs))) ≡ all
sum_step t f m vs i x all small w fits h is from value so_far =
    let same : f ≡ m = from ∙ to_z-of_z w64 m fits in
    let fits_too : FitsSigned w64 f = subst (FitsSigned w64) (sym same) fits in
    let new = added t f i small w fits_too ∙ ap (λ g. t +ℤ g) (same ∙ value) in
    ap (λ a. fold ◌+ℤ◌ a (map number (map (λ v. v.now) (drop (i + 1) vs)))) new ∙ sym (fold_step t vs i x h is) ∙ so_far
