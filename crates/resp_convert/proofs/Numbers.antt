-- A number is read back from the text that it is written as.
use Rattle.std.proofs.Common.{◌≡◌, ℕ, suc, ◌<◌, ◌^◌, List, [], ◌∷◌, false, refl, sym, ap, subst, arith, ◌==◌}
use Rattle.std.specs.Prelude.{ℤ, pos, negsuc, neg_ℤ, decimal}
use Rattle.std.specs.Char.{digit_value}
use Rattle.std.specs.Fmt.{signed_decimal}
use Rattle.std.specs.Str.Parse.{digits_value, IsNumeral, without_leading_plus}
use Rattle.std.proofs.lemmas.Bool.Decides.{nat_tests}
use Rattle.std.proofs.lemmas.Fmt.{decimal_is_IsNumeral}
use Rattle.std.proofs.lemmas.Str.Parse.{digit_from_value}
use Rattle.resp_convert.specs.Types.{IsDecimal, IsPlainDecimal}
use mir.Syntax.{w64}
use mir.Val.{SFits}

no_minus : (c : ℕ) → digit_value c < 10 → (c == 45) ≡ false
no_minus c d = let k = digit_from_value c d in grind (arith, nat_tests)

no_plus : (c : ℕ) → digit_value c < 10 → (c == 43) ≡ false
no_plus c d = let k = digit_from_value c d in grind (arith, nat_tests)

bare_digits : (ds : List ℕ) → IsNumeral 10 ds → without_leading_plus ds ≡ ds
bare_digits [] is = absurd (omega (arith, is.0))
bare_digits (c ∷ ds) is = rw (no_plus c is.1.0) refl

unsigned_digits : (ds : List ℕ) → IsNumeral 10 ds → IsDecimal ds (pos (digits_value 10 ds))
unsigned_digits [] is = absurd (omega (arith, is.0))
unsigned_digits (c ∷ ds) is = rw (no_minus c is.1.0, no_plus c is.1.0) (is, refl)

pub natural_read : (n : ℕ) → n < 2 ^ 64 → IsPlainDecimal (decimal n) n
natural_read n h =
    let k = decimal_is_IsNumeral n h in
    rw (bare_digits (decimal n) k.0) (k.0, sym k.1)

pub integer_read : (z : ℤ) → SFits w64 z → IsDecimal (signed_decimal z) z
integer_read (pos n) h =
    let k = decimal_is_IsNumeral n (omega (arith, h)) in
    subst (λ m. IsDecimal (decimal n) (pos m)) k.1 (unsigned_digits (decimal n) k.0)
integer_read (negsuc n) h =
    let k = decimal_is_IsNumeral (suc n) (omega (arith, h)) in
    (k.0, ap (λ m. neg_ℤ (pos m)) (sym k.1))
