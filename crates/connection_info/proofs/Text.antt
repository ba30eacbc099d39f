-- What a part of a URL stands for; a number that is too great stays so with more digits.
use Rattle.std.proofs.Common.{◌≡◌, true, false, refl, ℕ, suc, ◌+◌, ◌*◌, ◌<◌, ◌≤◌, List, [], ◌∷◌, drop, get_or, length, Some, None, if◌then◌else◌, ap, ◌∙◌, arith, drop-cons}
use Rattle.std.specs.Str.{is_utf8, IsUtf8}
use Rattle.std.proofs.lemmas.Str.{is_utf8-from_IsUtf8, IsUtf8-from_is_utf8}
use Rattle.std.specs.Char.{digit_value}
use Rattle.std.specs.Str.Parse.{digits_value, digits_value_after}
use Rattle.std.proofs.lemmas.Bool.{cond-true, cond-false}
use Rattle.std.proofs.lemmas.Bool.Decides.{nat_tests}
use Rattle.percent_encoding.specs.Percent.{percent_decode}
use Rattle.connection_info.specs.Credential.{credential_of, unless_empty}
use Rattle.connection_info.specs.Database.{number_of, greatest_database}

pub utf8_false : (bytes : List ℕ) → ¬ (IsUtf8 bytes) → is_utf8 bytes ≡ false
utf8_false bytes h = elim (is_utf8 bytes) as (λ b. (is_utf8 bytes ≡ b → b ≡ false)) [ true ↦ λ e. absurd (h (IsUtf8-from_is_utf8 bytes e)) | false ↦ λ e. refl ] refl

-- escapes that stand for UTF-8 are a text, or none
pub decoded : (part : List ℕ) → IsUtf8 (percent_decode part) → credential_of part ≡ Some (unless_empty (percent_decode part))
decoded part h = cond-true _ _ _ (is_utf8-from_IsUtf8 (percent_decode part) h)

-- other escapes are refused
pub not_decoded : (part : List ℕ) → ¬ (IsUtf8 (percent_decode part)) → credential_of part ≡ None
not_decoded part h = cond-false _ _ _ (utf8_false (percent_decode part) h)

grows : (n : ℕ) (ds : List ℕ) → n ≤ digits_value_after 10 n ds
grows n [] = omega arith
grows n (d ∷ ds) = omega (arith, grows (n * 10 + digit_value d) ds)

too_great : (digits : List ℕ) → greatest_database < digits_value 10 digits → number_of digits ≡ None
too_great digits h = grind (arith, nat_tests)

-- a digit that makes the number too great makes it so whatever follows
pub beyond : (n i d : ℕ) (digits : List ℕ) → i < length digits → digits_value 10 digits ≡ digits_value_after 10 n (drop i digits) → digit_value (get_or digits i 0) ≡ d → (10 * n + d ≤ greatest_database → ⊥) → number_of digits ≡ None
beyond n i d digits h value is great =
    let e : digits_value 10 digits ≡ digits_value_after 10 (n * 10 + digit_value (get_or digits i 0)) (drop (suc i) digits) = value ∙ ap (digits_value_after 10 n) (drop-cons digits i 0 h) in
    too_great digits (omega (arith, grows (n * 10 + digit_value (get_or digits i 0)) (drop (suc i) digits)))
