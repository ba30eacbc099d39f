-- The last occurrence of a byte, one byte at a time; a number that is too great stays so with more digits.
use Rattle.std.proofs.Common.{◌≡◌, true, false, refl, ℕ, suc, ◌+◌, ◌*◌, ◌<◌, ◌≤◌, List, [], ◌∷◌, ◌++◌, length, take, drop, get_or, None, if◌then◌else◌, ◌==◌, ap, ◌∙◌, arith, add-one, drop-cons}
use Rattle.std.proofs.Math.Seq.{take-suc}
use Rattle.std.proofs.lemmas.List.{length-take-le}
use Rattle.std.specs.Str.{is_utf8, IsUtf8}
use Rattle.std.proofs.lemmas.Str.{is_utf8-from_IsUtf8, IsUtf8-from_is_utf8}
use Rattle.std.specs.Char.{digit_value}
use Rattle.std.specs.Str.Parse.{digits_value, digits_value_after}
use Rattle.std.proofs.lemmas.Bool.Decides.{nat_tests}
use Rattle.slot_hash.specs.Address.{end_of_last, port_of}

grown : (b c : ℕ) (xs : List ℕ) → end_of_last b (xs ++ c ∷ []) ≡ (if c == b then suc (length xs) else end_of_last b xs)
grown b c [] = grind (arith, nat_tests)
grown b c (x ∷ xs) = grind (arith, nat_tests, grown b c xs)

pub one_more : (b i : ℕ) (xs : List ℕ) → i < length xs → end_of_last b (take (i + 1) xs) ≡ (if get_or xs i 0 == b then i + 1 else end_of_last b (take i xs))
one_more b i xs h =
    let count : length (take i xs) ≡ i = length-take-le i xs (omega arith) in
    let longer : take (i + 1) xs ≡ take i xs ++ get_or xs i 0 ∷ [] = rw add-one (take-suc xs i 0 h) in
    ap (end_of_last b) longer ∙ grown b (get_or xs i 0) (take i xs) ∙ ap (λ n. if get_or xs i 0 == b then n else end_of_last b (take i xs)) (omega arith)

grows : (n : ℕ) (ds : List ℕ) → n ≤ digits_value_after 10 n ds
grows n [] = omega arith
grows n (d ∷ ds) = omega (arith, grows (n * 10 + digit_value d) ds)

too_great : (digits : List ℕ) → 65_535 < digits_value 10 digits → port_of digits ≡ None
too_great digits h = grind (arith, nat_tests)

pub beyond : (n i d : ℕ) (digits : List ℕ) → i < length digits → digits_value 10 digits ≡ digits_value_after 10 n (drop i digits) → digit_value (get_or digits i 0) ≡ d → (10 * n + d ≤ 65_535 → ⊥) → port_of digits ≡ None
beyond n i d digits h value is great =
    let e : digits_value 10 digits ≡ digits_value_after 10 (n * 10 + digit_value (get_or digits i 0)) (drop (suc i) digits) = value ∙ ap (digits_value_after 10 n) (drop-cons digits i 0 h) in
    too_great digits (omega (arith, grows (n * 10 + digit_value (get_or digits i 0)) (drop (suc i) digits)))

pub utf8_true : (bytes : List ℕ) → IsUtf8 bytes → is_utf8 bytes ≡ true
utf8_true bytes h = is_utf8-from_IsUtf8 bytes h

pub utf8_false : (bytes : List ℕ) → ¬ (IsUtf8 bytes) → is_utf8 bytes ≡ false
utf8_false bytes h = elim (is_utf8 bytes) as (λ b. (is_utf8 bytes ≡ b → b ≡ false)) [ true ↦ λ e. absurd (h (IsUtf8-from_is_utf8 bytes e)) | false ↦ λ e. refl ] refl
