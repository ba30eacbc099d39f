-- Digits that are no 0, and the places of what goes with a key.
use Rattle.std.proofs.Common.{◌≡◌, ℕ, suc, ◌+◌, ◌*◌, ◌/◌, ◌<◌, ◌≤◌, nat_lt, true, ◌&&◌, List, [], ◌∷◌, length, get_or, drop, ap, sym, ◌∙◌, arith, add-one, drop-cons}
use Rattle.std.specs.Char.{digit_value}
use Rattle.std.specs.Str.{all_ascii_digits}
use Rattle.std.specs.Str.Parse.{digits_value, digits_value_after}
use Rattle.std.proofs.lemmas.Nat.{mul-le, div-add-mod'}
use Rattle.std.proofs.lemmas.Bool.Decides.{nat_tests}
use Rattle.command_table.specs.Splitting.{are_within}

grows : (n : ℕ) (ds : List ℕ) → n ≤ digits_value_after 10 n ds
grows n [] = omega arith
grows n (d ∷ ds) = omega (arith, grows (n * 10 + digit_value d) ds)

begun : (d : ℕ) (ds : List ℕ) → all_ascii_digits (d ∷ ds) ≡ true → (d ≡ 48 → ⊥) → 0 < digits_value_after 10 0 (d ∷ ds)
begun d ds h ne = grind (arith, nat_tests, grows (0 * 10 + digit_value d) ds)

pub not_zero : (i : ℕ) (digits : List ℕ) → i < length digits → digits_value 10 digits ≡ digits_value_after 10 0 (drop i digits) → all_ascii_digits (drop i digits) ≡ true → (get_or digits i 0 ≡ 48 → ⊥) → 0 < digits_value 10 digits
not_zero i digits h value whole ne =
    let e : drop i digits ≡ get_or digits i 0 ∷ drop (suc i) digits = drop-cons digits i 0 h in
    let known : all_ascii_digits (get_or digits i 0 ∷ drop (suc i) digits) ≡ true = sym (ap all_ascii_digits e) ∙ whole in
    let counted : digits_value 10 digits ≡ digits_value_after 10 0 (get_or digits i 0 ∷ drop (suc i) digits) = value ∙ ap (digits_value_after 10 0) e in
    omega (arith, begun (get_or digits i 0) (drop (suc i) digits) known ne)

within : (w i n : ℕ) → i < n / w → w * i + w ≤ n
within w i n h = omega (arith, mul-le (suc i) w (n / w) w h (omega arith), div-add-mod' n w)

begins : (n k : ℕ) (is : List ℕ) → k < length is → are_within n (drop k is) ≡ true → are_within n (get_or is k 0 ∷ drop (suc k) is) ≡ true
begins n k is lt h = sym (ap (are_within n) (drop-cons is k 0 lt)) ∙ h

pub fits : (w n k : ℕ) (is : List ℕ) → k < length is → are_within (n / w) (drop k is) ≡ true → w * get_or is k 0 + w ≤ n
fits w n k is lt h =
    let both = begins (n / w) k is lt h in
    within w (get_or is k 0) n (grind (arith, nat_tests))

pub others_fit : (n k : ℕ) (is : List ℕ) → k < length is → are_within n (drop k is) ≡ true → are_within n (drop (k + 1) is) ≡ true
others_fit n k is lt h =
    let both = begins n k is lt h in
    rw add-one (grind (arith, nat_tests))
