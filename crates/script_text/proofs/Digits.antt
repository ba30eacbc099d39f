-- A number that is too great stays so with more digits.
use Rattle.std.proofs.Common.{◌≡◌, ℕ, suc, ◌+◌, ◌*◌, ◌<◌, ◌≤◌, List, [], ◌∷◌, length, get_or, drop, None, ap, ◌∙◌, arith, drop-cons}
use Rattle.std.specs.Char.{digit_value}
use Rattle.std.specs.Str.Parse.{digits_value, digits_value_after}
use Rattle.std.proofs.lemmas.Bool.Decides.{nat_tests}
use Rattle.script_text.specs.Numbers.{number}

grows : (n : ℕ) (ds : List ℕ) → n ≤ digits_value_after 10 n ds
grows n [] = omega arith
grows n (d ∷ ds) = omega (arith, grows (n * 10 + digit_value d) ds)

too_great : (most : ℕ) (word : List ℕ) → most < digits_value 10 word → number most word ≡ None
too_great most word h = grind (arith, nat_tests)

pub beyond : (most n i d : ℕ) (word : List ℕ) → i < length word → digits_value 10 word ≡ digits_value_after 10 n (drop i word) → digit_value (get_or word i 0) ≡ d → (10 * n + d ≤ most → ⊥) → number most word ≡ None
beyond most n i d word h value is great =
    let e : digits_value 10 word ≡ digits_value_after 10 (n * 10 + digit_value (get_or word i 0)) (drop (suc i) word) = value ∙ ap (digits_value_after 10 n) (drop-cons word i 0 h) in
    too_great most word (omega (arith, grows (n * 10 + digit_value (get_or word i 0)) (drop (suc i) word)))
