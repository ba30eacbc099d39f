-- The line of a length is read as that length.
use Rattle.std.proofs.Common.{◌≡◌, ℕ, ◌+◌, ◌-◌, ◌*◌, ◌^◌, ◌≤◌, ◌<◌, List, [], ◌∷◌, ◌++◌, length, Option, Some, Bool, true, false, cond, refl, ap, ◌∙◌, arith}
use Rattle.std.proofs.lemmas.Bool.Decides.{nat_tests}
use Rattle.std.proofs.lemmas.Fmt.{decimal_is_IsNumeral, length-decimal-le}
use Rattle.std.proofs.lemmas.Str.{digit_value_digit}
use Rattle.std.proofs.lemmas.Str.Parse.{digit_from_value}
use Rattle.std.specs.Char.{digit_value}
use Rattle.std.specs.Prelude.{decimal, nat_le, ◌==◌, option_map}
use Rattle.std.specs.Str.Parse.{AllDigits, digits_value_after, digits_value}
use Rattle.resp_read.specs.Grammar.{Limits, max_line, reader_limits, allows, fits, digits_after, at_most, natural, size}
use Rattle.resp_read.specs.Parser.{read, bad, ended, byte_before, line, found, line_found, line_as, size_line}
use Rattle.resp_read.proofs.Numbers.{other_start}

-- a digit ends no line
line_digit : (c : ℕ) (bs : List ℕ) → digit_value c < 10 → line (c ∷ bs) ≡ byte_before c (line bs)
line_digit c bs d =
    let k = digit_from_value c d in
    let e : (c == 13) ≡ false = grind (arith, nat_tests) in
    rw e refl

line_digits : (ds rest : List ℕ) → AllDigits 10 ds → line (ds ++ 13 ∷ 10 ∷ rest) ≡ ended ds rest
line_digits [] rest h = refl
line_digits (c ∷ ds) rest h = line_digit c (ds ++ 13 ∷ 10 ∷ rest) h.0 ∙ ap (byte_before c) (line_digits ds rest h.1)

digit_read : (n c : ℕ) (ds : List ℕ) → digit_value c < 10 → digits_after n (c ∷ ds) ≡ digits_after (n * 10 + digit_value c) ds
digit_read n c ds d =
    let k = digit_from_value c d in
    let low : nat_le 48 c ≡ true = grind (arith, nat_tests) in
    let high : nat_le c 57 ≡ true = grind (arith, nat_tests) in
    let e : 10 * n + (c - 48) ≡ n * 10 + digit_value c = omega (arith, digit_value_digit c k) in
    rw (low, high) (ap (λ m. digits_after m ds) e)

digits_read : (n : ℕ) (ds : List ℕ) → AllDigits 10 ds → digits_after n ds ≡ Some (digits_value_after 10 n ds)
digits_read n [] h = refl
digits_read n (c ∷ ds) h = digit_read n c ds h.0 ∙ digits_read (n * 10 + digit_value c) ds h.1

within : (most : Option ℕ) (n : ℕ) → allows most n ≡ true → at_most most (Some n) ≡ Some n
within most n h = rw h refl

pub no_more : (most n : ℕ) → n ≤ most → allows (Some most) n ≡ true
no_more most n h = grind (arith, nat_tests)

-- a number of 64 bits, with a sign or without, is within the limit of a line
abbrev pub TakesNumbers : Limits → Type 0
TakesNumbers limits = (n : ℕ) → n ≤ 20 → allows limits.line n ≡ true

pub reader_takes : TakesNumbers reader_limits
reader_takes n h = no_more max_line n (omega (arith, h))

pub no_minus : (c : ℕ) → digit_value c < 10 → (c == 45) ≡ false
no_minus c d = let k = digit_from_value c d in grind (arith, nat_tests)

pub natural_read : (most : Option ℕ) (c : ℕ) (ds : List ℕ) → AllDigits 10 (c ∷ ds) → allows most (digits_value 10 (c ∷ ds)) ≡ true → natural most (c ∷ ds) ≡ Some (digits_value 10 (c ∷ ds))
natural_read most c ds h fit = ap (at_most most) (digits_read 0 (c ∷ ds) h) ∙ within most (digits_value 10 (c ∷ ds)) fit

size_read : (most : Option ℕ) (ds : List ℕ) → 0 < length ds → AllDigits 10 ds → allows most (digits_value 10 ds) ≡ true → size most ds ≡ Some (Some (digits_value 10 ds))
size_read most [] some h fit = absurd (omega arith)
size_read most (c ∷ ds) some h fit =
    let e = other_start c ds (no_minus c h.0) in
    rw e (ap (option_map Some) (natural_read most c ds h fit))

decimal_size : (most : Option ℕ) (n : ℕ) → n < 2 ^ 64 → allows most n ≡ true → size most (decimal n) ≡ Some (Some n)
decimal_size most n small fit =
    let k = decimal_is_IsNumeral n small in
    size_read most (decimal n) k.0.0 k.0.1 (ap (allows most) k.1 ∙ fit) ∙ ap (λ m. Some (Some m)) k.1

decimal_fits : (limits : Limits) (n : ℕ) → TakesNumbers limits → n < 2 ^ 64 → fits limits (decimal n) ≡ true
decimal_fits limits n takes small = takes (length (decimal n)) (length-decimal-le 20 n (omega arith) (omega arith) small)

-- the line of a length within the limit
pub length_read : (limits : Limits) (most : Option ℕ) (n : ℕ) (rest : List ℕ) → TakesNumbers limits → n < 2 ^ 64 → allows most n ≡ true → line_as limits (size_line most) (decimal n ++ 13 ∷ 10 ∷ rest) ≡ read (Some n) rest
length_read limits most n rest takes small fit =
    let form = size_line most in
    let ends = line_digits (decimal n) rest (decimal_is_IsNumeral n small).0.1 in
    let is_short = decimal_fits limits n takes small in
    let is_size = decimal_size most n small fit in
    ap (line_found limits form) ends ∙ judged (fits limits (decimal n)) (size most (decimal n)) is_short is_size
  where
    judged : (c : Bool) (o : Option (Option ℕ)) → c ≡ true → o ≡ Some (Some n) → cond c (found o rest) bad ≡ read (Some n) rest
    judged c o e f = rw (e, f) refl
