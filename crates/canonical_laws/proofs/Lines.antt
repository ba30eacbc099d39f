-- A whole line is read as what its form makes of it.
use Rattle.std.proofs.Common.{◌≡◌, ℕ, ◌≤◌, ◌<◌, ◌^◌, List, [], ◌∷◌, ◌++◌, length, Option, Some, Bool, true, false, cond, refl, ap, ◌∙◌, append_assoc, arith}
use Rattle.std.proofs.lemmas.Bool.Decides.{nat_tests}
use Rattle.std.proofs.lemmas.Fmt.{decimal_is_IsNumeral, length-decimal-le}
use Rattle.std.proofs.lemmas.Str.Parse.{digit_from_value}
use Rattle.std.specs.Prelude.{decimal, ◌==◌}
use Rattle.std.specs.Str.Parse.{AllDigits, digits_value}
use Rattle.resp_read.specs.Grammar.{Limits, allows, fits, natural, at_least}
use Rattle.resp_read.specs.Parser.{read, bad, ended, byte_before, line, LineForm, line_found, line_as, size_line, count_line, found}
use Rattle.resp_read.proofs.Counts.{enough}
use Rattle.resp_read.proofs.Numbers.{neither}
use Rattle.resp_write.specs.Pack.{crlf}
use Rattle.resp_laws.proofs.Lengths.{natural_read, length_read}
use Rattle.canonical_laws.specs.Readable.{has_return, IsLength, IsLine}
use Rattle.canonical_laws.proofs.Limits.{AreUsual, takes, at_most_allowed, length_allowed}

line_step : (b : ℕ) (bs : List ℕ) → (b == 13) ≡ false → line (b ∷ bs) ≡ byte_before b (line bs)
line_step b bs e = rw e refl

pub line_whole : (l rest : List ℕ) → has_return l ≡ false → line (l ++ 13 ∷ 10 ∷ rest) ≡ ended l rest
line_whole [] rest h = refl
line_whole (b ∷ l) rest h =
    let n = neither (b == 13) (has_return l) h in
    line_step b (l ++ 13 ∷ 10 ∷ rest) n.0 ∙ ap (byte_before b) (line_whole l rest n.1)

module _ {A : Type 0} (limits : Limits) (form : LineForm A) where
  judged : (rest : List ℕ) (a : A) (c : Bool) (o : Option A) → c ≡ true → o ≡ Some a → cond c (found o rest) bad ≡ read a rest
  judged rest a c o e f = rw (e, f) refl

  pub line_read : (l rest : List ℕ) (a : A) → IsLine limits l → form.whole l ≡ Some a → line_as limits form (l ++ 13 ∷ 10 ∷ rest) ≡ read a rest
  line_read l rest a h whole = ap (line_found limits form) (line_whole l rest h.0) ∙ judged rest a (fits limits l) (form.whole l) (at_most_allowed limits.line (length l) h.1) whole

  pub text_line_read : (l rest : List ℕ) (a : A) → IsLine limits l → form.whole l ≡ Some a → line_as limits form ((l ++ crlf) ++ rest) ≡ read a rest
  text_line_read l rest a h whole = ap (line_as limits form) (append_assoc l crlf rest) ∙ line_read l rest a h whole

pub digits_no_return : (ds : List ℕ) → AllDigits 10 ds → has_return ds ≡ false
digits_no_return [] h = refl
digits_no_return (c ∷ ds) h =
    let k = digit_from_value c h.0 in
    let e : (c == 13) ≡ false = grind (arith, nat_tests) in
    rw e (digits_no_return ds h.1)

natural_digits : (most : Option ℕ) (ds : List ℕ) → 0 < length ds → AllDigits 10 ds → allows most (digits_value 10 ds) ≡ true → natural most ds ≡ Some (digits_value 10 ds)
natural_digits most [] some h fit = absurd (omega (arith, some))
natural_digits most (c ∷ ds) some h fit = natural_read most c ds h fit

pub decimal_natural : (most : Option ℕ) (n : ℕ) → n < 2 ^ 64 → allows most n ≡ true → natural most (decimal n) ≡ Some n
decimal_natural most n small fit =
    let k = decimal_is_IsNumeral n small in
    natural_digits most (decimal n) k.0.0 k.0.1 (ap (allows most) k.1 ∙ fit) ∙ ap Some k.1

module _ (limits : Limits) (usual : AreUsual limits) where
  pub decimal_line : (n : ℕ) → n < 2 ^ 64 → IsLine limits (decimal n)
  decimal_line n small = (
    digits_no_return (decimal n) (decimal_is_IsNumeral n small).0.1,
    usual.numbers (length (decimal n)) (length-decimal-le 20 n (omega arith) (omega arith) small),
  )

  count_read : (least : ℕ) (most : Option ℕ) (n : ℕ) (rest : List ℕ) → n < 2 ^ 64 → least ≤ n → allows most n ≡ true → line_as limits (count_line limits least most) (decimal n ++ 13 ∷ 10 ∷ rest) ≡ read n rest
  count_read least most n rest small low fit =
      line_read limits (count_line limits least most) (decimal n) rest n (decimal_line n small) (ap (at_least least) (decimal_natural most n small fit) ∙ enough least n low)

  -- the line of the length of a bulk string
  module _ (n : ℕ) (rest : List ℕ) (fit : IsLength limits.bulk n) where
    pub bulk_size_read : line_as limits (size_line limits.bulk) (decimal n ++ 13 ∷ 10 ∷ rest) ≡ read (Some n) rest
    bulk_size_read = length_read limits limits.bulk n rest (takes limits usual) (usual.bulk n fit) (length_allowed limits.bulk n fit)

    pub bulk_length_read : (least : ℕ) → least ≤ n → line_as limits (count_line limits least limits.bulk) (decimal n ++ 13 ∷ 10 ∷ rest) ≡ read n rest
    bulk_length_read least low = count_read least limits.bulk n rest (usual.bulk n fit) low (length_allowed limits.bulk n fit)

  -- the line of a count
  module _ (n : ℕ) (rest : List ℕ) (fit : IsLength limits.count n) where
    pub array_count_read : line_as limits (size_line limits.count) (decimal n ++ 13 ∷ 10 ∷ rest) ≡ read (Some n) rest
    array_count_read = length_read limits limits.count n rest (takes limits usual) (usual.count n fit) (length_allowed limits.count n fit)

    pub other_count_read : (least : ℕ) → least ≤ n → line_as limits (count_line limits least limits.count) (decimal n ++ 13 ∷ 10 ∷ rest) ≡ read n rest
    other_count_read least low = count_read least limits.count n rest (usual.count n fit) low (length_allowed limits.count n fit)
