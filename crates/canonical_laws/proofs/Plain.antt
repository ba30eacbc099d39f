-- A value that holds no others is read back from its canonical text.
use Rattle.std.proofs.Common.{◌≡◌, ℕ, suc, ◌+◌, ◌-◌, ◌≤◌, ◌<◌, ◌^◌, List, [], ◌∷◌, ◌++◌, length, drop, take, Option, Some, None, Bool, true, false, cond, refl, sym, ap, ◌∙◌, subst, append_assoc, arith, length-append}
use Rattle.std.proofs.lemmas.Bool.Decides.{nat_tests}
use Rattle.std.proofs.lemmas.Fmt.{decimal_is_IsNumeral, length-decimal-le}
use Rattle.std.proofs.lemmas.Str.Parse.{digit_from_value}
use Rattle.std.specs.Char.{digit_value}
use Rattle.std.specs.Fmt.{signed_decimal}
use Rattle.std.specs.Prelude.{ℤ, pos, negsuc, neg_ℤ, decimal, nat_lt, ◌==◌, ◌||◌, option_map, bytes_eq}
use Rattle.std.specs.Str.Parse.{AllDigits, digits_value}
use Rattle.containers.proofs.Choices.{taken_if}
use Rattle.resp_value.specs.declared.server_error.ServerError.{ServerError}
use Rattle.resp_value.specs.Data.{Data, nil, int, bulk, array, simple, okay, dict, attribute, set, double, boolean, verbatim, big, push, error}
use Rattle.resp_read.specs.Grammar.{Limits, number, is_double, is_big, before_space, after_space, error_of}
use Rattle.resp_read.specs.Parser.{read, short, found_and_then, found_map, Table, form, body, simple_line, error_line, number_line, null_line, boolean_line, double_line, big_line, bulk_of, error_body, format, colon, text_of, verbatim_of}
use Rattle.resp_read.proofs.Numbers.{neither}
use Rattle.resp_write.specs.Canonical.{canonical, detail_text, breaks_line, error_line as written_error}
use Rattle.resp_write.specs.Pack.{crlf, text_line, sized_text}
use Rattle.resp_laws.proofs.Lengths.{no_more, natural_read, no_minus}
use Rattle.resp_laws.proofs.Commands.{text_read, sized_shape}
use Rattle.canonical_laws.specs.Readable.{has_return, has_space, IsAtMost, IsLength, IsLine, IsBulk, IsLong, error_words, IsPlain, HasShortErrors}
use Rattle.canonical_laws.proofs.Limits.{AreUsual}
use Rattle.canonical_laws.proofs.Lines.{text_line_read, decimal_line, digits_no_return, decimal_natural, bulk_size_read, bulk_length_read}

no_plus : (c : ℕ) → digit_value c < 10 → (c == 43) ≡ false
no_plus c d = let k = digit_from_value c d in grind (arith, nat_tests)

number_of : (ds : List ℕ) → 0 < length ds → AllDigits 10 ds → digits_value 10 ds ≤ 9_223_372_036_854_775_807 → number ds ≡ Some (pos (digits_value 10 ds))
number_of [] some h fit = absurd (omega (arith, some))
number_of (c ∷ ds) some h fit = rw (no_minus c h.0, no_plus c h.0) (ap (option_map pos) (natural_read (Some 9_223_372_036_854_775_807) c ds h (no_more 9_223_372_036_854_775_807 (digits_value 10 (c ∷ ds)) fit)))

number_read : (z : ℤ) → IsLong z → number (signed_decimal z) ≡ Some z
number_read (pos n) h =
    let k = decimal_is_IsNumeral n (omega (arith, h)) in
    number_of (decimal n) k.0.0 k.0.1 (subst (λ m. m ≤ 9_223_372_036_854_775_807) (sym k.1) h) ∙ ap (λ m. Some (pos m)) k.1
number_read (negsuc n) h = ap (option_map (λ m. neg_ℤ (pos m))) (decimal_natural (Some 9_223_372_036_854_775_808) (suc n) (omega (arith, h)) (no_more 9_223_372_036_854_775_808 (suc n) (omega (arith, h))))

signed_line : (limits : Limits) → AreUsual limits → (z : ℤ) → IsLong z → IsLine limits (signed_decimal z)
signed_line limits usual (pos n) h = decimal_line limits usual n (omega (arith, h))
signed_line limits usual (negsuc n) h =
    let small : suc n < 2 ^ 64 = omega (arith, h) in (
      digits_no_return (decimal (suc n)) (decimal_is_IsNumeral (suc n) small).0.1,
      usual.numbers (length (signed_decimal (negsuc n))) (omega (arith, length-decimal-le 19 (suc n) (omega arith) (omega (arith, h)) small)),
    )

simple_back : (text : List ℕ) (c : Bool) → c ≡ false → cond c okay (simple text) ≡ simple text
simple_back text c e = rw e refl

-- an error's code and detail
code_step : (b : ℕ) (bs : List ℕ) → (b == 32) ≡ false → before_space (b ∷ bs) ≡ b ∷ before_space bs
code_step b bs e = rw e refl

detail_step : (b : ℕ) (bs : List ℕ) → (b == 32) ≡ false → after_space (b ∷ bs) ≡ after_space bs
detail_step b bs e = rw e refl

code_back : (code : List ℕ) (detail : Option (List ℕ)) → has_space code ≡ false → before_space (code ++ detail_text detail) ≡ code
code_back [] None h = refl
code_back [] (Some detail) h = refl
code_back (b ∷ code) detail h =
    let n = neither (b == 32) (has_space code) h in
    code_step b (code ++ detail_text detail) n.0 ∙ ap (λ x. b ∷ x) (code_back code detail n.1)

detail_back : (code : List ℕ) (detail : Option (List ℕ)) → has_space code ≡ false → after_space (code ++ detail_text detail) ≡ detail
detail_back [] None h = refl
detail_back [] (Some detail) h = refl
detail_back (b ∷ code) detail h =
    let n = neither (b == 32) (has_space code) h in
    detail_step b (code ++ detail_text detail) n.0 ∙ detail_back code detail n.1

pub error_back : (e : ServerError) → has_space e.code ≡ false → error_of (error_words e) ≡ error e
error_back e h = λ i. error (record { code = code_back e.code e.detail h i; detail = detail_back e.code e.detail h i })

no_return_by : (x y z w : Bool) → (x || y || z) ≡ false → (z ≡ false → w ≡ false) → (x || w) ≡ false
no_return_by true y z w h k = cc
no_return_by false true z w h k = cc
no_return_by false false z w h k = k h

pub no_return : (text : List ℕ) → breaks_line text ≡ false → has_return text ≡ false
no_return [] h = refl
no_return (b ∷ bs) h = no_return_by (b == 13) (b == 10) (breaks_line bs) (has_return bs) h (no_return bs)

module _ (limits : Limits) (usual : AreUsual limits) (more : Table) (rest : List ℕ) where
  bulk_back : (text : List ℕ) → IsBulk limits text → form limits more (sized_text 36 text ++ rest) ≡ read (bulk text) rest
  bulk_back text fit =
      ap (form limits more) (sized_shape 36 text rest)
      ∙ ap (found_and_then bulk_of) (bulk_size_read limits usual (length text) ((text ++ crlf) ++ rest) fit)
      ∙ ap (found_map bulk) (text_read text rest)

  pub bulk_error_back : (text : List ℕ) → IsBulk limits text → form limits more (sized_text 33 text ++ rest) ≡ read (error_of text) rest
  bulk_error_back text fit =
      ap (form limits more) (sized_shape 33 text rest)
      ∙ ap (found_and_then error_body) (bulk_length_read limits usual (length text) ((text ++ crlf) ++ rest) fit 0 (omega arith))
      ∙ ap (found_map error_of) (text_read text rest)

  line_error_back : (text : List ℕ) → IsLine limits text → form limits more (text_line 45 text ++ rest) ≡ read (error_of text) rest
  line_error_back text h = text_line_read limits error_line text rest (error_of text) h refl

  error_by : (text : List ℕ) (c : Bool) → breaks_line text ≡ c → IsBulk limits text → (breaks_line text ≡ false → IsAtMost limits.line (length text)) → form limits more (cond c (sized_text 33 text) (text_line 45 text) ++ rest) ≡ read (error_of text) rest
  error_by text true is fit short_line = bulk_error_back text fit
  error_by text false is fit short_line = line_error_back text (no_return text is, short_line is)

  error_read : (text : List ℕ) → IsBulk limits text → (breaks_line text ≡ false → IsAtMost limits.line (length text)) → form limits more (written_error text ++ rest) ≡ read (error_of text) rest
  error_read text fit short_line = error_by text (breaks_line text) refl fit short_line

-- a format and its text
format_read : (f text rest : List ℕ) → length f ≡ 3 → format ((f ++ 58 ∷ text) ++ rest) ≡ read f (text ++ rest)
format_read (a ∷ b ∷ c ∷ []) text rest h =
    let bs = (a ∷ b ∷ c ∷ 58 ∷ text) ++ rest in
    let enough : nat_lt (length bs) 3 ≡ false = grind (arith, nat_tests) in
    ap (λ x. found_and_then colon (cond x short (read (take 3 bs) (drop 3 bs)))) enough
format_read [] text rest h = absurd (omega (arith, h))
format_read (a ∷ []) text rest h = absurd (omega (arith, h))
format_read (a ∷ b ∷ []) text rest h = absurd (omega (arith, h))
format_read (a ∷ b ∷ c ∷ d ∷ f) text rest h = absurd (omega (arith, h))

module _ (limits : Limits) (usual : AreUsual limits) (more : Table) where
  verbatim_back : (rest f text : List ℕ) → length f ≡ 3 → IsLength limits.bulk (length text + 4) → form limits more (sized_text 61 (f ++ 58 ∷ text) ++ rest) ≡ read (verbatim f text) rest
  verbatim_back rest f text h fit =
      let whole = f ++ 58 ∷ text in
      let n : length whole ≡ length text + 4 = omega (arith, h, length-append f (58 ∷ text)) in
      let left : length whole - 4 ≡ length text = omega (arith, n) in
      ap (form limits more) (sized_shape 61 whole rest)
      ∙ ap (found_and_then verbatim_of) (bulk_length_read limits usual (length whole) ((whole ++ crlf) ++ rest) (subst (IsLength limits.bulk) (sym n) fit) 4 (omega (arith, n)))
      ∙ ap (verbatim_of (length whole)) (append_assoc whole crlf rest)
      ∙ ap (found_and_then (text_of (length whole))) (format_read f text (crlf ++ rest) h)
      ∙ ap (λ k. found_map (verbatim f) (body k (text ++ (crlf ++ rest)))) left
      ∙ ap (λ x. found_map (verbatim f) (body (length text) x)) (sym (append_assoc text crlf rest))
      ∙ ap (found_map (verbatim f)) (text_read text rest)

  pub plain_read : (v : Data) → IsPlain limits v → HasShortErrors limits v → (rest : List ℕ) → form limits more (canonical v ++ rest) ≡ read v rest
  plain_read nil h k rest = text_line_read limits null_line [] rest nil (refl, usual.numbers 0 (omega arith)) refl
  plain_read (int n) h k rest = text_line_read limits number_line (signed_decimal n) rest (int n) (signed_line limits usual n h) (ap (option_map int) (number_read n h))
  plain_read (bulk text) h k rest = bulk_back limits usual more rest text h
  plain_read (simple text) h k rest = text_line_read limits simple_line text rest (simple text) h.0 (ap Some (simple_back text (bytes_eq text (79 ∷ 75 ∷ [])) h.1))
  plain_read okay h k rest = text_line_read limits simple_line (79 ∷ 75 ∷ []) rest okay (refl, usual.numbers 2 (omega arith)) refl
  plain_read (double text) h k rest = text_line_read limits (double_line limits) text rest (double text) h.0 (taken_if (is_double text) (Some (double text)) None h.1)
  plain_read (boolean true) h k rest = text_line_read limits boolean_line (116 ∷ []) rest (boolean true) (refl, usual.numbers 1 (omega arith)) refl
  plain_read (boolean false) h k rest = text_line_read limits boolean_line (102 ∷ []) rest (boolean false) (refl, usual.numbers 1 (omega arith)) refl
  plain_read (verbatim f text) h k rest = verbatim_back rest f text h.0 h.1
  plain_read (big text) h k rest = text_line_read limits big_line text rest (big text) h.0 (taken_if (is_big text) (Some (big text)) None h.1)
  plain_read (error e) h k rest = error_read limits usual more rest (error_words e) h.1 k ∙ ap (λ d. read d rest) (error_back e h.0)
  plain_read (array ds) h k rest = absurd h
  plain_read (set ds) h k rest = absurd h
  plain_read (dict ms) h k rest = absurd h
  plain_read (attribute d ms) h k rest = absurd h
  plain_read (push kind ds) h k rest = absurd h
