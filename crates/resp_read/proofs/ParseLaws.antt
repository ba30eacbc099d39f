-- The laws of the whole grammar.
use Rattle.std.proofs.Common.{◌≡◌, ℕ, zero, suc, ◌<◌, List, [], ◌∷◌, ◌++◌, length, Bool, true, false, cond, refl, ap, ◌∙◌, arith, length-append}
use Rattle.std.specs.Prelude.{◌==◌, ◌||◌}
use Rattle.resp_value.specs.Data.{Data, simple}
use Rattle.resp_read.specs.Parser.{read, short, Found, Table, plain, nested, innermost, chosen, form, simple_line, error_line, number_line, null_line, boolean_line, double_line, big_line, no_array_line}
use Rattle.resp_read.specs.Parts.{has}
use Rattle.resp_read.specs.Limits.{bounds, reading, AreAllowed}
use Rattle.resp_read.specs.declared.limits.Limits.{Limits}
use Rattle.resp_read.proofs.Laws.{Lawful, Possible, lawful_bad, lawful_if, lawful_cons, lawful_nil}
use Rattle.resp_read.proofs.LineLaws.{lawful_line, fits_is}
use Rattle.resp_read.proofs.Numbers.{lawful_simple, lawful_error, lawful_number}
use Rattle.resp_read.proofs.WordLaws.{lawful_null, lawful_boolean, lawful_big, lawful_no_array}
use Rattle.resp_read.proofs.DoubleLaws.{lawful_double}
use Rattle.resp_read.proofs.Bodies.{lawful_bulk_string, lawful_bulk_error, lawful_verbatim_string}
use Rattle.resp_read.proofs.Repeats.{lawful_array, lawful_set, lawful_dict, lawful_push, lawful_attribute}

abbrev AllLawful : Table → Type 0
AllLawful [] = Unit {0}
AllLawful (f ∷ fs) = Lawful f.1 × AllLawful fs

lawful_chosen : (fs : Table) → AllLawful fs → (b : ℕ) → Lawful (chosen fs b)
lawful_chosen [] h b = lawful_bad
lawful_chosen (f ∷ fs) h b = λ bs. lawful_if (b == f.0) f.1 (chosen fs b) bs (h.0 bs) (lawful_chosen fs h.1 b bs)

lawful_more : (fs gs : Table) → AllLawful fs → AllLawful gs → AllLawful (fs ++ gs)
lawful_more [] gs h k = k
lawful_more (f ∷ fs) gs h k = (h.0, lawful_more fs gs h.1 k)

module _ (limits : Limits) (allowed : AreAllowed limits) where
  lawful_plain : AllLawful (plain (bounds limits))
  lawful_plain = (
    lawful_line limits simple_line (lawful_simple limits),
    (
      lawful_line limits error_line (lawful_error limits),
      (
        lawful_line limits number_line (lawful_number limits allowed),
        (
          lawful_bulk_string limits allowed,
          (
            lawful_line limits null_line (lawful_null limits allowed),
            (
              lawful_line limits boolean_line (lawful_boolean limits allowed),
              (lawful_line limits (double_line (bounds limits)) (lawful_double limits), (lawful_line limits big_line (lawful_big limits allowed), (lawful_bulk_error limits allowed, (lawful_verbatim_string limits allowed, tt)))),
            ),
          ),
        ),
      ),
    ),
  )

  -- the empty simple string
  shortest : (more : Table) (m : List ℕ) → form (bounds limits) more (43 ∷ 13 ∷ 10 ∷ m) ≡ read (simple []) m
  shortest more m = let fit = fits_is limits [] (omega arith) in rw fit refl

  lawful_form : (more : Table) → AllLawful more → Lawful (form (bounds limits) more)
  lawful_form more h [] = lawful_nil (form (bounds limits) more) refl (43 ∷ 13 ∷ 10 ∷ [], simple [], shortest more [])
  lawful_form more h (b ∷ bs) = lawful_cons (form (bounds limits) more) (chosen (plain (bounds limits) ++ more) b) b bs (λ x. refl) (lawful_chosen (plain (bounds limits) ++ more) (lawful_more (plain (bounds limits)) more lawful_plain h) b bs)

  lawful_nested : (inside : List ℕ → Found Data) → Lawful inside → Possible inside → AllLawful (nested (bounds limits) inside)
  lawful_nested inside h p = (lawful_array limits allowed inside h p, (lawful_set limits allowed inside h p, (lawful_dict limits allowed inside h p, (lawful_push limits allowed inside h p, (lawful_attribute limits allowed inside h p, tt)))))

  lawful_innermost : AllLawful (innermost (bounds limits))
  lawful_innermost = (lawful_line limits no_array_line (lawful_no_array limits allowed), tt)

  parse_possible : (n : ℕ) → Possible (reading limits n)
  parse_possible zero = (43 ∷ 13 ∷ 10 ∷ [], simple [], shortest (innermost (bounds limits)) [])
  parse_possible (suc n) = (43 ∷ 13 ∷ 10 ∷ [], simple [], shortest (nested (bounds limits) (reading limits n)) [])

  pub lawful_parse : (n : ℕ) → Lawful (reading limits n)
  lawful_parse zero = lawful_form (innermost (bounds limits)) lawful_innermost
  lawful_parse (suc n) = lawful_form (nested (bounds limits) (reading limits n)) (lawful_nested (reading limits n) (lawful_parse n) (parse_possible n))

  takes_by : (more : Table) → AllLawful more → (bs : List ℕ) (v : Data) (r : List ℕ) → form (bounds limits) more bs ≡ read v r → length r < length bs
  takes_by more h [] v r e = cc
  takes_by more h (b ∷ bs) v r e =
      let p = (lawful_chosen (plain (bounds limits) ++ more) (lawful_more (plain (bounds limits)) more lawful_plain h) b bs).ends v r e in
      let n : length bs ≡ length (p.0 ++ r) = ap length p.1 in
      omega (arith, n, length-append p.0 r)

  -- a value takes one byte at least
  pub takes_a_byte : (n : ℕ) (bs : List ℕ) (v : Data) (r : List ℕ) → reading limits n bs ≡ read v r → length r < length bs
  takes_a_byte zero bs v r e = takes_by (innermost (bounds limits)) lawful_innermost bs v r e
  takes_a_byte (suc n) bs v r e = takes_by (nested (bounds limits) (reading limits n)) (lawful_nested (reading limits n) (lawful_parse n) (parse_possible n)) bs v r e

  pub empty_short : (n : ℕ) → reading limits n [] ≡ short
  empty_short zero = refl
  empty_short (suc n) = refl

step_by : (c d : Bool) (x y w z : Found Data) → w ≡ cond d y z → cond c x w ≡ cond (c || d) (cond c x y) z
step_by true d x y w z h = refl
step_by false d x y w z h = h

-- two tables, by whether the first one has the byte
chosen_more : (fs gs : Table) (b : ℕ) (bs : List ℕ) → chosen (fs ++ gs) b bs ≡ cond (has fs b) (chosen fs b bs) (chosen gs b bs)
chosen_more [] gs b bs = refl
chosen_more (f ∷ fs) gs b bs = step_by (b == f.0) (has fs b) (f.1 bs) (chosen fs b bs) (chosen (fs ++ gs) b bs) (chosen gs b bs) (chosen_more fs gs b bs)

form_plain : (limits : Limits) (more : Table) (b : ℕ) (bs : List ℕ) → has (plain (bounds limits)) b ≡ true → form (bounds limits) more (b ∷ bs) ≡ chosen (plain (bounds limits)) b bs
form_plain limits more b bs h = chosen_more (plain (bounds limits)) more b bs ∙ ap (λ c. cond c (chosen (plain (bounds limits)) b bs) (chosen more b bs)) h

pub form_more : (limits : Limits) (more : Table) (b : ℕ) (bs : List ℕ) → has (plain (bounds limits)) b ≡ false → form (bounds limits) more (b ∷ bs) ≡ chosen more b bs
form_more limits more b bs h = chosen_more (plain (bounds limits)) more b bs ∙ ap (λ c. cond c (chosen (plain (bounds limits)) b bs) (chosen more b bs)) h

pub parse_plain : (limits : Limits) (depth b : ℕ) (bs : List ℕ) → has (plain (bounds limits)) b ≡ true → reading limits depth (b ∷ bs) ≡ chosen (plain (bounds limits)) b bs
parse_plain limits zero b bs h = form_plain limits (innermost (bounds limits)) b bs h
parse_plain limits (suc n) b bs h = form_plain limits (nested (bounds limits) (reading limits n)) b bs h
