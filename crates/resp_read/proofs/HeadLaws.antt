-- A line of a head that has not ended.
use Rattle.std.proofs.Common.{◌≡◌, ℕ, ◌≤◌, ◌<◌, List, [], ◌∷◌, length, Option, Some, None, Bool, true, false, cond, refl, ap, ◌∙◌, arith}
use Rattle.std.specs.Prelude.{◌==◌, is_some, option_map, bytes_eq}
use Rattle.std.proofs.lemmas.Bool.Decides.{nat_tests}
use Rattle.resp_value.specs.Data.{Data}
use Rattle.resp_read.specs.Grammar.{natural, is_end}
use Rattle.resp_read.specs.Parser.{short, bad, Found, found_and_then, unended, LineForm, line_found, size_begun}
use Rattle.resp_read.specs.Limits.{bounds}
use Rattle.resp_read.specs.declared.limits.Limits.{Limits}
use Rattle.resp_read.specs.Parts.{line_form}
use Rattle.resp_read.specs.Digits.{greatest, digits_run, natural_in}
use Rattle.resp_read.specs.declared.digits.Digits.TheVariants.{Empty}
use Rattle.resp_read.specs.declared.forms.OneLine.{OneLine}
use Rattle.resp_read.specs.declared.waiting.Front.{Front}
use Rattle.resp_read.specs.declared.stages.Head.{Head}
use Rattle.resp_read.specs.declared.stages.Head.TheVariants.{Value}
use Rattle.resp_read.specs.Waiting.{IsJudged}
use Rattle.resp_read.specs.Stages.{head_on, GoesOn}
use Rattle.resp_read.proofs.DigitLaws.{natural_is}
use Rattle.resp_read.proofs.Numbers.{never_both}
use Rattle.resp_read.proofs.LineLaws.{fits_is}

-- a length of three bytes and more is no `-1`
some_mapped : (o : Option ℕ) → is_some (option_map Some o) ≡ is_some o
some_mapped None = refl
some_mapped (Some n) = refl

no_minus : (c : Bool) (o : Option ℕ) → c ≡ false → is_some (cond c (Some None) (option_map Some o)) ≡ is_some o
no_minus true o h = cc
no_minus false o h = some_mapped o

pub size_digits : (most : ℕ) → most ≤ greatest → (l : List ℕ) → 2 < length l → size_begun (Some most) l ≡ is_some (natural_in most (digits_run Empty l))
size_digits most fit [] h = absurd (omega (arith, h))
size_digits most fit (b ∷ []) h = absurd (omega (arith, h))
size_digits most fit (b ∷ c ∷ []) h = absurd (omega (arith, h))
size_digits most fit (b ∷ c ∷ d ∷ l) h = no_minus (bytes_eq (b ∷ c ∷ d ∷ l) (45 ∷ 49 ∷ [])) (natural (Some most) (b ∷ c ∷ d ∷ l)) (never_both (b == 45) (c == 49)) ∙ ap is_some (natural_is most fit (b ∷ c ∷ d ∷ l))

module _ (limits : Limits) (l : List ℕ) (fit : length l ≤ limits.line) where
  module _ {A : Type 0} (form : LineForm A) where
    begun_waits : form.begun l ≡ true → line_found (bounds limits) form (unended l) ≡ short
    begun_waits is = let fits = fits_is limits l fit in rw (fits, is) refl

    begun_not : form.begun l ≡ false → line_found (bounds limits) form (unended l) ≡ bad
    begun_not is = let fits = fits_is limits l fit in rw (fits, is) refl

  pub value_goes_on : (form : OneLine) (o : Option Front) → IsJudged ((line_form (bounds limits) form).begun l) l o → GoesOn (bounds limits) (Value form) l o
  value_goes_on form None h = λ inside. begun_not (line_form (bounds limits) form) h
  value_goes_on form (Some front) h = (h.1, λ inside. begun_waits (line_form (bounds limits) form) h.0)

  -- a head that is a line, and what follows it
  pub goes_on : (head : Head) {A : Type 0} (form : LineForm A) (f : (List ℕ → Found Data) → A → List ℕ → Found Data) → ((inside : List ℕ → Found Data) → head_on (bounds limits) inside head (unended l) ≡ found_and_then (f inside) (line_found (bounds limits) form (unended l))) → (o : Option Front) → IsJudged (form.begun l) l o → GoesOn (bounds limits) head l o
  goes_on head form f same None h = λ inside. same inside ∙ ap (found_and_then (f inside)) (begun_not form h)
  goes_on head form f same (Some front) h = (h.1, λ inside. same inside ∙ ap (found_and_then (f inside)) (begun_waits form h.0))

-- a line of no length is empty
pub is_end_by_length : (l : List ℕ) → (length l == 0) ≡ is_end l
is_end_by_length [] = refl
is_end_by_length (b ∷ l) = grind (arith, nat_tests)
