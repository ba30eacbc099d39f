-- What a line announces, once it has come.
use Rattle.std.proofs.Common.{◌≡◌, ℕ, ◌≤◌, List, length, Some, None, refl, sym, ap}
use Rattle.std.specs.Prelude.{option_map}
use Rattle.resp_value.specs.View.{data_of}
use Rattle.resp_value.specs.declared.value.Value.{Value as RespValue}
use Rattle.resp_read.specs.Parser.{read, short, bad, Found, found_and_then, ended, held, LineForm, line_found}
use Rattle.resp_read.specs.Limits.{bounds}
use Rattle.resp_read.specs.declared.limits.Limits.{Limits}
use Rattle.resp_read.specs.Parts.{line_form}
use Rattle.resp_read.specs.declared.forms.OneLine.{OneLine}
use Rattle.resp_read.specs.declared.frames.Begun.TheVariants.{Whole}
use Rattle.resp_read.specs.declared.stages.Head.TheVariants.{Value}
use Rattle.resp_read.specs.declared.stages.Follow.TheVariants.{Begun}
use Rattle.resp_read.specs.Stages.{Follows}
use Rattle.resp_read.proofs.LineLaws.{fits_is}

-- a line that is of its form, and one that is not
module _ (limits : Limits) {A : Type 0} (form : LineForm A) (l : List ℕ) (fit : length l ≤ limits.line) where
  line_is : (a : A) → form.whole l ≡ Some a → ((m : List ℕ) → line_found (bounds limits) form (ended l m) ≡ read a m) × (line_found (bounds limits) form (held l) ≡ short)
  line_is a is = let fits = fits_is limits l fit in (λ m. rw (fits, is) refl, rw (fits, is) refl)

  line_not : form.whole l ≡ None → ((m : List ℕ) → line_found (bounds limits) form (ended l m) ≡ bad) × (line_found (bounds limits) form (held l) ≡ bad)
  line_not is = let fits = fits_is limits l fit in (λ m. rw (fits, is) refl, rw (fits, is) refl)

  -- and what follows it
  pub then_is : {B : Type 0} (f : A → List ℕ → Found B) (a : A) → form.whole l ≡ Some a → ((m : List ℕ) → found_and_then f (line_found (bounds limits) form (ended l m)) ≡ f a m) × (found_and_then f (line_found (bounds limits) form (held l)) ≡ short)
  then_is f a is = let h = line_is a is in (λ m. ap (found_and_then f) (h.0 m), ap (found_and_then f) h.1)

  pub then_not : {B : Type 0} (f : A → List ℕ → Found B) → form.whole l ≡ None → ((m : List ℕ) → found_and_then f (line_found (bounds limits) form (ended l m)) ≡ bad) × (found_and_then f (line_found (bounds limits) form (held l)) ≡ bad)
  then_not f is = let h = line_not is in (λ m. ap (found_and_then f) (h.0 m), ap (found_and_then f) h.1)

module _ (limits : Limits) (form : OneLine) (l : List ℕ) (fit : length l ≤ limits.line) where
  pub value_follows : (v : RespValue) → option_map data_of (Some v) ≡ (line_form (bounds limits) form).whole l → Follows (bounds limits) (Value form) l (Some (Begun (Whole v)))
  value_follows v is = (tt, λ inside. line_is limits (line_form (bounds limits) form) l fit (data_of v) (sym is))

  pub no_value_follows : option_map data_of None ≡ (line_form (bounds limits) form).whole l → Follows (bounds limits) (Value form) l None
  no_value_follows is = λ inside. line_not limits (line_form (bounds limits) form) l fit (sym is)
