-- A line that is looked at byte by byte.
use Rattle.std.proofs.Common.{◌≡◌, ℕ, ◌≤◌, ◌<◌, ◌+◌, ◌-◌, List, [], ◌∷◌, ◌++◌, length, get_or, take, drop, length-drop, length-append, length-take-le, take-add, append_assoc, Ok, Err, Option, Some, None, Bool, true, false, cond, refl, sym, ap, ◌∙◌, subst, arith}
use Rattle.std.proofs.lemmas.List.{take_more, drop_more, take-append-drop, take_all, get_or-drop, drop-drop, append-nil}
use Rattle.std.proofs.lemmas.Bool.Decides.{nat_tests}
use Rattle.std.specs.Prelude.{◌==◌}
use Rattle.resp_value.specs.Data.{Data}
use Rattle.resp_read.specs.Grammar.{Limits as GrammarLimits, fits}
use Rattle.resp_read.specs.Parser.{short, bad, Found, found_and_then, ended, held, unended, broken, after_return, Line, line, LineForm, line_found, size_line, count_line, text_line, bulk_of, error_body, verbatim_of, array_of, set_of, map_of, push_of, attribute_of}
use Rattle.resp_read.specs.Limits.{bounds}
use Rattle.resp_read.specs.declared.limits.Limits.{Limits}
use Rattle.resp_read.specs.Parts.{line_form}
use Rattle.resp_read.specs.declared.forms.Refusal.TheVariants.{Bad}
use Rattle.resp_read.specs.declared.stages.Head.{Head}
use Rattle.resp_read.specs.declared.stages.Head.TheVariants.{Value, Bulk, BulkError, Verbatim, Array, Set, Map, Push, Attributes, Kind, KindLength}
use Rattle.resp_read.specs.Waiting.{IsClear, IsReturn}
use Rattle.resp_read.specs.declared.stages.Follow.{Follow}
use Rattle.resp_read.specs.declared.place.Taken.{Taken}
use Rattle.resp_read.specs.Stages.{head_on, kind_with, body_then, follow_as, after_feed, Follows, IsLook}
use Rattle.resp_read.specs.Places.{PassesLine}
use Rattle.resp_read.proofs.FirstLine.{bytes_before, before-ended, before-held, before-unended, before-broken, going_on, line-append}
use Rattle.resp_read.proofs.WaitLaws.{line_on}

other_byte : (b : ℕ) → (b ≡ 13 → ⊥) → line (b ∷ []) ≡ unended (b ∷ [])
other_byte b other = let c : (b == 13) ≡ false = grind (arith, nat_tests) in rw c refl

-- one byte more that is no CR
pub clear_on : (i : ℕ) (l : List ℕ) → i < length l → IsClear i l → (get_or l i 0 ≡ 13 → ⊥) → IsClear (i + 1) l
clear_on i l h clear other =
    subst (λ x. line x ≡ unended x) (sym (take_more l i 0 h)) (line_on (take i l) (get_or l i 0 ∷ []) clear (other_byte (get_or l i 0) other))

-- the same of a text behind a place
pub clear_on_at : (i from : ℕ) (text : List ℕ) → from + i < length text → IsClear i (drop from text) → (get_or text (from + i) 0 ≡ 13 → ⊥) → IsClear (i + 1) (drop from text)
clear_on_at i from text h clear other =
    clear_on i (drop from text) (omega (arith, h, length-drop from text)) clear (λ is. other (sym (get_or-drop from text i 0) ∙ is))

pub return_at : (i from : ℕ) (text : List ℕ) → from + i < length text → IsClear i (drop from text) → get_or text (from + i) 0 ≡ 13 → IsReturn i (drop from text)
return_at i from text h clear is = (clear, omega (arith, h, length-drop from text), get_or-drop from text i 0 ∙ is)

pub all_clear : (i from : ℕ) (text : List ℕ) → length text ≤ from + i → from + i ≤ length text → IsClear i (drop from text) → IsClear (length (drop from text)) (drop from text)
all_clear i from text h k clear = let e : i ≡ length (drop from text) = omega (arith, h, k, length-drop from text) in subst (λ n. IsClear n (drop from text)) e clear

-- what no line of any form is
module _ (limits : GrammarLimits) (inside : List ℕ → Found Data) (x : Line) (none : (A : Type 0) (form : LineForm A) → line_found limits form x ≡ bad) where
  pub head_bad : (h : Head) → head_on limits inside h x ≡ bad
  head_bad (Value form) = none Data (line_form limits form)
  head_bad Bulk = ap (found_and_then bulk_of) (none (Option ℕ) (size_line limits.bulk))
  head_bad BulkError = ap (found_and_then error_body) (none ℕ (count_line limits 0 limits.bulk))
  head_bad Verbatim = ap (found_and_then verbatim_of) (none ℕ (count_line limits 4 limits.bulk))
  head_bad Array = ap (found_and_then (array_of inside)) (none (Option ℕ) (size_line limits.count))
  head_bad Set = ap (found_and_then (set_of inside)) (none ℕ (count_line limits 0 limits.count))
  head_bad Map = ap (found_and_then (map_of inside)) (none ℕ (count_line limits 0 limits.count))
  head_bad Push = ap (found_and_then (push_of limits inside)) (none ℕ (count_line limits 1 limits.count))
  head_bad Attributes = ap (found_and_then (attribute_of inside)) (none ℕ (count_line limits 0 limits.count))
  head_bad (Kind n) = ap (found_and_then (kind_with inside n)) (none (List ℕ) text_line)
  head_bad (KindLength n) = ap (found_and_then (body_then (kind_with inside n))) (none ℕ (count_line limits 0 limits.bulk))

-- a line that is too long
module _ (limits : Limits) (l : List ℕ) (long : limits.line < length l) where
  too_long : (m : List ℕ) → fits (bounds limits) (l ++ m) ≡ false
  too_long m = let e = length-append l m in grind (arith, nat_tests)

  long_bad : (x : Line) (A : Type 0) (form : LineForm A) → line_found (bounds limits) form (bytes_before l x) ≡ bad
  long_bad (ended k rest) A form = ap (line_found (bounds limits) form) (before-ended l k rest) ∙ rw (too_long k) refl
  long_bad (held k) A form = ap (line_found (bounds limits) form) (before-held l k) ∙ rw (too_long k) refl
  long_bad (unended k) A form = ap (line_found (bounds limits) form) (before-unended l k) ∙ rw (too_long k) refl
  long_bad broken A form = ap (line_found (bounds limits) form) (before-broken l)

  pub long_head : (rest m : List ℕ) → rest ≡ l ++ m → line l ≡ unended l → (inside : List ℕ → Found Data) (h : Head) → head_on (bounds limits) inside h (line rest) ≡ bad
  long_head rest m is clear inside h =
      let split : line rest ≡ bytes_before l (line m) = ap line is ∙ line-append l m ∙ ap (λ x. going_on x m) clear in
      head_bad (bounds limits) inside (line rest) (λ A form. ap (line_found (bounds limits) form) split ∙ long_bad (line m) A form) h

-- what was taken, and more
pub taken_on : (text : List ℕ) (from i : ℕ) (old new : List ℕ) → length old ≤ i → old ≡ take (length old) (drop from text) → new ≡ old ++ take (i - length old) (drop (from + length old) text) → new ≡ take i (drop from text)
taken_on text from i old new less is more =
    let n = length old in
    let rest = drop from text in
    let e : n + (i - n) ≡ i = omega (arith, less) in
    let d : drop (from + n) text ≡ drop n rest = ap (λ k. drop k text) (let c : from + n ≡ from + n = refl in c) ∙ sym (drop-drop n from text) in
    more ∙ (λ j. is j ++ take (i - n) (d j)) ∙ sym (take-add n (i - n) rest) ∙ ap (λ k. take k rest) e

-- the text that has CR behind i bytes
pub return_splits : (i : ℕ) (rest : List ℕ) → IsReturn i rest → rest ≡ take i rest ++ 13 ∷ drop (i + 1) rest
return_splits i rest h = sym (take-append-drop i rest) ∙ ap (λ x. take i rest ++ x) (drop_more rest i 0 h.1 ∙ ap (λ b. b ∷ drop (i + 1) rest) h.2)

module _ (limits : Limits) (rest : List ℕ) where
  pub look_ended : (i : ℕ) (new : List ℕ) → i ≤ limits.line → IsReturn i rest → new ≡ take i rest → IsLook limits rest (Ok true) new
  look_ended i new fit h is =
      let n : length new ≡ i = ap length is ∙ length-take-le i rest (omega (arith, h.1)) in
      let whole : rest ≡ new ++ 13 ∷ drop (length new + 1) rest = return_splits i rest h ∙ (λ j. sym is j ++ 13 ∷ drop (sym n j + 1) rest) in
      (omega (arith, n, fit), subst (λ x. line x ≡ unended x) (sym is) h.0, whole)

  pub look_unended : (i : ℕ) (new : List ℕ) → i ≡ length rest → i ≤ limits.line → IsClear (length rest) rest → new ≡ take i rest → IsLook limits rest (Ok false) new
  look_unended i new all fit h is =
      let same : new ≡ rest = is ∙ take_all i rest (omega (arith, all)) in
      let clear : line rest ≡ unended rest = subst (λ x. line x ≡ unended x) (take_all (length rest) rest (omega arith)) h in
      (omega (arith, ap length same, all, fit), subst (λ x. line x ≡ unended x) (sym same) clear, sym same)

  pub look_too_long : (i : ℕ) → limits.line < i → IsReturn i rest → IsLook limits rest (Err Bad) []
  look_too_long i long h =
      let n : length (take i rest) ≡ i = length-take-le i rest (omega (arith, h.1)) in
      long_head limits (take i rest) (omega (arith, n, long)) rest (drop i rest) (sym (take-append-drop i rest)) h.0

  pub look_endless : limits.line < length rest → IsClear (length rest) rest → IsLook limits rest (Err Bad) []
  look_endless long h =
      let clear : line rest ≡ unended rest = subst (λ x. line x ≡ unended x) (take_all (length rest) rest (omega arith)) h in
      long_head limits rest long rest [] (sym (append-nil rest)) clear

-- a whole line, once its CR has come
module _ (limits : Limits) (h : Head) (l : List ℕ) (clear : line l ≡ unended l) (inside : List ℕ → Found Data) where
  abbrev on : Line → Found Data
  on = head_on (bounds limits) inside h

  broken_bad : on (bytes_before l broken) ≡ bad
  broken_bad = ap on (before-broken l) ∙ head_bad (bounds limits) inside broken (λ A form. refl) h

  ended_is : (y : List ℕ) → on (bytes_before l (ended [] y)) ≡ on (ended l y)
  ended_is y = ap on (before-ended l [] y ∙ ap (λ k. ended k y) (append-nil l))

  held_is : on (bytes_before l (held [])) ≡ on (held l)
  held_is = ap on (before-held l [] ∙ ap held (append-nil l))

  line_at_return : (rest q m : List ℕ) → rest ≡ l ++ 13 ∷ q → on (line (rest ++ m)) ≡ on (bytes_before l (after_return (q ++ m)))
  line_at_return rest q m is =
      ap (λ x. on (line (x ++ m))) is ∙ ap (λ x. on (line x)) (append_assoc l (13 ∷ q) m) ∙ ap on (line-append l (13 ∷ q ++ m) ∙ ap (λ x. going_on x (13 ∷ q ++ m)) clear)

  module _ (f : List ℕ → Found Data) (whole : (m : List ℕ) → on (ended l m) ≡ f m) (waits : on (held l) ≡ short) where
    feed_by : (c : Bool) (y : List ℕ) → on (bytes_before l (cond c (ended [] y) broken)) ≡ cond c (f y) bad
    feed_by true y = ended_is y ∙ whole y
    feed_by false y = broken_bad

    then_feed : (x : List ℕ) → on (bytes_before l (after_return x)) ≡ after_feed f x
    then_feed [] = held_is ∙ waits
    then_feed (b ∷ y) = feed_by (b == 10) y

  module _ (whole : (m : List ℕ) → on (ended l m) ≡ bad) (waits : on (held l) ≡ bad) where
    bad_by : (c : Bool) (y : List ℕ) → on (bytes_before l (cond c (ended [] y) broken)) ≡ bad
    bad_by true y = ended_is y ∙ whole y
    bad_by false y = broken_bad

    then_bad : (x : List ℕ) → on (bytes_before l (after_return x)) ≡ bad
    then_bad [] = held_is ∙ waits
    then_bad (b ∷ y) = bad_by (b == 10) y

module _ (limits : Limits) (h : Head) (rest : List ℕ) (t : Taken) (look : IsLook limits rest (Ok true) t.text.items) where
  pub line_passes : (f : Follow) → Follows (bounds limits) h t.text.items (Some f) → PassesLine limits h rest (Ok f) t
  line_passes f follows =
      let l = t.text.items in
      let q = drop (length l + 1) rest in
      let size : length rest ≡ length l + length (13 ∷ q) = ap length look.2 ∙ length-append l (13 ∷ q) in (
        follows.0,
        omega (arith, size),
        λ inside m.
            let parts = follows.1 inside in
            line_at_return limits h l look.1 inside rest q m look.2 ∙ then_feed limits h l look.1 inside (follow_as (bounds limits) inside f) parts.0 parts.1 (q ++ m),
      )

  pub line_refused : Follows (bounds limits) h t.text.items None → PassesLine limits h rest (Err Bad) t
  line_refused follows = λ inside.
      let l = t.text.items in
      let q = drop (length l + 1) rest in
      let parts = follows inside in
      ap (λ x. head_on (bounds limits) inside h (line x)) (sym (append-nil rest)) ∙ line_at_return limits h l look.1 inside rest q [] look.2 ∙ then_bad limits h l look.1 inside parts.0 parts.1 (q ++ [])
