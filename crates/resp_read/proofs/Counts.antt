-- Lengths without `-1`: which fronts can become one.
use Rattle.std.proofs.Common.{lit≤, ◌≡◌, ℕ, ◌+◌, ◌-◌, ◌*◌, ◌≤◌, ◌<◌, List, [], ◌∷◌, ◌++◌, length, Option, Some, None, Bool, true, false, cond, inl, inr, refl, ap, ◌∙◌, arith, length-append}
use Rattle.std.proofs.lemmas.List.{append-nil}
use Rattle.std.proofs.lemmas.Bool.Decides.{nat_tests}
use Rattle.std.specs.Prelude.{◌&&◌, ◌||◌, ◌==◌, nat_le, nat_lt, is_some}
use Rattle.containers.proofs.Choices.{both_true}
use Rattle.resp_read.specs.Grammar.{fits, is_digit, digits_after, at_most, natural, at_least, count}
use Rattle.resp_read.specs.Parser.{made_by, count_begun, count_line}
use Rattle.resp_read.specs.Limits.{bounds, AreAllowed}
use Rattle.resp_read.specs.declared.limits.Limits.{Limits}
use Rattle.resp_read.proofs.LineLaws.{IsOneLine, LawfulLine, fits_is, fits_within, few_fit}
use Rattle.resp_read.proofs.Numbers.{Begins, natural_stays, one_of_two, neither}

not_both : (c d : Bool) → (c && d) ≡ false → c ≡ true → d ≡ false
not_both true d h e = h
not_both false d h e = cc

-- each of these is a line by itself
abbrev pub AllLines : List (List ℕ) → Type 0
AllLines [] = Unit {0}
AllLines (q ∷ qs) = IsOneLine q × AllLines qs

module _ (limits : Limits) (f : List ℕ → Bool) where
  -- a tail that makes the front whole
  abbrev pub Made : List ℕ → Type 0
  Made l = (q : List ℕ) × (f (l ++ q) ≡ true) × (length (l ++ q) ≤ limits.line) × IsOneLine q

  pub made_can : (qs : List (List ℕ)) (l : List ℕ) → AllLines qs → made_by (bounds limits) f qs l ≡ true → Made l
  made_can [] l lines h = cc
  made_can (q ∷ qs) l lines h = elim (one_of_two (fits (bounds limits) (l ++ q) && f (l ++ q)) (made_by (bounds limits) f qs l) h) [
    | inl one ↦ let b = both_true (fits (bounds limits) (l ++ q)) (f (l ++ q)) one in (q, b.1, fits_within limits (l ++ q) b.0, lines.0)
    | inr other ↦ made_can qs l lines.1 other
  ]

-- the digit that makes a length no less
abbrev pub digit_for : ℕ → List ℕ
digit_for least = (48 + least) ∷ []

is_whole_digit : (least : ℕ) → least ≤ 9 → is_digit (48 + least) ≡ true
is_whole_digit least h =
    let low : nat_le 48 (48 + least) ≡ true = grind (arith, nat_tests) in
    let high : nat_le (48 + least) 57 ≡ true = grind (arith, nat_tests) in
    rw (low, high) refl

one_digit_more : (least n : ℕ) → least ≤ 9 → digits_after n (digit_for least) ≡ Some (10 * n + least)
one_digit_more least n h =
    let e : 10 * n + (48 + least - 48) ≡ 10 * n + least = omega arith in
    ap (λ c. cond c (Some (10 * n + (48 + least - 48))) None) (is_whole_digit least h) ∙ ap Some e

-- the number of all the digits, by that of the first ones
digits_on : (c : Bool) (x y : Option ℕ) (m : ℕ) (z : Option ℕ) → (x ≡ Some m → y ≡ z) → cond c x None ≡ Some m → cond c y None ≡ z
digits_on true x y m z f h = f h
digits_on false x y m z f h = cc

digits_append : (n m : ℕ) (l q : List ℕ) → digits_after n l ≡ Some m → digits_after n (l ++ q) ≡ digits_after m q
digits_append n m [] q h = let e : n ≡ m = cc in ap (λ k. digits_after k q) e
digits_append n m (b ∷ l) q h =
    digits_on (is_digit b) (digits_after (10 * n + (b - 48)) l) (digits_after (10 * n + (b - 48)) (l ++ q)) m (digits_after m q) (digits_append (10 * n + (b - 48)) m l q) h

limited : (c : Bool) (k n : ℕ) → cond c (Some k) None ≡ Some n → ◌≡◌ {A = Option ℕ} (Some k) (Some n)
limited true k n h = h
limited false k n h = cc

unlimited : (most n : ℕ) (o : Option ℕ) → at_most (Some most) o ≡ Some n → o ≡ Some n
unlimited most n None h = cc
unlimited most n (Some k) h = limited (nat_le k most) k n h

within : (most n : ℕ) → n ≤ most → at_most (Some most) (Some n) ≡ Some n
within most n h = let c : nat_le n most ≡ true = grind (arith, nat_tests) in rw c refl

pub enough : (least n : ℕ) → least ≤ n → at_least least (Some n) ≡ Some n
enough least n h = let c : nat_le least n ≡ true = grind (arith, nat_tests) in rw c refl

pub too_few : (least n : ℕ) → n < least → at_least least (Some n) ≡ None
too_few least n h = let c : nat_le least n ≡ false = grind (arith, nat_tests) in rw c refl

only_second : (x y z w : Bool) → y ≡ false → w ≡ true → ((x && y) || ((z && w) || false)) ≡ z
only_second true false true true h k = refl
only_second true false false true h k = refl
only_second false false true true h k = refl
only_second false false false true h k = refl
only_second x true z w h k = cc
only_second x false z false h k = cc

first_already : (x y z w : Bool) → y ≡ true → (z ≡ true → x ≡ true) → ((x && y) || ((z && w) || false)) ≡ x
first_already true true z w h k = refl
first_already false true true w h k = let e = k refl in cc
first_already false true false w h k = refl
first_already x false z w h k = cc

no_tail : (x y z w : Bool) → y ≡ false → w ≡ false → ((x && y) || ((z && w) || false)) ≡ false
no_tail true false true false h k = refl
no_tail true false false false h k = refl
no_tail false false true false h k = refl
no_tail false false false false h k = refl
no_tail x true z w h k = cc
no_tail x false z true h k = cc

fits_more : (limits : Limits) (l : List ℕ) (b : ℕ) → fits (bounds limits) (l ++ b ∷ []) ≡ nat_lt (length l) limits.line
fits_more limits l b = let e = length-append l (b ∷ []) in grind (arith, nat_tests)

module _ (limits : Limits) (allowed : AreAllowed limits) (least most : ℕ) (digit : least ≤ 9) (room : 11 * least ≤ most) where
  -- a length that is too small, with one digit more
  pub next_digit : (n b : ℕ) (l : List ℕ) → natural (Some most) (b ∷ l) ≡ Some n → n < least → count least (Some most) ((b ∷ l) ++ digit_for least) ≡ Some (10 * n + least)
  next_digit n b l h few =
      let all : digits_after 0 ((b ∷ l) ++ digit_for least) ≡ Some (10 * n + least) = digits_append 0 n (b ∷ l) (digit_for least) (unlimited most n (digits_after 0 (b ∷ l)) h) ∙ one_digit_more least n digit in
      ap (λ o. at_least least (at_most (Some most) o)) all ∙ ap (at_least least) (within most (10 * n + least) (omega arith)) ∙ enough least (10 * n + least) (omega arith)

  pub first_digit : count least (Some most) (digit_for least) ≡ Some least
  first_digit =
      let e : 10 * 0 + least ≡ least = omega arith in
      let all : digits_after 0 (digit_for least) ≡ Some least = one_digit_more least 0 digit ∙ ap Some e in
      ap (λ o. at_least least (at_most (Some most) o)) all ∙ ap (at_least least) (within most least (omega arith)) ∙ enough least least (omega arith)

  line_of_digit : IsOneLine (digit_for least)
  line_of_digit = let c : (48 + least == 13) ≡ false = grind (arith, nat_tests) in rw c refl

  abbrev is_count : List ℕ → Bool
  is_count x = is_some (count least (Some most) x)

  some_count : (l : List ℕ) (o : Option ℕ) → count least (Some most) l ≡ o → is_some o ≡ true → (n : ℕ) × (count least (Some most) l ≡ Some n)
  some_count l None is h = cc
  some_count l (Some n) is h = (n, is)

  count_can : (l : List ℕ) → length l ≤ limits.line → count_begun (bounds limits) least (Some most) l ≡ true → Begins limits (count least (Some most)) l
  count_can l fit h =
      let m = made_can limits is_count ([] ∷ digit_for least ∷ []) l (refl, (line_of_digit, tt)) h in
      let n = some_count (l ++ m.0) (count least (Some most) (l ++ m.0)) refl m.1 in
      (m.0, n.0, n.1, m.2, m.3)

  -- neither the front nor the front with one digit more is one
  abbrev Stuck : List ℕ → Type 0
  Stuck l = (fits (bounds limits) (l ++ []) ≡ true → is_count (l ++ []) ≡ false) × (fits (bounds limits) (l ++ digit_for least) ≡ true → is_count (l ++ digit_for least) ≡ false)

  stuck : (l : List ℕ) → count_begun (bounds limits) least (Some most) l ≡ false → Stuck l
  stuck l h =
      let first = neither (fits (bounds limits) (l ++ []) && is_count (l ++ [])) (made_by (bounds limits) is_count (digit_for least ∷ []) l) h in
      let second = neither (fits (bounds limits) (l ++ digit_for least) && is_count (l ++ digit_for least)) false first.1 in
      (not_both (fits (bounds limits) (l ++ [])) (is_count (l ++ [])) first.0, not_both (fits (bounds limits) (l ++ digit_for least)) (is_count (l ++ digit_for least)) second.0)

  fits_shorter : (l p q : List ℕ) → length p ≤ length q → length (l ++ q) ≤ limits.line → fits (bounds limits) (l ++ p) ≡ true
  fits_shorter l p q h k = fits_is limits (l ++ p) (omega (arith, h, k, length-append l p, length-append l q))

  counted_none : (l : List ℕ) → natural (Some most) l ≡ None → count least (Some most) l ≡ None
  counted_none l h = ap (at_least least) h

  -- a front that is a number, and is stuck, is too small; and then nothing may follow
  cannot_by : (n b : ℕ) (l q : List ℕ) → natural (Some most) (b ∷ l) ≡ Some n → Stuck (b ∷ l) → length ((b ∷ l) ++ q) ≤ limits.line → (c : Bool) → nat_le least n ≡ c → count least (Some most) ((b ∷ l) ++ q) ≡ None
  cannot_by n b l q is h fit true enough_for =
      let whole : count least (Some most) (b ∷ l) ≡ Some n = ap (at_least least) is ∙ enough least n (grind (arith, nat_tests)) in
      let not : is_count ((b ∷ l) ++ []) ≡ false = h.0 (fits_shorter (b ∷ l) [] q (omega arith) fit) in
      let yes : is_count ((b ∷ l) ++ []) ≡ true = ap is_some (ap (count least (Some most)) (append-nil (b ∷ l)) ∙ whole) in
      cc
  cannot_by n b l [] is h fit false few = ap (count least (Some most)) (append-nil (b ∷ l)) ∙ ap (at_least least) is ∙ too_few least n (grind (arith, nat_tests))
  cannot_by n b l (d ∷ q) is h fit false few =
      let whole : count least (Some most) ((b ∷ l) ++ digit_for least) ≡ Some (10 * n + least) = next_digit n b l is (grind (arith, nat_tests)) in
      let not : is_count ((b ∷ l) ++ digit_for least) ≡ false = h.1 (fits_shorter (b ∷ l) (digit_for least) (d ∷ q) (omega arith) fit) in
      let yes : is_count ((b ∷ l) ++ digit_for least) ≡ true = ap is_some whole in
      cc

  cannot_at : (b : ℕ) (l q : List ℕ) (o : Option ℕ) → natural (Some most) (b ∷ l) ≡ o → Stuck (b ∷ l) → length ((b ∷ l) ++ q) ≤ limits.line → count least (Some most) ((b ∷ l) ++ q) ≡ None
  cannot_at b l q None is h fit = counted_none ((b ∷ l) ++ q) (natural_stays most b l q is)
  cannot_at b l q (Some n) is h fit = cannot_by n b l q is h fit (nat_le least n) refl

  count_cannot : (l q : List ℕ) → length (l ++ q) ≤ limits.line → count_begun (bounds limits) least (Some most) l ≡ false → count least (Some most) (l ++ q) ≡ None
  count_cannot [] [] fit h = refl
  count_cannot [] (d ∷ q) fit h =
      let not : is_count (digit_for least) ≡ false = (stuck [] h).1 (fits_shorter [] (digit_for least) (d ∷ q) (omega arith) fit) in
      let yes : is_count (digit_for least) ≡ true = ap is_some first_digit in
      cc
  count_cannot (b ∷ l) q fit h = cannot_at b l q (natural (Some most) (b ∷ l)) refl (stuck (b ∷ l) h) fit

  pub lawful_count : LawfulLine limits (count_line (bounds limits) least (Some most))
  lawful_count = record { can = count_can; cannot = count_cannot }

  -- what the code looks at: the front alone
  pub begun_empty : (l : List ℕ) → length l ≡ 0 → count_begun (bounds limits) least (Some most) l ≡ true
  begun_empty (b ∷ l) h = absurd (omega (arith, h))
  begun_empty [] h =
      let yes : is_count (digit_for least) ≡ true = ap is_some first_digit in
      let fit : fits (bounds limits) (digit_for least) ≡ true = fits_is limits (digit_for least) (few_fit limits allowed (lit≤ tt)) in
      only_second (fits (bounds limits) []) false (fits (bounds limits) (digit_for least)) (is_count (digit_for least)) refl yes ∙ fit

  begun_few : (n b : ℕ) (l : List ℕ) → natural (Some most) (b ∷ l) ≡ Some n → n < least → count_begun (bounds limits) least (Some most) (b ∷ l) ≡ nat_lt (length (b ∷ l)) limits.line
  begun_few n b l is few =
      let no : is_count ((b ∷ l) ++ []) ≡ false = ap is_some (ap (count least (Some most)) (append-nil (b ∷ l)) ∙ ap (at_least least) is ∙ too_few least n few) in
      let yes : is_count ((b ∷ l) ++ digit_for least) ≡ true = ap is_some (next_digit n b l is few) in
      only_second (fits (bounds limits) ((b ∷ l) ++ [])) (is_count ((b ∷ l) ++ [])) (fits (bounds limits) ((b ∷ l) ++ digit_for least)) (is_count ((b ∷ l) ++ digit_for least)) no yes ∙ fits_more limits (b ∷ l) (48 + least)

  begun_many : (n b : ℕ) (l : List ℕ) → natural (Some most) (b ∷ l) ≡ Some n → least ≤ n → count_begun (bounds limits) least (Some most) (b ∷ l) ≡ fits (bounds limits) (b ∷ l)
  begun_many n b l is many =
      let yes : is_count ((b ∷ l) ++ []) ≡ true = ap is_some (ap (count least (Some most)) (append-nil (b ∷ l)) ∙ ap (at_least least) is ∙ enough least n many) in
      first_already (fits (bounds limits) ((b ∷ l) ++ [])) (is_count ((b ∷ l) ++ [])) (fits (bounds limits) ((b ∷ l) ++ digit_for least)) (is_count ((b ∷ l) ++ digit_for least)) yes
      (λ h. fits_shorter (b ∷ l) [] (digit_for least) (omega arith) (fits_within limits ((b ∷ l) ++ digit_for least) h)) ∙ ap (fits (bounds limits)) (append-nil (b ∷ l))

  begun_none : (b : ℕ) (l : List ℕ) → natural (Some most) (b ∷ l) ≡ None → count_begun (bounds limits) least (Some most) (b ∷ l) ≡ false
  begun_none b l is =
      let no : is_count ((b ∷ l) ++ []) ≡ false = ap is_some (counted_none ((b ∷ l) ++ []) (natural_stays most b l [] is)) in
      let nor : is_count ((b ∷ l) ++ digit_for least) ≡ false = ap is_some (counted_none ((b ∷ l) ++ digit_for least) (natural_stays most b l (digit_for least) is)) in
      no_tail (fits (bounds limits) ((b ∷ l) ++ [])) (is_count ((b ∷ l) ++ [])) (fits (bounds limits) ((b ∷ l) ++ digit_for least)) (is_count ((b ∷ l) ++ digit_for least)) no nor

  pub front_few : (n : ℕ) (l : List ℕ) → 0 < length l → natural (Some most) l ≡ Some n → n < least → count_begun (bounds limits) least (Some most) l ≡ nat_lt (length l) limits.line
  front_few n [] some is few = absurd (omega (arith, some))
  front_few n (b ∷ l) some is few = begun_few n b l is few

  pub front_many : (n : ℕ) (l : List ℕ) → 0 < length l → natural (Some most) l ≡ Some n → least ≤ n → count_begun (bounds limits) least (Some most) l ≡ fits (bounds limits) l
  front_many n [] some is many = absurd (omega (arith, some))
  front_many n (b ∷ l) some is many = begun_many n b l is many

  pub front_none : (l : List ℕ) → 0 < length l → natural (Some most) l ≡ None → count_begun (bounds limits) least (Some most) l ≡ false
  front_none [] some is = absurd (omega (arith, some))
  front_none (b ∷ l) some is = begun_none b l is
