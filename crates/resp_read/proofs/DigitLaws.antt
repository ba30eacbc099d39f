-- What the code reads of decimal digits is what the grammar says.
use Rattle.std.proofs.Common.{◌≡◌, ℕ, ◌+◌, ◌-◌, ◌*◌, ◌≤◌, ◌<◌, List, [], ◌∷◌, ◌++◌, Option, Some, None, Bool, true, false, cond, lit≤, refl, sym, ap, ◌∙◌, arith}
use Rattle.std.proofs.lemmas.Bool.Decides.{nat_tests}
use Rattle.std.specs.Prelude.{pos, neg_ℤ, nat_le, option_map, ◌==◌, ◌||◌, is_some}
use Rattle.resp_read.specs.Grammar.{digits_and, is_big, is_digit, digits_after, at_most, natural, number, after_digits, is_end}
use Rattle.resp_read.specs.Parser.{number_begun, big_begun}
use Rattle.resp_read.specs.Digits.{greatest, kept, digit_to, digits_step, digits_run, natural_in, number_in, is_bare, are_digits}
use Rattle.resp_read.specs.declared.digits.Sign.{Sign}
use Rattle.resp_read.specs.declared.digits.Sign.TheVariants.{NoSign, Plus, Minus}
use Rattle.resp_read.specs.declared.digits.Digits.{Digits}
use Rattle.resp_read.specs.declared.digits.Digits.TheVariants.{Empty, Signed, Number, Above, Never}
use Rattle.resp_read.proofs.Scans.{stays_above, below_digits}
use Rattle.resp_read.proofs.WordLaws.{big_is}

pub run-append : (d : Digits) (l q : List ℕ) → digits_run d (l ++ q) ≡ digits_run (digits_run d l) q
run-append d [] q = refl
run-append d (b ∷ l) q = run-append (digits_step d b) l q

-- what stays
never_stays : (l : List ℕ) → digits_run Never l ≡ Never
never_stays [] = refl
never_stays (b ∷ l) = never_stays l

-- a reading of digits: what it gives of a number, of numbers above it, and of no number
pub record Gives {B : Type 0} (f : Digits → Option B) (s : Sign) (most : ℕ) (g : ℕ → B) : Type 0 where
  number : (n : ℕ) → n ≤ greatest → f (Number s n) ≡ option_map g (at_most (Some most) (Some n))
  above : f Above ≡ None
  never : f Never ≡ None
  least : most ≤ greatest

module _ {B : Type 0} (f : Digits → Option B) (s : Sign) (most : ℕ) (g : ℕ → B) (reads : Gives f s most g) where
  none_by : (c : Bool) (l : List ℕ) → f (digits_run Above l) ≡ None → f (digits_run (cond c Above Never) l) ≡ None
  none_by true l h = h
  none_by false l h = ap f (never_stays l) ∙ reads.never

  none_above : (l : List ℕ) → f (digits_run Above l) ≡ None
  none_above [] = reads.above
  none_above (b ∷ l) = none_by (is_digit b) l (none_above l)

  -- from each number on, these bytes are read so
  abbrev ReadOn : List ℕ → Type 0
  ReadOn l = (n : ℕ) → n ≤ greatest → f (digits_run (Number s n) l) ≡ option_map g (at_most (Some most) (digits_after n l))

  kept_digits : (c : Bool) (m : ℕ) (l : List ℕ) → ReadOn l → nat_le m greatest ≡ c → f (digits_run (cond c (Number s m) Above) l) ≡ option_map g (at_most (Some most) (digits_after m l))
  kept_digits true m l on h = on m (grind (arith, nat_tests))
  kept_digits false m l on h =
      let big : greatest < m = grind (arith, nat_tests) in
      let less = reads.least in
      none_above l ∙ sym (ap (option_map g) (stays_above most m l (omega arith)))

  digit_by : (c : Bool) (m : ℕ) (l : List ℕ) → ReadOn l → f (digits_run (cond c (kept s m) Never) l) ≡ option_map g (at_most (Some most) (cond c (digits_after m l) None))
  digit_by true m l on = kept_digits (nat_le m greatest) m l on refl
  digit_by false m l on = ap f (never_stays l) ∙ reads.never

  run_digits : (l : List ℕ) → ReadOn l
  run_digits [] n h = reads.number n h
  run_digits (b ∷ l) n h = digit_by (is_digit b) (10 * n + (b - 48)) l (run_digits l)

  -- behind a sign, or without one: some digits
  pub run_first : (b : ℕ) (l : List ℕ) → f (digits_run (digit_to s 0 b) l) ≡ option_map g (natural (Some most) (b ∷ l))
  run_first b l = digit_by (is_digit b) (10 * 0 + (b - 48)) l (run_digits l)

-- a number with its sign
minus_reads : Gives number_in Minus greatest (λ n. neg_ℤ (pos n))
minus_reads = record { number = λ n h. let c : nat_le n greatest ≡ true = grind (arith, nat_tests) in rw c refl; above = refl; never = refl; least = lit≤ tt }

plus_reads : Gives number_in Plus 9_223_372_036_854_775_807 pos
plus_reads = record { number = λ n h. refl; above = refl; never = refl; least = lit≤ tt }

plain_reads : Gives number_in NoSign 9_223_372_036_854_775_807 pos
plain_reads = record { number = λ n h. refl; above = refl; never = refl; least = lit≤ tt }

signed_number : {B : Type 0} (f : Digits → Option B) (s : Sign) (most : ℕ) (g : ℕ → B) → Gives f s most g → f (Signed s) ≡ None → (l : List ℕ) → f (digits_run (Signed s) l) ≡ option_map g (natural (Some most) l)
signed_number f s most g reads none [] = none
signed_number f s most g reads none (b ∷ l) = run_first f s most g reads b l

number_by : (c d : Bool) (b : ℕ) (l : List ℕ)
    → number_in (digits_run (cond c (Signed Minus) (cond d (Signed Plus) (digit_to NoSign 0 b))) l)
    ≡ cond c (option_map (λ n. neg_ℤ (pos n)) (natural (Some greatest) l)) (cond d (option_map pos (natural (Some 9_223_372_036_854_775_807) l)) (option_map pos (natural (Some 9_223_372_036_854_775_807) (b ∷ l))))
number_by true d b l = signed_number number_in Minus greatest (λ n. neg_ℤ (pos n)) minus_reads refl l
number_by false true b l = signed_number number_in Plus 9_223_372_036_854_775_807 pos plus_reads refl l
number_by false false b l = run_first number_in NoSign 9_223_372_036_854_775_807 pos plain_reads b l

-- the number that a line is
pub number_is : (l : List ℕ) → number l ≡ number_in (digits_run Empty l)
number_is [] = refl
number_is (b ∷ l) = sym (number_by (b == 45) (b == 43) b l)

-- a length within a limit, where no sign stands before it
limit_map : (c : Bool) (n : ℕ) → cond c (Some n) None ≡ option_map (λ m. m) (cond c (Some n) None)
limit_map true n = refl
limit_map false n = refl

same_option : (o : Option ℕ) → option_map (λ n. n) o ≡ o
same_option None = refl
same_option (Some n) = refl

module _ (most : ℕ) (fit : most ≤ greatest) where
  natural_reads : Gives (natural_in most) NoSign most (λ n. n)
  natural_reads = record { number = λ n h. limit_map (nat_le n most) n; above = refl; never = refl; least = fit }

  -- behind a sign there is none
  module _ (s : Sign) (none : (n : ℕ) → natural_in most (Number s n) ≡ None) where
    kept_none : (c : Bool) (m : ℕ) (l : List ℕ) → natural_in most (digits_run (Number s m) l) ≡ None → natural_in most (digits_run (cond c (Number s m) Above) l) ≡ None
    kept_none true m l h = h
    kept_none false m l h = none_above (natural_in most) NoSign most (λ n. n) natural_reads l

    digit_none : (c : Bool) (m : ℕ) (l : List ℕ) → natural_in most (digits_run (Number s m) l) ≡ None → natural_in most (digits_run (cond c (kept s m) Never) l) ≡ None
    digit_none true m l h = kept_none (nat_le m greatest) m l h
    digit_none false m l h = ap (natural_in most) (never_stays l)

    number_none : (l : List ℕ) (n : ℕ) → natural_in most (digits_run (Number s n) l) ≡ None
    number_none [] n = none n
    number_none (b ∷ l) n = digit_none (is_digit b) (10 * n + (b - 48)) l (number_none l (10 * n + (b - 48)))

    signed_none : (l : List ℕ) → natural_in most (digits_run (Signed s) l) ≡ None
    signed_none [] = refl
    signed_none (b ∷ l) = digit_none (is_digit b) (10 * 0 + (b - 48)) l (number_none l (10 * 0 + (b - 48)))

  natural_by : (c d : Bool) (b : ℕ) (l : List ℕ) → (b == 45) ≡ c → (b == 43) ≡ d → natural_in most (digits_run (cond c (Signed Minus) (cond d (Signed Plus) (digit_to NoSign 0 b))) l) ≡ natural (Some most) (b ∷ l)
  natural_by true d b l h k =
      let e : b ≡ 45 = grind (arith, nat_tests) in
      signed_none Minus (λ n. refl) l ∙ sym (ap (at_most (Some most)) (below_digits 0 b l (omega (arith, e))))
  natural_by false true b l h k =
      let e : b ≡ 43 = grind (arith, nat_tests) in
      signed_none Plus (λ n. refl) l ∙ sym (ap (at_most (Some most)) (below_digits 0 b l (omega (arith, e))))
  natural_by false false b l h k = run_first (natural_in most) NoSign most (λ n. n) natural_reads b l ∙ same_option (natural (Some most) (b ∷ l))

  pub natural_is : (l : List ℕ) → natural (Some most) l ≡ natural_in most (digits_run Empty l)
  natural_is [] = refl
  natural_is (b ∷ l) = sym (natural_by (b == 45) (b == 43) b l refl refl)

-- behind a digit nothing is bare
digit_bare : (c d : Bool) (s : Sign) (m : ℕ) → is_bare (cond c (cond d (Number s m) Above) Never) ≡ false
digit_bare true true s m = refl
digit_bare true false s m = refl
digit_bare false d s m = refl

above_bare : (c : Bool) → is_bare (cond c Above Never) ≡ false
above_bare true = refl
above_bare false = refl

not_bare : (d : Digits) (b : ℕ) → is_bare d ≡ false → is_bare (digits_step d b) ≡ false
not_bare Empty b h = cc
not_bare (Signed s) b h = cc
not_bare (Number s n) b h = digit_bare (is_digit b) (nat_le (10 * n + (b - 48)) greatest) s (10 * n + (b - 48))
not_bare Above b h = above_bare (is_digit b)
not_bare Never b h = refl

never_bare : (l : List ℕ) (d : Digits) → is_bare d ≡ false → is_bare (digits_run d l) ≡ false
never_bare [] d h = h
never_bare (b ∷ l) d h = never_bare l (digits_step d b) (not_bare d b h)

second_bare : (c d : Bool) (b e : ℕ) → is_bare (digits_step (cond c (Signed Minus) (cond d (Signed Plus) (digit_to NoSign 0 b))) e) ≡ false
second_bare true d b e = digit_bare (is_digit e) (nat_le (10 * 0 + (e - 48)) greatest) Minus (10 * 0 + (e - 48))
second_bare false true b e = digit_bare (is_digit e) (nat_le (10 * 0 + (e - 48)) greatest) Plus (10 * 0 + (e - 48))
second_bare false false b e = not_bare (digit_to NoSign 0 b) e (digit_bare (is_digit b) (nat_le (10 * 0 + (b - 48)) greatest) NoSign (10 * 0 + (b - 48)))

first_bare : (c d : Bool) (b : ℕ) → is_bare (cond c (Signed Minus) (cond d (Signed Plus) (digit_to NoSign 0 b))) ≡ (c || d)
first_bare true d b = refl
first_bare false true b = refl
first_bare false false b = digit_bare (is_digit b) (nat_le (10 * 0 + (b - 48)) greatest) NoSign (10 * 0 + (b - 48))

or_or : (c d e : Bool) → (c || d || e) ≡ ((c || d) || e)
or_or true d e = refl
or_or false d e = refl

-- whether a number begins so
pub can_be_number : (l : List ℕ) → number_begun l ≡ (is_bare (digits_run Empty l) || is_some (number_in (digits_run Empty l)))
can_be_number [] = refl
can_be_number (b ∷ []) =
    or_or (b == 45) (b == 43) (is_some (number (b ∷ []))) ∙ (λ i. sym (first_bare (b == 45) (b == 43) b) i || is_some (number_is (b ∷ []) i))
can_be_number (b ∷ e ∷ l) =
    ap is_some (number_is (b ∷ e ∷ l)) ∙ ap (λ c. c || is_some (number_in (digits_run Empty (b ∷ e ∷ l)))) (sym (never_bare l (digits_step (digits_step Empty b) e) (second_bare (b == 45) (b == 43) b e)))

-- nothing else began
abbrev alive : Digits → Bool
alive d = is_bare d || are_digits d

never_alive : (l : List ℕ) → alive (digits_run Never l) ≡ false
never_alive l = ap alive (never_stays l)

alive_by : (c : Bool) (b : ℕ) (l : List ℕ) (d : Digits) → alive (digits_run d l) ≡ is_end (after_digits l) → alive (digits_run (cond c d Never) l) ≡ is_end (cond c (after_digits l) (b ∷ l))
alive_by true b l d h = h
alive_by false b l d h = never_alive l

-- from here on only digits may follow
abbrev IsAlive : List ℕ → Type 0
IsAlive l = (alive (digits_run Above l) ≡ is_end (after_digits l)) × ((s : Sign) (n : ℕ) → alive (digits_run (Number s n) l) ≡ is_end (after_digits l))

kept_alive : (c : Bool) (s : Sign) (m : ℕ) (l : List ℕ) → IsAlive l → alive (digits_run (cond c (Number s m) Above) l) ≡ is_end (after_digits l)
kept_alive true s m l h = h.1 s m
kept_alive false s m l h = h.0

digits_alive : (l : List ℕ) → IsAlive l
digits_alive [] = (refl, λ s n. refl)
digits_alive (b ∷ l) =
    let h = digits_alive l in
    (alive_by (is_digit b) b l Above h.0, λ s n. alive_by (is_digit b) b l (kept s (10 * n + (b - 48))) (kept_alive (nat_le (10 * n + (b - 48)) greatest) s (10 * n + (b - 48)) l h))

digit_alive : (s : Sign) (b : ℕ) (l : List ℕ) → alive (digits_run (digit_to s 0 b) l) ≡ is_end (after_digits (b ∷ l))
digit_alive s b l = alive_by (is_digit b) b l (kept s (10 * 0 + (b - 48))) (kept_alive (nat_le (10 * 0 + (b - 48)) greatest) s (10 * 0 + (b - 48)) l (digits_alive l))

signed_alive : (s : Sign) (l : List ℕ) → alive (digits_run (Signed s) l) ≡ is_end (after_digits l)
signed_alive s [] = refl
signed_alive s (b ∷ l) = digit_alive s b l

big_by : (c d : Bool) (b : ℕ) (l : List ℕ) → alive (digits_run (cond c (Signed Minus) (cond d (Signed Plus) (digit_to NoSign 0 b))) l) ≡ is_end (after_digits (cond (d || c) l (b ∷ l)))
big_by true true b l = signed_alive Minus l
big_by true false b l = signed_alive Minus l
big_by false true b l = signed_alive Plus l
big_by false false b l = digit_alive NoSign b l

-- whether a big number begins so
pub can_be_big : (l : List ℕ) → big_begun l ≡ (is_bare (digits_run Empty l) || are_digits (digits_run Empty l))
can_be_big [] = refl
can_be_big (b ∷ l) = sym (big_by (b == 45) (b == 43) b l)

-- digits, one at least
digit_digits : (s : Sign) (b : ℕ) (l : List ℕ) → are_digits (digits_run (digit_to s 0 b) l) ≡ digits_and is_end (b ∷ l)
digit_digits s b l =
    let m = 10 * 0 + (b - 48) in
    let bare : is_bare (digits_run (digit_to s 0 b) l) ≡ false = never_bare l (digit_to s 0 b) (digit_bare (is_digit b) (nat_le m greatest) s m) in
    sym (ap (λ c. c || are_digits (digits_run (digit_to s 0 b) l)) bare) ∙ digit_alive s b l ∙ sym (big_is b l)

signed_digits : (s : Sign) (l : List ℕ) → are_digits (digits_run (Signed s) l) ≡ digits_and is_end l
signed_digits s [] = refl
signed_digits s (b ∷ l) = digit_digits s b l

digits_by : (c d : Bool) (b : ℕ) (l : List ℕ) → are_digits (digits_run (cond c (Signed Minus) (cond d (Signed Plus) (digit_to NoSign 0 b))) l) ≡ digits_and is_end (cond (d || c) l (b ∷ l))
digits_by true true b l = signed_digits Minus l
digits_by true false b l = signed_digits Minus l
digits_by false true b l = signed_digits Plus l
digits_by false false b l = digit_digits NoSign b l

-- whether a line is a big number
pub big_digits : (l : List ℕ) → is_big l ≡ are_digits (digits_run Empty l)
big_digits [] = refl
big_digits (b ∷ l) = sym (digits_by (b == 45) (b == 43) b l)
