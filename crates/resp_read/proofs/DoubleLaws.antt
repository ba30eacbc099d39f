-- What the code reads of a double is what the grammar says, and which fronts can become one.
use Rattle.std.proofs.Common.{◌≡◌, ℕ, zero, suc, ◌+◌, ◌-◌, ◌≤◌, ◌<◌, List, [], ◌∷◌, ◌++◌, length, Option, Some, None, Bool, true, false, cond, inl, inr, refl, sym, ap, ◌∙◌, subst, arith, length-append}
use Rattle.std.proofs.lemmas.Bool.Decides.{nat_tests}
use Rattle.std.proofs.Math.Bool.{or-true, or-false, and-false}
use Rattle.std.specs.Prelude.{◌==◌, ◌&&◌, ◌||◌, ◌⊎◌, nat_le, nat_eq, bytes_eq}
use Rattle.resp_value.specs.Data.{double}
use Rattle.resp_read.specs.Grammar.{fits, is_digit, is_end, unsigned, after_digits, digits_and, is_exponent, is_fraction, is_double}
use Rattle.resp_read.specs.Parser.{made_by, double_tails, double_line}
use Rattle.resp_read.specs.Doubles.{digit_to, exponent_to, step, run, missing}
use Rattle.resp_read.specs.declared.decimals.Seen.{Seen}
use Rattle.resp_read.specs.declared.decimals.Seen.TheVariants.{Nothing, Minus, Plus, I, In, Inf, N, Na, Nan, Whole, Point, Fraction, Exponent, Sign, Power, Never}
use Rattle.resp_read.specs.Limits.{bounds}
use Rattle.resp_read.specs.declared.limits.Limits.{Limits}
use Rattle.resp_read.proofs.LineLaws.{LawfulLine, fits_is, fits_within}
use Rattle.resp_read.proofs.Numbers.{Begins}
use Rattle.resp_read.proofs.Counts.{made_can}

-- what has to follow
abbrev takes : Seen → List ℕ → Bool
takes Nothing l = is_double l
takes Minus l = bytes_eq l (105 ∷ 110 ∷ 102 ∷ []) || digits_and is_fraction l
takes Plus l = digits_and is_fraction l
takes I l = bytes_eq l (110 ∷ 102 ∷ [])
takes In l = bytes_eq l (102 ∷ [])
takes Inf l = is_end l
takes N l = bytes_eq l (97 ∷ 110 ∷ [])
takes Na l = bytes_eq l (110 ∷ [])
takes Nan l = is_end l
takes Whole l = is_fraction (after_digits l)
takes Point l = digits_and is_exponent l
takes Fraction l = is_exponent (after_digits l)
takes Exponent l = digits_and is_end (unsigned l)
takes Sign l = digits_and is_end l
takes Power l = is_end (after_digits l)
takes Never l = false

and_by : (c : Bool) (s : Seen) (x : Bool) (l : List ℕ) → takes s l ≡ x → (c && x) ≡ takes (cond c s Never) l
and_by true s x l h = sym h
and_by false s x l h = refl

end_empty : (l : List ℕ) → bytes_eq l [] ≡ is_end l
end_empty [] = refl
end_empty (b ∷ l) = refl

exponent_by : (b : ℕ) (l : List ℕ) → is_exponent (b ∷ l) ≡ takes (exponent_to b) l
exponent_by b l = and_by ((b == 101) || (b == 69)) Exponent (digits_and is_end (unsigned l)) l refl

point_by : (c : Bool) (b : ℕ) (l : List ℕ) → cond c (digits_and is_exponent l) (is_exponent (b ∷ l)) ≡ takes (cond c Point (exponent_to b)) l
point_by true b l = refl
point_by false b l = exponent_by b l

whole_by : (c : Bool) (b : ℕ) (l : List ℕ) → is_fraction (cond c (after_digits l) (b ∷ l)) ≡ takes (cond c Whole (cond (b == 46) Point (exponent_to b))) l
whole_by true b l = refl
whole_by false b l = point_by (b == 46) b l

fraction_by : (c : Bool) (b : ℕ) (l : List ℕ) → is_exponent (cond c (after_digits l) (b ∷ l)) ≡ takes (cond c Fraction (exponent_to b)) l
fraction_by true b l = refl
fraction_by false b l = exponent_by b l

sign_by : (c : Bool) (b : ℕ) (l : List ℕ) → digits_and is_end (cond c l (b ∷ l)) ≡ takes (cond c Sign (digit_to Power b)) l
sign_by true b l = refl
sign_by false b l = and_by (is_digit b) Power (is_end (after_digits l)) l refl

power_by : (c : Bool) (b : ℕ) (l : List ℕ) → is_end (cond c (after_digits l) (b ∷ l)) ≡ takes (cond c Power Never) l
power_by true b l = refl
power_by false b l = refl

-- a byte that is this one, in a text that begins with it
minus_at : (c : Bool) (b : ℕ) (l : List ℕ) → (b == 105) ≡ c → takes Minus (b ∷ l) ≡ takes (cond c I (digit_to Whole b)) l
minus_at true b l h = let e : b ≡ 105 = grind (arith, nat_tests) in ap (λ x. takes Minus (x ∷ l)) e ∙ or-false (bytes_eq l (110 ∷ 102 ∷ []))
minus_at false b l h =
    ap (λ c. (c && bytes_eq l (110 ∷ 102 ∷ [])) || digits_and is_fraction (b ∷ l)) h ∙ and_by (is_digit b) Whole (is_fraction (after_digits l)) l refl

start_other : (b : ℕ) (l : List ℕ) → (b == 45) ≡ false → (b == 43) ≡ false → (b == 105) ≡ false → (b == 110) ≡ false → is_double (b ∷ l) ≡ takes (digit_to Whole b) l
start_other b l h k m n = rw (h, k, m, n) (and_by (is_digit b) Whole (is_fraction (after_digits l)) l refl)

start_n : (c : Bool) (b : ℕ) (l : List ℕ) → (b == 110) ≡ c → (b == 45) ≡ false → (b == 43) ≡ false → (b == 105) ≡ false → is_double (b ∷ l) ≡ takes (cond c N (digit_to Whole b)) l
start_n true b l h k m n = let e : b ≡ 110 = grind (arith, nat_tests) in ap (λ x. is_double (x ∷ l)) e ∙ or-false (bytes_eq l (97 ∷ 110 ∷ []))
start_n false b l h k m n = start_other b l k m n h

start_i : (c : Bool) (b : ℕ) (l : List ℕ) → (b == 105) ≡ c → (b == 45) ≡ false → (b == 43) ≡ false → is_double (b ∷ l) ≡ takes (cond c I (cond (b == 110) N (digit_to Whole b))) l
start_i true b l h k m = let e : b ≡ 105 = grind (arith, nat_tests) in ap (λ x. is_double (x ∷ l)) e ∙ or-false ((bytes_eq l (110 ∷ 102 ∷ []) || false) || false) ∙ or-false (bytes_eq l (110 ∷ 102 ∷ []) || false) ∙ or-false (bytes_eq l (110 ∷ 102 ∷ []))
start_i false b l h k m = start_n (b == 110) b l refl k m h

start_plus : (c : Bool) (b : ℕ) (l : List ℕ) → (b == 43) ≡ c → (b == 45) ≡ false → is_double (b ∷ l) ≡ takes (cond c Plus (cond (b == 105) I (cond (b == 110) N (digit_to Whole b)))) l
start_plus true b l h k = let e : b ≡ 43 = grind (arith, nat_tests) in ap (λ x. is_double (x ∷ l)) e
start_plus false b l h k = start_i (b == 105) b l refl k h

start_by : (c : Bool) (b : ℕ) (l : List ℕ) → (b == 45) ≡ c → is_double (b ∷ l) ≡ takes (cond c Minus (cond (b == 43) Plus (cond (b == 105) I (cond (b == 110) N (digit_to Whole b))))) l
start_by true b l h = let e : b ≡ 45 = grind (arith, nat_tests) in ap (λ x. is_double (x ∷ l)) e ∙ ap (λ c. c || digits_and is_fraction l) (or-false (bytes_eq l (105 ∷ 110 ∷ 102 ∷ [])))
start_by false b l h = start_plus (b == 43) b l refl h

step_takes : (s : Seen) (b : ℕ) (l : List ℕ) → takes s (b ∷ l) ≡ takes (step s b) l
step_takes Nothing b l = start_by (b == 45) b l refl
step_takes Minus b l = minus_at (b == 105) b l refl
step_takes Plus b l = and_by (is_digit b) Whole (is_fraction (after_digits l)) l refl
step_takes I b l = and_by (b == 110) In (bytes_eq l (102 ∷ [])) l refl
step_takes In b l = and_by (b == 102) Inf (bytes_eq l []) l (sym (end_empty l))
step_takes Inf b l = refl
step_takes N b l = and_by (b == 97) Na (bytes_eq l (110 ∷ [])) l refl
step_takes Na b l = and_by (b == 110) Nan (bytes_eq l []) l (sym (end_empty l))
step_takes Nan b l = refl
step_takes Whole b l = whole_by (is_digit b) b l
step_takes Point b l = and_by (is_digit b) Fraction (is_exponent (after_digits l)) l refl
step_takes Fraction b l = fraction_by (is_digit b) b l
step_takes Exponent b l = sign_by ((b == 43) || (b == 45)) b l
step_takes Sign b l = and_by (is_digit b) Power (is_end (after_digits l)) l refl
step_takes Power b l = power_by (is_digit b) b l
step_takes Never b l = refl

-- nothing is missing
abbrev pub is_whole : Option ℕ → Bool
is_whole None = false
is_whole (Some zero) = true
is_whole (Some (suc n)) = false

none_missing : (n : ℕ) → is_whole (Some n) ≡ nat_eq n 0
none_missing zero = refl
none_missing (suc n) = sym (grind (arith, nat_tests))

whole_takes : (s : Seen) → takes s [] ≡ is_whole (missing s)
whole_takes Nothing = refl
whole_takes Minus = refl
whole_takes Plus = refl
whole_takes I = refl
whole_takes In = refl
whole_takes Inf = refl
whole_takes N = refl
whole_takes Na = refl
whole_takes Nan = refl
whole_takes Whole = refl
whole_takes Point = refl
whole_takes Fraction = refl
whole_takes Exponent = refl
whole_takes Sign = refl
whole_takes Power = refl
whole_takes Never = refl

run_takes : (s : Seen) (l : List ℕ) → takes s l ≡ is_whole (missing (run s l))
run_takes s [] = whole_takes s
run_takes s (b ∷ l) = step_takes s b l ∙ run_takes (step s b) l

-- what the code reads is the definition
pub double_is : (l : List ℕ) → is_double l ≡ is_whole (missing (run Nothing l))
double_is l = run_takes Nothing l

pub double-append : (s : Seen) (l q : List ℕ) → run s (l ++ q) ≡ run (run s l) q
double-append s [] q = refl
double-append s (b ∷ l) q = double-append (step s b) l q

double_on : (l q : List ℕ) → is_double (l ++ q) ≡ takes (run Nothing l) q
double_on l q = double_is (l ++ q) ∙ ap (λ s. is_whole (missing s)) (double-append Nothing l q) ∙ sym (run_takes (run Nothing l) q)

-- k bytes are fewer than are missing
abbrev TooFew : Option ℕ → ℕ → Type 0
TooFew None k = Unit {0}
TooFew (Some n) k = k < n

few : (s : Seen) (q : List ℕ) → TooFew (missing s) (length q) → takes s q ≡ false
few Nothing [] h = refl
few Nothing (b ∷ q) h = absurd (omega (arith, h))
few Minus [] h = refl
few Minus (b ∷ q) h = absurd (omega (arith, h))
few Plus [] h = refl
few Plus (b ∷ q) h = absurd (omega (arith, h))
few I [] h = refl
few I (b ∷ []) h = and-false (b == 110)
few I (b ∷ c ∷ q) h = absurd (omega (arith, h))
few In [] h = refl
few In (b ∷ q) h = absurd (omega (arith, h))
few Inf q h = absurd (omega (arith, h))
few N [] h = refl
few N (b ∷ []) h = and-false (b == 97)
few N (b ∷ c ∷ q) h = absurd (omega (arith, h))
few Na [] h = refl
few Na (b ∷ q) h = absurd (omega (arith, h))
few Nan q h = absurd (omega (arith, h))
few Whole q h = absurd (omega (arith, h))
few Point [] h = refl
few Point (b ∷ q) h = absurd (omega (arith, h))
few Fraction q h = absurd (omega (arith, h))
few Exponent [] h = refl
few Exponent (b ∷ q) h = absurd (omega (arith, h))
few Sign [] h = refl
few Sign (b ∷ q) h = absurd (omega (arith, h))
few Power q h = absurd (omega (arith, h))
few Never q h = refl

-- what makes it whole
abbrev tail_of : Seen → List ℕ
tail_of Nothing = 48 ∷ []
tail_of Minus = 48 ∷ []
tail_of Plus = 48 ∷ []
tail_of I = 110 ∷ 102 ∷ []
tail_of In = 102 ∷ []
tail_of Inf = []
tail_of N = 97 ∷ 110 ∷ []
tail_of Na = 110 ∷ []
tail_of Nan = []
tail_of Whole = []
tail_of Point = 48 ∷ []
tail_of Fraction = []
tail_of Exponent = 48 ∷ []
tail_of Sign = 48 ∷ []
tail_of Power = []
tail_of Never = []

abbrev Among : List ℕ → List (List ℕ) → Type 0
Among q [] = ⊥
Among q (p ∷ ps) = (q ≡ p) ⊎ Among q ps

abbrev Completes : Seen → Option ℕ → Type 0
Completes s None = Unit {0}
Completes s (Some n) = (takes s (tail_of s) ≡ true) × (length (tail_of s) ≡ n) × Among (tail_of s) double_tails

completes : (s : Seen) → Completes s (missing s)
completes Nothing = (refl, refl, inr (inl refl))
completes Minus = (refl, refl, inr (inl refl))
completes Plus = (refl, refl, inr (inl refl))
completes I = (refl, refl, inr (inr (inl refl)))
completes In = (refl, refl, inr (inr (inr (inl refl))))
completes Inf = (refl, refl, inl refl)
completes N = (refl, refl, inr (inr (inr (inr (inl refl)))))
completes Na = (refl, refl, inr (inr (inr (inr (inr (inl refl))))))
completes Nan = (refl, refl, inl refl)
completes Whole = (refl, refl, inl refl)
completes Point = (refl, refl, inr (inl refl))
completes Fraction = (refl, refl, inl refl)
completes Exponent = (refl, refl, inr (inl refl))
completes Sign = (refl, refl, inr (inl refl))
completes Power = (refl, refl, inl refl)
completes Never = tt

module _ (limits : Limits) (f : List ℕ → Bool) where
  made_among : (qs : List (List ℕ)) (l q : List ℕ) → Among q qs → fits (bounds limits) (l ++ q) ≡ true → f (l ++ q) ≡ true → made_by (bounds limits) f qs l ≡ true
  made_among [] l q h fit is = absurd h
  made_among (p ∷ ps) l q (inl e) fit is =
      let same : l ++ q ≡ l ++ p = ap (λ x. l ++ x) e in
      let a : fits (bounds limits) (l ++ p) ≡ true = ap (fits (bounds limits)) (sym same) ∙ fit in
      let b : f (l ++ p) ≡ true = ap f (sym same) ∙ is in
      rw (a, b) refl
  made_among (p ∷ ps) l q (inr h) fit is =
      ap (λ c. (fits (bounds limits) (l ++ p) && f (l ++ p)) || c) (made_among ps l q h fit is) ∙ or-true (fits (bounds limits) (l ++ p) && f (l ++ p))

  no_by : (c d e : Bool) → (c ≡ true → d ≡ false) → e ≡ false → ((c && d) || e) ≡ false
  no_by true d e h k = let n = h refl in rw (n, k) refl
  no_by false d e h k = k

  none_made : (qs : List (List ℕ)) (l : List ℕ) → ((q : List ℕ) → fits (bounds limits) (l ++ q) ≡ true → f (l ++ q) ≡ false) → made_by (bounds limits) f qs l ≡ false
  none_made [] l h = refl
  none_made (q ∷ qs) l h = no_by (fits (bounds limits) (l ++ q)) (f (l ++ q)) (made_by (bounds limits) f qs l) (h q) (none_made qs l h)

module _ (l : List ℕ) where
  no_double : (q : List ℕ) → TooFew (missing (run Nothing l)) (length q) → is_double (l ++ q) ≡ false
  no_double q h = double_on l q ∙ few (run Nothing l) q h

  pub double_whole : (n : ℕ) → missing (run Nothing l) ≡ Some n → is_double l ≡ nat_eq n 0
  double_whole n is = double_is l ∙ ap is_whole is ∙ none_missing n

  pub double_never : missing (run Nothing l) ≡ None → is_double l ≡ false
  double_never is = double_is l ∙ ap is_whole is

module _ (limits : Limits) (l : List ℕ) where
  pub begun_fits : (n : ℕ) → missing (run Nothing l) ≡ Some n → length l + n ≤ limits.line → made_by (bounds limits) is_double double_tails l ≡ true
  begun_fits n is fit =
      let s = run Nothing l in
      let c : Completes s (Some n) = subst (Completes s) is (completes s) in
      let k : length (l ++ tail_of s) ≤ limits.line = omega (arith, length-append l (tail_of s), c.1, fit) in
      made_among limits is_double double_tails l (tail_of s) c.2 (fits_is limits (l ++ tail_of s) k) (double_on l (tail_of s) ∙ c.0)

  too_few : (n : ℕ) → missing (run Nothing l) ≡ Some n → limits.line < length l + n → (q : List ℕ) → length (l ++ q) ≤ limits.line → is_double (l ++ q) ≡ false
  too_few n is long q fit =
      let k : length q < n = omega (arith, length-append l q, long, fit) in
      no_double l q (subst (λ o. TooFew o (length q)) (sym is) k)

  pub begun_long : (n : ℕ) → missing (run Nothing l) ≡ Some n → limits.line < length l + n → made_by (bounds limits) is_double double_tails l ≡ false
  begun_long n is long = none_made limits is_double double_tails l (λ q fit. too_few n is long q (fits_within limits (l ++ q) fit))

  never_double : missing (run Nothing l) ≡ None → (q : List ℕ) → is_double (l ++ q) ≡ false
  never_double is q = no_double l q (subst (λ o. TooFew o (length q)) (sym is) tt)

  pub begun_never : missing (run Nothing l) ≡ None → made_by (bounds limits) is_double double_tails l ≡ false
  begun_never is = none_made limits is_double double_tails l (λ q fit. never_double is q)

  long_by : (n : ℕ) → missing (run Nothing l) ≡ Some n → made_by (bounds limits) is_double double_tails l ≡ false → (c : Bool) → nat_le (length l + n) limits.line ≡ c → limits.line < length l + n
  long_by n is h true fit = let e = begun_fits n is (grind (arith, nat_tests)) in cc
  long_by n is h false long = grind (arith, nat_tests)

  none_by : (o : Option ℕ) → missing (run Nothing l) ≡ o → made_by (bounds limits) is_double double_tails l ≡ false → (q : List ℕ) → length (l ++ q) ≤ limits.line → is_double (l ++ q) ≡ false
  none_by None is h q fit = never_double is q
  none_by (Some n) is h q fit = too_few n is (long_by n is h (nat_le (length l + n) limits.line) refl) q fit

  begun_by : (n : ℕ) → missing (run Nothing l) ≡ Some n → length l ≤ limits.line → (c : Bool) → nat_le n (limits.line - length l) ≡ c → c ≡ made_by (bounds limits) is_double double_tails l
  begun_by n is h true fit = sym (begun_fits n is (grind (arith, nat_tests)))
  begun_by n is h false long = sym (begun_long n is (grind (arith, nat_tests)))

  -- what the code looks at
  pub begun_is : (n : ℕ) → missing (run Nothing l) ≡ Some n → length l ≤ limits.line → nat_le n (limits.line - length l) ≡ made_by (bounds limits) is_double double_tails l
  begun_is n is h = begun_by n is h (nat_le n (limits.line - length l)) refl

double_can : (limits : Limits) (l : List ℕ) → length l ≤ limits.line → made_by (bounds limits) is_double double_tails l ≡ true → Begins limits (λ x. cond (is_double x) (Some (double x)) None) l
double_can limits l fit h =
    let m = made_can limits is_double double_tails l (refl, (refl, (refl, (refl, (refl, (refl, tt)))))) h in
    (m.0, double (l ++ m.0), ap (λ c. cond c (Some (double (l ++ m.0))) None) m.1, m.2, m.3)

pub lawful_double : (limits : Limits) → LawfulLine limits (double_line (bounds limits))
lawful_double limits = record {
  can = double_can limits;
  cannot = λ l q fit h. ap (λ c. cond c (Some (double (l ++ q))) None) (none_by limits l (missing (run Nothing l)) refl h q fit);
}
