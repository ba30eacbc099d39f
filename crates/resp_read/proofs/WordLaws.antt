-- Lines of a few words and of digits: which fronts can become one.
use Rattle.std.proofs.Common.{◌≡◌, ℕ, ◌≤◌, List, [], ◌∷◌, ◌++◌, length, Option, Some, None, Bool, true, false, cond, lit≤, refl, sym, ap, ◌∙◌, subst, arith}
use Rattle.std.proofs.lemmas.Bool.Decides.{nat_tests}
use Rattle.std.proofs.Math.Bool.{and-false}
use Rattle.std.specs.Prelude.{◌==◌, ◌&&◌, ◌||◌, bytes_eq, is_some, option_map}
use Rattle.resp_value.specs.Data.{Data, nil, boolean, big}
use Rattle.resp_read.specs.Grammar.{is_digit, truth, is_end, unsigned, after_digits, digits_and, is_big}
use Rattle.resp_read.specs.Parser.{no_array_begun, big_begun, null_line, boolean_line, big_line, no_array_line}
use Rattle.resp_read.specs.Limits.{AreAllowed}
use Rattle.resp_read.specs.declared.limits.Limits.{Limits}
use Rattle.resp_read.proofs.LineLaws.{LawfulLine, few_fit}
use Rattle.resp_read.proofs.Numbers.{Begins, is_none, whole_already, seen_through, longer_other, other_start}

abbrev nil_if : Bool → Option Data
nil_if c = cond c (Some nil) None

-- `_`
null_can : (limits : Limits) → AreAllowed limits → (l : List ℕ) → length l ≤ limits.line → is_end l ≡ true → Begins limits (λ x. nil_if (is_end x)) l
null_can limits allowed [] fit h = ([], nil, refl, few_fit limits allowed (lit≤ tt), refl)
null_can limits allowed (b ∷ l) fit h = cc

null_cannot : (l q : List ℕ) → is_end l ≡ false → nil_if (is_end (l ++ q)) ≡ None
null_cannot [] q h = cc
null_cannot (b ∷ l) q h = refl

pub lawful_null : (limits : Limits) → AreAllowed limits → LawfulLine limits null_line
lawful_null limits allowed = record { can = null_can limits allowed; cannot = λ l q fit h. null_cannot l q h }

-- `#`
truth_by : (c d : Bool) → c ≡ false → d ≡ false → cond c (Some true) (cond d (Some false) None) ≡ None
truth_by c d h k = rw (h, k) refl

truth_long : (b c : ℕ) (l : List ℕ) → truth (b ∷ c ∷ l) ≡ None
truth_long b c l = truth_by (bytes_eq (b ∷ c ∷ l) (116 ∷ [])) (bytes_eq (b ∷ c ∷ l) (102 ∷ [])) (and-false (b == 116)) (and-false (b == 102))

truth_stays : (b : ℕ) (l q : List ℕ) → truth (b ∷ l) ≡ None → truth ((b ∷ l) ++ q) ≡ None
truth_stays b [] [] h = h
truth_stays b [] (c ∷ q) h = truth_long b c q
truth_stays b (c ∷ l) q h = truth_long b c (l ++ q)

truth_can : (limits : Limits) → AreAllowed limits → (l : List ℕ) → length l ≤ limits.line → (is_end l || is_some (truth l)) ≡ true → Begins limits truth l
truth_can limits allowed [] fit h = (116 ∷ [], true, refl, few_fit limits allowed (lit≤ tt), refl)
truth_can limits allowed (b ∷ l) fit h = whole_already limits truth (b ∷ l) (truth (b ∷ l)) refl fit h

truth_cannot : (l q : List ℕ) → (is_end l || is_some (truth l)) ≡ false → truth (l ++ q) ≡ None
truth_cannot [] q h = cc
truth_cannot (b ∷ l) q h = truth_stays b l q (is_none (truth (b ∷ l)) h)

pub lawful_boolean : (limits : Limits) → AreAllowed limits → LawfulLine limits boolean_line
lawful_boolean limits allowed = record {
  can = λ l fit h. seen_through limits truth boolean l (truth_can limits allowed l fit h);
  cannot = λ l q fit h. ap (option_map boolean) (truth_cannot l q h);
}

-- `*-1`
abbrev is_no_array : List ℕ → Bool
is_no_array l = bytes_eq l (45 ∷ 49 ∷ [])

is_already : (limits : Limits) (l : List ℕ) → is_no_array l ≡ true → length l ≤ limits.line → Begins limits (λ x. nil_if (is_no_array x)) l
is_already limits l h fit = whole_already limits (λ x. nil_if (is_no_array x)) l (nil_if (is_no_array l)) refl fit (ap (λ c. is_some (nil_if c)) h)

no_array_can : (limits : Limits) → AreAllowed limits → (l : List ℕ) → length l ≤ limits.line → no_array_begun l ≡ true → Begins limits (λ x. nil_if (is_no_array x)) l
no_array_can limits allowed [] fit h = (45 ∷ 49 ∷ [], nil, refl, few_fit limits allowed (lit≤ tt), refl)
no_array_can limits allowed (b ∷ []) fit h =
    let e : b ≡ 45 = grind (arith, nat_tests) in
    subst (λ x. Begins limits (λ y. nil_if (is_no_array y)) (x ∷ [])) (sym e) (49 ∷ [], nil, refl, few_fit limits allowed (lit≤ tt), refl)
no_array_can limits allowed (b ∷ c ∷ l) fit h = is_already limits (b ∷ c ∷ l) h fit

no_array_cannot : (l q : List ℕ) → no_array_begun l ≡ false → nil_if (is_no_array (l ++ q)) ≡ None
no_array_cannot [] q h = cc
no_array_cannot (b ∷ []) q h = ap nil_if (other_start b q h)
no_array_cannot (b ∷ c ∷ l) q h = ap nil_if (longer_other b c l q h)

pub lawful_no_array : (limits : Limits) → AreAllowed limits → LawfulLine limits no_array_line
lawful_no_array limits allowed = record { can = no_array_can limits allowed; cannot = λ l q fit h. no_array_cannot l q h }

-- `(`
abbrev big_if : Bool → List ℕ → Option Data
big_if c l = cond c (Some (big l)) None

-- digits, one at least, are all digits
end_by : (c : Bool) (x : List ℕ) (b : ℕ) (l : List ℕ) → (c && is_end x) ≡ is_end (cond c x (b ∷ l))
end_by true x b l = refl
end_by false x b l = refl

pub big_is : (b : ℕ) (l : List ℕ) → digits_and is_end (b ∷ l) ≡ is_end (after_digits (b ∷ l))
big_is b l = end_by (is_digit b) (after_digits l) b l

some_digits : (b : ℕ) (l : List ℕ) → is_end (after_digits (b ∷ l)) ≡ true → digits_and is_end (b ∷ l) ≡ false → ⊥
some_digits b l all none = let e = big_is b l in cc

signed_one : (b : ℕ) → ((b == 43) || (b == 45)) ≡ true → is_big (b ∷ 48 ∷ []) ≡ true
signed_one b h = ap (λ c. digits_and is_end (cond c (48 ∷ []) (b ∷ 48 ∷ []))) h

-- a front of digits that isn't whole has none of them
signed_by : (b : ℕ) (l : List ℕ) (c : Bool) → ((b == 43) || (b == 45)) ≡ c → is_big (b ∷ l) ≡ false → big_begun (b ∷ l) ≡ true → (l ≡ []) × (((b == 43) || (b == 45)) ≡ true)
signed_by b [] true is part begun = (refl, is)
signed_by b (d ∷ l) true is part begun =
    let some : digits_and is_end (d ∷ l) ≡ false = sym (ap (λ c. digits_and is_end (cond c (d ∷ l) (b ∷ d ∷ l))) is) ∙ part in
    let all : is_end (after_digits (d ∷ l)) ≡ true = sym (ap (λ c. is_end (after_digits (cond c (d ∷ l) (b ∷ d ∷ l)))) is) ∙ begun in
    absurd (some_digits d l all some)
signed_by b l false is part begun =
    let some : digits_and is_end (b ∷ l) ≡ false = sym (ap (λ c. digits_and is_end (cond c l (b ∷ l))) is) ∙ part in
    let all : is_end (after_digits (b ∷ l)) ≡ true = sym (ap (λ c. is_end (after_digits (cond c l (b ∷ l)))) is) ∙ begun in
    absurd (some_digits b l all some)

big_by : (limits : Limits) → AreAllowed limits → (l : List ℕ) → length l ≤ limits.line → (c : Bool) → is_big l ≡ c → big_begun l ≡ true → Begins limits (λ x. big_if (is_big x) x) l
big_by limits allowed l fit true is h = whole_already limits (λ x. big_if (is_big x) x) l (Some (big l)) (ap (λ c. big_if c l) is) fit refl
big_by limits allowed [] fit false is h = (48 ∷ [], big (48 ∷ []), refl, few_fit limits allowed (lit≤ tt), refl)
big_by limits allowed (b ∷ l) fit false is h =
    let one = signed_by b l ((b == 43) || (b == 45)) refl is h in
    subst (λ x. Begins limits (λ y. big_if (is_big y) y) (b ∷ x)) (sym one.0) (48 ∷ [], big (b ∷ 48 ∷ []), ap (λ c. big_if c (b ∷ 48 ∷ [])) (signed_one b one.1), few_fit limits allowed (lit≤ tt), refl)

-- where a byte is no digit, it stays so
other_byte : (c : Bool) (x y z w : List ℕ) → is_end w ≡ false → (is_end x ≡ false → is_end y ≡ false) → is_end (cond c x z) ≡ false → is_end (cond c y w) ≡ false
other_byte true x y z w n f h = f h
other_byte false x y z w n f h = n

digits_end : (l q : List ℕ) → is_end (after_digits l) ≡ false → is_end (after_digits (l ++ q)) ≡ false
digits_end [] q h = cc
digits_end (b ∷ l) q h = other_byte (is_digit b) (after_digits l) (after_digits (l ++ q)) (b ∷ l) (b ∷ (l ++ q)) refl (digits_end l q) h

no_big : (l : List ℕ) → is_end (after_digits l) ≡ false → digits_and is_end l ≡ false
no_big [] h = refl
no_big (b ∷ l) h = big_is b l ∙ h

unsigned_by : (c : Bool) (b : ℕ) (l q : List ℕ) → is_end (after_digits (cond c l (b ∷ l))) ≡ false → is_end (after_digits (cond c (l ++ q) (b ∷ (l ++ q)))) ≡ false
unsigned_by true b l q h = digits_end l q h
unsigned_by false b l q h = digits_end (b ∷ l) q h

big_cannot : (l q : List ℕ) → big_begun l ≡ false → big_if (is_big (l ++ q)) (l ++ q) ≡ None
big_cannot [] q h = cc
big_cannot (b ∷ l) q h = ap (λ c. big_if c ((b ∷ l) ++ q)) (no_big (unsigned ((b ∷ l) ++ q)) (unsigned_by ((b == 43) || (b == 45)) b l q h))

pub lawful_big : (limits : Limits) → AreAllowed limits → LawfulLine limits big_line
lawful_big limits allowed = record { can = λ l fit h. big_by limits allowed l fit (is_big l) refl h; cannot = λ l q fit h. big_cannot l q h }
