-- Numbers and lengths with `-1`: which fronts can become one.
use Rattle.std.proofs.Common.{◌≡◌, ℕ, ◌+◌, ◌-◌, ◌*◌, ◌≤◌, ◌<◌, List, [], ◌∷◌, ◌++◌, length, Option, Some, None, Bool, true, false, cond, inl, inr, lit≤, refl, sym, ap, ◌∙◌, subst, arith}
use Rattle.std.proofs.lemmas.List.{append-nil}
use Rattle.std.proofs.lemmas.Bool.Decides.{nat_tests}
use Rattle.std.specs.Prelude.{ℤ, pos, neg_ℤ, nat_le, option_map, ◌==◌, ◌&&◌, ◌||◌, bytes_eq, is_some, ◌⊎◌}
use Rattle.resp_value.specs.Data.{int}
use Rattle.resp_read.specs.Grammar.{is_digit, digits_after, at_most, natural, number, size, simple_of, error_of}
use Rattle.resp_read.specs.Parser.{number_begun, size_begun, simple_line, error_line, number_line, size_line, text_line}
use Rattle.resp_read.specs.Limits.{AreAllowed}
use Rattle.resp_read.specs.declared.limits.Limits.{Limits}
use Rattle.resp_read.proofs.Scans.{stays_above}
use Rattle.resp_read.proofs.LineLaws.{IsOneLine, LawfulLine, few_fit}

-- some line of the form begins with l
abbrev pub Begins : {A : Type 0} → Limits → (List ℕ → Option A) → List ℕ → Type 0
Begins {A} limits f l = (q : List ℕ) × (a : A) × (f (l ++ q) ≡ Some a) × (length (l ++ q) ≤ limits.line) × IsOneLine q

pub is_none : {A : Type 0} (o : Option A) → is_some o ≡ false → o ≡ None
is_none None h = refl
is_none (Some x) h = cc

module _ (limits : Limits) {A : Type 0} (f : List ℕ → Option A) where
  pub whole_already : (l : List ℕ) (o : Option A) → f l ≡ o → length l ≤ limits.line → is_some o ≡ true → Begins limits f l
  whole_already l None is fit h = cc
  whole_already l (Some a) is fit h = ([], a, ap f (append-nil l) ∙ is, subst (λ x. length x ≤ limits.line) (sym (append-nil l)) fit, refl)

  pub seen_through : {B : Type 0} (h : A → B) (l : List ℕ) → Begins limits f l → Begins limits (λ x. option_map h (f x)) l
  seen_through h l b = (b.0, h b.1, ap (option_map h) b.2, b.3, b.4)

-- every line is of the form
module _ (limits : Limits) {A : Type 0} (f : List ℕ → A) where
  any_line : LawfulLine limits (record { whole = λ l. Some (f l); begun = λ l. true })
  any_line = record {
    can = λ l fit h. whole_already limits (λ x. Some (f x)) l (Some (f l)) refl fit refl;
    cannot = λ l q fit h. cc;
  }

pub lawful_simple : (limits : Limits) → LawfulLine limits simple_line
lawful_simple limits = any_line limits simple_of

pub lawful_text_line : (limits : Limits) → LawfulLine limits text_line
lawful_text_line limits = any_line limits (λ l. l)

pub lawful_error : (limits : Limits) → LawfulLine limits error_line
lawful_error limits = any_line limits error_of

none_still : (c : Bool) (most : ℕ) (x y : Option ℕ) → (at_most (Some most) x ≡ None → at_most (Some most) y ≡ None) → at_most (Some most) (cond c x None) ≡ None → at_most (Some most) (cond c y None) ≡ None
none_still true most x y f h = f h
none_still false most x y f h = refl

above : (most n : ℕ) (c : Bool) → nat_le n most ≡ c → cond c (Some n) None ≡ None → most < n
above most n true is h = cc
above most n false is h = grind (arith, nat_tests)

-- digits of no number within the limit stay so when bytes follow
digits_stay : (most n : ℕ) (ds q : List ℕ) → at_most (Some most) (digits_after n ds) ≡ None → at_most (Some most) (digits_after n (ds ++ q)) ≡ None
digits_stay most n [] q h = stays_above most n q (above most n (nat_le n most) refl h)
digits_stay most n (b ∷ ds) q h =
    none_still (is_digit b) most (digits_after (10 * n + (b - 48)) ds) (digits_after (10 * n + (b - 48)) (ds ++ q)) (digits_stay most (10 * n + (b - 48)) ds q) h

pub natural_stays : (most b : ℕ) (ds q : List ℕ) → natural (Some most) (b ∷ ds) ≡ None → natural (Some most) ((b ∷ ds) ++ q) ≡ None
natural_stays most b ds q h = digits_stay most 0 (b ∷ ds) q h

module _ {A B : Type 0} (h : A → B) where
  none_under : (o : Option A) → option_map h o ≡ None → o ≡ None
  none_under None e = refl
  none_under (Some x) e = cc

seen_stays : {B : Type 0} (h : ℕ → B) (most b : ℕ) (ds q : List ℕ) → option_map h (natural (Some most) (b ∷ ds)) ≡ None → option_map h (natural (Some most) ((b ∷ ds) ++ q)) ≡ None
seen_stays h most b ds q e = ap (option_map h) (natural_stays most b ds q (none_under h (natural (Some most) (b ∷ ds)) e))

number_by : (c d : Bool) (x y z x' y' z' : Option ℤ) → (c ≡ true → x ≡ None → x' ≡ None) → (d ≡ true → y ≡ None → y' ≡ None) → (z ≡ None → z' ≡ None) → cond c x (cond d y z) ≡ None → cond c x' (cond d y' z') ≡ None
number_by true d x y z x' y' z' f g k h = f refl h
number_by false true x y z x' y' z' f g k h = g refl h
number_by false false x y z x' y' z' f g k h = k h

number_stays : (b c : ℕ) (ds q : List ℕ) → number (b ∷ c ∷ ds) ≡ None → number ((b ∷ c ∷ ds) ++ q) ≡ None
number_stays b c ds q e =
    number_by (b == 45) (b == 43) _ _ _ _ _ _
    (λ _. seen_stays (λ n. neg_ℤ (pos n)) 9_223_372_036_854_775_808 c ds q) (λ _. seen_stays pos 9_223_372_036_854_775_807 c ds q) (seen_stays pos 9_223_372_036_854_775_807 b (c ∷ ds) q) e

number_stays_one : (b : ℕ) (q : List ℕ) → (b == 45) ≡ false → (b == 43) ≡ false → number (b ∷ []) ≡ None → number (b ∷ q) ≡ None
number_stays_one b q minus plus e =
    number_by (b == 45) (b == 43) _ _ _ _ _ _
    (λ t. cc) (λ t. cc) (seen_stays pos 9_223_372_036_854_775_807 b [] q) e

one_of_three : (x y z : Bool) → (x || y || z) ≡ true → (x ≡ true) ⊎ (y ≡ true) ⊎ (z ≡ true)
one_of_three true y z h = inl refl
one_of_three false true z h = inr (inl refl)
one_of_three false false z h = inr (inr h)

none_of_three : (x y z : Bool) → (x || y || z) ≡ false → (x ≡ false) × (y ≡ false) × (z ≡ false)
none_of_three true y z h = cc
none_of_three false true z h = cc
none_of_three false false z h = (refl, refl, h)

sign_begins : (limits : Limits) (b k : ℕ) → (b == k) ≡ true → Begins limits number (k ∷ []) → Begins limits number (b ∷ [])
sign_begins limits b k h begins = let e : b ≡ k = grind (arith, nat_tests) in subst (λ x. Begins limits number (x ∷ [])) (sym e) begins

number_can : (limits : Limits) → AreAllowed limits → (l : List ℕ) → length l ≤ limits.line → number_begun l ≡ true → Begins limits number l
number_can limits allowed [] fit h = (48 ∷ [], pos 0, refl, few_fit limits allowed (lit≤ tt), refl)
number_can limits allowed (b ∷ []) fit h = elim (one_of_three (b == 45) (b == 43) (is_some (number (b ∷ []))) h) [
  | inl minus ↦ sign_begins limits b 45 minus (48 ∷ [], pos 0, refl, few_fit limits allowed (lit≤ tt), refl)
  | inr other ↦ elim other [
    | inl plus ↦ sign_begins limits b 43 plus (48 ∷ [], pos 0, refl, few_fit limits allowed (lit≤ tt), refl)
    | inr whole ↦ whole_already limits number (b ∷ []) (number (b ∷ [])) refl fit whole
  ]
]
number_can limits allowed (b ∷ c ∷ ds) fit h = whole_already limits number (b ∷ c ∷ ds) (number (b ∷ c ∷ ds)) refl fit h

number_cannot : (l q : List ℕ) → number_begun l ≡ false → number (l ++ q) ≡ None
number_cannot [] q h = cc
number_cannot (b ∷ []) q h =
    let n = none_of_three (b == 45) (b == 43) (is_some (number (b ∷ []))) h in
    number_stays_one b q n.0 n.1 (is_none (number (b ∷ [])) n.2)
number_cannot (b ∷ c ∷ ds) q h = number_stays b c ds q (is_none (number (b ∷ c ∷ ds)) h)

pub lawful_number : (limits : Limits) → AreAllowed limits → LawfulLine limits number_line
lawful_number limits allowed = record {
  can = λ l fit h. seen_through limits number int l (number_can limits allowed l fit h);
  cannot = λ l q fit h. ap (option_map int) (number_cannot l q h);
}

was_other : (c : Bool) (x : Option (Option ℕ)) → cond c (Some None) x ≡ None → (c ≡ false) × (x ≡ None)
was_other true x e = cc
was_other false x e = (refl, e)

same_by : (x y w : Bool) → (x && (y && true)) ≡ false → (x && (y && w)) ≡ false
same_by true true w h = cc
same_by true false w h = refl
same_by false y w h = refl

pub never_both : (x y : Bool) → (x && (y && false)) ≡ false
never_both true true = refl
never_both true false = refl
never_both false y = refl

pub longer_other : (b c : ℕ) (ds q : List ℕ) → bytes_eq (b ∷ c ∷ ds) (45 ∷ 49 ∷ []) ≡ false → bytes_eq ((b ∷ c ∷ ds) ++ q) (45 ∷ 49 ∷ []) ≡ false
longer_other b c [] q h = same_by (b == 45) (c == 49) (bytes_eq q []) h
longer_other b c (d ∷ ds) q h = never_both (b == 45) (c == 49)

not_minus_one : (c : Bool) (x : Option (Option ℕ)) → c ≡ false → x ≡ None → cond c (Some None) x ≡ None
not_minus_one true x h k = cc
not_minus_one false x h k = k

size_stays : (most b c : ℕ) (ds q : List ℕ) → size (Some most) (b ∷ c ∷ ds) ≡ None → size (Some most) ((b ∷ c ∷ ds) ++ q) ≡ None
size_stays most b c ds q e =
    let was = was_other (bytes_eq (b ∷ c ∷ ds) (45 ∷ 49 ∷ [])) (option_map Some (natural (Some most) (b ∷ c ∷ ds))) e in
    not_minus_one (bytes_eq ((b ∷ c ∷ ds) ++ q) (45 ∷ 49 ∷ [])) (option_map Some (natural (Some most) ((b ∷ c ∷ ds) ++ q))) (longer_other b c ds q was.0) (seen_stays Some most b (c ∷ ds) q was.1)

pub other_start : (b : ℕ) (q : List ℕ) → (b == 45) ≡ false → bytes_eq (b ∷ q) (45 ∷ 49 ∷ []) ≡ false
other_start b q h = rw h refl

size_stays_one : (most b : ℕ) (q : List ℕ) → (b == 45) ≡ false → size (Some most) (b ∷ []) ≡ None → size (Some most) (b ∷ q) ≡ None
size_stays_one most b q minus e =
    let was = was_other (bytes_eq (b ∷ []) (45 ∷ 49 ∷ [])) (option_map Some (natural (Some most) (b ∷ []))) e in
    not_minus_one (bytes_eq (b ∷ q) (45 ∷ 49 ∷ [])) (option_map Some (natural (Some most) (b ∷ q))) (other_start b q minus) (seen_stays Some most b [] q was.1)

pub one_of_two : (x y : Bool) → (x || y) ≡ true → (x ≡ true) ⊎ (y ≡ true)
one_of_two true y h = inl refl
one_of_two false y h = inr h

pub neither : (x y : Bool) → (x || y) ≡ false → (x ≡ false) × (y ≡ false)
neither true y h = cc
neither false y h = (refl, h)

minus_begins : (limits : Limits) → AreAllowed limits → (most : ℕ) → Begins limits (size (Some most)) (45 ∷ [])
minus_begins limits allowed most = (49 ∷ [], None, refl, few_fit limits allowed (lit≤ tt), refl)

size_can : (limits : Limits) → AreAllowed limits → (most : ℕ) (l : List ℕ) → length l ≤ limits.line → size_begun (Some most) l ≡ true → Begins limits (size (Some most)) l
size_can limits allowed most [] fit h = (45 ∷ 49 ∷ [], None, refl, few_fit limits allowed (lit≤ tt), refl)
size_can limits allowed most (b ∷ []) fit h = elim (one_of_two (b == 45) (is_some (size (Some most) (b ∷ []))) h) [
  | inl minus ↦ let e : b ≡ 45 = grind (arith, nat_tests) in subst (λ x. Begins limits (size (Some most)) (x ∷ [])) (sym e) (minus_begins limits allowed most)
  | inr whole ↦ whole_already limits (size (Some most)) (b ∷ []) (size (Some most) (b ∷ [])) refl fit whole
]
size_can limits allowed most (b ∷ c ∷ ds) fit h = whole_already limits (size (Some most)) (b ∷ c ∷ ds) (size (Some most) (b ∷ c ∷ ds)) refl fit h

size_cannot : (most : ℕ) (l q : List ℕ) → size_begun (Some most) l ≡ false → size (Some most) (l ++ q) ≡ None
size_cannot most [] q h = cc
size_cannot most (b ∷ []) q h = let n = neither (b == 45) (is_some (size (Some most) (b ∷ []))) h in size_stays_one most b q n.0 (is_none (size (Some most) (b ∷ [])) n.1)
size_cannot most (b ∷ c ∷ ds) q h = size_stays most b c ds q (is_none (size (Some most) (b ∷ c ∷ ds)) h)

pub lawful_size : (limits : Limits) → AreAllowed limits → (most : ℕ) → LawfulLine limits (size_line (Some most))
lawful_size limits allowed most = record { can = size_can limits allowed most; cannot = λ l q fit h. size_cannot most l q h }
