-- The forms that hold no values give values within the limits.
use Rattle.std.proofs.Common.{◌≡◌, ℕ, zero, suc, ◌-◌, ◌≤◌, List, [], ◌∷◌, ◌++◌, length, take, drop, Option, Some, None, Bool, true, false, cond, refl, sym, ap, subst, arith}
use Rattle.std.proofs.lemmas.List.{length-take-le}
use Rattle.std.proofs.lemmas.Bool.Decides.{nat_tests}
use Rattle.std.specs.Prelude.{ℤ, pos, neg_ℤ, ◌==◌, nat_lt, option_map, bytes_eq}
use Rattle.resp_value.specs.Data.{Data, nil, int, bulk, simple, okay, double, boolean, verbatim, big}
use Rattle.resp_read.specs.Grammar.{is_end, is_double, is_big, natural, number, truth, simple_of, before_space, after_space, error_of, max_bulk, reader_limits}
use Rattle.resp_read.specs.Parser.{read, short, bad, Found, line_as, size_line, count_line, simple_line, error_line, number_line, null_line, boolean_line, double_line, big_line, no_array_line, body, bulk_of, bulk_string, error_body, bulk_error, some_bytes, colon, format, text_of, verbatim_of, verbatim_string, Table, plain, innermost, chosen, form}
use Rattle.resp_write.specs.Canonical.{detail_text}
use Rattle.canonical_laws.specs.Readable.{has_space, IsLine, IsLong, IsPlain}
use Rattle.canonical_laws.proofs.Held.{IfRead, held_if, held_then, held_map, held_line, some_is, natural_fits, IsBetween, held_count, HasLength, held_body}

-- what an option is made into
pub mapped : {A B : Type 0} (P : B → Type 0) (f : A → B) (o : Option A) (b : B) → ((a : A) → o ≡ Some a → P (f a)) → option_map f o ≡ Some b → P b
mapped P f (Some a) b h e = subst P (some_is (f a) b e) (h a refl)
mapped P f None b h e = cc

pub where_test : {A : Type 0} (P : A → Type 0) (c : Bool) (a b : A) → (c ≡ true → P a) → cond c (Some a) None ≡ Some b → P b
where_test P true a b h e = subst P (some_is a b e) (h refl)
where_test P false a b h e = cc

-- `+`
simple_by : (l : List ℕ) (c : Bool) → bytes_eq l (79 ∷ 75 ∷ []) ≡ c → IsLine reader_limits l → IsPlain reader_limits (cond c okay (simple l))
simple_by l true is h = tt
simple_by l false is h = (h, is)

simple_given : (bs : List ℕ) → IfRead (IsPlain reader_limits) (line_as reader_limits simple_line bs)
simple_given = held_line simple_line (IsPlain reader_limits) (λ l v h e. subst (IsPlain reader_limits) (some_is (simple_of l) v e) (simple_by l (bytes_eq l (79 ∷ 75 ∷ [])) refl h))

-- an error
words_by : (c : Bool) (b : ℕ) (bs : List ℕ) → (b == 32) ≡ c → before_space bs ++ detail_text (after_space bs) ≡ bs → cond c [] (b ∷ before_space bs) ++ detail_text (cond c (Some bs) (after_space bs)) ≡ b ∷ bs
words_by true b bs is h = let e : b ≡ 32 = grind (arith, nat_tests) in ap (λ x. x ∷ bs) (sym e)
words_by false b bs is h = ap (λ x. b ∷ x) h

pub words_back : (l : List ℕ) → before_space l ++ detail_text (after_space l) ≡ l
words_back [] = refl
words_back (b ∷ bs) = words_by (b == 32) b bs refl (words_back bs)

code_by : (c : Bool) (b : ℕ) (code : List ℕ) → (b == 32) ≡ c → has_space code ≡ false → has_space (cond c [] (b ∷ code)) ≡ false
code_by true b code is h = refl
code_by false b code is h = rw is h

code_ends : (l : List ℕ) → has_space (before_space l) ≡ false
code_ends [] = refl
code_ends (b ∷ bs) = code_by (b == 32) b (before_space bs) refl (code_ends bs)

error_plain : (l : List ℕ) → length l ≤ max_bulk → IsPlain reader_limits (error_of l)
error_plain l fit = (code_ends l, subst (λ x. length x ≤ max_bulk) (sym (words_back l)) fit)

error_given : (bs : List ℕ) → IfRead (IsPlain reader_limits) (line_as reader_limits error_line bs)
error_given = held_line error_line (IsPlain reader_limits) (λ l v h e. subst (IsPlain reader_limits) (some_is (error_of l) v e) (error_plain l (omega (arith, h.1))))

-- `:`
negative_long : (n : ℕ) → n ≤ 9_223_372_036_854_775_808 → IsLong (neg_ℤ (pos n))
negative_long zero h = omega arith
negative_long (suc n) h = omega (arith, h)

number_by : (c d : Bool) (x y : Option ℕ) (w : Option ℕ) (z : ℤ) → ((n : ℕ) → x ≡ Some n → n ≤ 9_223_372_036_854_775_808) → ((n : ℕ) → y ≡ Some n → n ≤ 9_223_372_036_854_775_807) → ((n : ℕ) → w ≡ Some n → n ≤ 9_223_372_036_854_775_807) → cond c (option_map (λ n. neg_ℤ (pos n)) x) (cond d (option_map pos y) (option_map pos w)) ≡ Some z → IsLong z
number_by true d x y w z f g h e = mapped IsLong (λ n. neg_ℤ (pos n)) x z (λ n is. negative_long n (f n is)) e
number_by false true x y w z f g h e = mapped IsLong pos y z g e
number_by false false x y w z f g h e = mapped IsLong pos w z h e

number_long : (l : List ℕ) (z : ℤ) → number l ≡ Some z → IsLong z
number_long [] z e = cc
number_long (b ∷ bs) z e =
    let most : ℕ = 9_223_372_036_854_775_807 in
    number_by (b == 45) (b == 43) (natural (Some 9_223_372_036_854_775_808) bs) (natural (Some most) bs) (natural (Some most) (b ∷ bs)) z
    (λ n is. natural_fits 9_223_372_036_854_775_808 n bs is) (λ n is. natural_fits most n bs is) (λ n is. natural_fits most n (b ∷ bs) is) e

number_given : (bs : List ℕ) → IfRead (IsPlain reader_limits) (line_as reader_limits number_line bs)
number_given = held_line number_line (IsPlain reader_limits) (λ l v h e. mapped (IsPlain reader_limits) int (number l) v (number_long l) e)

-- `_`, `#`, `,` and `(`
null_given : (bs : List ℕ) → IfRead (IsPlain reader_limits) (line_as reader_limits null_line bs)
null_given = held_line null_line (IsPlain reader_limits) (λ l v h e. where_test (IsPlain reader_limits) (is_end l) nil v (λ is. tt) e)

boolean_given : (bs : List ℕ) → IfRead (IsPlain reader_limits) (line_as reader_limits boolean_line bs)
boolean_given = held_line boolean_line (IsPlain reader_limits) (λ l v h e. mapped (IsPlain reader_limits) boolean (truth l) v (λ b is. tt) e)

double_given : (bs : List ℕ) → IfRead (IsPlain reader_limits) (line_as reader_limits (double_line reader_limits) bs)
double_given = held_line (double_line reader_limits) (IsPlain reader_limits) (λ l v h e. where_test (IsPlain reader_limits) (is_double l) (double l) v (λ is. (h, is)) e)

big_given : (bs : List ℕ) → IfRead (IsPlain reader_limits) (line_as reader_limits big_line bs)
big_given = held_line big_line (IsPlain reader_limits) (λ l v h e. where_test (IsPlain reader_limits) (is_big l) (big l) v (λ is. (h, is)) e)

-- `*-1`
no_array_given : (bs : List ℕ) → IfRead (IsPlain reader_limits) (line_as reader_limits no_array_line bs)
no_array_given = held_line no_array_line (IsPlain reader_limits) (λ l v h e. where_test (IsPlain reader_limits) (bytes_eq l (45 ∷ 49 ∷ [])) nil v (λ is. tt) e)

-- a length, or `-1`
abbrev pub IsSize : ℕ → Option ℕ → Type 0
IsSize most None = Unit {0}
IsSize most (Some n) = n ≤ most

size_by : (most : ℕ) (c : Bool) (x : Option ℕ) (o : Option ℕ) → ((n : ℕ) → x ≡ Some n → n ≤ most) → cond c (Some None) (option_map Some x) ≡ Some o → IsSize most o
size_by most true x o h e = subst (IsSize most) (some_is None o e) tt
size_by most false x o h e = mapped (IsSize most) Some x o h e

pub held_size : (most : ℕ) (bs : List ℕ) → IfRead (IsSize most) (line_as reader_limits (size_line (Some most)) bs)
held_size most = held_line (size_line (Some most)) (IsSize most) (λ l o h e. size_by most (bytes_eq l (45 ∷ 49 ∷ [])) (natural (Some most) l) o (λ n is. natural_fits most n l is) e)

-- `$`
bulk_given_of : (o : Option ℕ) (bs : List ℕ) → IsSize max_bulk o → IfRead (IsPlain reader_limits) (bulk_of o bs)
bulk_given_of None bs h = tt
bulk_given_of (Some n) bs h = held_map (HasLength n) (IsPlain reader_limits) bulk (body n bs) (held_body n bs) (λ text is. omega (arith, h, is))

bulk_given : (bs : List ℕ) → IfRead (IsPlain reader_limits) (bulk_string reader_limits bs)
bulk_given bs = held_then (IsSize max_bulk) (IsPlain reader_limits) bulk_of (line_as reader_limits (size_line (Some max_bulk)) bs) (held_size max_bulk bs) bulk_given_of

-- `!`
bulk_error_given : (bs : List ℕ) → IfRead (IsPlain reader_limits) (bulk_error reader_limits bs)
bulk_error_given bs =
    held_then (IsBetween 0 max_bulk) (IsPlain reader_limits) error_body (line_as reader_limits (count_line reader_limits 0 (Some max_bulk)) bs) (held_count 0 max_bulk bs)
    (λ n rest h. held_map (HasLength n) (IsPlain reader_limits) error_of (body n rest) (held_body n rest) (λ text is. error_plain text (omega (arith, h.1, is))))

-- `=`
bytes_by : (n : ℕ) (bs : List ℕ) (c : Bool) → nat_lt (length bs) n ≡ c → IfRead (HasLength n) (cond c short (read (take n bs) (drop n bs)))
bytes_by n bs true is = tt
bytes_by n bs false is = let some : n ≤ length bs = grind (arith, nat_tests) in length-take-le n bs some

colon_given : (P : List ℕ → Type 0) (t : List ℕ) (bs : List ℕ) → P t → IfRead P (colon t bs)
colon_given P t [] h = tt
colon_given P t (b ∷ bs) h = held_if P (b == 58) (read t bs) bad h tt

format_given : (bs : List ℕ) → IfRead (HasLength 3) (format bs)
format_given bs = held_then (HasLength 3) (HasLength 3) colon (some_bytes 3 bs) (bytes_by 3 bs (nat_lt (length bs) 3) refl) (λ t rest h. colon_given (HasLength 3) t rest h)

text_given : (n : ℕ) (f bs : List ℕ) → IsBetween 4 max_bulk n → HasLength 3 f → IfRead (IsPlain reader_limits) (text_of n f bs)
text_given n f bs h k = held_map (HasLength (n - 4)) (IsPlain reader_limits) (verbatim f) (body (n - 4) bs) (held_body (n - 4) bs) (λ text is. (k, omega (arith, h.0, h.1, is)))

verbatim_given : (bs : List ℕ) → IfRead (IsPlain reader_limits) (verbatim_string reader_limits bs)
verbatim_given bs =
    held_then (IsBetween 4 max_bulk) (IsPlain reader_limits) verbatim_of (line_as reader_limits (count_line reader_limits 4 (Some max_bulk)) bs) (held_count 4 max_bulk bs)
    (λ n rest h. held_then (HasLength 3) (IsPlain reader_limits) (text_of n) (format rest) (format_given rest) (λ f others k. text_given n f others h k))

-- each form of a table gives such values
abbrev pub AllGive : (Data → Type 0) → Table → Type 0
AllGive P [] = Unit {0}
AllGive P (f ∷ fs) = ((bs : List ℕ) → IfRead P (f.1 bs)) × AllGive P fs

pub plain_give : AllGive (IsPlain reader_limits) (plain reader_limits)
plain_give = (
  simple_given,
  (error_given, (number_given, (bulk_given, (null_given, (boolean_given, (double_given, (big_given, (bulk_error_given, (verbatim_given, tt))))))))),
)

pub innermost_give : AllGive (IsPlain reader_limits) (innermost reader_limits)
innermost_give = (no_array_given, tt)

module _ (P : Data → Type 0) where
  chosen_gives : (fs : Table) → AllGive P fs → (b : ℕ) (bs : List ℕ) → IfRead P (chosen fs b bs)
  chosen_gives [] h b bs = tt
  chosen_gives (f ∷ fs) h b bs = held_if P (b == f.0) (f.1 bs) (chosen fs b bs) (h.0 bs) (chosen_gives fs h.1 b bs)

  more_give : (fs gs : Table) → AllGive P fs → AllGive P gs → AllGive P (fs ++ gs)
  more_give [] gs h k = k
  more_give (f ∷ fs) gs h k = (h.0, more_give fs gs h.1 k)

  pub form_gives : (more : Table) → AllGive P (plain reader_limits) → AllGive P more → (bs : List ℕ) → IfRead P (form reader_limits more bs)
  form_gives more h k [] = tt
  form_gives more h k (b ∷ bs) = chosen_gives (plain reader_limits ++ more) (more_give (plain reader_limits) more h k) b bs

module _ (P Q : Data → Type 0) (weaker : (v : Data) → P v → Q v) where
  read_weaker : (x : Found Data) → IfRead P x → IfRead Q x
  read_weaker (read v rest) h = weaker v h
  read_weaker short h = tt
  read_weaker bad h = tt

  pub all_weaker : (fs : Table) → AllGive P fs → AllGive Q fs
  all_weaker [] h = tt
  all_weaker (f ∷ fs) h = (λ bs. read_weaker (f.1 bs) (h.0 bs), all_weaker fs h.1)
