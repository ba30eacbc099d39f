-- How many bytes a value has at most within a reader's limits, and how many a text that is the front of one.
use Rattle.std.proofs.Common.{◌≡◌, ℕ, zero, suc, ◌+◌, ◌-◌, ◌*◌, ◌≤◌, ◌<◌, List, [], ◌∷◌, ◌++◌, length, take, drop, Option, Some, None, Bool, true, false, cond, refl, sym, ap, ◌∙◌, subst, arith, length-drop}
use Rattle.std.proofs.Math.Nat.{mul-le-mul_right}
use Rattle.std.proofs.lemmas.Bool.Decides.{nat_tests}
use Rattle.std.specs.Prelude.{◌==◌, ◌&&◌, nat_le, nat_lt, bytes_eq, is_some, option_map}
use Rattle.resp_value.specs.Data.{Data, bulk, array, set, dict, attribute, verbatim, push, items_of, members_of}
use Rattle.resp_value.specs.Kinds.{kind_of}
use Rattle.resp_read.specs.Grammar.{fits, digits_after, at_most, natural, at_least, count, size, error_of}
use Rattle.resp_read.specs.Parser.{Found, read, short, bad, found_and_then, found_map, Line, ended, held, unended, broken, after_return, byte_before, line, LineForm, found, line_found, line_as, fed, closed, body, simple_line, error_line, number_line, null_line, boolean_line, double_line, big_line, no_array_line, size_line, count_line, text_line, bulk_of, error_body, some_bytes, colon, format, text_of, verbatim_of, repeated, pair, array_of, set_of, map_of, attributed, attribute_of, kind, push_with, push_of, bulk_text, Table, plain, nested, innermost, chosen, form}
use Rattle.resp_read.specs.Limits.{bounds, reading, longest_plain, longest_value, AreAllowed}
use Rattle.resp_read.specs.declared.limits.Limits.{Limits}
use Rattle.resp_read.proofs.LineLaws.{fits_within}
use Rattle.resp_read.proofs.Counts.{enough}

-- of bs no more bytes than these were read, and what was read is so; or no more stand there
abbrev pub Takes : {A : Type 0} → (A → Type 0) → ℕ → List ℕ → Found A → Type 0
Takes P most bs (read a rest) = (length bs ≤ length rest + most) × P a
Takes P most bs short = length bs ≤ most
Takes P most bs bad = Unit {0}

abbrev Any : {A : Type 0} → A → Type 0
Any a = Unit {0}

module _ {A : Type 0} (P : A → Type 0) where
  takes_more : (m k : ℕ) → m ≤ k → (bs : List ℕ) (x : Found A) → Takes P m bs x → Takes P k bs x
  takes_more m k le bs (read a rest) h = (omega (arith, le, h.0), h.1)
  takes_more m k le bs short h = omega (arith, le, h)
  takes_more m k le bs bad h = tt

  takes_behind : (m k : ℕ) (bs rest : List ℕ) → length bs ≤ length rest + m → (x : Found A) → Takes P k rest x → Takes P (m + k) bs x
  takes_behind m k bs rest le (read a s) h = (omega (arith, le, h.0), h.1)
  takes_behind m k bs rest le short h = omega (arith, le, h)
  takes_behind m k bs rest le bad h = tt

  takes_if : (c : Bool) (m : ℕ) (bs : List ℕ) (x y : Found A) → Takes P m bs x → Takes P m bs y → Takes P m bs (cond c x y)
  takes_if true m bs x y h k = h
  takes_if false m bs x y h k = k

module _ {A B : Type 0} (P : A → Type 0) (Q : B → Type 0) where
  takes_then : (f : A → List ℕ → Found B) (m k : ℕ) (bs : List ℕ) (x : Found A) → Takes P m bs x → ((a : A) (rest : List ℕ) → P a → Takes Q k rest (f a rest)) → Takes Q (m + k) bs (found_and_then f x)
  takes_then f m k bs (read a rest) h next = takes_behind Q m k bs rest h.0 (f a rest) (next a rest h.1)
  takes_then f m k bs short h next = omega (arith, h)
  takes_then f m k bs bad h next = tt

  takes_map : (g : A → B) (m : ℕ) (bs : List ℕ) (x : Found A) → Takes P m bs x → ((a : A) → Q (g a)) → Takes Q m bs (found_map g x)
  takes_map g m bs (read a rest) h next = (h.0, next a)
  takes_map g m bs short h next = h
  takes_map g m bs bad h next = tt

-- a text of n bytes, by its first line
abbrev LineLength : ℕ → Line → Type 0
LineLength n (ended l rest) = n ≡ length l + 2 + length rest
LineLength n (held l) = n ≡ length l + 1
LineLength n (unended l) = n ≡ length l
LineLength n broken = Unit {0}

length_before : (b n : ℕ) (x : Line) → LineLength n x → LineLength (suc n) (byte_before b x)
length_before b n (ended l rest) h = omega (arith, h)
length_before b n (held l) h = omega (arith, h)
length_before b n (unended l) h = omega (arith, h)
length_before b n broken h = tt

length_feed : (c : Bool) (bs : List ℕ) → LineLength (suc (suc (length bs))) (cond c (ended [] bs) broken)
length_feed true bs = omega arith
length_feed false bs = tt

length_return : (bs : List ℕ) → LineLength (suc (length bs)) (after_return bs)
length_return [] = refl
length_return (b ∷ bs) = length_feed (b == 10) bs

length_by : (c : Bool) (b : ℕ) (bs : List ℕ) → LineLength (length bs) (line bs) → LineLength (suc (length bs)) (cond c (after_return bs) (byte_before b (line bs)))
length_by true b bs h = length_return bs
length_by false b bs h = length_before b (length bs) (line bs) h

line_length : (bs : List ℕ) → LineLength (length bs) (line bs)
line_length [] = refl
line_length (b ∷ bs) = length_by (b == 13) b bs (line_length bs)

module _ {A : Type 0} (limits : Limits) (form : LineForm A) (P : A → Type 0) (holds : (l : List ℕ) (a : A) → form.whole l ≡ Some a → P a) where
  ended_takes : (c : Bool) (o : Option A) (l rest bs : List ℕ) → fits (bounds limits) l ≡ c → form.whole l ≡ o → length bs ≡ length l + 2 + length rest → Takes P (limits.line + 2) bs (cond c (found o rest) bad)
  ended_takes true (Some a) l rest bs fit is n = (omega (arith, n, fits_within limits l fit), holds l a is)
  ended_takes true None l rest bs fit is n = tt
  ended_takes false o l rest bs fit is n = tt

  short_takes : (c d : Bool) (l bs : List ℕ) → fits (bounds limits) l ≡ c → length bs ≤ length l + 1 → Takes P (limits.line + 2) bs (cond (c && d) short bad)
  short_takes true true l bs fit n = omega (arith, n, fits_within limits l fit)
  short_takes true false l bs fit n = tt
  short_takes false d l bs fit n = tt

  line_found_takes : (x : Line) (bs : List ℕ) → LineLength (length bs) x → Takes P (limits.line + 2) bs (line_found (bounds limits) form x)
  line_found_takes (ended l rest) bs h = ended_takes (fits (bounds limits) l) (form.whole l) l rest bs refl refl h
  line_found_takes (held l) bs h = short_takes (fits (bounds limits) l) (is_some (form.whole l)) l bs refl (omega (arith, h))
  line_found_takes (unended l) bs h = short_takes (fits (bounds limits) l) (form.begun l) l bs refl (omega (arith, h))
  line_found_takes broken bs h = tt

  line_takes : (bs : List ℕ) → Takes P (limits.line + 2) bs (line_as (bounds limits) form bs)
  line_takes bs = line_found_takes (line bs) bs (line_length bs)

-- what follows a head
module _ {A : Type 0} (v : A) where
  fed_takes : (b : ℕ) (bs : List ℕ) → Takes Any 2 (b ∷ bs) (fed v bs)
  fed_takes b [] = omega arith
  fed_takes b (c ∷ bs) = takes_if Any (c == 10) 2 (b ∷ c ∷ bs) (read v bs) bad (omega arith, tt) tt

  closed_takes : (bs : List ℕ) → Takes Any 2 bs (closed v bs)
  closed_takes [] = omega arith
  closed_takes (b ∷ bs) = takes_if Any (b == 13) 2 (b ∷ bs) (fed v bs) bad (fed_takes b bs) tt

  colon_takes : (bs : List ℕ) → Takes Any 1 bs (colon v bs)
  colon_takes [] = omega arith
  colon_takes (b ∷ bs) = takes_if Any (b == 58) 1 (b ∷ bs) (read v bs) bad (omega arith, tt) tt

body_by : (n : ℕ) (bs : List ℕ) (c : Bool) → nat_lt (length bs) n ≡ c → Takes Any (n + 2) bs (cond c short (closed (take n bs) (drop n bs)))
body_by n bs true is = let few : length bs < n = grind (arith, nat_tests) in omega (arith, few)
body_by n bs false is = takes_behind Any n 2 bs (drop n bs) (omega (arith, length-drop n bs)) (closed (take n bs) (drop n bs)) (closed_takes (take n bs) (drop n bs))

body_takes : (n : ℕ) (bs : List ℕ) → Takes Any (n + 2) bs (body n bs)
body_takes n bs = body_by n bs (nat_lt (length bs) n) refl

bytes_by : (n : ℕ) (bs : List ℕ) (c : Bool) → nat_lt (length bs) n ≡ c → Takes Any n bs (cond c short (read (take n bs) (drop n bs)))
bytes_by n bs true is = let few : length bs < n = grind (arith, nat_tests) in omega (arith, few)
bytes_by n bs false is = (omega (arith, length-drop n bs), tt)

format_takes : (bs : List ℕ) → Takes Any 4 bs (format bs)
format_takes bs = takes_then Any Any colon 3 1 bs (some_bytes 3 bs) (bytes_by 3 bs (nat_lt (length bs) 3) refl) (λ f rest h. colon_takes f rest)

-- a length that was read is within the limit
limit_by : (c d : Bool) (most least k n : ℕ) → nat_le k most ≡ c → at_least least (cond c (Some k) None) ≡ Some n → nat_le least k ≡ d → n ≤ most
limit_by false d most least k n is e g = cc
limit_by true true most least k n is e g =
    let same : ◌≡◌ {A = Option ℕ} (Some k) (Some n) = sym (ap (λ t. cond t (Some k) None) g) ∙ e in
    let one : k ≡ n = cc in
    let le : k ≤ most = grind (arith, nat_tests) in
    omega (arith, one, le)
limit_by true false most least k n is e g = let none : ◌≡◌ {A = Option ℕ} None (Some n) = sym (ap (λ t. cond t (Some k) None) g) ∙ e in cc

limit_of : (most least n : ℕ) (o : Option ℕ) → at_least least (at_most (Some most) o) ≡ Some n → n ≤ most
limit_of most least n None e = cc
limit_of most least n (Some k) e = limit_by (nat_le k most) (nat_le least k) most least k n refl e refl

counted_within : (most least : ℕ) (l : List ℕ) (n : ℕ) → count least (Some most) l ≡ Some n → n ≤ most
counted_within most least [] n e = cc
counted_within most least (b ∷ l) n e = limit_of most least n (digits_after 0 (b ∷ l)) e

-- a length that was read is within the limit, where it is not that of Nil
abbrev limit_size : Option ℕ → ℕ → Type 0
limit_size None most = Unit {0}
limit_size (Some n) most = n ≤ most

size_by : (most : ℕ) (l : List ℕ) (c : Bool) (o : Option ℕ) → cond c (Some None) (option_map Some (natural (Some most) l)) ≡ Some o → limit_size o most
size_by most l true None e = tt
size_by most l true (Some n) e = cc
size_by most l false None e = tt
size_by most l false (Some n) e = size_of most l (natural (Some most) l) n refl e
  where
    size_of : (most : ℕ) (l : List ℕ) (x : Option ℕ) (n : ℕ) → natural (Some most) l ≡ x → option_map Some x ≡ Some (Some n) → n ≤ most
    size_of most l None n is e = cc
    size_of most l (Some k) n is e =
        let both : ◌≡◌ {A = Option ℕ} (Some k) (Some n) = cc in
        counted_within most 0 l n (ap (at_least 0) is ∙ enough 0 k (omega arith) ∙ both)

size_within : (most : ℕ) (l : List ℕ) (o : Option ℕ) → size (Some most) l ≡ Some o → limit_size o most
size_within most l o e = size_by most l (bytes_eq l (45 ∷ 49 ∷ [])) o e

module _ {A : Type 0} (inside : List ℕ → Found A) (m : ℕ) (each : (bs : List ℕ) → Takes Any m bs (inside bs)) where
  repeated_takes : (n : ℕ) (bs : List ℕ) → Takes Any (n * m) bs (repeated inside n bs)
  repeated_takes zero bs = (omega arith, tt)
  repeated_takes (suc n) bs =
      takes_more Any (m + n * m) (suc n * m) (omega arith) bs (repeated inside (suc n) bs)
      (takes_then Any Any (λ a rest. found_map (λ others. a ∷ others) (repeated inside n rest)) m (n * m) bs (inside bs) (each bs)
      (λ a rest h. takes_map Any Any (λ others. a ∷ others) (n * m) rest (repeated inside n rest) (repeated_takes n rest) (λ others. tt)))

  repeated_within : (n most : ℕ) → n ≤ most → (bs : List ℕ) → Takes Any (most * m) bs (repeated inside n bs)
  repeated_within n most le bs = takes_more Any (n * m) (most * m) (mul-le-mul_right m le) bs (repeated inside n bs) (repeated_takes n bs)

-- each form of a table
abbrev AllTake : ℕ → Table → Type 0
AllTake m [] = Unit {0}
AllTake m (f ∷ fs) = ((bs : List ℕ) → Takes Any m bs (f.1 bs)) × AllTake m fs

chosen_takes : (m : ℕ) (fs : Table) → AllTake m fs → (b : ℕ) (bs : List ℕ) → Takes Any m bs (chosen fs b bs)
chosen_takes m [] h b bs = tt
chosen_takes m (f ∷ fs) h b bs = takes_if Any (b == f.0) m bs (f.1 bs) (chosen fs b bs) (h.0 bs) (chosen_takes m fs h.1 b bs)

all_more : (m : ℕ) (fs gs : Table) → AllTake m fs → AllTake m gs → AllTake m (fs ++ gs)
all_more m [] gs h k = k
all_more m (f ∷ fs) gs h k = (h.0, all_more m fs gs h.1 k)

module _ (limits : Limits) (allowed : AreAllowed limits) where
  line_any : {A : Type 0} (form : LineForm A) (bs : List ℕ) → Takes Any (limits.line + 2) bs (line_as (bounds limits) form bs)
  line_any form bs = line_takes limits form Any (λ l a is. tt) bs

  count_takes : (least most : ℕ) (bs : List ℕ) → Takes (λ n. n ≤ most) (limits.line + 2) bs (line_as (bounds limits) (count_line (bounds limits) least (Some most)) bs)
  count_takes least most bs = line_takes limits (count_line (bounds limits) least (Some most)) (λ n. n ≤ most) (λ l n is. counted_within most least l n is) bs

  size_takes : (most : ℕ) (bs : List ℕ) → Takes (λ o. limit_size o most) (limits.line + 2) bs (line_as (bounds limits) (size_line (Some most)) bs)
  size_takes most bs = line_takes limits (size_line (Some most)) (λ o. limit_size o most) (λ l o is. size_within most l o is) bs

  -- behind the head of a form
  behind_count : (least most k : ℕ) (f : ℕ → List ℕ → Found Data) → ((n : ℕ) (rest : List ℕ) → n ≤ most → Takes Any k rest (f n rest)) → (bs : List ℕ) → Takes Any ((limits.line + 2) + k) bs (found_and_then f (line_as (bounds limits) (count_line (bounds limits) least (Some most)) bs))
  behind_count least most k f next bs = takes_then (λ n. n ≤ most) Any f (limits.line + 2) k bs (line_as (bounds limits) (count_line (bounds limits) least (Some most)) bs) (count_takes least most bs) next

  text_takes : (n : ℕ) (bs : List ℕ) → n ≤ limits.bulk → Takes Any (limits.bulk + 2) bs (body n bs)
  text_takes n bs le = takes_more Any (n + 2) (limits.bulk + 2) (omega (arith, le)) bs (body n bs) (body_takes n bs)

  bulk_takes : (o : Option ℕ) (bs : List ℕ) → limit_size o limits.bulk → Takes Any (limits.bulk + 2) bs (bulk_of o bs)
  bulk_takes None bs h = (omega arith, tt)
  bulk_takes (Some n) bs h = takes_map Any Any bulk (limits.bulk + 2) bs (body n bs) (text_takes n bs h) (λ t. tt)

  verbatim_takes : (n : ℕ) (bs : List ℕ) → n ≤ limits.bulk → Takes Any (limits.bulk + 2) bs (verbatim_of n bs)
  verbatim_takes n bs le =
      takes_more Any (4 + ((n - 4) + 2)) (limits.bulk + 2) (omega (arith, allowed.bulk_least, le)) bs (verbatim_of n bs)
      (takes_then Any Any (text_of n) 4 ((n - 4) + 2) bs (format bs) (format_takes bs)
      (λ f rest h. takes_map Any Any (verbatim f) ((n - 4) + 2) rest (body (n - 4) rest) (body_takes (n - 4) rest) (λ t. tt)))

  module _ (most : ℕ) (fit : limits.line + limits.bulk + 4 ≤ most) where
    plain_line : (form : LineForm Data) (bs : List ℕ) → Takes Any most bs (line_as (bounds limits) form bs)
    plain_line form bs = takes_more Any (limits.line + 2) most (omega (arith, fit)) bs (line_as (bounds limits) form bs) (line_any form bs)

    plain_counted : (least : ℕ) (f : ℕ → List ℕ → Found Data) → ((n : ℕ) (rest : List ℕ) → n ≤ limits.bulk → Takes Any (limits.bulk + 2) rest (f n rest)) → (bs : List ℕ) → Takes Any most bs (found_and_then f (line_as (bounds limits) (count_line (bounds limits) least (Some limits.bulk)) bs))
    plain_counted least f next bs =
        takes_more Any ((limits.line + 2) + (limits.bulk + 2)) most (omega (arith, fit)) bs _ (behind_count least limits.bulk (limits.bulk + 2) f next bs)

    plain_bulk : (bs : List ℕ) → Takes Any most bs (found_and_then bulk_of (line_as (bounds limits) (size_line (Some limits.bulk)) bs))
    plain_bulk bs =
        takes_more Any ((limits.line + 2) + (limits.bulk + 2)) most (omega (arith, fit)) bs _
        (takes_then (λ o. limit_size o limits.bulk) Any bulk_of (limits.line + 2) (limits.bulk + 2) bs (line_as (bounds limits) (size_line (Some limits.bulk)) bs) (size_takes limits.bulk bs) (λ o rest h. bulk_takes o rest h))

    plain_take : AllTake most (plain (bounds limits))
    plain_take = (
      plain_line simple_line,
      (
        plain_line error_line,
        (
          plain_line number_line,
          (
            plain_bulk,
            (
              plain_line null_line,
              (
                plain_line boolean_line,
                (
                  plain_line (double_line (bounds limits)),
                  (
                    plain_line big_line,
                    (
                      plain_counted 0 error_body (λ n rest h. takes_map Any Any error_of (limits.bulk + 2) rest (body n rest) (text_takes n rest h) (λ t. tt)),
                      (plain_counted 4 verbatim_of (λ n rest h. verbatim_takes n rest h), tt),
                    ),
                  ),
                ),
              ),
            ),
          ),
        ),
      ),
    )

    form_takes : (more : Table) → AllTake most more → (bs : List ℕ) → Takes Any (1 + most) bs (form (bounds limits) more bs)
    form_takes more h [] = omega arith
    form_takes more h (b ∷ bs) =
        takes_behind Any 1 most (b ∷ bs) bs (omega arith) (chosen (plain (bounds limits) ++ more) b bs)
        (chosen_takes most (plain (bounds limits) ++ more) (all_more most (plain (bounds limits)) more plain_take h) b bs)

    innermost_take : AllTake most (innermost (bounds limits))
    innermost_take = (plain_line no_array_line, tt)

  -- the kind of a push
  text_kind : (bs : List ℕ) → Takes Any ((limits.line + 2) + (limits.bulk + 2)) bs (bulk_text (bounds limits) bs)
  text_kind bs = takes_then (λ n. n ≤ limits.bulk) Any body (limits.line + 2) (limits.bulk + 2) bs (line_as (bounds limits) (count_line (bounds limits) 0 (Some limits.bulk)) bs) (count_takes 0 limits.bulk bs) (λ n rest h. text_takes n rest h)

  kind_takes : (bs : List ℕ) → Takes Any (longest_plain limits) bs (kind (bounds limits) bs)
  kind_takes [] = omega arith
  kind_takes (b ∷ bs) =
      takes_if Any (b == 43) (longest_plain limits) (b ∷ bs) (line_as (bounds limits) text_line bs) (cond (b == 36) (bulk_text (bounds limits) bs) bad)
      (takes_more Any (1 + (limits.line + 2)) (longest_plain limits) (omega arith) (b ∷ bs) (line_as (bounds limits) text_line bs) (takes_behind Any 1 (limits.line + 2) (b ∷ bs) bs (omega arith) (line_as (bounds limits) text_line bs) (line_any text_line bs)))
      (takes_if Any (b == 36) (longest_plain limits) (b ∷ bs) (bulk_text (bounds limits) bs) bad
      (takes_more Any (1 + ((limits.line + 2) + (limits.bulk + 2))) (longest_plain limits) (omega arith) (b ∷ bs) (bulk_text (bounds limits) bs) (takes_behind Any 1 ((limits.line + 2) + (limits.bulk + 2)) (b ∷ bs) bs (omega arith) (bulk_text (bounds limits) bs) (text_kind bs)))
      tt)

  -- forms that hold values of at most m bytes each
  module _ (inside : List ℕ → Found Data) (m : ℕ) (least : longest_plain limits ≤ m) (each : (bs : List ℕ) → Takes Any m bs (inside bs)) where
    abbrev all : ℕ
    all = limits.line + limits.bulk + 4 + (2 * limits.count + 1) * m

    sum_is : (2 * limits.count + 1) * m ≡ limits.count * m + limits.count * m + m
    sum_is = omega arith

    pair_takes : (bs : List ℕ) → Takes Any (m + m) bs (pair inside bs)
    pair_takes bs = takes_then Any Any (λ k rest. found_map (λ v. (k, v)) (inside rest)) m m bs (inside bs) (each bs) (λ k rest h. takes_map Any Any (λ v. (k, v)) m rest (inside rest) (each rest) (λ v. tt))

    values_take : (n : ℕ) → n ≤ limits.count → (bs : List ℕ) → Takes Any (limits.count * m) bs (repeated inside n bs)
    values_take n le bs = repeated_within inside m each n limits.count le bs

    pairs_take : (n : ℕ) → n ≤ limits.count → (bs : List ℕ) → Takes Any (limits.count * m + limits.count * m) bs (repeated (pair inside) n bs)
    pairs_take n le bs = takes_more Any (limits.count * (m + m)) (limits.count * m + limits.count * m) (omega arith) bs (repeated (pair inside) n bs) (repeated_within (pair inside) (m + m) pair_takes n limits.count le bs)

    array_by : (o : Option ℕ) (bs : List ℕ) → limit_size o limits.count → Takes Any (limits.count * m) bs (array_of inside o bs)
    array_by None bs h = (omega arith, tt)
    array_by (Some n) bs h = takes_map Any Any (λ ds. array (items_of ds)) (limits.count * m) bs (repeated inside n bs) (values_take n h bs) (λ ds. tt)

    array_takes : (bs : List ℕ) → Takes Any all bs (found_and_then (array_of inside) (line_as (bounds limits) (size_line (Some limits.count)) bs))
    array_takes bs =
        takes_more Any ((limits.line + 2) + limits.count * m) all (omega (arith, sum_is)) bs _
        (takes_then (λ o. limit_size o limits.count) Any (array_of inside) (limits.line + 2) (limits.count * m) bs (line_as (bounds limits) (size_line (Some limits.count)) bs) (size_takes limits.count bs) (λ o rest h. array_by o rest h))

    nested_counted : (least k : ℕ) → limits.line + 2 + k ≤ all → (f : ℕ → List ℕ → Found Data) → ((n : ℕ) (rest : List ℕ) → n ≤ limits.count → Takes Any k rest (f n rest)) → (bs : List ℕ)
        → Takes Any all bs (found_and_then f (line_as (bounds limits) (count_line (bounds limits) least (Some limits.count)) bs))
    nested_counted least k le f next bs = takes_more Any ((limits.line + 2) + k) all le bs _ (behind_count least limits.count k f next bs)

    push_by : (n : ℕ) (bs : List ℕ) → n ≤ limits.count → Takes Any (longest_plain limits + limits.count * m) bs (push_of (bounds limits) inside n bs)
    push_by n bs h =
        takes_then Any Any (push_with inside n) (longest_plain limits) (limits.count * m) bs (kind (bounds limits) bs) (kind_takes bs)
        (λ k rest t. takes_map Any Any (λ ds. push (kind_of k) (items_of ds)) (limits.count * m) rest (repeated inside (n - 1) rest) (values_take (n - 1) (omega (arith, h)) rest) (λ ds. tt))

    attribute_by : (n : ℕ) (bs : List ℕ) → n ≤ limits.count → Takes Any ((limits.count * m + limits.count * m) + m) bs (attribute_of inside n bs)
    attribute_by n bs h =
        takes_then Any Any (attributed inside) (limits.count * m + limits.count * m) m bs (repeated (pair inside) n bs) (pairs_take n h bs)
        (λ ps rest t. takes_map Any Any (λ v. attribute v (members_of ps)) m rest (inside rest) (each rest) (λ v. tt))

    nested_take : AllTake all (nested (bounds limits) inside)
    nested_take = (
      array_takes,
      (
        nested_counted 0 (limits.count * m) (omega (arith, sum_is)) (set_of inside) (λ n rest h. takes_map Any Any (λ ds. set (items_of ds)) (limits.count * m) rest (repeated inside n rest) (values_take n h rest) (λ ds. tt)),
        (
          nested_counted 0 (limits.count * m + limits.count * m) (omega (arith, sum_is)) (map_of inside) (λ n rest h. takes_map Any Any (λ ps. dict (members_of ps)) (limits.count * m + limits.count * m) rest (repeated (pair inside) n rest) (pairs_take n h rest) (λ ps. tt)),
          (
            nested_counted 1 (longest_plain limits + limits.count * m) (omega (arith, sum_is, least)) (push_of (bounds limits) inside) push_by,
            (nested_counted 0 ((limits.count * m + limits.count * m) + m) (omega (arith, sum_is)) (attribute_of inside) attribute_by, tt),
          ),
        ),
      ),
    )

  plain_least : (n : ℕ) → longest_plain limits ≤ longest_value limits n
  plain_least zero = omega arith
  plain_least (suc n) = omega arith

  pub value_takes : (n : ℕ) (bs : List ℕ) → Takes Any (longest_value limits n) bs (reading limits n bs)
  value_takes zero bs =
      takes_more Any (1 + (limits.line + limits.bulk + 4)) (longest_value limits 0) (omega arith) bs (reading limits 0 bs)
      (form_takes (limits.line + limits.bulk + 4) (omega arith) (innermost (bounds limits)) (innermost_take (limits.line + limits.bulk + 4) (omega arith)) bs)
  value_takes (suc n) bs =
      let m = longest_value limits n in
      let most = limits.line + limits.bulk + 4 + (2 * limits.count + 1) * m in
      takes_more Any (1 + most) (longest_value limits (suc n)) (omega arith) bs (reading limits (suc n) bs)
      (form_takes most (omega arith) (nested (bounds limits) (reading limits n)) (nested_take (reading limits n) m (plain_least n) (value_takes n)) bs)

  read_by : (bs : List ℕ) (x : Found Data) (v : Data) (rest : List ℕ) (most : ℕ) → Takes Any most bs x → x ≡ read v rest → length bs ≤ length rest + most
  read_by bs x v rest most h e = (subst (Takes Any most bs) e h).0

  -- a value is no longer than that, and neither is a text that is not one yet
  pub read_is_bounded : (bs : List ℕ) (v : Data) (rest : List ℕ) → reading limits limits.depth bs ≡ read v rest → length bs ≤ length rest + longest_value limits limits.depth
  read_is_bounded bs v rest e = read_by bs (reading limits limits.depth bs) v rest (longest_value limits limits.depth) (value_takes limits.depth bs) e

  pub short_is_bounded : (bs : List ℕ) → reading limits limits.depth bs ≡ short → length bs ≤ longest_value limits limits.depth
  short_is_bounded bs e = subst (Takes Any (longest_value limits limits.depth) bs) e (value_takes limits.depth bs)
