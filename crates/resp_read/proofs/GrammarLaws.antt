-- What the parser finds is what the grammar reads.
use Rattle.std.proofs.Common.{◌≡◌, ℕ, zero, suc, ◌-◌, List, [], ◌∷◌, ◌++◌, length, take, drop, Option, Some, None, Bool, true, false, cond, refl, sym, ap, ◌∙◌}
use Rattle.std.specs.Prelude.{◌==◌, nat_lt, option_map}
use Rattle.resp_value.specs.Data.{Data, bulk, array, dict, attribute, set, verbatim, push, items_of, members_of}
use Rattle.resp_value.specs.Kinds.{kind_of}
use Rattle.resp_read.specs.Grammar.{Limits, fits, error_of, read_then, read_as, line_end, whole_line, line_of, so_many, before, before_end, text, bulk_or_nil, verbatim_text, several, two, array_or_nil, push_kind, push_values, with_attributes, Forms, plain_forms, nested_forms, innermost_forms, form_of, value_of, value_within}
use Rattle.resp_read.specs.Parser.{Found, read, short, bad, found_and_then, found_map, Line, ended, held, unended, broken, after_return, byte_before, line, LineForm, found, line_found, line_as, fed, closed, body, simple_line, error_line, number_line, null_line, boolean_line, double_line, big_line, no_array_line, size_line, count_line, text_line, bulk_of, error_body, some_bytes, colon, format, text_of, verbatim_of, repeated, pair, array_of, set_of, map_of, attributed, attribute_of, kind, push_with, push_of, Table, plain, nested, innermost, chosen, form, parse_within}

-- the value that was found, and what is left after it
abbrev pub known : {A : Type 0} → Found A → Option (A × List ℕ)
known (read a rest) = Some (a, rest)
known short = None
known bad = None

module _ {A B : Type 0} where
  known_then : (f : A → List ℕ → Found B) (g : A → List ℕ → Option (B × List ℕ)) (x : Found A) (y : Option (A × List ℕ)) → known x ≡ y → ((a : A) (rest : List ℕ) → known (f a rest) ≡ g a rest) → known (found_and_then f x) ≡ read_then g y
  known_then f g (read a rest) y is same = same a rest ∙ ap (read_then g) is
  known_then f g short y is same = ap (read_then g) is
  known_then f g bad y is same = ap (read_then g) is

  known_map : (h : A → B) (x : Found A) (y : Option (A × List ℕ)) → known x ≡ y → known (found_map h x) ≡ read_as h y
  known_map h x y is = known_then (λ a rest. read (h a) rest) (λ a rest. Some (h a, rest)) x y is (λ a rest. refl)

module _ {A : Type 0} where
  known_if : (c : Bool) (x w : Found A) (y z : Option (A × List ℕ)) → known x ≡ y → known w ≡ z → known (cond c x w) ≡ cond c y z
  known_if true x w y z h k = h
  known_if false x w y z h k = k

  never : (c : Bool) → known {A = A} (cond c short bad) ≡ None
  never true = refl
  never false = refl

  judged : (c : Bool) (o : Option A) (rest : List ℕ) → known (cond c (found o rest) bad) ≡ cond c (option_map (λ a. (a, rest)) o) None
  judged true (Some a) rest = refl
  judged true None rest = refl
  judged false o rest = refl

-- a line that has ended
abbrev ended_of : Line → Option (List ℕ × List ℕ)
ended_of (ended l rest) = Some (l, rest)
ended_of (held l) = None
ended_of (unended l) = None
ended_of broken = None

feed_by : (c : Bool) (bs : List ℕ) → ended_of (cond c (ended [] bs) broken) ≡ cond c (Some ([], bs)) None
feed_by true bs = refl
feed_by false bs = refl

return_is : (bs : List ℕ) → ended_of (after_return bs) ≡ line_end bs
return_is [] = refl
return_is (b ∷ bs) = feed_by (b == 10) bs

before_is : (b : ℕ) (x : Line) (y : Option (List ℕ × List ℕ)) → ended_of x ≡ y → ended_of (byte_before b x) ≡ read_as (λ l. b ∷ l) y
before_is b (ended l rest) y is = ap (read_as (λ l. b ∷ l)) is
before_is b (held l) y is = ap (read_as (λ l. b ∷ l)) is
before_is b (unended l) y is = ap (read_as (λ l. b ∷ l)) is
before_is b broken y is = ap (read_as (λ l. b ∷ l)) is

line_by : (c : Bool) (b : ℕ) (bs : List ℕ) → ended_of (line bs) ≡ whole_line bs → ended_of (cond c (after_return bs) (byte_before b (line bs))) ≡ cond c (line_end bs) (read_as (λ l. b ∷ l) (whole_line bs))
line_by true b bs h = return_is bs
line_by false b bs h = before_is b (line bs) (whole_line bs) h

line_is : (bs : List ℕ) → ended_of (line bs) ≡ whole_line bs
line_is [] = refl
line_is (b ∷ bs) = line_by (b == 13) b bs (line_is bs)

module _ {A : Type 0} (limits : Limits) (form : LineForm A) where
  abbrev made_of : List ℕ → List ℕ → Option (A × List ℕ)
  made_of l rest = cond (fits limits l) (option_map (λ a. (a, rest)) (form.whole l)) None

  line_known : (x : Line) (y : Option (List ℕ × List ℕ)) → ended_of x ≡ y → known (line_found limits form x) ≡ read_then made_of y
  line_known (ended l rest) y is = judged (fits limits l) (form.whole l) rest ∙ ap (read_then made_of) is
  line_known (held l) y is = never _ ∙ ap (read_then made_of) is
  line_known (unended l) y is = never _ ∙ ap (read_then made_of) is
  line_known broken y is = ap (read_then made_of) is

  pub line_as_is : (bs : List ℕ) → known (line_as limits form bs) ≡ line_of limits form.whole bs
  line_as_is bs = line_known (line bs) (whole_line bs) (line_is bs)

module _ {A : Type 0} (v : A) where
  fed_is : (bs : List ℕ) → known (fed v bs) ≡ before 10 v bs
  fed_is [] = refl
  fed_is (b ∷ bs) = known_if (b == 10) (read v bs) bad (Some (v, bs)) None refl refl

  closed_by : (c : Bool) (bs : List ℕ) → known (cond c (fed v bs) bad) ≡ read_then (before 10) (cond c (Some (v, bs)) None)
  closed_by true bs = fed_is bs
  closed_by false bs = refl

  closed_is : (bs : List ℕ) → known (closed v bs) ≡ before_end v bs
  closed_is [] = refl
  closed_is (b ∷ bs) = closed_by (b == 13) bs

  colon_is : (bs : List ℕ) → known (colon v bs) ≡ before 58 v bs
  colon_is [] = refl
  colon_is (b ∷ bs) = known_if (b == 58) (read v bs) bad (Some (v, bs)) None refl refl

body_by : (c : Bool) (front rest : List ℕ) → known (cond c short (closed front rest)) ≡ read_then before_end (cond c None (Some (front, rest)))
body_by true front rest = refl
body_by false front rest = closed_is front rest

body_is : (n : ℕ) (bs : List ℕ) → known (body n bs) ≡ text n bs
body_is n bs = body_by (nat_lt (length bs) n) (take n bs) (drop n bs)

some_is : (n : ℕ) (bs : List ℕ) → known (some_bytes n bs) ≡ so_many n bs
some_is n bs = known_if (nat_lt (length bs) n) short (read (take n bs) (drop n bs)) None (Some (take n bs, drop n bs)) refl refl

bulk_is : (n : Option ℕ) (bs : List ℕ) → known (bulk_of n bs) ≡ bulk_or_nil n bs
bulk_is None bs = refl
bulk_is (Some n) bs = known_map bulk (body n bs) (text n bs) (body_is n bs)

format_is : (bs : List ℕ) → known (format bs) ≡ read_then (before 58) (so_many 3 bs)
format_is bs = known_then colon (before 58) (some_bytes 3 bs) (so_many 3 bs) (some_is 3 bs) colon_is

verbatim_is : (n : ℕ) (bs : List ℕ) → known (verbatim_of n bs) ≡ verbatim_text n bs
verbatim_is n bs =
    known_then (text_of n) (λ f rest. read_as (verbatim f) (text (n - 4) rest)) (format bs) (read_then (before 58) (so_many 3 bs)) (format_is bs)
    (λ f rest. known_map (verbatim f) (body (n - 4) rest) (text (n - 4) rest) (body_is (n - 4) rest))

-- one after another
module _ {A : Type 0} (inside : List ℕ → Found A) (within : List ℕ → Option (A × List ℕ)) (same : (bs : List ℕ) → known (inside bs) ≡ within bs) where
  repeated_is : (n : ℕ) (bs : List ℕ) → known (repeated inside n bs) ≡ several within n bs
  repeated_is zero bs = refl
  repeated_is (suc n) bs =
      known_then (λ a rest. found_map (λ others. a ∷ others) (repeated inside n rest)) (λ a rest. read_as (λ others. a ∷ others) (several within n rest)) (inside bs) (within bs) (same bs)
      (λ a rest. known_map (λ others. a ∷ others) (repeated inside n rest) (several within n rest) (repeated_is n rest))

-- the forms of the two tables, one by one
abbrev SameForms : Table → Forms → Type 0
SameForms [] [] = Unit {0}
SameForms (f ∷ fs) (g ∷ gs) = (f.0 ≡ g.0) × ((bs : List ℕ) → known (f.1 bs) ≡ g.1 bs) × SameForms fs gs
SameForms [] (g ∷ gs) = ⊥
SameForms (f ∷ fs) [] = ⊥

chosen_is : (fs : Table) (gs : Forms) → SameForms fs gs → (b : ℕ) (bs : List ℕ) → known (chosen fs b bs) ≡ form_of gs b bs
chosen_is [] [] h b bs = refl
chosen_is (f ∷ fs) (g ∷ gs) h b bs =
    known_if (b == f.0) (f.1 bs) (chosen fs b bs) (g.1 bs) (form_of gs b bs) (h.1 bs) (chosen_is fs gs h.2 b bs) ∙ ap (λ k. cond (b == k) (g.1 bs) (form_of gs b bs)) h.0
chosen_is [] (g ∷ gs) h b bs = absurd h
chosen_is (f ∷ fs) [] h b bs = absurd h

more_same : (fs more : Table) (gs others : Forms) → SameForms fs gs → SameForms more others → SameForms (fs ++ more) (gs ++ others)
more_same [] more [] others h k = k
more_same (f ∷ fs) more (g ∷ gs) others h k = (h.0, h.1, more_same fs more gs others h.2 k)
more_same [] more (g ∷ gs) others h k = absurd h
more_same (f ∷ fs) more [] others h k = absurd h

module _ (limits : Limits) where
  -- the line of a length, and what stands behind it
  counted : (least : ℕ) (most : Option ℕ) (f : ℕ → List ℕ → Found Data) (g : ℕ → List ℕ → Option (Data × List ℕ)) → ((n : ℕ) (rest : List ℕ) → known (f n rest) ≡ g n rest) → (bs : List ℕ)
      → known (found_and_then f (line_as limits (count_line limits least most) bs)) ≡ read_then g (line_of limits (count_line limits least most).whole bs)
  counted least most f g same bs = known_then f g (line_as limits (count_line limits least most) bs) (line_of limits (count_line limits least most).whole bs) (line_as_is limits (count_line limits least most) bs) same

  sized : (most : Option ℕ) (f : Option ℕ → List ℕ → Found Data) (g : Option ℕ → List ℕ → Option (Data × List ℕ)) → ((n : Option ℕ) (rest : List ℕ) → known (f n rest) ≡ g n rest) → (bs : List ℕ)
      → known (found_and_then f (line_as limits (size_line most) bs)) ≡ read_then g (line_of limits (size_line most).whole bs)
  sized most f g same bs = known_then f g (line_as limits (size_line most) bs) (line_of limits (size_line most).whole bs) (line_as_is limits (size_line most) bs) same

  plain_same : SameForms (plain limits) (plain_forms limits)
  plain_same = (refl, line_as_is limits simple_line, (refl, line_as_is limits error_line, (refl, line_as_is limits number_line, (refl, sized limits.bulk bulk_of bulk_or_nil bulk_is, (refl, line_as_is limits null_line, (refl, line_as_is limits boolean_line, (refl, line_as_is limits (double_line limits), (refl, line_as_is limits big_line, (refl, counted 0 limits.bulk error_body (λ n rest. read_as error_of (text n rest)) (λ n rest. known_map error_of (body n rest) (text n rest) (body_is n rest)), (refl, counted 4 limits.bulk verbatim_of verbatim_text verbatim_is, tt))))))))))

  kind_is : (bs : List ℕ) → known (kind limits bs) ≡ push_kind limits bs
  kind_is [] = refl
  kind_is (b ∷ bs) =
      known_if (b == 43) _ _ _ _ (line_as_is limits text_line bs)
      (known_if (b == 36) _ _ _ _ (known_then body text (line_as limits (count_line limits 0 limits.bulk) bs) (line_of limits (count_line limits 0 limits.bulk).whole bs) (line_as_is limits (count_line limits 0 limits.bulk) bs) body_is) refl)

  module _ (inside : List ℕ → Found Data) (within : List ℕ → Option (Data × List ℕ)) (same : (bs : List ℕ) → known (inside bs) ≡ within bs) where
    values_are : (n : ℕ) (bs : List ℕ) → known (repeated inside n bs) ≡ several within n bs
    values_are = repeated_is inside within same

    pair_is : (bs : List ℕ) → known (pair inside bs) ≡ two within bs
    pair_is bs = known_then (λ k rest. found_map (λ v. (k, v)) (inside rest)) (λ k rest. read_as (λ v. (k, v)) (within rest)) (inside bs) (within bs) (same bs) (λ k rest. known_map (λ v. (k, v)) (inside rest) (within rest) (same rest))

    pairs_are : (n : ℕ) (bs : List ℕ) → known (repeated (pair inside) n bs) ≡ several (two within) n bs
    pairs_are = repeated_is (pair inside) (two within) pair_is

    array_is : (n : Option ℕ) (bs : List ℕ) → known (array_of inside n bs) ≡ array_or_nil within n bs
    array_is None bs = refl
    array_is (Some n) bs = known_map (λ ds. array (items_of ds)) (repeated inside n bs) (several within n bs) (values_are n bs)

    push_is : (n : ℕ) (bs : List ℕ) → known (push_of limits inside n bs) ≡ push_values limits within n bs
    push_is n bs =
        known_then (push_with inside n) (λ k rest. read_as (λ ds. push (kind_of k) (items_of ds)) (several within (n - 1) rest)) (kind limits bs) (push_kind limits bs) (kind_is bs)
        (λ k rest. known_map (λ ds. push (kind_of k) (items_of ds)) (repeated inside (n - 1) rest) (several within (n - 1) rest) (values_are (n - 1) rest))

    attribute_is : (n : ℕ) (bs : List ℕ) → known (attribute_of inside n bs) ≡ with_attributes within n bs
    attribute_is n bs =
        known_then (attributed inside) (λ ps rest. read_as (λ v. attribute v (members_of ps)) (within rest)) (repeated (pair inside) n bs) (several (two within) n bs) (pairs_are n bs)
        (λ ps rest. known_map (λ v. attribute v (members_of ps)) (inside rest) (within rest) (same rest))

    nested_same : SameForms (nested limits inside) (nested_forms limits within)
    nested_same = (refl, sized limits.count (array_of inside) (array_or_nil within) array_is, (refl, counted 0 limits.count (set_of inside) (λ n rest. read_as (λ ds. set (items_of ds)) (several within n rest)) (λ n rest. known_map (λ ds. set (items_of ds)) (repeated inside n rest) (several within n rest) (values_are n rest)), (refl, counted 0 limits.count (map_of inside) (λ n rest. read_as (λ ps. dict (members_of ps)) (several (two within) n rest)) (λ n rest. known_map (λ ps. dict (members_of ps)) (repeated (pair inside) n rest) (several (two within) n rest) (pairs_are n rest)), (refl, counted 1 limits.count (push_of limits inside) (push_values limits within) push_is, (refl, counted 0 limits.count (attribute_of inside) (with_attributes within) attribute_is, tt)))))

  innermost_same : SameForms (innermost limits) (innermost_forms limits)
  innermost_same = (refl, line_as_is limits no_array_line, tt)

  form_is : (more : Table) (others : Forms) → SameForms more others → (bs : List ℕ) → known (form limits more bs) ≡ value_of limits others bs
  form_is more others h [] = refl
  form_is more others h (b ∷ bs) = chosen_is (plain limits ++ more) (plain_forms limits ++ others) (more_same (plain limits) more (plain_forms limits) others plain_same h) b bs

  pub parse_is : (n : ℕ) (bs : List ℕ) → known (parse_within limits n bs) ≡ value_within limits n bs
  parse_is zero bs = form_is (innermost limits) (innermost_forms limits) innermost_same bs
  parse_is (suc n) bs = form_is (nested limits (parse_within limits n)) (nested_forms limits (value_within limits n)) (nested_same (parse_within limits n) (value_within limits n) (parse_is n)) bs

  -- a value is found where the grammar reads it, and nowhere else
  pub read_where_found : (n : ℕ) (bs : List ℕ) (v : Data) (rest : List ℕ) → parse_within limits n bs ≡ read v rest → value_within limits n bs ≡ Some (v, rest)
  read_where_found n bs v rest e = sym (parse_is n bs) ∙ ap known e

  found_by : (x : Found Data) (v : Data) (rest : List ℕ) → known x ≡ Some (v, rest) → x ≡ read v rest
  found_by (read w s) v rest e = let same : ◌≡◌ {A = Data × List ℕ} (w, s) (v, rest) = cc in ap (λ (x : Data × List ℕ). read x.0 x.1) same
  found_by short v rest e = cc
  found_by bad v rest e = cc

  pub found_where_read : (n : ℕ) (bs : List ℕ) (v : Data) (rest : List ℕ) → value_within limits n bs ≡ Some (v, rest) → parse_within limits n bs ≡ read v rest
  found_where_read n bs v rest e = found_by (parse_within limits n bs) v rest (parse_is n bs ∙ e)
