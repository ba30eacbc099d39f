-- An error that was read from a text no longer than a line is no longer than that.
use Rattle.std.proofs.Common.{◌≡◌, ℕ, zero, suc, ◌+◌, ◌-◌, ◌≤◌, List, [], ◌∷◌, ◌++◌, length, take, drop, Option, Some, None, Bool, true, false, cond, lit≤, refl, sym, ap, ◌∙◌, subst, arith, length-append}
use Rattle.std.proofs.lemmas.List.{length-take-le}
use Rattle.std.proofs.lemmas.Bool.Decides.{nat_tests}
use Rattle.std.specs.Prelude.{◌==◌, nat_lt, bytes_eq}
use Rattle.resp_value.specs.Data.{Data, nil, int, bulk, array, simple, okay, dict, attribute, set, double, boolean, verbatim, big, push, items_of, members_of}
use Rattle.resp_value.specs.Kinds.{kind_of}
use Rattle.resp_read.specs.Grammar.{is_end, is_double, is_big, number, truth, simple_of, error_of, max_line, max_bulk, max_count, max_depth, reader_limits}
use Rattle.resp_read.specs.Parser.{read, short, bad, Found, found_and_then, found_map, line_as, size_line, count_line, simple_line, error_line, number_line, null_line, boolean_line, double_line, big_line, no_array_line, closed, body, bulk_of, bulk_string, error_body, bulk_error, format, text_of, verbatim_of, verbatim_string, repeated, pair, array_of, array_form, set_of, set_form, map_of, map_form, attributed, attribute_of, attribute_form, kind, push_with, push_of, push_form, Table, plain, nested, innermost, chosen, form, parse}
use Rattle.resp_read.specs.Reads.{Reads}
use Rattle.resp_read.specs.Limits.{default_limits}
use Rattle.resp_read.proofs.ReadLaws.{default_allowed, found_where_reads}
use Rattle.resp_read.proofs.Laws.{Lawful, Possible, lawful_then, lawful_map, possible_map, possible_then}
use Rattle.resp_read.proofs.LineLaws.{lawful_line}
use Rattle.resp_read.proofs.Numbers.{lawful_size}
use Rattle.resp_read.proofs.Bodies.{lawful_counted, lawful_kind}
use Rattle.resp_read.proofs.Repeats.{lawful_repeated}
use Rattle.resp_read.proofs.ParseLaws.{lawful_parse}
use Rattle.resp_write.specs.Canonical.{canonical}
use Rattle.canonical_laws.specs.Readable.{HasShortErrors, EachShort, EachPairShort}
use Rattle.canonical_laws.proofs.Held.{IfRead, was_read, held_if, held_then, held_map, held_line, some_is, held_closed}
use Rattle.canonical_laws.proofs.GivenPlain.{mapped, where_test, words_back}
use Rattle.canonical_laws.proofs.Given.{read_again}

-- no longer than a line
abbrev IsShort : List ℕ → Type 0
IsShort bs = length bs ≤ max_line

abbrev Any : {A : Type 0} → A → Type 0
Any a = Unit {0}

any_read : {A : Type 0} (x : Found A) → IfRead Any x
any_read (read a rest) = tt
any_read short = tt
any_read bad = tt

-- what stands behind a short text's first part is short
module _ {A B : Type 0} (f : List ℕ → Found A) (g : A → List ℕ → Found B) (P : A → Type 0) (Q : B → Type 0) (lawful : Lawful f) (bs : List ℕ) (fit : IsShort bs) (next : (a : A) (rest : List ℕ) → IsShort rest → P a → IfRead Q (g a rest)) where
  then_by : (x : Found A) → f bs ≡ x → IfRead P x → IfRead Q (found_and_then g x)
  then_by (read a rest) is h =
      let end = (lawful bs).ends a rest is in
      let n : length bs ≡ length end.0 + length rest = ap length end.1 ∙ length-append end.0 rest in
      next a rest (omega (arith, n, fit)) h
  then_by short is h = tt
  then_by bad is h = tt

  short_then : IfRead P (f bs) → IfRead Q (found_and_then g (f bs))
  short_then h = then_by (f bs) refl h

-- forms that hold no values
error_short : (l : List ℕ) → length l ≤ max_line → HasShortErrors reader_limits (error_of l)
error_short l fit not = subst (λ x. length x ≤ max_line) (sym (words_back l)) fit

simple_short : (l : List ℕ) (c : Bool) → HasShortErrors reader_limits (cond c okay (simple l))
simple_short l true = tt
simple_short l false = tt

-- a form gives only values whose errors are short, where it is given a short text
abbrev GivesShort : (List ℕ → Found Data) → Type 0
GivesShort f = (bs : List ℕ) → IsShort bs → IfRead (HasShortErrors reader_limits) (f bs)

simple_gives : GivesShort (line_as reader_limits simple_line)
simple_gives bs fit = held_line simple_line (HasShortErrors reader_limits) (λ l v h e. subst (HasShortErrors reader_limits) (some_is (simple_of l) v e) (simple_short l (bytes_eq l (79 ∷ 75 ∷ [])))) bs

error_gives : GivesShort (line_as reader_limits error_line)
error_gives bs fit = held_line error_line (HasShortErrors reader_limits) (λ l v h e. subst (HasShortErrors reader_limits) (some_is (error_of l) v e) (error_short l h.1)) bs

number_gives : GivesShort (line_as reader_limits number_line)
number_gives bs fit = held_line number_line (HasShortErrors reader_limits) (λ l v h e. mapped (HasShortErrors reader_limits) int (number l) v (λ n is. tt) e) bs

null_gives : GivesShort (line_as reader_limits null_line)
null_gives bs fit = held_line null_line (HasShortErrors reader_limits) (λ l v h e. where_test (HasShortErrors reader_limits) (is_end l) nil v (λ is. tt) e) bs

boolean_gives : GivesShort (line_as reader_limits boolean_line)
boolean_gives bs fit = held_line boolean_line (HasShortErrors reader_limits) (λ l v h e. mapped (HasShortErrors reader_limits) boolean (truth l) v (λ b is. tt) e) bs

double_gives : GivesShort (line_as reader_limits (double_line reader_limits))
double_gives bs fit = held_line (double_line reader_limits) (HasShortErrors reader_limits) (λ l v h e. where_test (HasShortErrors reader_limits) (is_double l) (double l) v (λ is. tt) e) bs

big_gives : GivesShort (line_as reader_limits big_line)
big_gives bs fit = held_line big_line (HasShortErrors reader_limits) (λ l v h e. where_test (HasShortErrors reader_limits) (is_big l) (big l) v (λ is. tt) e) bs

no_array_gives : GivesShort (line_as reader_limits no_array_line)
no_array_gives bs fit = held_line no_array_line (HasShortErrors reader_limits) (λ l v h e. where_test (HasShortErrors reader_limits) (bytes_eq l (45 ∷ 49 ∷ [])) nil v (λ is. tt) e) bs

bulk_by : (o : Option ℕ) (bs : List ℕ) → IfRead (HasShortErrors reader_limits) (bulk_of o bs)
bulk_by None bs = tt
bulk_by (Some n) bs = held_map Any (HasShortErrors reader_limits) bulk (body n bs) (any_read (body n bs)) (λ t h. tt)

bulk_gives : GivesShort (bulk_string reader_limits)
bulk_gives bs fit = held_then Any (HasShortErrors reader_limits) bulk_of (line_as reader_limits (size_line (Some max_bulk)) bs) (any_read (line_as reader_limits (size_line (Some max_bulk)) bs)) (λ o rest h. bulk_by o rest)

body_by : (n : ℕ) (bs : List ℕ) (c : Bool) → IsShort bs → nat_lt (length bs) n ≡ c → IfRead IsShort (cond c short (closed (take n bs) (drop n bs)))
body_by n bs true fit is = tt
body_by n bs false fit is =
    let some : n ≤ length bs = grind (arith, nat_tests) in
    held_closed IsShort (take n bs) (omega (arith, some, fit, length-take-le n bs some)) (drop n bs)

bulk_error_gives : GivesShort (bulk_error reader_limits)
bulk_error_gives bs fit =
    short_then (line_as reader_limits (count_line reader_limits 0 (Some max_bulk))) error_body Any (HasShortErrors reader_limits) (lawful_counted default_limits default_allowed 0 max_bulk (lit≤ tt) (lit≤ tt)) bs fit
    (λ n rest k h. held_map IsShort (HasShortErrors reader_limits) error_of (body n rest) (body_by n rest (nat_lt (length rest) n) k refl) (λ t is. error_short t is)) (any_read (line_as reader_limits (count_line reader_limits 0 (Some max_bulk)) bs))

text_by : (n : ℕ) (f bs : List ℕ) → IfRead (HasShortErrors reader_limits) (text_of n f bs)
text_by n f bs = held_map Any (HasShortErrors reader_limits) (verbatim f) (body (n - 4) bs) (any_read (body (n - 4) bs)) (λ t h. tt)

verbatim_gives : GivesShort (verbatim_string reader_limits)
verbatim_gives bs fit =
    held_then Any (HasShortErrors reader_limits) verbatim_of (line_as reader_limits (count_line reader_limits 4 (Some max_bulk)) bs) (any_read (line_as reader_limits (count_line reader_limits 4 (Some max_bulk)) bs))
    (λ n rest h. held_then Any (HasShortErrors reader_limits) (text_of n) (format rest) (any_read (format rest)) (λ f others k. text_by n f others))

-- each form of a table does
abbrev AllShort : Table → Type 0
AllShort [] = Unit {0}
AllShort (f ∷ fs) = GivesShort f.1 × AllShort fs

plain_short : AllShort (plain reader_limits)
plain_short = (
  simple_gives,
  (error_gives, (number_gives, (bulk_gives, (null_gives, (boolean_gives, (double_gives, (big_gives, (bulk_error_gives, (verbatim_gives, tt))))))))),
)

chosen_short : (fs : Table) → AllShort fs → (b : ℕ) → GivesShort (chosen fs b)
chosen_short [] h b bs fit = tt
chosen_short (f ∷ fs) h b bs fit = held_if (HasShortErrors reader_limits) (b == f.0) (f.1 bs) (chosen fs b bs) (h.0 bs fit) (chosen_short fs h.1 b bs fit)

more_short : (fs gs : Table) → AllShort fs → AllShort gs → AllShort (fs ++ gs)
more_short [] gs h k = k
more_short (f ∷ fs) gs h k = (h.0, more_short fs gs h.1 k)

form_short : (more : Table) → AllShort more → GivesShort (form reader_limits more)
form_short more k [] fit = tt
form_short more k (b ∷ bs) fit = chosen_short (plain reader_limits ++ more) (more_short (plain reader_limits) more plain_short k) b bs (omega (arith, fit))

module _ (inside : List ℕ → Found Data) (lawful : Lawful inside) (some : Possible inside) (gives : GivesShort inside) where
  abbrev ItemsShort : List Data → Type 0
  ItemsShort ds = EachShort reader_limits (items_of ds)

  abbrev PairShort : Data × Data → Type 0
  PairShort p = HasShortErrors reader_limits p.0 × HasShortErrors reader_limits p.1

  abbrev PairsShort : List (Data × Data) → Type 0
  PairsShort ps = EachPairShort reader_limits (members_of ps)

  abbrev second : Data → List ℕ → Found (Data × Data)
  second k rest = found_map (λ v. (k, v)) (inside rest)

  pair_lawful : Lawful (pair inside)
  pair_lawful = lawful_then inside second lawful (λ k. lawful_map (λ v. (k, v)) inside lawful) (λ k. possible_map (λ v. (k, v)) inside some)

  pair_possible : Possible (pair inside)
  pair_possible = possible_then inside second lawful some (λ k. possible_map (λ v. (k, v)) inside some)

  items_gives : (n : ℕ) (bs : List ℕ) → IsShort bs → IfRead ItemsShort (repeated inside n bs)
  items_gives zero bs fit = tt
  items_gives (suc n) bs fit =
      short_then inside (λ a rest. found_map (λ others. a ∷ others) (repeated inside n rest)) (HasShortErrors reader_limits) ItemsShort lawful bs fit
      (λ a rest k h. held_map ItemsShort ItemsShort (λ others. a ∷ others) (repeated inside n rest) (items_gives n rest k) (λ others s. (h, s))) (gives bs fit)

  pair_gives : (bs : List ℕ) → IsShort bs → IfRead PairShort (pair inside bs)
  pair_gives bs fit =
      short_then inside second (HasShortErrors reader_limits) PairShort lawful bs fit
      (λ a rest k h. held_map (HasShortErrors reader_limits) PairShort (λ v. (a, v)) (inside rest) (gives rest k) (λ v s. (h, s))) (gives bs fit)

  pairs_gives : (n : ℕ) (bs : List ℕ) → IsShort bs → IfRead PairsShort (repeated (pair inside) n bs)
  pairs_gives zero bs fit = tt
  pairs_gives (suc n) bs fit =
      short_then (pair inside) (λ a rest. found_map (λ others. a ∷ others) (repeated (pair inside) n rest)) PairShort PairsShort pair_lawful bs fit
      (λ a rest k h. held_map PairsShort PairsShort (λ others. a ∷ others) (repeated (pair inside) n rest) (pairs_gives n rest k) (λ others s. (h.0, h.1, s))) (pair_gives bs fit)

  counted : (g : ℕ → List ℕ → Found Data) → ((n : ℕ) → GivesShort (g n)) → GivesShort (λ bs. found_and_then g (line_as reader_limits (count_line reader_limits 0 (Some max_count)) bs))
  counted g h bs fit =
      short_then (line_as reader_limits (count_line reader_limits 0 (Some max_count))) g Any (HasShortErrors reader_limits) (lawful_counted default_limits default_allowed 0 max_count (lit≤ tt) (lit≤ tt)) bs fit (λ n rest k s. h n rest k) (any_read (line_as reader_limits (count_line reader_limits 0 (Some max_count)) bs))

  array_by : (o : Option ℕ) → GivesShort (array_of inside o)
  array_by None bs fit = tt
  array_by (Some n) bs fit = held_map ItemsShort (HasShortErrors reader_limits) (λ ds. array (items_of ds)) (repeated inside n bs) (items_gives n bs fit) (λ ds s. s)

  array_gives : GivesShort (array_form reader_limits inside)
  array_gives bs fit =
      short_then (line_as reader_limits (size_line (Some max_count))) (array_of inside) Any (HasShortErrors reader_limits) (lawful_line default_limits (size_line (Some max_count)) (lawful_size default_limits default_allowed max_count)) bs fit (λ o rest k s. array_by o rest k) (any_read (line_as reader_limits (size_line (Some max_count)) bs))

  set_gives : GivesShort (set_form reader_limits inside)
  set_gives = counted (set_of inside) (λ n bs fit. held_map ItemsShort (HasShortErrors reader_limits) (λ ds. set (items_of ds)) (repeated inside n bs) (items_gives n bs fit) (λ ds s. s))

  dict_gives : GivesShort (map_form reader_limits inside)
  dict_gives = counted (map_of inside) (λ n bs fit. held_map PairsShort (HasShortErrors reader_limits) (λ ps. dict (members_of ps)) (repeated (pair inside) n bs) (pairs_gives n bs fit) (λ ps s. s))

  attribute_gives : GivesShort (attribute_form reader_limits inside)
  attribute_gives =
      counted (attribute_of inside)
      (λ n bs fit. short_then (repeated (pair inside) n) (attributed inside) PairsShort (HasShortErrors reader_limits) (lawful_repeated (pair inside) pair_lawful pair_possible n) bs fit
      (λ ps rest k s. held_map (HasShortErrors reader_limits) (HasShortErrors reader_limits) (λ v. attribute v (members_of ps)) (inside rest) (gives rest k) (λ v t. (t, s))) (pairs_gives n bs fit))

  push_gives : GivesShort (push_form reader_limits inside)
  push_gives bs fit =
      short_then (line_as reader_limits (count_line reader_limits 1 (Some max_count))) (push_of reader_limits inside) Any (HasShortErrors reader_limits) (lawful_counted default_limits default_allowed 1 max_count (lit≤ tt) (lit≤ tt)) bs fit
      (λ n rest k s. short_then (kind reader_limits) (push_with inside n) Any (HasShortErrors reader_limits) (lawful_kind default_limits default_allowed) rest k
      (λ text others m t. held_map ItemsShort (HasShortErrors reader_limits) (λ ds. push (kind_of text) (items_of ds)) (repeated inside (n - 1) others) (items_gives (n - 1) others m) (λ ds u. u)) (any_read (kind reader_limits rest)))
      (any_read (line_as reader_limits (count_line reader_limits 1 (Some max_count)) bs))

  nested_short : AllShort (nested reader_limits inside)
  nested_short = (array_gives, (set_gives, (dict_gives, (push_gives, (attribute_gives, tt)))))

parse_some : (n : ℕ) → Possible (parse n)
parse_some zero = (95 ∷ 13 ∷ 10 ∷ [], nil, refl)
parse_some (suc n) = (95 ∷ 13 ∷ 10 ∷ [], nil, refl)

parse_short : (n : ℕ) → GivesShort (parse n)
parse_short zero = form_short (innermost reader_limits) (no_array_gives, tt)
parse_short (suc n) = form_short (nested reader_limits (parse n)) (nested_short (parse n) (lawful_parse default_limits default_allowed n) (parse_some n) (parse_short n))

pub short_errors : (bytes : List ℕ) (v : Data) (rest : List ℕ) → length bytes ≤ max_line → Reads bytes v rest → HasShortErrors reader_limits v
short_errors bytes v rest fit e = was_read (HasShortErrors reader_limits) (parse max_depth bytes) v rest (parse_short max_depth bytes fit) (found_where_reads bytes v rest e)

pub short_text_again : (bytes : List ℕ) (v : Data) (rest more : List ℕ) → length bytes ≤ max_line → Reads bytes v rest → Reads (canonical v ++ more) v more
short_text_again bytes v rest more fit e = read_again bytes v rest more e (short_errors bytes v rest fit e)
