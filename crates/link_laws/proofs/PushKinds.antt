-- No push that is read tells that a link has ended.
use Rattle.std.proofs.Common.{◌≡◌, ℕ, zero, suc, ◌-◌, ◌==◌, ◌&&◌, Bool, true, false, if◌then◌else◌, List, [], ◌∷◌, ◌++◌, length, Option, Some, None, refl}
use Rattle.std.specs.List.{AllByRecursion}
use Rattle.std.specs.Prelude.{option_map, is_some, bytes_eq, codes}
use Rattle.containers.proofs.Choices.{chosen}
use Rattle.resp_value.specs.Data.{Data, nil, okay, simple, push, array, set, dict, attribute, bulk, verbatim, int, boolean, items_of, members_of}
use Rattle.resp_value.specs.Kinds.{kind_of, kind_or, named_kind}
use Rattle.resp_value.specs.declared.push_kind.PushKind.{PushKind}
use Rattle.resp_value.specs.declared.push_kind.PushKind.TheVariants.{Invalidate, Message, PMessage, SMessage, Unsubscribe, PUnsubscribe, SUnsubscribe, Subscribe, PSubscribe, SSubscribe}
use Rattle.resp_read.specs.Grammar.{Limits, max_depth, reader_limits, fits, number, is_end, is_double, is_big, error_of, truth}
use Rattle.resp_read.specs.Values.{values, values_within, first_and}
use Rattle.resp_read.specs.Parser.{Found, read, short, bad, Line, ended, held, unended, broken, LineForm, Table, found, found_and_then, found_map, line, line_found, line_as, body, bulk_of, error_body, text_of, format, verbatim_of, repeated, pair, array_of, set_of, map_of, attributed, attribute_of, push_with, push_of, kind as read_kind, simple_line, error_line, number_line, null_line, boolean_line, double_line, big_line, no_array_line, size_line, count_line, plain, nested, innermost, form, parse_within, chosen as by_first}
use Rattle.driver_model.specs.Push.{is_disconnection}

-- a value that is no push of that kind
abbrev pub IsFromText : Data → Type 0
IsFromText (push kind parts) = is_disconnection kind ≡ false
IsFromText _ = Unit {0}

-- the kind of a text, if it has one of its own
abbrev IsNamed : Option PushKind → Type 0
IsNamed None = Unit {0}
IsNamed (Some kind) = is_disconnection kind ≡ false

-- by which text it is
by_text : (a b c d e f g h i j : Bool) → IsNamed (if a then Some Invalidate else if b then Some Message else if c then Some PMessage else if d then Some SMessage else if e then Some Unsubscribe else if f then Some PUnsubscribe else if g then Some SUnsubscribe else if h then Some Subscribe else if i then Some PSubscribe else if j then Some SSubscribe else None)
by_text true b c d e f g h i j = refl
by_text false true c d e f g h i j = refl
by_text false false true d e f g h i j = refl
by_text false false false true e f g h i j = refl
by_text false false false false true f g h i j = refl
by_text false false false false false true g h i j = refl
by_text false false false false false false true h i j = refl
by_text false false false false false false false true i j = refl
by_text false false false false false false false false true j = refl
by_text false false false false false false false false false true = refl
by_text false false false false false false false false false false = tt

-- of any text
all_named : (text : List ℕ) → IsNamed (named_kind text)
all_named text =
    by_text (bytes_eq text (codes "invalidate"))
    (bytes_eq text (codes "message"))
    (bytes_eq text (codes "pmessage"))
    (bytes_eq text (codes "smessage"))
    (bytes_eq text (codes "unsubscribe"))
    (bytes_eq text (codes "punsubscribe"))
    (bytes_eq text (codes "sunsubscribe"))
    (bytes_eq text (codes "subscribe"))
    (bytes_eq text (codes "psubscribe"))
    (bytes_eq text (codes "ssubscribe"))

-- and of any other
kind_is_other : (o : Option PushKind) (text : List ℕ) → IsNamed o → is_disconnection (kind_or o text) ≡ false
kind_is_other None text named = refl
kind_is_other (Some kind) text named = named

-- so of each text
kind_from_text : (text : List ℕ) → is_disconnection (kind_of text) ≡ false
unfolding kind_of
kind_from_text text = kind_is_other (named_kind text) text (all_named text)

-- what is found
--
-- such a value, if one is
abbrev IfFound : Found Data → Type 0
IfFound (read v rest) = IsFromText v
IfFound short = Unit {0}
IfFound bad = Unit {0}

-- and if some is
abbrev IfSome : Option Data → Type 0
IfSome (Some v) = IsFromText v
IfSome None = Unit {0}

found_then : {A : Type 0} (f : A → List ℕ → Found Data) (x : Found A) → ((a : A) (rest : List ℕ) → IfFound (f a rest)) → IfFound (found_and_then f x)
found_then f (read a rest) h = h a rest
found_then f short h = tt
found_then f bad h = tt

found_as : {A : Type 0} (f : A → Data) (x : Found A) → ((a : A) → IsFromText (f a)) → IfFound (found_map f x)
found_as f (read a rest) h = h a
found_as f short h = tt
found_as f bad h = tt

some_as : {A : Type 0} (f : A → Data) (x : Option A) → ((a : A) → IsFromText (f a)) → IfSome (option_map f x)
some_as f (Some a) h = h a
some_as f None h = tt

whole_found : (o : Option Data) (rest : List ℕ) → IfSome o → IfFound (found o rest)
whole_found (Some v) rest h = h
whole_found None rest h = h

-- where more is wanted, or nothing helps, there is none
never_found : (b : Bool) → IfFound (if b then short else bad)
never_found true = tt
never_found false = tt

line_finds : (limits : Limits) (a : LineForm Data) → ((l : List ℕ) → IfSome (a.whole l)) → (x : Line) → IfFound (line_found limits a x)
line_finds limits a h (ended l rest) = chosen IfFound (fits limits l) (found (a.whole l) rest) bad (λ t. whole_found (a.whole l) rest (h l)) (λ f. tt)
line_finds limits a h (held l) = never_found (fits limits l && is_some (a.whole l))
line_finds limits a h (unended l) = never_found (fits limits l && a.begun l)
line_finds limits a h broken = tt

-- on a line
on_line : (limits : Limits) (a : LineForm Data) → ((l : List ℕ) → IfSome (a.whole l)) → (bytes : List ℕ) → IfFound (line_as limits a bytes)
on_line limits a h bytes = line_finds limits a h (line bytes)

-- one of two by a test
either_text : (b : Bool) (v w : Data) → IsFromText v → IsFromText w → IsFromText (if b then v else w)
either_text true v w h k = h
either_text false v w h k = k

-- a value by a test, or none
by_one : (b : Bool) (v : Data) → IsFromText v → IfSome (if b then Some v else None)
by_one true v h = h
by_one false v h = tt

-- the forms
--
bulk_finds : (n : Option ℕ) (bytes : List ℕ) → IfFound (bulk_of n bytes)
bulk_finds None bytes = tt
bulk_finds (Some n) bytes = found_as bulk (body n bytes) (λ a. tt)

array_finds : (inside : List ℕ → Found Data) (n : Option ℕ) (bytes : List ℕ) → IfFound (array_of inside n bytes)
array_finds inside None bytes = tt
array_finds inside (Some n) bytes = found_as (λ ds. array (items_of ds)) (repeated inside n bytes) (λ a. tt)

-- what reads the bytes behind each first byte finds such values
abbrev Finds : ℕ × (List ℕ → Found Data) → Type 0
Finds f = (bytes : List ℕ) → IfFound (f.1 bytes)

-- the forms that hold no values
plain_finds : (limits : Limits) (more : Table) → AllByRecursion Finds more → AllByRecursion Finds (plain limits ++ more)
plain_finds limits more h = (
  on_line limits simple_line (λ l. either_text (bytes_eq l (79 ∷ 75 ∷ [])) okay (simple l) tt tt),
  (
    on_line limits error_line (λ l. tt),
    (
      on_line limits number_line (λ l. some_as int (number l) (λ a. tt)),
      (
        (λ bytes. found_then bulk_of (line_as limits (size_line limits.bulk) bytes) bulk_finds),
        (
          on_line limits null_line (λ l. by_one (is_end l) _ tt),
          (
            on_line limits boolean_line (λ l. some_as boolean (truth l) (λ a. tt)),
            (
              on_line limits (double_line limits) (λ l. by_one (is_double l) _ tt),
              (
                on_line limits big_line (λ l. by_one (is_big l) _ tt),
                (
                  (λ bytes. found_then error_body (line_as limits (count_line limits 0 limits.bulk) bytes) (λ n rest. found_as error_of (body n rest) (λ a. tt))),
                  (
                    (λ bytes. found_then verbatim_of (line_as limits (count_line limits 4 limits.bulk) bytes) (λ n rest. found_then (text_of n) (format rest) (λ f after. found_as (verbatim f) (body (n - 4) after) (λ a. tt)))),
                    h,
                  ),
                ),
              ),
            ),
          ),
        ),
      ),
    ),
  ),
)

-- those that do
nested_finds : (limits : Limits) (inside : List ℕ → Found Data) → AllByRecursion Finds (nested limits inside)
nested_finds limits inside = (
  (λ bytes. found_then (array_of inside) (line_as limits (size_line limits.count) bytes) (array_finds inside)),
  (
    (λ bytes. found_then (set_of inside) (line_as limits (count_line limits 0 limits.count) bytes) (λ n rest. found_as (λ ds. set (items_of ds)) (repeated inside n rest) (λ a. tt))),
    (
      (λ bytes. found_then (map_of inside) (line_as limits (count_line limits 0 limits.count) bytes) (λ n rest. found_as (λ ps. dict (members_of ps)) (repeated (pair inside) n rest) (λ a. tt))),
      (
        (λ bytes. found_then (push_of limits inside) (line_as limits (count_line limits 1 limits.count) bytes) (λ n rest. found_then (push_with inside n) (read_kind limits rest) (λ k after. found_as (λ ds. push (kind_of k) (items_of ds)) (repeated inside (n - 1) after) (λ a. kind_from_text k)))),
        (
          (λ bytes. found_then (attribute_of inside) (line_as limits (count_line limits 0 limits.count) bytes) (λ n rest. found_then (attributed inside) (repeated (pair inside) n rest) (λ ps after. found_as (λ v. attribute v (members_of ps)) (inside after) (λ a. tt)))),
          tt,
        ),
      ),
    ),
  ),
)

innermost_finds : (limits : Limits) → AllByRecursion Finds (innermost limits)
innermost_finds limits = (on_line limits no_array_line (λ l. by_one (bytes_eq l (45 ∷ 49 ∷ [])) nil tt), tt)

-- one of them
table_finds : (t : Table) (b : ℕ) (bytes : List ℕ) → AllByRecursion Finds t → IfFound (by_first t b bytes)
table_finds [] b bytes all = tt
table_finds (f ∷ fs) b bytes all = chosen IfFound (b == f.0) (f.1 bytes) (by_first fs b bytes) (λ t. all.0 bytes) (λ n. table_finds fs b bytes all.1)

form_finds : (limits : Limits) (more : Table) (bytes : List ℕ) → AllByRecursion Finds more → IfFound (form limits more bytes)
form_finds limits more [] all = tt
form_finds limits more (b ∷ bytes) all = table_finds (plain limits ++ more) b bytes (plain_finds limits more all)

-- a value, however deep
parse_finds : (limits : Limits) (n : ℕ) (bytes : List ℕ) → IfFound (parse_within limits n bytes)
parse_finds limits zero bytes = form_finds limits (innermost limits) bytes (innermost_finds limits)
parse_finds limits (suc n) bytes = form_finds limits (nested limits (parse_within limits n)) bytes (nested_finds limits (parse_within limits n))

-- values one after another
first_finds : (next : List ℕ → List Data) (x : Found Data) → IfFound x → ((bytes : List ℕ) → AllByRecursion IsFromText (next bytes)) → AllByRecursion IsFromText (first_and next x)
first_finds next (read v rest) h k = (h, k rest)
first_finds next short h k = tt
first_finds next bad h k = tt

within_finds : (n : ℕ) (bytes : List ℕ) → AllByRecursion IsFromText (values_within n bytes)
within_finds zero bytes = tt
within_finds (suc n) bytes = first_finds (values_within n) (parse_within reader_limits max_depth bytes) (parse_finds reader_limits max_depth bytes) (within_finds n)

-- all that are read
pub values_from_text : (bytes : List ℕ) → AllByRecursion IsFromText (values bytes)
unfolding values
values_from_text bytes = within_finds (length bytes) bytes
