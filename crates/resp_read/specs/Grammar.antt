-- RESP, the protocol of Redis (https://redis.io/docs/latest/develop/reference/protocol-spec): which value stands at the front of a text, and what is left after it.
use Rattle.std.specs.Prelude.{ℕ, zero, suc, ◌+◌, ◌-◌, ◌*◌, ℤ, pos, neg_ℤ, Bool, true, false, ◌&&◌, ◌||◌, ◌==◌, nat_le, nat_lt, List, [], ◌∷◌, ◌++◌, length, take, drop, Option, Some, None, option_map, bytes_eq, if◌then◌else◌}
use Rattle.resp_value.specs.Data.{Data, nil, int, bulk, array, simple, okay, dict, attribute, set, double, boolean, verbatim, big, push, error, items_of, members_of}
use Rattle.resp_value.specs.Kinds.{kind_of}

-- the most bytes of a line, its CR LF not counted: a limit of this reader
abbrev pub max_line : ℕ
max_line = 1_048_576

-- the most bytes of a bulk string: 512 megabytes, the protocol's own limit
abbrev pub max_bulk : ℕ
max_bulk = 536_870_912

-- the most values or pairs of an aggregate: a limit of this reader
abbrev pub max_count : ℕ
max_count = 2_147_483_647

-- a nested form stands in at most 99 others
unfoldable pub max_depth : ℕ
max_depth = 100

-- the most bytes of a line, the most bytes of a bulk string, and the most values or pairs of an aggregate; none where there is no limit
pub record Limits : Type 0 where
  pub line : Option ℕ
  pub bulk : Option ℕ
  pub count : Option ℕ

-- the limits of this reader
abbrev pub reader_limits : Limits
reader_limits = record { line = Some max_line; bulk = Some max_bulk; count = Some max_count }

-- the grammar alone, for texts of any length
abbrev pub no_limits : Limits
no_limits = record { line = None; bulk = None; count = None }

-- whether so many are within a limit
abbrev pub allows : Option ℕ → ℕ → Bool
allows None n = true
allows (Some most) n = nat_le n most

-- whether a line is within the limit
abbrev pub fits : Limits → List ℕ → Bool
fits limits l = allows limits.line (length l)

-- `0` to `9`
abbrev pub is_digit : ℕ → Bool
is_digit b = nat_le 48 b && nat_le b 57

-- the number whose decimal digits are those of n and then these
abbrev pub digits_after : ℕ → List ℕ → Option ℕ
digits_after n [] = Some n
digits_after n (b ∷ bs) = if is_digit b then digits_after (10 * n + (b - 48)) bs else None

-- a number within the limit
abbrev pub at_most : Option ℕ → Option ℕ → Option ℕ
at_most most None = None
at_most most (Some n) = if allows most n then Some n else None

-- the number of these decimal digits, one at least, if it is within the limit
abbrev pub natural : Option ℕ → List ℕ → Option ℕ
natural most [] = None
natural most (b ∷ bs) = at_most most (digits_after 0 (b ∷ bs))

-- a number of 64 bits with `-`, `+` or no sign; leading zeros are accepted
abbrev pub number : List ℕ → Option ℤ
number [] = None
number (b ∷ bs) =
    if b == 45 then option_map (λ n. neg_ℤ (pos n)) (natural (Some 9_223_372_036_854_775_808) bs)
    else if b == 43 then option_map pos (natural (Some 9_223_372_036_854_775_807) bs)
    else option_map pos (natural (Some 9_223_372_036_854_775_807) (b ∷ bs))

-- a length within the limit, or none for `-1`, which stands for Nil
abbrev pub size : Option ℕ → List ℕ → Option (Option ℕ)
size most l = if bytes_eq l (45 ∷ 49 ∷ []) then Some None else option_map Some (natural most l)

-- a number that is not below the limit
abbrev pub at_least : ℕ → Option ℕ → Option ℕ
at_least least None = None
at_least least (Some n) = if nat_le least n then Some n else None

-- a length that is at least that, within the limit
abbrev pub count : ℕ → Option ℕ → List ℕ → Option ℕ
count least most l = at_least least (natural most l)

-- without its sign, if there is one
abbrev pub unsigned : List ℕ → List ℕ
unsigned [] = []
unsigned (b ∷ bs) = if (b == 43) || (b == 45) then bs else b ∷ bs

-- what stands behind the digits at the front
abbrev pub after_digits : List ℕ → List ℕ
after_digits [] = []
after_digits (b ∷ bs) = if is_digit b then after_digits bs else b ∷ bs

-- one digit at least, and behind the digits what f takes
abbrev pub digits_and : (List ℕ → Bool) → List ℕ → Bool
digits_and f [] = false
digits_and f (b ∷ bs) = is_digit b && f (after_digits bs)

-- nothing
abbrev pub is_end : List ℕ → Bool
is_end [] = true
is_end (b ∷ bs) = false

-- nothing, or `e` or `E` and digits with a sign or without
abbrev pub is_exponent : List ℕ → Bool
is_exponent [] = true
is_exponent (b ∷ bs) = ((b == 101) || (b == 69)) && digits_and is_end (unsigned bs)

-- `.` and digits, or none of them; and an exponent
abbrev pub is_fraction : List ℕ → Bool
is_fraction [] = true
is_fraction (b ∷ bs) = if b == 46 then digits_and is_exponent bs else is_exponent (b ∷ bs)

-- `inf`, `-inf`, `nan`, or digits with a sign or without, a fraction and an exponent
abbrev pub is_double : List ℕ → Bool
is_double l = bytes_eq l (105 ∷ 110 ∷ 102 ∷ []) || bytes_eq l (45 ∷ 105 ∷ 110 ∷ 102 ∷ []) || bytes_eq l (110 ∷ 97 ∷ 110 ∷ []) || digits_and is_fraction (unsigned l)

-- digits, with a sign or without
abbrev pub is_big : List ℕ → Bool
is_big l = digits_and is_end (unsigned l)

-- the line `OK` is a value of its own
abbrev pub simple_of : List ℕ → Data
simple_of l = if bytes_eq l (79 ∷ 75 ∷ []) then okay else simple l

-- the bytes before the first space
abbrev pub before_space : List ℕ → List ℕ
before_space [] = []
before_space (b ∷ bs) = if b == 32 then [] else b ∷ before_space bs

-- the bytes after the first space, if there is one
abbrev pub after_space : List ℕ → Option (List ℕ)
after_space [] = None
after_space (b ∷ bs) = if b == 32 then Some bs else after_space bs

-- an error's code stands before the first space, and its detail after it
abbrev pub error_of : List ℕ → Data
error_of l = error (record { code = before_space l; detail = after_space l })

-- `t` or `f`
abbrev pub truth : List ℕ → Option Bool
truth l = if bytes_eq l (116 ∷ []) then Some true else if bytes_eq l (102 ∷ []) then Some false else None

-- what was read, and then what f reads after it
abbrev pub read_then : {A B : Type 0} → (A → List ℕ → Option (B × List ℕ)) → Option (A × List ℕ) → Option (B × List ℕ)
read_then f None = None
read_then f (Some x) = f x.0 x.1

-- what was read, as f makes of it
abbrev pub read_as : {A B : Type 0} → (A → B) → Option (A × List ℕ) → Option (B × List ℕ)
read_as f x = read_then (λ a rest. Some (f a, rest)) x

-- the end of a line, of which CR was read: LF
abbrev pub line_end : List ℕ → Option (List ℕ × List ℕ)
line_end [] = None
line_end (b ∷ rest) = if b == 10 then Some ([], rest) else None

-- a line: the bytes up to the first CR, which LF has to follow
abbrev pub whole_line : List ℕ → Option (List ℕ × List ℕ)
whole_line [] = None
whole_line (b ∷ bs) = if b == 13 then line_end bs else read_as (λ l. b ∷ l) (whole_line bs)

-- what f makes of a line within the limit
abbrev pub line_of : {A : Type 0} → Limits → (List ℕ → Option A) → List ℕ → Option (A × List ℕ)
line_of limits f bs = read_then (λ l rest. if fits limits l then option_map (λ a. (a, rest)) (f l) else None) (whole_line bs)

-- n bytes
abbrev pub so_many : ℕ → List ℕ → Option (List ℕ × List ℕ)
so_many n bs = if nat_lt (length bs) n then None else Some (take n bs, drop n bs)

-- v, where this byte follows
abbrev pub before : {A : Type 0} → ℕ → A → List ℕ → Option (A × List ℕ)
before want v [] = None
before want v (b ∷ rest) = if b == want then Some (v, rest) else None

-- v, where CR LF follows
abbrev pub before_end : {A : Type 0} → A → List ℕ → Option (A × List ℕ)
before_end v bs = read_then (before 10) (before 13 v bs)

-- n bytes, and CR LF
abbrev pub text : ℕ → List ℕ → Option (List ℕ × List ℕ)
text n bs = read_then before_end (so_many n bs)

-- Nil, or a bulk string of that length
abbrev pub bulk_or_nil : Option ℕ → List ℕ → Option (Data × List ℕ)
bulk_or_nil None bs = Some (nil, bs)
bulk_or_nil (Some n) bs = read_as bulk (text n bs)

-- three bytes, `:`, and the text of a verbatim string that has n bytes with them
abbrev pub verbatim_text : ℕ → List ℕ → Option (Data × List ℕ)
verbatim_text n bs = read_then (λ format rest. read_as (verbatim format) (text (n - 4) rest)) (read_then (before 58) (so_many 3 bs))

-- n of what inside reads, one after another
abbrev pub several : {A : Type 0} → (List ℕ → Option (A × List ℕ)) → ℕ → List ℕ → Option (List A × List ℕ)
several inside zero bs = Some ([], bs)
several inside (suc n) bs = read_then (λ a rest. read_as (λ others. a ∷ others) (several inside n rest)) (inside bs)

-- two values
abbrev pub two : (List ℕ → Option (Data × List ℕ)) → List ℕ → Option ((Data × Data) × List ℕ)
two inside bs = read_then (λ k rest. read_as (λ v. (k, v)) (inside rest)) (inside bs)

-- Nil, or an array of that many values
abbrev pub array_or_nil : (List ℕ → Option (Data × List ℕ)) → Option ℕ → List ℕ → Option (Data × List ℕ)
array_or_nil inside None bs = Some (nil, bs)
array_or_nil inside (Some n) bs = read_as (λ ds. array (items_of ds)) (several inside n bs)

-- the kind of a push: a simple or a bulk string
abbrev pub push_kind : Limits → List ℕ → Option (List ℕ × List ℕ)
push_kind limits [] = None
push_kind limits (b ∷ bs) =
    if b == 43 then line_of limits (λ l. Some l) bs
    else if b == 36 then read_then text (line_of limits (count 0 limits.bulk) bs)
    else None

-- a push of n values with its kind
abbrev pub push_values : Limits → (List ℕ → Option (Data × List ℕ)) → ℕ → List ℕ → Option (Data × List ℕ)
push_values limits inside n bs = read_then (λ k rest. read_as (λ ds. push (kind_of k) (items_of ds)) (several inside (n - 1) rest)) (push_kind limits bs)

-- n attributes, and the value that has them
abbrev pub with_attributes : (List ℕ → Option (Data × List ℕ)) → ℕ → List ℕ → Option (Data × List ℕ)
with_attributes inside n bs = read_then (λ ps rest. read_as (λ v. attribute v (members_of ps)) (inside rest)) (several (two inside) n bs)

-- first bytes, and what reads the bytes after each
abbrev pub Forms : Type 0
Forms = List (ℕ × (List ℕ → Option (Data × List ℕ)))

-- `+` a simple string, `-` an error, `:` a number, `$` a bulk string, `_` Nil, `#` a boolean, `,` a double, `(` a big
-- number, `!` an error in so many bytes, `=` a text with its format
abbrev pub plain_forms : Limits → Forms
plain_forms limits =
    (43, line_of limits (λ l. Some (simple_of l)))
    ∷ (45, line_of limits (λ l. Some (error_of l)))
    ∷ (58, line_of limits (λ l. option_map int (number l)))
    ∷ (36, λ bs. read_then bulk_or_nil (line_of limits (size limits.bulk) bs))
    ∷ (95, line_of limits (λ l. if is_end l then Some nil else None))
    ∷ (35, line_of limits (λ l. option_map boolean (truth l)))
    ∷ (44, line_of limits (λ l. if is_double l then Some (double l) else None))
    ∷ (40, line_of limits (λ l. if is_big l then Some (big l) else None))
    ∷ (33, λ bs. read_then (λ n rest. read_as error_of (text n rest)) (line_of limits (count 0 limits.bulk) bs))
    ∷ (61, λ bs. read_then verbatim_text (line_of limits (count 4 limits.bulk) bs))
    ∷ []

-- `*` an array, `~` a set, `%` a map, `>` a push, `|` attributes and their value, each behind a count; the values in
-- them are what inside reads
abbrev pub nested_forms : Limits → (List ℕ → Option (Data × List ℕ)) → Forms
nested_forms limits inside =
    (42, λ bs. read_then (array_or_nil inside) (line_of limits (size limits.count) bs))
    ∷ (126, λ bs. read_then (λ n rest. read_as (λ ds. set (items_of ds)) (several inside n rest)) (line_of limits (count 0 limits.count) bs))
    ∷ (37, λ bs. read_then (λ n rest. read_as (λ ps. dict (members_of ps)) (several (two inside) n rest)) (line_of limits (count 0 limits.count) bs))
    ∷ (62, λ bs. read_then (push_values limits inside) (line_of limits (count 1 limits.count) bs))
    ∷ (124, λ bs. read_then (with_attributes inside) (line_of limits (count 0 limits.count) bs))
    ∷ []

-- where no more may be nested an array is still Nil, since that holds nothing
abbrev pub innermost_forms : Limits → Forms
innermost_forms limits = (42, line_of limits (λ l. if bytes_eq l (45 ∷ 49 ∷ []) then Some nil else None)) ∷ []

-- by its first byte b, the form of the bytes after it; any other byte begins no value
abbrev pub form_of : Forms → ℕ → List ℕ → Option (Data × List ℕ)
form_of [] b bs = None
form_of (f ∷ fs) b bs = if b == f.0 then f.1 bs else form_of fs b bs

-- a value of the plain forms or of these
abbrev pub value_of : Limits → Forms → List ℕ → Option (Data × List ℕ)
value_of limits more [] = None
value_of limits more (b ∷ bs) = form_of (plain_forms limits ++ more) b bs

-- the value at the front of a text within these limits and what is left after it, where nested forms stand in one
-- another up to that number
abbrev pub value_within : Limits → ℕ → List ℕ → Option (Data × List ℕ)
value_within limits zero bs = value_of limits (innermost_forms limits) bs
value_within limits (suc n) bs = value_of limits (nested_forms limits (value_within limits n)) bs
