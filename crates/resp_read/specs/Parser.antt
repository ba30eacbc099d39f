-- How a value is looked for at the front of a text: what was found, or that more bytes are wanted, or that none can help. That it finds what the grammar reads is a lemma (proofs/GrammarLaws).
use Rattle.std.specs.Prelude.{ℕ, zero, suc, ◌+◌, ◌-◌, Bool, true, false, ◌&&◌, ◌||◌, ◌==◌, nat_lt, List, [], ◌∷◌, ◌++◌, length, take, drop, Option, Some, None, option_map, is_some, bytes_eq, if◌then◌else◌}
use Rattle.resp_value.specs.Data.{Data, nil, int, bulk, array, dict, attribute, set, double, boolean, verbatim, big, push, items_of, members_of}
use Rattle.resp_value.specs.Kinds.{kind_of}
use Rattle.resp_read.specs.Grammar.{Limits, reader_limits, fits, number, size, count, unsigned, after_digits, is_end, is_double, is_big, simple_of, error_of, truth}

-- what stands at the front of a text: something whole with the bytes after it, something that is not whole yet, or nothing that can become whole
pub data Found (A : Type 0) : Type 0 where
  read : A → List ℕ → Found A
  short : Found A
  bad : Found A

-- what was read, and then what f finds after it
abbrev pub found_and_then : {A B : Type 0} → (A → List ℕ → Found B) → Found A → Found B
found_and_then f (read a rest) = f a rest
found_and_then f short = short
found_and_then f bad = bad

-- what was read, as f makes of it
abbrev pub found_map : {A B : Type 0} → (A → B) → Found A → Found B
found_map f x = found_and_then (λ a rest. read (f a) rest) x

-- the first line of a text: all of it with the bytes after its CR LF, all of it where the LF is still to come, its front where no CR has come, or none because no LF follows the CR
pub data Line : Type 0 where
  ended : List ℕ → List ℕ → Line
  held : List ℕ → Line
  unended : List ℕ → Line
  broken : Line

-- after a CR
abbrev pub after_return : List ℕ → Line
after_return [] = held []
after_return (b ∷ bs) = if b == 10 then ended [] bs else broken

-- the line with one byte more before it
abbrev pub byte_before : ℕ → Line → Line
byte_before b (ended l rest) = ended (b ∷ l) rest
byte_before b (held l) = held (b ∷ l)
byte_before b (unended l) = unended (b ∷ l)
byte_before b broken = broken

-- the bytes up to the first CR, which LF has to follow
abbrev pub line : List ℕ → Line
line [] = unended []
line (b ∷ bs) = if b == 13 then after_return bs else byte_before b (line bs)

-- what a whole line stands for, if it is of this form; and whether a line that starts so can become one of this form within the limit
pub record LineForm (A : Type 0) : Type 0 where
  pub whole : List ℕ → Option A
  pub begun : List ℕ → Bool

-- what a whole line stands for, and the bytes after it
abbrev pub found : {A : Type 0} → Option A → List ℕ → Found A
found (Some a) rest = read a rest
found None rest = bad

-- what the first line of a text is, by its form
abbrev pub line_found : {A : Type 0} → Limits → LineForm A → Line → Found A
line_found limits form (ended l rest) = if fits limits l then found (form.whole l) rest else bad
line_found limits form (held l) = if fits limits l && is_some (form.whole l) then short else bad
line_found limits form (unended l) = if fits limits l && form.begun l then short else bad
line_found limits form broken = bad

-- a line of this form, and CR LF
abbrev pub line_as : {A : Type 0} → Limits → LineForm A → List ℕ → Found A
line_as limits form bs = line_found limits form (line bs)

-- the front of a number: nothing, a sign, or a number
abbrev pub number_begun : List ℕ → Bool
number_begun [] = true
number_begun (b ∷ []) = (b == 45) || (b == 43) || is_some (number (b ∷ []))
number_begun (b ∷ c ∷ bs) = is_some (number (b ∷ c ∷ bs))

-- the front of a length: nothing, `-`, or a length
abbrev pub size_begun : Option ℕ → List ℕ → Bool
size_begun most [] = true
size_begun most (b ∷ []) = (b == 45) || is_some (size most (b ∷ []))
size_begun most (b ∷ c ∷ bs) = is_some (size most (b ∷ c ∷ bs))

-- one of these tails makes a front one of the lines that f takes, within the limit
abbrev pub made_by : Limits → (List ℕ → Bool) → List (List ℕ) → List ℕ → Bool
made_by limits f [] l = false
made_by limits f (q ∷ qs) l = (fits limits (l ++ q) && f (l ++ q)) || made_by limits f qs l

-- the front of a length: it is one, or one more digit makes it one
abbrev pub count_begun : Limits → ℕ → Option ℕ → List ℕ → Bool
count_begun limits least most l = made_by limits (λ x. is_some (count least most x)) ([] ∷ ((48 + least) ∷ []) ∷ []) l

-- what makes the front of a double whole: nothing, a digit, or what is left of `inf` or `nan`
abbrev pub double_tails : List (List ℕ)
double_tails = [] ∷ (48 ∷ []) ∷ (110 ∷ 102 ∷ []) ∷ (102 ∷ []) ∷ (97 ∷ 110 ∷ []) ∷ (110 ∷ []) ∷ []

-- the front of that: nothing, a sign, or some of the digits
abbrev pub big_begun : List ℕ → Bool
big_begun l = is_end (after_digits (unsigned l))

-- v, where LF follows
abbrev pub fed : {A : Type 0} → A → List ℕ → Found A
fed v [] = short
fed v (b ∷ bs) = if b == 10 then read v bs else bad

-- v, where CR LF follows
abbrev pub closed : {A : Type 0} → A → List ℕ → Found A
closed v [] = short
closed v (b ∷ bs) = if b == 13 then fed v bs else bad

-- n bytes, and CR LF
abbrev pub body : ℕ → List ℕ → Found (List ℕ)
body n bs = if nat_lt (length bs) n then short else closed (take n bs) (drop n bs)

-- `+`: a simple string
abbrev pub simple_line : LineForm Data
simple_line = record { whole = λ l. Some (simple_of l); begun = λ l. true }

-- `-`: an error
abbrev pub error_line : LineForm Data
error_line = record { whole = λ l. Some (error_of l); begun = λ l. true }

-- `:`: a number
abbrev pub number_line : LineForm Data
number_line = record { whole = λ l. option_map int (number l); begun = number_begun }

-- `_`: Nil, the empty line
abbrev pub null_line : LineForm Data
null_line = record { whole = λ l. if is_end l then Some nil else None; begun = is_end }

-- `#`: a boolean
abbrev pub boolean_line : LineForm Data
boolean_line = record { whole = λ l. option_map boolean (truth l); begun = λ l. is_end l || is_some (truth l) }

-- `,`: a double, whose text is kept
abbrev pub double_line : Limits → LineForm Data
double_line limits = record { whole = λ l. if is_double l then Some (double l) else None; begun = made_by limits is_double double_tails }

-- `(`: a big number, whose text is kept
abbrev pub big_line : LineForm Data
big_line = record { whole = λ l. if is_big l then Some (big l) else None; begun = big_begun }

-- the line that announces a length, or `-1`
abbrev pub size_line : Option ℕ → LineForm (Option ℕ)
size_line most = record { whole = size most; begun = size_begun most }

-- the line that announces a length of at least that
abbrev pub count_line : Limits → ℕ → Option ℕ → LineForm ℕ
count_line limits least most = record { whole = count least most; begun = count_begun limits least most }

-- Nil, or a bulk string of that length
abbrev pub bulk_of : Option ℕ → List ℕ → Found Data
bulk_of None bs = read nil bs
bulk_of (Some n) bs = found_map bulk (body n bs)

-- `$`: a length, and so many bytes
abbrev pub bulk_string : Limits → List ℕ → Found Data
bulk_string limits bs = found_and_then bulk_of (line_as limits (size_line limits.bulk) bs)

-- an error of that length
abbrev pub error_body : ℕ → List ℕ → Found Data
error_body n bs = found_map error_of (body n bs)

-- `!`: an error in so many bytes
abbrev pub bulk_error : Limits → List ℕ → Found Data
bulk_error limits bs = found_and_then error_body (line_as limits (count_line limits 0 limits.bulk) bs)

-- n bytes
abbrev pub some_bytes : ℕ → List ℕ → Found (List ℕ)
some_bytes n bs = if nat_lt (length bs) n then short else read (take n bs) (drop n bs)

-- v, where `:` follows
abbrev pub colon : {A : Type 0} → A → List ℕ → Found A
colon v [] = short
colon v (b ∷ bs) = if b == 58 then read v bs else bad

-- the format of a text: three bytes, and `:`
abbrev pub format : List ℕ → Found (List ℕ)
format bs = found_and_then colon (some_bytes 3 bs)

-- a text of that format, of n bytes with its format
abbrev pub text_of : ℕ → List ℕ → List ℕ → Found Data
text_of n f bs = found_map (verbatim f) (body (n - 4) bs)

-- a format and its text
abbrev pub verbatim_of : ℕ → List ℕ → Found Data
verbatim_of n bs = found_and_then (text_of n) (format bs)

-- `=`: a text with its format
abbrev pub verbatim_string : Limits → List ℕ → Found Data
verbatim_string limits bs = found_and_then verbatim_of (line_as limits (count_line limits 4 limits.bulk) bs)

-- n of what inside reads, one after another
abbrev pub repeated : {A : Type 0} → (List ℕ → Found A) → ℕ → List ℕ → Found (List A)
repeated inside zero bs = read [] bs
repeated inside (suc n) bs = found_and_then (λ a rest. found_map (λ others. a ∷ others) (repeated inside n rest)) (inside bs)

-- two values
abbrev pub pair : (List ℕ → Found Data) → List ℕ → Found (Data × Data)
pair inside bs = found_and_then (λ k rest. found_map (λ v. (k, v)) (inside rest)) (inside bs)

-- Nil, or an array of n values
abbrev pub array_of : (List ℕ → Found Data) → Option ℕ → List ℕ → Found Data
array_of inside None bs = read nil bs
array_of inside (Some n) bs = found_map (λ ds. array (items_of ds)) (repeated inside n bs)

-- `*`: a count, and so many values
abbrev pub array_form : Limits → (List ℕ → Found Data) → List ℕ → Found Data
array_form limits inside bs = found_and_then (array_of inside) (line_as limits (size_line limits.count) bs)

-- a set of n values
abbrev pub set_of : (List ℕ → Found Data) → ℕ → List ℕ → Found Data
set_of inside n bs = found_map (λ ds. set (items_of ds)) (repeated inside n bs)

-- `~`: a count, and so many values
abbrev pub set_form : Limits → (List ℕ → Found Data) → List ℕ → Found Data
set_form limits inside bs = found_and_then (set_of inside) (line_as limits (count_line limits 0 limits.count) bs)

-- a map of n pairs
abbrev pub map_of : (List ℕ → Found Data) → ℕ → List ℕ → Found Data
map_of inside n bs = found_map (λ ps. dict (members_of ps)) (repeated (pair inside) n bs)

-- `%`: a count, and so many pairs
abbrev pub map_form : Limits → (List ℕ → Found Data) → List ℕ → Found Data
map_form limits inside bs = found_and_then (map_of inside) (line_as limits (count_line limits 0 limits.count) bs)

-- a value with these attributes
abbrev pub attributed : (List ℕ → Found Data) → List (Data × Data) → List ℕ → Found Data
attributed inside ps bs = found_map (λ v. attribute v (members_of ps)) (inside bs)

-- n pairs, and the value that they are attributes of
abbrev pub attribute_of : (List ℕ → Found Data) → ℕ → List ℕ → Found Data
attribute_of inside n bs = found_and_then (attributed inside) (repeated (pair inside) n bs)

-- `|`: a count, so many pairs, and a value
abbrev pub attribute_form : Limits → (List ℕ → Found Data) → List ℕ → Found Data
attribute_form limits inside bs = found_and_then (attribute_of inside) (line_as limits (count_line limits 0 limits.count) bs)

-- a line that is a text
abbrev pub text_line : LineForm (List ℕ)
text_line = record { whole = λ l. Some l; begun = λ l. true }

-- a length, and a text of so many bytes
abbrev pub bulk_text : Limits → List ℕ → Found (List ℕ)
bulk_text limits bs = found_and_then body (line_as limits (count_line limits 0 limits.bulk) bs)

-- the kind of a push: a simple or a bulk string
abbrev pub kind : Limits → List ℕ → Found (List ℕ)
kind limits [] = short
kind limits (b ∷ bs) = if b == 43 then line_as limits text_line bs else if b == 36 then bulk_text limits bs else bad

-- n values with their kind among them
abbrev pub push_with : (List ℕ → Found Data) → ℕ → List ℕ → List ℕ → Found Data
push_with inside n k bs = found_map (λ ds. push (kind_of k) (items_of ds)) (repeated inside (n - 1) bs)

-- a kind, and the others of n values
abbrev pub push_of : Limits → (List ℕ → Found Data) → ℕ → List ℕ → Found Data
push_of limits inside n bs = found_and_then (push_with inside n) (kind limits bs)

-- `>`: a count of one at least, a kind, and the other values
abbrev pub push_form : Limits → (List ℕ → Found Data) → List ℕ → Found Data
push_form limits inside bs = found_and_then (push_of limits inside) (line_as limits (count_line limits 1 limits.count) bs)

-- the front of `-1`
abbrev pub no_array_begun : List ℕ → Bool
no_array_begun [] = true
no_array_begun (b ∷ []) = b == 45
no_array_begun (b ∷ c ∷ bs) = bytes_eq (b ∷ c ∷ bs) (45 ∷ 49 ∷ [])

-- `*-1`: Nil
abbrev pub no_array_line : LineForm Data
no_array_line = record { whole = λ l. if bytes_eq l (45 ∷ 49 ∷ []) then Some nil else None; begun = no_array_begun }

-- first bytes, and what reads the bytes after each
abbrev pub Table : Type 0
Table = List (ℕ × (List ℕ → Found Data))

-- the forms that hold no values
abbrev pub plain : Limits → Table
plain limits =
    (43, line_as limits simple_line)
    ∷ (45, line_as limits error_line)
    ∷ (58, line_as limits number_line)
    ∷ (36, bulk_string limits)
    ∷ (95, line_as limits null_line)
    ∷ (35, line_as limits boolean_line)
    ∷ (44, line_as limits (double_line limits))
    ∷ (40, line_as limits big_line)
    ∷ (33, bulk_error limits)
    ∷ (61, verbatim_string limits)
    ∷ []

-- the forms that hold values, which inside reads
abbrev pub nested : Limits → (List ℕ → Found Data) → Table
nested limits inside =
    (42, array_form limits inside)
    ∷ (126, set_form limits inside)
    ∷ (37, map_form limits inside)
    ∷ (62, push_form limits inside)
    ∷ (124, attribute_form limits inside)
    ∷ []

-- where no more may be nested an array is still Nil, since that holds nothing
abbrev pub innermost : Limits → Table
innermost limits = (42, line_as limits no_array_line) ∷ []

-- by its first byte b, the form of the bytes after it; any other byte begins no value
abbrev pub chosen : Table → ℕ → List ℕ → Found Data
chosen [] b bs = bad
chosen (f ∷ fs) b bs = if b == f.0 then f.1 bs else chosen fs b bs

-- a value of the plain forms or of these
abbrev pub form : Limits → Table → List ℕ → Found Data
form limits more [] = short
form limits more (b ∷ bs) = chosen (plain limits ++ more) b bs

-- the value at the front of a text within these limits, where nested forms stand in one another up to that number
abbrev pub parse_within : Limits → ℕ → List ℕ → Found Data
parse_within limits zero bs = form limits (innermost limits) bs
parse_within limits (suc n) bs = form limits (nested limits (parse_within limits n)) bs

-- the same within the limits of this reader
abbrev pub parse : ℕ → List ℕ → Found Data
parse = parse_within reader_limits
