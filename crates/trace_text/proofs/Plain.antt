-- What is written as it is, and what is written byte by byte.
use Rattle.std.proofs.Common.{◌≡◌, ℕ, ◌+◌, ◌%◌, ◌^◌, ◌<◌, true, false, not, ◌==◌, List, [], ◌∷◌, ◌++◌, length, flat_map, codes, decimal, refl, sym, ap, ◌∙◌, append-nil, append_assoc, length-append, arith}
use Rattle.std.specs.Str.{byte}
use Rattle.std.proofs.lemmas.Bool.{and_parts, and_from, not-true}
use Rattle.std.proofs.lemmas.Bool.Decides.{nat_tests}
use Rattle.std.proofs.lemmas.Fmt.{decimal_by_steps, decimal_nonempty}
use Rattle.std.proofs.lemmas.Grind.{flat_map-append}
use Rattle.percent_encoding.specs.Percent.{percent_encode_byte}
use Rattle.driver_model.specs.declared.action.Owner.TheVariants.{Try}
use Rattle.containers.proofs.Choices.{taken_if, left_if}
use Rattle.trace_text.specs.Words.{is_plain, escaped_byte, is_separator, escaped, following}
use Rattle.trace_text.specs.Plain.{is_kept, are_kept, is_literal}
use Rattle.resp_value.specs.declared.server_error.ServerError.{ServerError}
use Rattle.trace_text.specs.Errors.{abort_word, server_text}
use Rattle.trace_text.specs.Show.{address, fraction_word, owner_word}

abbrev pub all_escaped : List ℕ → List ℕ
all_escaped bytes = flat_map escaped_byte bytes

pub plain_byte : (b : ℕ) → is_plain b ≡ true → escaped_byte b ≡ b ∷ []
plain_byte b e = taken_if (is_plain b) (b ∷ []) (percent_encode_byte b) e

pub other_byte : (b : ℕ) → is_plain b ≡ false → escaped_byte b ≡ percent_encode_byte b
other_byte b e = left_if (is_plain b) (b ∷ []) (percent_encode_byte b) e

-- bytes that are kept are written as they are
kept_run : (bs : List ℕ) → are_kept bs ≡ true → all_escaped bs ≡ bs
kept_run [] e = refl
kept_run (b ∷ bs) e =
    let parts = and_parts (is_kept b) (are_kept bs) e in
    let plain = (and_parts (is_plain b) (not (b == byte ";")) parts.0).0 in
    ap (λ front. front ++ all_escaped bs) (plain_byte b plain) ∙ ap (λ x. b ∷ x) (kept_run bs parts.1)

kept-append : (xs ys : List ℕ) → are_kept xs ≡ true → are_kept ys ≡ true → are_kept (xs ++ ys) ≡ true
kept-append [] ys e f = f
kept-append (x ∷ xs) ys e f =
    let parts = and_parts (is_kept x) (are_kept xs) e in
    and_from (is_kept x) (are_kept (xs ++ ys)) parts.0 (kept-append xs ys parts.1 f)

one_kept : (b : ℕ) → is_kept b ≡ true → are_kept (b ∷ []) ≡ true
one_kept b e = and_from (is_kept b) true e refl

digit_kept : (d : ℕ) → d < 10 → is_kept (48 + d) ≡ true
digit_kept d small = grind (arith, nat_tests)

-- the digits of a number are kept
kept_decimal : (n : ℕ) → n < 2 ^ 64 → are_kept (decimal n) ≡ true
kept_decimal n small =
    decimal_by_steps (λ m ds. are_kept ds ≡ true) (λ m l. one_kept (48 + m) (digit_kept m l))
    (λ m ds l h. kept-append ds ((48 + m % 10) ∷ []) h (one_kept (48 + m % 10) (digit_kept (m % 10) (omega arith)))) n small

-- some bytes that aren't the separator
pub escaped_some : (word : List ℕ) → 0 < length word → is_separator word ≡ false → escaped word ≡ all_escaped word
unfolding escaped
escaped_some [] some e = absurd (omega arith)
escaped_some (b ∷ bs) some e = left_if (is_separator (b ∷ bs)) (codes "%3B") (all_escaped (b ∷ bs)) e

no_separator : (b : ℕ) (bs : List ℕ) → is_kept b ≡ true → is_separator (b ∷ bs) ≡ false
no_separator b [] e = not-true (b == byte ";") (and_parts (is_plain b) (not (b == byte ";")) e).1
no_separator b (c ∷ cs) e = refl

-- a word that begins with what is written as it is
pub escaped_behind : (front rest : List ℕ) → is_literal front ≡ true → escaped (front ++ rest) ≡ front ++ all_escaped rest
escaped_behind [] rest e = cc
escaped_behind (b ∷ bs) rest e =
    let kept = (and_parts (is_kept b) (are_kept bs) e).0 in
    escaped_some (b ∷ (bs ++ rest)) (omega arith) (no_separator b (bs ++ rest) kept)
    ∙ flat_map-append escaped_byte (b ∷ bs) rest
    ∙ ap (λ x. x ++ all_escaped rest) (kept_run (b ∷ bs) e)

pub escaped_literal : (word : List ℕ) → is_literal word ≡ true → escaped word ≡ word
escaped_literal word e = ap escaped (sym (append-nil word)) ∙ escaped_behind word [] e ∙ append-nil word

literal_of : (word : List ℕ) → 0 < length word → are_kept word ≡ true → is_literal word ≡ true
literal_of [] some e = absurd (omega arith)
literal_of (b ∷ bs) some e = e

-- a number as a word
pub escaped_number : (n : ℕ) → n < 2 ^ 64 → escaped (decimal n) ≡ decimal n
escaped_number n small = escaped_literal (decimal n) (literal_of (decimal n) (decimal_nonempty n small) (kept_decimal n small))

-- a number behind what is written as it is
pub number_behind : (front : List ℕ) (n : ℕ) → is_literal front ≡ true → n < 2 ^ 64 → escaped (front ++ decimal n) ≡ front ++ decimal n
number_behind front n e small = escaped_behind front (decimal n) e ∙ ap (λ x. front ++ x) (kept_run (decimal n) (kept_decimal n small))

-- a try
pub escaped_try : (s round : ℕ) → s < 2 ^ 64 → round < 2 ^ 64 → escaped (owner_word (Try s round)) ≡ owner_word (Try s round)
escaped_try s round a b =
    escaped_literal (owner_word (Try s round)) (kept-append (decimal s) (byte "." ∷ decimal round) (kept_decimal s a) (kept_decimal round b))

colon_no_separator : (host rest : List ℕ) → is_separator (host ++ byte ":" ∷ rest) ≡ false
colon_no_separator [] [] = refl
colon_no_separator [] (r ∷ rest) = refl
colon_no_separator (h ∷ []) rest = refl
colon_no_separator (h ∷ i ∷ host) rest = refl

-- two parts with a colon between them
escaped_parts : (front rest : List ℕ) → escaped (front ++ byte ":" ∷ rest) ≡ all_escaped front ++ byte ":" ∷ all_escaped rest
escaped_parts front rest =
    escaped_some (front ++ byte ":" ∷ rest) (omega (arith, length-append front (byte ":" ∷ rest))) (colon_no_separator front rest)
    ∙ flat_map-append escaped_byte front (byte ":" ∷ rest)

-- a host and a port
pub escaped_address : (host : List ℕ) (port : ℕ) → port < 2 ^ 64 → escaped (address host port) ≡ all_escaped host ++ byte ":" ∷ decimal port
escaped_address host port small = escaped_parts host (decimal port) ∙ ap (λ x. all_escaped host ++ byte ":" ∷ x) (kept_run (decimal port) (kept_decimal port small))

-- a position in a transaction and the error there
escaped_abort : (position : ℕ) (e : ServerError) → position < 2 ^ 64 → escaped (abort_word (position, e)) ≡ decimal position ++ byte ":" ∷ all_escaped (server_text e)
escaped_abort position e small =
    escaped_parts (decimal position) (server_text e) ∙ ap (λ x. x ++ byte ":" ∷ all_escaped (server_text e)) (kept_run (decimal position) (kept_decimal position small))

-- a line with one more word, of which the space comes first
pub word_added : (old line new word bytes : List ℕ) → line ≡ old ++ codes " " → new ≡ line ++ bytes → escaped word ≡ bytes → new ≡ old ++ following (word ∷ [])
word_added old line new word bytes space rest is =
    rest ∙ ap (λ x. x ++ bytes) space ∙ append_assoc old (codes " ") bytes ∙ ap (λ x. old ++ byte " " ∷ x) (sym (append-nil bytes) ∙ ap (λ x. x ++ []) (sym is))

-- a word that comes in two parts
pub parts_added : (old line more new front rest bytes : List ℕ) → line ≡ old ++ codes " " → more ≡ line ++ front → new ≡ more ++ bytes → escaped (front ++ rest) ≡ front ++ bytes → new ≡ old ++ following ((front ++ rest) ∷ [])
parts_added old line more new front rest bytes space first second is =
    word_added old line new (front ++ rest) (front ++ bytes) space (second ∙ ap (λ x. x ++ bytes) first ∙ append_assoc line front bytes) is

-- a try that comes in four
pub try_added : (old named first point new : List ℕ) (s round : ℕ) → s < 2 ^ 64 → round < 2 ^ 64
    → named ≡ old ++ codes " s" → first ≡ named ++ decimal s → point ≡ first ++ codes "." → new ≡ point ++ decimal round → new ≡ old ++ following (owner_word (Try s round) ∷ [])
try_added old named first point new s round a b h k l m =
    let all : new ≡ (((old ++ codes " s") ++ decimal s) ++ codes ".") ++ decimal round = m ∙ ap (λ x. x ++ decimal round) (l ∙ ap (λ x. x ++ codes ".") (k ∙ ap (λ x. x ++ decimal s) h)) in
    let flat : (((old ++ codes " s") ++ decimal s) ++ codes ".") ++ decimal round ≡ (old ++ codes " ") ++ owner_word (Try s round) = simp append_assoc in
    word_added old (old ++ codes " ") new (owner_word (Try s round)) (owner_word (Try s round)) refl (all ∙ flat) (escaped_try s round a b)

-- a fraction behind what is written as it is
escaped_fraction : (front : List ℕ) (above below : ℕ) → is_literal front ≡ true → above < 2 ^ 64 → below < 2 ^ 64 → escaped (front ++ fraction_word (above, below)) ≡ front ++ fraction_word (above, below)
escaped_fraction front above below e a b =
    escaped_behind front (fraction_word (above, below)) e
    ∙ ap (λ x. front ++ x) (kept_run (fraction_word (above, below)) (kept-append (decimal above) (byte "/" ∷ decimal below) (kept_decimal above a) (kept_decimal below b)))

-- such a fraction that comes in five
pub fraction_added : (old space named first slash new front : List ℕ) (above below : ℕ) → above < 2 ^ 64 → below < 2 ^ 64 → is_literal front ≡ true
    → space ≡ old ++ codes " " → named ≡ space ++ front → first ≡ named ++ decimal above → slash ≡ first ++ codes "/" → new ≡ slash ++ decimal below
    → new ≡ old ++ following ((front ++ fraction_word (above, below)) ∷ [])
fraction_added old space named first slash new front above below a b e h k l m n =
    let all : new ≡ ((((old ++ codes " ") ++ front) ++ decimal above) ++ codes "/") ++ decimal below =
    n ∙ ap (λ x. x ++ decimal below) (m ∙ ap (λ x. x ++ codes "/") (l ∙ ap (λ x. x ++ decimal above) (k ∙ ap (λ x. x ++ front) h))) in
    let flat : ((((old ++ codes " ") ++ front) ++ decimal above) ++ codes "/") ++ decimal below ≡ (old ++ codes " ") ++ (front ++ fraction_word (above, below)) = simp append_assoc in
    word_added old (old ++ codes " ") new (front ++ fraction_word (above, below)) (front ++ fraction_word (above, below)) refl (all ∙ flat) (escaped_fraction front above below e a b)

-- a host and a port that come in four
pub address_added : (old space named point new host : List ℕ) (port : ℕ) → port < 2 ^ 64
    → space ≡ old ++ codes " " → named ≡ space ++ all_escaped host → point ≡ named ++ codes ":" → new ≡ point ++ decimal port → new ≡ old ++ following (address host port ∷ [])
address_added old space named point new host port small h k l m =
    let all : new ≡ (((old ++ codes " ") ++ all_escaped host) ++ codes ":") ++ decimal port = m ∙ ap (λ x. x ++ decimal port) (l ∙ ap (λ x. x ++ codes ":") (k ∙ ap (λ x. x ++ all_escaped host) h)) in
    let flat : (((old ++ codes " ") ++ all_escaped host) ++ codes ":") ++ decimal port ≡ (old ++ codes " ") ++ (all_escaped host ++ byte ":" ∷ decimal port) = simp append_assoc in
    word_added old (old ++ codes " ") new (address host port) (all_escaped host ++ byte ":" ∷ decimal port) refl (all ∙ flat) (escaped_address host port small)

-- a position and an error that come in four
pub abort_added : (old space named point new : List ℕ) (position : ℕ) (e : ServerError) → position < 2 ^ 64
    → space ≡ old ++ codes " " → named ≡ space ++ decimal position → point ≡ named ++ codes ":" → new ≡ point ++ all_escaped (server_text e) → new ≡ old ++ following (abort_word (position, e) ∷ [])
abort_added old space named point new position e small h k l m =
    let text = all_escaped (server_text e) in
    let all : new ≡ (((old ++ codes " ") ++ decimal position) ++ codes ":") ++ text = m ∙ ap (λ x. x ++ text) (l ∙ ap (λ x. x ++ codes ":") (k ∙ ap (λ x. x ++ decimal position) h)) in
    let flat : (((old ++ codes " ") ++ decimal position) ++ codes ":") ++ text ≡ (old ++ codes " ") ++ (decimal position ++ byte ":" ∷ text) = simp append_assoc in
    word_added old (old ++ codes " ") new (abort_word (position, e)) (decimal position ++ byte ":" ∷ text) refl (all ∙ flat) (escaped_abort position e small)
