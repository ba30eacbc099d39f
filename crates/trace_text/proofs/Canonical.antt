-- The canonical text of a value as a word: it has two bytes or more, so each stands as itself or as its escape.
use Rattle.std.proofs.Common.{◌≡◌, ℕ, suc, ◌<◌, ◌||◌, ◌==◌, List, [], ◌∷◌, ◌++◌, length, codes, decimal, refl, sym, ap, ◌∙◌, length-append, arith}
use Rattle.std.proofs.Math.Bool.{or_assoc}
use Rattle.std.specs.Str.{byte}
use Rattle.std.specs.Fmt.{signed_decimal}
use Rattle.containers.proofs.Choices.{chosen}
use Rattle.resp_value.specs.Kinds.{kind_text}
use Rattle.resp_value.specs.Data.{Data, nil, int, bulk, array, simple, okay, dict, attribute, set, double, boolean, verbatim, big, push, error, list_of, pairs_of}
use Rattle.resp_write.specs.Pack.{bulk_string, crlf, sized_text, text_line}
use Rattle.resp_write.specs.Canonical.{boolean_text, breaks_line, canonical, detail_text, each_item, each_member, error_line}
use Rattle.trace_text.specs.Words.{escaped, following}
use Rattle.trace_text.proofs.Plain.{all_escaped, escaped_some, word_added}

-- a text of two bytes or more is no separator
escaped_long : (word : List ℕ) → 1 < length word → escaped word ≡ all_escaped word
escaped_long [] long = absurd (omega arith)
escaped_long (b ∷ []) long = absurd (omega arith)
escaped_long (b ∷ c ∷ bs) long = escaped_some (b ∷ c ∷ bs) (omega arith) refl

-- a line has a first byte, CR and LF
line_long : (first : ℕ) (text more : List ℕ) → 1 < length (text_line first text ++ more)
line_long first text more = omega (arith, length-append (first ∷ text) (13 ∷ 10 ∷ []), length-append (text_line first text) more)

lines_long : (first : ℕ) (text more rest : List ℕ) → 1 < length (text_line first text ++ more ++ rest)
lines_long first text more rest = omega (arith, line_long first text more, length-append (text_line first text ++ more) rest)

sized_long : (first : ℕ) (text : List ℕ) → 1 < length (sized_text first text)
sized_long first text = lines_long first (decimal (length text)) text crlf

just_line : (first : ℕ) (text : List ℕ) → 1 < length (text_line first text)
just_line first text = omega (arith, length-append (first ∷ text) (13 ∷ 10 ∷ []))

error_long : (text : List ℕ) → 1 < length (error_line text)
error_long text =
    chosen (λ (x : List ℕ). 1 < length x) (breaks_line text) (sized_text (byte "!") text) (text_line (byte "-") text)
    (λ t. sized_long (byte "!") text) (λ f. just_line (byte "-") text)

value_long : (d : Data) → 1 < length (canonical d)
value_long nil = just_line (byte "_") []
value_long (int n) = just_line (byte ":") (signed_decimal n)
value_long (bulk text) = sized_long (byte "$") text
value_long (array ds) = line_long (byte "*") (decimal (length (list_of ds))) (each_item ds)
value_long (simple text) = just_line (byte "+") text
value_long okay = just_line (byte "+") (codes "OK")
value_long (dict ms) = line_long (byte "%") (decimal (length (pairs_of ms))) (each_member ms)
value_long (attribute d ms) = lines_long (byte "|") (decimal (length (pairs_of ms))) (each_member ms) (canonical d)
value_long (set ds) = line_long (byte "~") (decimal (length (list_of ds))) (each_item ds)
value_long (double text) = just_line (byte ",") text
value_long (boolean b) = just_line (byte "#") (boolean_text b)
value_long (verbatim format text) = sized_long (byte "=") (format ++ byte ":" ∷ text)
value_long (big text) = just_line (byte "(") text
value_long (push kind ds) = lines_long (byte ">") (decimal (suc (length (list_of ds)))) (bulk_string (kind_text kind)) (each_item ds)
value_long (error e) = error_long (e.code ++ detail_text e.detail)

-- a canonical text as a word
pub escaped_value : (d : Data) → escaped (canonical d) ≡ all_escaped (canonical d)
escaped_value d = escaped_long (canonical d) (value_long d)

-- it is added behind a space
pub value_added : (d : Data) (old line new : List ℕ) → line ≡ old ++ codes " " → new ≡ line ++ all_escaped (canonical d) → new ≡ old ++ following (canonical d ∷ [])
value_added d old line new space rest = word_added old line new (canonical d) (all_escaped (canonical d)) space rest (escaped_value d)

-- some byte of two texts is CR or LF where it is so of the one or the other
pub breaks_either : (xs ys : List ℕ) → breaks_line (xs ++ ys) ≡ (breaks_line xs || breaks_line ys)
breaks_either [] ys = refl
breaks_either (x ∷ xs) ys = ap (λ b. (x == 13 || x == 10) || b) (breaks_either xs ys) ∙ sym (or_assoc (x == 13 || x == 10) (breaks_line xs) (breaks_line ys))
