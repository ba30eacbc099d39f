-- The bytes that a word was escaped from are read back, and no LF and no space stands in it.
use Rattle.std.proofs.Common.{◌≡◌, ◌≢◌, ℕ, ◌/◌, ◌%◌, ◌<◌, Bool, true, false, ◌&&◌, List, [], ◌∷◌, ◌++◌, length, get_or, Some, None, flat_map, bytes_eq, codes, refl, sym, ap, ◌∙◌, arith}
use Rattle.std.specs.Char.{is_digit}
use Rattle.std.specs.Fmt.{digit_glyph}
use Rattle.std.proofs.lemmas.Bool.{both_ways}
use Rattle.std.proofs.lemmas.Bool.Decides.{nat_tests}
use Rattle.std.proofs.lemmas.List.Elements.{All-head, All-tail}
use Rattle.std.proofs.lemmas.Slice.Eq.{bytes_eq-Decides}
use Rattle.percent_encoding.specs.Percent.{percent_encode_byte, percent_decode}
use Rattle.percent_encoding.proofs.PercentLemmas.{percent_decode-nil, percent_decode_not_percent, percent_decode-percent_encode_byte}
use Rattle.script_text.specs.Words.{begins_with_hex, is_well_escaped, unescaped}
use Rattle.script_text.specs.Words.{is_separator as parts_commands}
use Rattle.containers.proofs.Choices.{chosen}
use Rattle.trace_text.specs.Words.{is_plain, escaped_byte, is_separator, escaped}
use Rattle.text_laws.specs.Fits.{IsByte, AreBytes}

abbrev pub all_escaped : List ℕ → List ℕ
all_escaped bytes = flat_map escaped_byte bytes

pub plain_is : (b : ℕ) → is_plain b ≡ true → (32 < b) × (b < 127) × (b ≢ 37)
plain_is b e = (grind (arith, nat_tests), grind (arith, nat_tests), grind (arith, nat_tests))

glyph_digit : (d : ℕ) → d < 16 → is_digit (digit_glyph true d) 16 ≡ true
glyph_digit d small = grind (arith, nat_tests)

glyph_other : (d : ℕ) → d < 16 → digit_glyph true d ≢ 37
glyph_other d small = grind (arith, nat_tests)

-- what is decoded
decoded : (bytes : List ℕ) → AreBytes bytes → percent_decode (all_escaped bytes) ≡ bytes
decoded [] small = percent_decode-nil
decoded (b ∷ bs) small =
    let rest = decoded bs (All-tail IsByte b bs small) in
    chosen (λ front. percent_decode (front ++ all_escaped bs) ≡ b ∷ bs) (is_plain b) (b ∷ []) (percent_encode_byte b)
    (λ t. percent_decode_not_percent b (all_escaped bs) (plain_is b t).2 ∙ ap (λ x. b ∷ x) rest)
    (λ f. percent_decode-percent_encode_byte b (all_escaped bs) (All-head IsByte b bs small) ∙ ap (λ x. b ∷ x) rest)

plain_well : (b : ℕ) (rest : List ℕ) → b ≢ 37 → is_well_escaped rest ≡ true → is_well_escaped (b ∷ rest) ≡ true
plain_well b rest other well = grind (arith, nat_tests)

hex_in_front : (high low : ℕ) (rest : List ℕ) → is_digit high 16 ≡ true → is_digit low 16 ≡ true → begins_with_hex (high ∷ low ∷ rest) ≡ true
hex_in_front high low rest h l = ap (λ b. b && is_digit low 16) h ∙ l

byte_well : (b : ℕ) (rest : List ℕ) → is_well_escaped rest ≡ true → is_well_escaped (percent_encode_byte b ++ rest) ≡ true
unfolding percent_encode_byte
byte_well b rest well =
    let high = digit_glyph true (b / 16 % 16) in
    let low = digit_glyph true (b % 16) in
    let front = hex_in_front high low rest (glyph_digit (b / 16 % 16) (omega arith)) (glyph_digit (b % 16) (omega arith)) in
    ap (λ x. x && is_well_escaped (high ∷ low ∷ rest)) front ∙ plain_well high (low ∷ rest) (glyph_other (b / 16 % 16) (omega arith)) (plain_well low rest (glyph_other (b % 16) (omega arith)) well)

well_escaped : (bytes : List ℕ) → is_well_escaped (all_escaped bytes) ≡ true
well_escaped [] = refl
well_escaped (b ∷ bs) =
    let rest = well_escaped bs in
    chosen (λ front. is_well_escaped (front ++ all_escaped bs) ≡ true) (is_plain b) (b ∷ []) (percent_encode_byte b) (λ t. plain_well b (all_escaped bs) (plain_is b t).2 rest) (λ f. byte_well b (all_escaped bs) rest)

not_eq : (xs ys : List ℕ) → xs ≢ ys → bytes_eq xs ys ≡ false
not_eq xs ys differ = by (bytes_eq xs ys) refl
  where
    by : (b : Bool) → bytes_eq xs ys ≡ b → b ≡ false
    by true e = absurd (differ ((bytes_eq-Decides xs ys).0 e))
    by false e = refl

-- a text that is no special word
abbrev IsOrdinary : List ℕ → Type 0
IsOrdinary raw = (raw ≢ []) × (raw ≢ codes ";") × (raw ≢ codes "%-")

unescaped_is : (raw : List ℕ) → IsOrdinary raw → is_well_escaped raw ≡ true → unescaped raw ≡ Some (percent_decode raw)
unfolding unescaped
unescaped_is raw plain well =
    chosen (λ o. o ≡ Some (percent_decode raw)) (bytes_eq raw []) None _
    (λ t. absurd (both_ways _ (not_eq raw [] plain.0) t))
    (λ f. chosen (λ o. o ≡ Some (percent_decode raw)) (bytes_eq raw (codes "%-")) (Some []) _
    (λ t. absurd (both_ways _ (not_eq raw (codes "%-") plain.2) t))
    (λ g. chosen (λ o. o ≡ Some (percent_decode raw)) (is_well_escaped raw) (Some (percent_decode raw)) None (λ t. refl) (λ n. absurd (both_ways _ n well))))

-- the first byte of a text
abbrev first : List ℕ → ℕ
first xs = get_or xs 0 0

some_escaped : (b : ℕ) (bs : List ℕ) → 0 < length (all_escaped (b ∷ bs))
unfolding percent_encode_byte
some_escaped b bs = chosen (λ front. 0 < length (front ++ all_escaped bs)) (is_plain b) (b ∷ []) (percent_encode_byte b) (λ t. omega arith) (λ f. omega arith)

no_separator : (b : ℕ) (bs : List ℕ) → is_separator (b ∷ bs) ≡ false → b ∷ all_escaped bs ≢ codes ";"
no_separator b [] other e = both_ways _ other (grind (arith, nat_tests, ap first e))
no_separator b (c ∷ cs) other e = let some = some_escaped c cs in omega (arith, ap length e)

plain_ordinary : (b : ℕ) (bs : List ℕ) → is_separator (b ∷ bs) ≡ false → b ≢ 37 → IsOrdinary (b ∷ all_escaped bs)
plain_ordinary b bs lone other = (λ e. omega (arith, ap length e), no_separator b bs lone, λ e. other (ap first e))

byte_ordinary : (b : ℕ) (rest : List ℕ) → IsOrdinary (percent_encode_byte b ++ rest)
unfolding percent_encode_byte
byte_ordinary b rest = (λ e. omega (arith, ap length e), λ e. omega (arith, ap length e), λ e. omega (arith, ap length e))

ordinary : (b : ℕ) (bs : List ℕ) → is_separator (b ∷ bs) ≡ false → IsOrdinary (all_escaped (b ∷ bs))
ordinary b bs lone =
    chosen (λ front. IsOrdinary (front ++ all_escaped bs)) (is_plain b) (b ∷ []) (percent_encode_byte b) (λ t. plain_ordinary b bs lone (plain_is b t).2) (λ f. byte_ordinary b (all_escaped bs))

separator_is : (b : ℕ) (bs : List ℕ) → is_separator (b ∷ bs) ≡ true → b ∷ bs ≡ codes ";"
separator_is b [] e = ap (λ x. x ∷ []) (grind (arith, nat_tests))
separator_is b (c ∷ cs) e = cc

separator_back : unescaped (codes "%3B") ≡ Some (codes ";")
unfolding unescaped percent_decode
separator_back = refl

-- a word is read back
pub read_back : (word : List ℕ) → AreBytes word → unescaped (escaped word) ≡ Some word
unfolding unescaped escaped
read_back [] small = refl
read_back (b ∷ bs) small =
    chosen (λ raw. unescaped raw ≡ Some (b ∷ bs)) (is_separator (b ∷ bs)) (codes "%3B") (all_escaped (b ∷ bs))
    (λ t. separator_back ∙ ap Some (sym (separator_is b bs t)))
    (λ f. unescaped_is (all_escaped (b ∷ bs)) (ordinary b bs f) (well_escaped (b ∷ bs)) ∙ ap Some (decoded (b ∷ bs) small))

-- no word is written as a separator
pub escaped_no_separator : (word : List ℕ) → parts_commands (escaped word) ≡ false
unfolding escaped
escaped_no_separator [] = refl
escaped_no_separator (b ∷ bs) =
    chosen (λ raw. parts_commands raw ≡ false) (is_separator (b ∷ bs)) (codes "%3B") (all_escaped (b ∷ bs)) (λ t. refl) (λ f. not_eq (all_escaped (b ∷ bs)) (codes ";") (ordinary b bs f).1)
