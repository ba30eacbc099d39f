-- The lines of a text and the words of a line, as they were written.
use Rattle.std.proofs.Common.{◌≡◌, ℕ, ◌<◌, ◌≤◌, false, ◌==◌, List, [], ◌∷◌, ◌++◌, All, Some, map, option_map, option_and_then, flat_map, codes, refl, sym, ap, ◌∙◌, append_assoc, append-nil, arith}
use Rattle.std.specs.List.{slice_split}
use Rattle.std.proofs.lemmas.Bool.Decides.{nat_tests}
use Rattle.std.proofs.lemmas.List.Elements.{All-nil, All-cons, All-head, All-tail, All-append, All-weaker}
use Rattle.std.proofs.lemmas.List.Splits.{slice_split_none, slice_split_at}
use Rattle.std.proofs.lemmas.List.Folds.{flat_map-map}
use Rattle.std.proofs.lemmas.Grind.{flat_map-append}
use Rattle.percent_encoding.specs.Percent.{percent_encode_byte}
use Rattle.percent_encoding.proofs.PercentLemmas.{IsEscapeByte, All-percent_encode_byte}
use Rattle.script_text.specs.Words.{parts, unescaped, all_of, group_of, line_words, words_of_line}
use Rattle.script_text.specs.Words.{is_separator as parts_commands}
use Rattle.trace_text.specs.Words.{is_plain, is_separator, escaped, following, separated, line_of}
use Rattle.containers.proofs.Choices.{chosen}
use Rattle.text_laws.specs.Fits.{AreBytes}
use Rattle.text_laws.proofs.Escapes.{all_escaped, plain_is, escaped_no_separator, read_back}

-- neither a control byte nor a space
abbrev IsVisible : ℕ → Type 0
IsVisible b = 32 < b

abbrev IsInLine : ℕ → Type 0
IsInLine b = 32 ≤ b

escape_visible : (b : ℕ) → IsEscapeByte b → IsVisible b
escape_visible b h = grind arith

all_visible : (bytes : List ℕ) → All IsVisible (all_escaped bytes)
all_visible [] = All-nil IsVisible
all_visible (b ∷ bs) =
    let rest = all_visible bs in
    chosen (λ front. All IsVisible (front ++ all_escaped bs)) (is_plain b) (b ∷ []) (percent_encode_byte b)
    (λ t. All-cons IsVisible b (all_escaped bs) (plain_is b t).0 rest)
    (λ f. All-append IsVisible (percent_encode_byte b) (all_escaped bs) (All-weaker IsEscapeByte IsVisible escape_visible (percent_encode_byte b) (All-percent_encode_byte b)) rest)

empty_visible : All IsVisible (codes "%-")
empty_visible = All-cons IsVisible 37 (45 ∷ []) (omega arith) (All-cons IsVisible 45 [] (omega arith) (All-nil IsVisible))

separator_visible : All IsVisible (codes "%3B")
separator_visible = All-cons IsVisible 37 (51 ∷ 66 ∷ []) (omega arith) (All-cons IsVisible 51 (66 ∷ []) (omega arith) (All-cons IsVisible 66 [] (omega arith) (All-nil IsVisible)))

escaped_visible : (word : List ℕ) → All IsVisible (escaped word)
unfolding escaped
escaped_visible [] = empty_visible
escaped_visible (b ∷ bs) = chosen (All IsVisible) (is_separator (b ∷ bs)) (codes "%3B") (all_escaped (b ∷ bs)) (λ t. separator_visible) (λ f. all_visible (b ∷ bs))

no_space : (word : List ℕ) → All (λ b. (b == 32) ≡ false) (escaped word)
no_space word = All-weaker IsVisible (λ b. (b == 32) ≡ false) (λ b l. grind (arith, nat_tests)) (escaped word) (escaped_visible word)

-- a line without its LF
abbrev pub raw_of : List (List ℕ) → List (List (List ℕ)) → List ℕ
raw_of [] more = separated more
raw_of (word ∷ words) more = escaped word ++ following words ++ separated more

in_line : (word : List ℕ) → All IsInLine (escaped word)
in_line word = All-weaker IsVisible IsInLine (λ b l. omega arith) (escaped word) (escaped_visible word)

following_in_line : (words : List (List ℕ)) → All IsInLine (following words)
following_in_line [] = All-nil IsInLine
following_in_line (word ∷ words) = All-cons IsInLine 32 (escaped word ++ following words) (omega arith) (All-append IsInLine (escaped word) (following words) (in_line word) (following_in_line words))

separated_in_line : (more : List (List (List ℕ))) → All IsInLine (separated more)
separated_in_line [] = All-nil IsInLine
separated_in_line (words ∷ more) =
    All-cons IsInLine 32 (59 ∷ following words ++ separated more) (omega arith)
    (All-cons IsInLine 59 (following words ++ separated more) (omega arith) (All-append IsInLine (following words) (separated more) (following_in_line words) (separated_in_line more)))

raw_in_line : (words : List (List ℕ)) (more : List (List (List ℕ))) → All IsInLine (raw_of words more)
raw_in_line [] more = separated_in_line more
raw_in_line (word ∷ words) more =
    All-append IsInLine (escaped word ++ following words) (separated more) (All-append IsInLine (escaped word) (following words) (in_line word) (following_in_line words)) (separated_in_line more)

no_lf : (words : List (List ℕ)) (more : List (List (List ℕ))) → All (λ b. (b == 10) ≡ false) (raw_of words more)
no_lf words more = All-weaker IsInLine (λ b. (b == 10) ≡ false) (λ b l. grind (arith, nat_tests)) (raw_of words more) (raw_in_line words more)

-- texts that follow another, each after a space
abbrev spaced : List (List ℕ) → List ℕ
spaced raws = flat_map (λ raw. 32 ∷ raw) raws

abbrev HasNoSpace : List ℕ → Type 0
HasNoSpace raw = All (λ b. (b == 32) ≡ false) raw

parts_spaced : (raw : List ℕ) (raws : List (List ℕ)) → HasNoSpace raw → All HasNoSpace raws → parts 32 (raw ++ spaced raws) ≡ raw ∷ raws
parts_spaced raw [] here each = ap (parts 32) (append-nil raw) ∙ slice_split_none (λ x. x == 32) raw here
parts_spaced raw (next ∷ rest) here each =
    slice_split_at (λ x. x == 32) raw 32 (next ++ spaced rest) here refl
    ∙ ap (λ ps. raw ∷ ps) (parts_spaced next rest (All-head HasNoSpace next rest each) (All-tail HasNoSpace next rest each))

-- the parts of a line behind separators
abbrev behind_separators : List (List (List ℕ)) → List (List ℕ)
behind_separators more = flat_map (λ words. codes ";" ∷ map escaped words) more

following_spaced : (words : List (List ℕ)) → following words ≡ spaced (map escaped words)
following_spaced words = sym (flat_map-map (λ raw. 32 ∷ raw) escaped words)

separated_spaced : (more : List (List (List ℕ))) → separated more ≡ spaced (behind_separators more)
separated_spaced [] = refl
separated_spaced (words ∷ more) =
    ap (λ t. 32 ∷ 59 ∷ t)
    ((λ j. following_spaced words j ++ separated_spaced more j) ∙ sym (flat_map-append (λ raw. 32 ∷ raw) (map escaped words) (behind_separators more)))

escaped_no_space : (words : List (List ℕ)) → All HasNoSpace (map escaped words)
escaped_no_space [] = All-nil HasNoSpace
escaped_no_space (word ∷ words) = All-cons HasNoSpace (escaped word) (map escaped words) (no_space word) (escaped_no_space words)

separator_no_space : HasNoSpace (codes ";")
separator_no_space = All-cons (λ b. (b == 32) ≡ false) 59 [] refl (All-nil (λ b. (b == 32) ≡ false))

behind_no_space : (more : List (List (List ℕ))) → All HasNoSpace (behind_separators more)
behind_no_space [] = All-nil HasNoSpace
behind_no_space (words ∷ more) =
    All-cons HasNoSpace (codes ";") (map escaped words ++ behind_separators more) separator_no_space
    (All-append HasNoSpace (map escaped words) (behind_separators more) (escaped_no_space words) (behind_no_space more))

-- the parts of a line between spaces are its words' escapes and its separators
pub parts_words : (word : List ℕ) (words : List (List ℕ)) (more : List (List (List ℕ))) → parts 32 (raw_of (word ∷ words) more) ≡ escaped word ∷ (map escaped words ++ behind_separators more)
parts_words word words more =
    ap (parts 32)
    (append_assoc (escaped word) (following words) (separated more)
    ∙ ap (λ t. escaped word ++ t) ((λ j. following_spaced words j ++ separated_spaced more j) ∙ sym (flat_map-append (λ raw. 32 ∷ raw) (map escaped words) (behind_separators more))))
    ∙ parts_spaced (escaped word) (map escaped words ++ behind_separators more) (no_space word)
    (All-append HasNoSpace (map escaped words) (behind_separators more) (escaped_no_space words) (behind_no_space more))

no_separators : (words : List (List ℕ)) → All (λ raw. parts_commands raw ≡ false) (map escaped words)
no_separators [] = All-nil (λ raw. parts_commands raw ≡ false)
no_separators (word ∷ words) = All-cons (λ raw. parts_commands raw ≡ false) (escaped word) (map escaped words) (escaped_no_separator word) (no_separators words)

-- the parts between separators
split_back : (words : List (List ℕ)) (more : List (List (List ℕ))) → slice_split parts_commands (map escaped words ++ behind_separators more) ≡ map escaped words ∷ map (map escaped) more
split_back words [] = ap (slice_split parts_commands) (append-nil (map escaped words)) ∙ slice_split_none parts_commands (map escaped words) (no_separators words)
split_back words (next ∷ rest) =
    slice_split_at parts_commands (map escaped words) (codes ";") (map escaped next ++ behind_separators rest) (no_separators words) refl
    ∙ ap (λ gs. map escaped words ∷ gs) (split_back next rest)

words_back : (words : List (List ℕ)) → All AreBytes words → group_of (map escaped words) ≡ Some words
words_back [] small = refl
words_back (word ∷ words) small =
    ap (λ o. all_of (o ∷ map unescaped (map escaped words))) (read_back word (All-head AreBytes word words small))
    ∙ ap (option_map (λ ws. word ∷ ws)) (words_back words (All-tail AreBytes word words small))

groups_back : (groups : List (List (List ℕ))) → All (All AreBytes) groups → all_of (map group_of (map (map escaped) groups)) ≡ Some groups
groups_back [] small = refl
groups_back (words ∷ more) small =
    ap (λ o. all_of (o ∷ map group_of (map (map escaped) more))) (words_back words (All-head (All AreBytes) words more small))
    ∙ ap (option_map (λ gs. words ∷ gs)) (groups_back more (All-tail (All AreBytes) words more small))

-- the words of a line are read back
pub line_back : (word : List ℕ) (words : List (List ℕ)) (more : List (List (List ℕ))) → All AreBytes (word ∷ words) → All (All AreBytes) more
    → words_of_line (raw_of (word ∷ words) more) ≡ Some (record { words = word ∷ words; more = more })
unfolding words_of_line
line_back word words more small each =
    ap (λ ps. option_and_then line_words (all_of (map group_of (slice_split parts_commands ps)))) (parts_words word words more)
    ∙ ap (λ gs. option_and_then line_words (all_of (map group_of gs))) (split_back (word ∷ words) more)
    ∙ ap (option_and_then line_words) (groups_back ((word ∷ words) ∷ more) (All-cons (All AreBytes) (word ∷ words) more small each))

line_is : (words : List (List ℕ)) (more : List (List (List ℕ))) → line_of words more ≡ raw_of words more ++ 10 ∷ []
line_is [] more = refl
line_is (word ∷ words) more = sym (append_assoc (escaped word ++ following words) (separated more) (10 ∷ []))

-- a line is the first part of its text
pub parts_line : (words : List (List ℕ)) (more : List (List (List ℕ))) (rest : List ℕ) → parts 10 (line_of words more ++ rest) ≡ raw_of words more ∷ parts 10 rest
parts_line words more rest =
    ap (λ l. parts 10 (l ++ rest)) (line_is words more) ∙ ap (parts 10) (append_assoc (raw_of words more) (10 ∷ []) rest)
    ∙ slice_split_at (λ x. x == 10) (raw_of words more) 10 rest (no_lf words more) refl
