-- What a text of plain bytes and escapes stands for, read from one `%` to the next.
use Rattle.std.proofs.Common.{◌≡◌, ℕ, ◌+◌, ◌*◌, ◌<◌, ◌≤◌, ◌==◌, not, ◌&&◌, ◌||◌, true, false, List, [], ◌∷◌, ◌++◌, length, get_or, drop, Option, Some, None, option_map, refl, sym, ap, ◌∙◌, subst, append_assoc, bytes_eq, codes, if◌then◌else◌, arith}
use Rattle.std.specs.Char.{digit_value, is_digit}
use Rattle.std.proofs.lemmas.Bool.{and_from, lt-ltb, eqb-true, eqb-false}
use Rattle.std.proofs.lemmas.Bool.Decides.{nat_tests}
use Rattle.percent_encoding.specs.Percent.{percent_decode}
use Rattle.percent_encoding.proofs.PercentLemmas.{percent_decode-nil, percent_decode_escape, percent_decode_not_percent}
use Rattle.containers.proofs.Choices.{chosen, taken_if, left_if}
use Rattle.script_text.specs.Words.{begins_with_hex, is_well_escaped, unescaped, cut_at}

-- what a cut at the first `%` says of a text
abbrev CutWell : List ℕ → Option (List ℕ × List ℕ) → Type 0
CutWell text None = (is_well_escaped text ≡ true) × (percent_decode text ≡ text)
CutWell text (Some c) = (is_well_escaped text ≡ is_well_escaped (37 ∷ c.1)) × (percent_decode text ≡ c.0 ++ percent_decode (37 ∷ c.1))

well_behind : (x : ℕ) (xs : List ℕ) → (x == 37) ≡ false → is_well_escaped (x ∷ xs) ≡ is_well_escaped xs
well_behind x xs other = ap (λ b. (not b || begins_with_hex xs) && is_well_escaped xs) other

at_percent : (x : ℕ) (xs : List ℕ) → (x == 37) ≡ true → CutWell (x ∷ xs) (Some ([], xs))
at_percent x xs is =
    let same : x ≡ 37 = eqb-true x 37 is in
    (ap (λ b. is_well_escaped (b ∷ xs)) same, ap (λ b. percent_decode (b ∷ xs)) same)

before_percent : (x : ℕ) (xs : List ℕ) (o : Option (List ℕ × List ℕ)) → (x == 37) ≡ false → CutWell xs o → CutWell (x ∷ xs) (option_map (λ c. (x ∷ c.0, c.1)) o)
before_percent x xs None other h =
    (well_behind x xs other ∙ h.0, percent_decode_not_percent x xs (eqb-false x 37 other) ∙ ap (λ l. x ∷ l) h.1)
before_percent x xs (Some c) other h =
    (well_behind x xs other ∙ h.0, percent_decode_not_percent x xs (eqb-false x 37 other) ∙ ap (λ l. x ∷ l) h.1)

cut_well : (text : List ℕ) → CutWell text (cut_at 37 text)
cut_well [] = (refl, percent_decode-nil)
cut_well (x ∷ xs) =
    chosen (CutWell (x ∷ xs)) (x == 37) (Some ([], xs)) (option_map (λ c. (x ∷ c.0, c.1)) (cut_at 37 xs)) (at_percent x xs)
    (λ other. before_percent x xs (cut_at 37 xs) other (cut_well xs))

-- a text with no `%`
pub no_percent : (text : List ℕ) → cut_at 37 text ≡ None → (is_well_escaped text ≡ true) × (percent_decode text ≡ text)
no_percent text none = subst (CutWell text) none (cut_well text)

-- a text up to its first `%`
pub first_percent : (text run rest : List ℕ) → cut_at 37 text ≡ Some (run, rest) → (is_well_escaped text ≡ is_well_escaped (37 ∷ rest)) × (percent_decode text ≡ run ++ percent_decode (37 ∷ rest))
first_percent text run rest some = subst (CutWell text) some (cut_well text)

-- a hexadecimal digit isn't `%`
hex_other : (d : ℕ) → digit_value d < 16 → (d == 37) ≡ false
hex_other d small = grind (arith, nat_tests)

-- an escape in front
escape_well : (high low : ℕ) (rest : List ℕ) → digit_value high < 16 → digit_value low < 16 → is_well_escaped (37 ∷ high ∷ low ∷ rest) ≡ is_well_escaped rest
escape_well high low rest h l =
    let digits : (is_digit high 16 && is_digit low 16) ≡ true = and_from (is_digit high 16) (is_digit low 16) (lt-ltb (digit_value high) 16 h) (lt-ltb (digit_value low) 16 l) in
    ap (λ b. b && is_well_escaped (high ∷ low ∷ rest)) digits ∙ well_behind high (low ∷ rest) (hex_other high h) ∙ well_behind low rest (hex_other low l)

pub escape_at : (text : List ℕ) → 2 ≤ length text → digit_value (get_or text 0 0) < 16 → digit_value (get_or text 1 0) < 16
    → (is_well_escaped (37 ∷ text) ≡ is_well_escaped (drop 2 text)) × (percent_decode (37 ∷ text) ≡ (16 * digit_value (get_or text 0 0) + digit_value (get_or text 1 0)) ∷ percent_decode (drop 2 text))
escape_at [] long h l = absurd (omega arith)
escape_at (high ∷ []) long h l = absurd (omega arith)
escape_at (high ∷ low ∷ rest) long h l = (escape_well high low rest h l, percent_decode_escape 37 high low rest refl h l)

-- what was read so far, and what is left of a text
pub record ReadOn (text found left : List ℕ) : Type 0 where
  pub well : is_well_escaped text ≡ is_well_escaped left
  pub bytes : percent_decode text ≡ found ++ percent_decode left

-- one run and the escape behind it
pub read_more : (text found left run rest after : List ℕ) (byte : ℕ) → ReadOn text found left → cut_at 37 left ≡ Some (run, rest)
    → is_well_escaped (37 ∷ rest) ≡ is_well_escaped after → percent_decode (37 ∷ rest) ≡ byte ∷ percent_decode after
    → ReadOn text ((found ++ run) ++ byte ∷ []) after
read_more text found left run rest after byte on cut well bytes =
    let first = first_percent left run rest cut in
    record {
      well = on.well ∙ first.0 ∙ well;
      bytes =
          on.bytes
          ∙ ap (λ x. found ++ x) (first.1 ∙ ap (λ x. run ++ x) bytes)
          ∙ sym (append_assoc found run (byte ∷ percent_decode after))
          ∙ sym (append_assoc (found ++ run) (byte ∷ []) (percent_decode after));
    }

-- an escape that isn't written well
pub read_badly : (text found left run rest : List ℕ) → ReadOn text found left → cut_at 37 left ≡ Some (run, rest) → is_well_escaped (37 ∷ rest) ≡ false → is_well_escaped text ≡ false
read_badly text found left run rest on cut bad = on.well ∙ (first_percent left run rest cut).0 ∙ bad

-- the last run
pub read_whole : (text found left : List ℕ) → ReadOn text found left → cut_at 37 left ≡ None → (is_well_escaped text ≡ true) × (percent_decode text ≡ found ++ left)
read_whole text found left on none =
    let last = no_percent left none in
    (on.well ∙ last.0, on.bytes ∙ ap (λ x. found ++ x) last.1)

-- what a test that came out says of what is read
pub read_some : (text bytes : List ℕ) → (is_well_escaped text ≡ true) × (percent_decode text ≡ bytes) → Some bytes ≡ (if is_well_escaped text then Some (percent_decode text) else None)
read_some text bytes h = ap Some (sym h.1) ∙ sym (taken_if (is_well_escaped text) (Some (percent_decode text)) None h.0)

pub read_none : (text : List ℕ) → is_well_escaped text ≡ false → ◌≡◌ {A = Option (List ℕ)} None (if is_well_escaped text then Some (percent_decode text) else None)
read_none text h = sym (left_if (is_well_escaped text) (Some (percent_decode text)) None h)

-- a part with no `%` stands for itself, if it has a byte
pub plain_part : (raw : List ℕ) → (length raw == 0) ≡ false → bytes_eq raw (codes "%-") ≡ false → cut_at 37 raw ≡ None → Some raw ≡ unescaped raw
unfolding unescaped
plain_part [] some other none = cc
plain_part (x ∷ xs) some other none =
    read_some (x ∷ xs) (x ∷ xs) (no_percent (x ∷ xs) none)
    ∙ sym (left_if (bytes_eq (x ∷ xs) (codes "%-")) (Some []) (if is_well_escaped (x ∷ xs) then Some (percent_decode (x ∷ xs)) else None) other)
