-- The parts of a text with more bytes behind it, and their counts.
use Rattle.std.proofs.Common.{◌≡◌, ℕ, suc, ◌+◌, ◌<◌, Bool, true, false, cond, List, [], ◌∷◌, ◌++◌, length, refl, sym, ap, ◌∙◌, arith, length-append}
use Rattle.std.specs.Prelude.{◌==◌, ◌&&◌, nat_le}
use Rattle.std.specs.List.{onto_first, list_all}
use Rattle.std.proofs.lemmas.Bool.Decides.{nat_tests}
use Rattle.std.proofs.lemmas.List.{append-nil}
use Rattle.containers.proofs.Choices.{both_true}
use Rattle.script_text.specs.Words.{parts}
use Rattle.script_text.specs.Script.{max_line, max_text}
use Rattle.script_text.specs.Limits.{last_of, is_short, keeps_limits, is_within, Counts}
use Rattle.script_text.specs.declared.intake.Tally.{Tally}
use Rattle.script_text.proofs.Cutting.{some_parts}

-- the last part goes on in the first of the others
abbrev pub glue : List (List ℕ) → List (List ℕ) → List (List ℕ)
glue [] qs = qs
glue (last ∷ []) [] = last ∷ []
glue (last ∷ []) (q ∷ qs) = (last ++ q) ∷ qs
glue (line ∷ next ∷ rest) qs = line ∷ glue (next ∷ rest) qs

glue_first : (ps qs : List (List ℕ)) → 0 < length ps → [] ∷ glue ps qs ≡ glue ([] ∷ ps) qs
glue_first [] qs h = absurd (omega arith)
glue_first (p ∷ ps) qs h = refl

glue_onto : (x : ℕ) (ps qs : List (List ℕ)) → 0 < length ps → 0 < length qs → onto_first x (glue ps qs) ≡ glue (onto_first x ps) qs
glue_onto x [] qs h k = absurd (omega arith)
glue_onto x (p ∷ []) [] h k = absurd (omega arith)
glue_onto x (p ∷ []) (q ∷ qs) h k = refl
glue_onto x (p ∷ r ∷ ps) qs h k = refl

glue_by : (here : Bool) (x : ℕ) (ps qs : List (List ℕ)) → 0 < length ps → 0 < length qs → cond here ([] ∷ glue ps qs) (onto_first x (glue ps qs)) ≡ glue (cond here ([] ∷ ps) (onto_first x ps)) qs
glue_by true x ps qs h k = glue_first ps qs h
glue_by false x ps qs h k = glue_onto x ps qs h k

nothing_before : (qs : List (List ℕ)) → 0 < length qs → qs ≡ glue ([] ∷ []) qs
nothing_before [] h = absurd (omega arith)
nothing_before (q ∷ qs) h = refl

-- more bytes go on in the last part
pub parts_append : (b : ℕ) (xs ys : List ℕ) → parts b (xs ++ ys) ≡ glue (parts b xs) (parts b ys)
parts_append b [] ys = nothing_before (parts b ys) (some_parts b ys)
parts_append b (x ∷ xs) ys =
    ap (λ ps. cond (x == b) ([] ∷ ps) (onto_first x ps)) (parts_append b xs ys) ∙ glue_by (x == b) x (parts b xs) (parts b ys) (some_parts b xs) (some_parts b ys)

-- the counts of parts, with one more byte in the last of them
push_length : (x : ℕ) (ps : List (List ℕ)) → 0 < length ps → length (glue ps ((x ∷ []) ∷ [])) ≡ length ps
push_length x [] h = absurd (omega arith)
push_length x (p ∷ []) h = refl
push_length x (p ∷ r ∷ ps) h = ap suc (push_length x (r ∷ ps) (omega arith))

push_last : (x : ℕ) (ps : List (List ℕ)) → 0 < length ps → length (last_of (glue ps ((x ∷ []) ∷ []))) ≡ length (last_of ps) + 1
push_last x [] h = absurd (omega arith)
push_last x (p ∷ []) h = length-append p (x ∷ [])
push_last x (p ∷ r ∷ []) h = length-append r (x ∷ [])
push_last x (p ∷ r ∷ s ∷ ps) h = push_last x (r ∷ s ∷ ps) (omega arith)

-- the same with one more line
end_length : (ps : List (List ℕ)) → 0 < length ps → length (glue ps ([] ∷ [] ∷ [])) ≡ length ps + 1
end_length [] h = absurd (omega arith)
end_length (p ∷ []) h = refl
end_length (p ∷ r ∷ ps) h = omega (arith, end_length (r ∷ ps) (omega arith))

end_last : (ps : List (List ℕ)) → 0 < length ps → length (last_of (glue ps ([] ∷ [] ∷ []))) ≡ 0
end_last [] h = absurd (omega arith)
end_last (p ∷ []) h = refl
end_last (p ∷ r ∷ []) h = refl
end_last (p ∷ r ∷ s ∷ ps) h = end_last (r ∷ s ∷ ps) (omega arith)

and_true : (b : Bool) → (b && true) ≡ b
and_true true = refl
and_true false = refl

push_short : (x : ℕ) (ps : List (List ℕ)) → list_all is_short ps ≡ true → list_all is_short (glue ps ((x ∷ []) ∷ [])) ≡ is_short (last_of (glue ps ((x ∷ []) ∷ [])))
push_short x [] h = refl
push_short x (p ∷ []) h = and_true (is_short (p ++ x ∷ []))
push_short x (p ∷ r ∷ []) h =
    ap (λ b. b && (is_short (r ++ x ∷ []) && true)) (both_true (is_short p) (list_all is_short (r ∷ [])) h).0 ∙ and_true (is_short (r ++ x ∷ []))
push_short x (p ∷ r ∷ s ∷ ps) h =
    let b = both_true (is_short p) (list_all is_short (r ∷ s ∷ ps)) h in
    ap (λ b. b && list_all is_short (glue (r ∷ s ∷ ps) ((x ∷ []) ∷ []))) b.0 ∙ push_short x (r ∷ s ∷ ps) b.1

end_short : (ps : List (List ℕ)) → 0 < length ps → list_all is_short ps ≡ true → list_all is_short (glue ps ([] ∷ [] ∷ [])) ≡ true
end_short [] k h = absurd (omega arith)
end_short (p ∷ []) k h = ap (λ l. is_short l && true) (append-nil p) ∙ h
end_short (p ∷ r ∷ ps) k h =
    let b = both_true (is_short p) (list_all is_short (r ∷ ps)) h in
    ap (λ b. b && list_all is_short (glue (r ∷ ps) ([] ∷ [] ∷ []))) b.0 ∙ end_short (r ∷ ps) (omega arith) b.1

-- what the counts of a text tell
pub kept_by : (tally : Tally) (text : List ℕ) → Counts tally text → keeps_limits text ≡ is_within tally
unfolding keeps_limits
kept_by tally text c = rw (c.short, ← c.bytes, ← c.lines, ← c.line) refl

all_short : (tally : Tally) (text : List ℕ) → Counts tally text → is_within tally ≡ true → list_all is_short (parts 10 text) ≡ true
all_short tally text c h = c.short ∙ ap (λ n. nat_le n max_line) (sym c.line) ∙ (both_true (nat_le tally.bytes max_text) (nat_le tally.line max_line) (both_true (nat_le tally.bytes max_text && nat_le tally.line max_line) _ h).0).1

pub counts_end : (tally : Tally) (text : List ℕ) → is_within tally ≡ true → Counts tally text → Counts (record { bytes = tally.bytes + 1; lines = tally.lines + 1; line = 0 }) (text ++ 10 ∷ [])
counts_end tally text h c =
    let some = some_parts 10 text in
    let short = all_short tally text c h in
    let e : parts 10 (text ++ 10 ∷ []) ≡ glue (parts 10 text) ([] ∷ [] ∷ []) = parts_append 10 text (10 ∷ []) in
    record {
      bytes = omega (arith, length-append text (10 ∷ []), c.bytes);
      lines = rw e (omega (arith, end_length (parts 10 text) some, c.lines));
      line = rw e (sym (end_last (parts 10 text) some));
      short = rw e (end_short (parts 10 text) some short ∙ ap (λ n. nat_le n max_line) (sym (end_last (parts 10 text) some)));
    }

pub counts_more : (tally : Tally) (text : List ℕ) (b : ℕ) → is_within tally ≡ true → (b ≡ 10 → ⊥) → Counts tally text → Counts (record { bytes = tally.bytes + 1; lines = tally.lines; line = tally.line + 1 }) (text ++ b ∷ [])
counts_more tally text b h other c =
    let some = some_parts 10 text in
    let short = all_short tally text c h in
    let no : (b == 10) ≡ false = grind (arith, nat_tests) in
    let one : parts 10 (b ∷ []) ≡ (b ∷ []) ∷ [] = rw no refl in
    let e : parts 10 (text ++ b ∷ []) ≡ glue (parts 10 text) ((b ∷ []) ∷ []) = parts_append 10 text (b ∷ []) ∙ ap (glue (parts 10 text)) one in
    record {
      bytes = omega (arith, length-append text (b ∷ []), c.bytes);
      lines = rw (e, push_length b (parts 10 text) some) c.lines;
      line = rw (e, push_last b (parts 10 text) some) (omega (arith, c.line));
      short = rw e (push_short b (parts 10 text) short);
    }
