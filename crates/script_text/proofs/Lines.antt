-- The first of a text's parts as a line.
use Rattle.std.proofs.Common.{◌≡◌, ℕ, ◌<◌, ◌≤◌, Bool, true, false, cond, List, [], ◌∷◌, length, Some, None, refl, sym, ap, ◌∙◌, arith}
use Rattle.std.specs.Prelude.{◌==◌, ◌&&◌, nat_le, nat_lt}
use Rattle.std.specs.List.{onto_first}
use Rattle.std.proofs.lemmas.Bool.Decides.{nat_tests}
use Rattle.script_text.specs.Words.{parts, cut_at}
use Rattle.script_text.specs.Script.{max_lines, max_line, line_at, is_nothing}
use Rattle.script_text.proofs.Cutting.{some_parts, parts_whole, parts_first}

nothing_by : (here : Bool) (x : ℕ) (ps : List (List ℕ)) → 0 < length ps → is_nothing (cond here ([] ∷ ps) (onto_first x ps)) ≡ false
nothing_by here x [] h = absurd (omega arith)
nothing_by true x (p ∷ ps) h = refl
nothing_by false x (p ∷ []) h = refl
nothing_by false x (p ∷ q ∷ ps) h = refl

-- only a text of no bytes is one part of no bytes
pub nothing_left : (xs : List ℕ) → is_nothing (parts 10 xs) ≡ (length xs == 0)
nothing_left [] = refl
nothing_left (x ∷ xs) =
    let some : (length (x ∷ xs) == 0) ≡ false = grind (arith, nat_tests) in
    nothing_by (x == 10) x (parts 10 xs) (some_parts 10 xs) ∙ sym some

abbrev pub within : ℕ → ℕ → List ℕ → Bool
within number room line = nat_le number max_lines && nat_le (length line) max_line && nat_lt (length line) room

-- a part with another behind it is a line if it keeps the limits
pub ended : (number room : ℕ) (line : List ℕ) (behind : List (List ℕ)) → 0 < length behind → line_at number room (line ∷ behind) ≡ cond (within number room line) (Some line) None
ended number room line [] h = absurd (omega arith)
ended number room line (p ∷ ps) h = refl

first_line : (number room : ℕ) (left line rest : List ℕ) → cut_at 10 left ≡ Some (line, rest) → line_at number room (parts 10 left) ≡ cond (within number room line) (Some line) None
first_line number room left line rest cut = ap (line_at number room) (parts_first 10 left line rest cut) ∙ ended number room line (parts 10 rest) (some_parts 10 rest)

-- no LF ends what is left
pub no_line : (number room : ℕ) (left : List ℕ) → cut_at 10 left ≡ None → line_at number room (parts 10 left) ≡ None
no_line number room left cut = ap (line_at number room) (parts_whole 10 left cut)

pub line_refused : (number room : ℕ) (left line rest : List ℕ) → cut_at 10 left ≡ Some (line, rest) → (number ≤ max_lines → length line ≤ max_line → length line < room → ⊥) → line_at number room (parts 10 left) ≡ None
line_refused number room left line rest cut outside =
    let no : within number room line ≡ false = grind (arith, nat_tests) in
    first_line number room left line rest cut ∙ ap (λ b. cond b (Some line) None) no

pub line_kept : (number room : ℕ) (left line rest : List ℕ) → cut_at 10 left ≡ Some (line, rest) → number ≤ max_lines → length line ≤ max_line → length line < room → line_at number room (parts 10 left) ≡ Some line
line_kept number room left line rest cut a b c =
    let yes : within number room line ≡ true = grind (arith, nat_tests) in
    first_line number room left line rest cut ∙ ap (λ b. cond b (Some line) None) yes
