-- Where a text keeps the limits, each part with another behind it is a line.
use Rattle.std.proofs.Common.{◌≡◌, ℕ, ◌+◌, ◌-◌, ◌<◌, ◌≤◌, Bool, true, false, List, [], ◌∷◌, length, Some, refl, arith}
use Rattle.std.specs.Prelude.{◌&&◌, nat_le}
use Rattle.std.specs.List.{list_all}
use Rattle.std.proofs.lemmas.Bool.{and_parts}
use Rattle.std.proofs.lemmas.Bool.Decides.{nat_tests}
use Rattle.script_text.specs.Words.{parts}
use Rattle.script_text.specs.Script.{max_lines, max_line, max_text, line_at}
use Rattle.script_text.specs.Limits.{lines_begun, is_short, keeps_limits}
use Rattle.script_text.proofs.Lines.{within}
use Rattle.script_text.proofs.Late.{total, total_parts, Keeps, a_line}

-- each of three tests holds
all_three : (a b c : Bool) → (a && b && c) ≡ true → (a ≡ true) × (b ≡ true) × (c ≡ true)
all_three true true true e = (refl, refl, refl)
all_three true true false e = cc
all_three true false c e = cc
all_three false b c e = cc

pub keeps_parts : (text : List ℕ) → keeps_limits text ≡ true → Keeps 1 max_text (parts 10 text)
unfolding keeps_limits
keeps_parts text h =
    let size = total_parts 10 text in
    let each = all_three (nat_le (length text) max_text) (list_all is_short (parts 10 text)) (nat_le (lines_begun (parts 10 text)) max_lines) h in
    let bytes : length text ≤ max_text = grind (arith, nat_tests, each.0) in
    let count : lines_begun (parts 10 text) ≤ max_lines = grind (arith, nat_tests, each.2) in
    record { bytes = omega (arith, size, bytes); lines = each.1; count = omega (arith, count) }

within_by : (number room : ℕ) (line : List ℕ) → number ≤ max_lines → length line ≤ max_line → length line < room → within number room line ≡ true
within_by number room line few short fits = grind (arith, nat_tests)

-- the first of at least two parts is a line
pub kept_line : (number room : ℕ) (line : List ℕ) (behind : List (List ℕ)) → 0 < length behind → Keeps number room (line ∷ behind) → line_at number room (line ∷ behind) ≡ Some line
kept_line number room line [] some k = absurd (omega arith)
kept_line number room line (next ∷ rest) some k =
    let small = (and_parts (is_short line) (list_all is_short (next ∷ rest)) k.lines).0 in
    let short : length line ≤ max_line = grind (arith, nat_tests, small) in
    a_line number room line (next ∷ rest) some (within_by number room line (omega (arith, k.count)) short (omega (arith, k.bytes)))

-- and those behind it keep the limits too
pub kept_behind : (number room : ℕ) (line : List ℕ) (behind : List (List ℕ)) → 0 < length behind → Keeps number room (line ∷ behind) → Keeps (number + 1) (room - (length line + 1)) behind
kept_behind number room line [] some k = absurd (omega arith)
kept_behind number room line (next ∷ rest) some k = record {
  bytes = omega (arith, k.bytes);
  lines = (and_parts (is_short line) (list_all is_short (next ∷ rest)) k.lines).1;
  count = omega (arith, k.count);
}
