-- Lines are few.
use Rattle.std.proofs.Common.{◌≡◌, ℕ, ◌+◌, ◌-◌, ◌≤◌, nat_le, Bool, true, false, cond, List, [], ◌∷◌, length, Option, Some, None, IfSome, IfOk, Result, Ok, Err, subst, arith}
use Rattle.std.specs.Prelude.{◌&&◌, nat_lt, option_and_then}
use Rattle.containers.proofs.Choices.{both_left, chosen, le_from}
use Rattle.driver_model.specs.declared.kind.SessionKind.{SessionKind}
use Rattle.script_text.specs.Lines.{submission_of, submission_then, words_then, submissions_from, lines_of}
use Rattle.script_text.specs.Script.{line_at, max_line, max_lines, max_text, words_at, is_end, is_nothing}
use Rattle.script_text.specs.Words.{LineWords, parts, words_of_line}
use Rattle.caller_threads.specs.Submits.{Line}

-- lines from this number on are no more than there may be
abbrev AreFewFrom : ℕ → List Line → Type 0
AreFewFrom number lines = length lines + number ≤ max_lines + 1

-- a line that is read has such a number
line_within : (number room : ℕ) (lines : List (List ℕ)) → IfSome (line_at number room lines) (λ line. number ≤ max_lines)
line_within number room [] = tt
line_within number room (last ∷ []) = tt
line_within number room (line ∷ next ∷ rest) =
    chosen (λ (o : Option (List ℕ)). IfSome o (λ l. number ≤ max_lines)) (nat_le number max_lines && nat_le (length line) max_line && nat_lt (length line) room) (Some line) None
    (λ t. le_from number max_lines (both_left (nat_le number max_lines) (nat_le (length line) max_line) (both_left (nat_le number max_lines && nat_le (length line) max_line) (nat_lt (length line) room) t))) (λ f. tt)

words_within : (number : ℕ) (o : Option (List ℕ)) → IfSome o (λ line. number ≤ max_lines) → IfSome (option_and_then words_of_line o) (λ words. number ≤ max_lines)
words_within number None h = tt
words_within number (Some line) h = all (words_of_line line)
  where
    all : (o : Option LineWords) → IfSome o (λ words. number ≤ max_lines)
    all None = tt
    all (Some words) = h

-- so those from one on are as few
before_rest : (number : ℕ) (o : Option Line) (rest : Result (List Line) ℕ) → IfOk rest (AreFewFrom (number + 1)) → IfOk (submission_then number o rest) (AreFewFrom number)
before_rest number None rest few = tt
before_rest number (Some line) (Ok lines) few = omega (arith, few)
before_rest number (Some line) (Err n) few = tt

at_end : (number : ℕ) (nothing_behind : Bool) → number ≤ max_lines → IfOk (cond nothing_behind (Ok []) (Err (number + 1))) (AreFewFrom number)
at_end number true within = omega (arith, within)
at_end number false within = tt

words_few : (kind : SessionKind) (number : ℕ) (o : Option LineWords) (nothing_behind : Bool) (rest : Result (List Line) ℕ) → IfSome o (λ words. number ≤ max_lines) → IfOk rest (AreFewFrom (number + 1)) → IfOk (words_then kind number o nothing_behind rest) (AreFewFrom number)
words_few kind number None nothing_behind rest within few = tt
words_few kind number (Some words) nothing_behind rest within few =
    chosen (λ (r : Result (List Line) ℕ). IfOk r (AreFewFrom number)) (is_end words) (cond nothing_behind (Ok []) (Err (number + 1))) (submission_then number (submission_of kind words) rest)
    (λ t. at_end number nothing_behind within) (λ f. before_rest number (submission_of kind words) rest few)

from_few : (kind : SessionKind) (number room : ℕ) (lines : List (List ℕ)) → IfOk (submissions_from kind number room lines) (AreFewFrom number)
from_few kind number room [] = tt
from_few kind number room (line ∷ rest) =
    words_few kind number (words_at number room (line ∷ rest)) (is_nothing rest) (submissions_from kind (number + 1) (room - (length line + 1)) rest)
    (words_within number (line_at number room (line ∷ rest)) (line_within number room (line ∷ rest))) (from_few kind (number + 1) (room - (length line + 1)) rest)

-- a text has a million lines at most
pub lines_few : (kind : SessionKind) (text : List ℕ) (lines : List Line) → lines_of kind text ≡ Ok lines → length lines ≤ 1_000_000
unfolding lines_of
lines_few kind text lines reads =
    let few : AreFewFrom 1 lines = subst (λ (r : Result (List Line) ℕ). IfOk r (AreFewFrom 1)) reads (from_few kind 1 max_text (parts 10 text)) in
    omega (arith, few)
