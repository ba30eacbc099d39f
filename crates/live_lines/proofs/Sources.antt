-- A source that was read to its end, or as far as decides its lines.
use Rattle.std.proofs.Common.{arith, ◌≡◌, ℕ, ◌<◌, true, List, [], ◌++◌, length, Option, Some, Result, Ok, Err, sym, ap, ◌∙◌, subst}
use Rattle.std.specs.Prelude.{nat_lt}
use Rattle.std.proofs.lemmas.Bool.Decides.{nat_tests}
use Rattle.std.proofs.lemmas.List.{append-nil}
use Rattle.caller_threads.specs.Submits.{Line}
use Rattle.outside.specs.Ends.{Gave, IsAtEnd}
use Rattle.outside.specs.Feeding.{Passed}
use Rattle.script_text.specs.Lines.{lines_of}
use Rattle.script_text.specs.Script.{max_text}
use Rattle.live_lines.specs.Live.{DecidesLines}
use Rattle.live_lines.proofs.Long.{kept_fault, same_fault}

-- what it gave is all that it had
pub all_given : {old new : Option (List ℕ)} (piece bytes : List ℕ) → Gave old new piece → IsAtEnd new → old ≡ Some bytes → piece ≡ bytes
all_given {old} {new} piece bytes gave end is =
    let rest = gave.rest bytes is in
    sym (append-nil piece) ∙ ap (λ (xs : List ℕ). piece ++ xs) (sym (end rest.0 rest.1)) ∙ rest.2

-- and nothing is left
pub none_left : {old new : Option (List ℕ)} (piece bytes : List ℕ) → Gave old new piece → IsAtEnd new → old ≡ Some bytes → new ≡ Some []
none_left {old} {new} piece bytes gave end is =
    let rest = gave.rest bytes is in
    rest.1 ∙ ap (λ (xs : List ℕ). Some xs) (end rest.0 rest.1)

-- what was kept of it decides its lines: all that it had
pub ended_decides : {old new : Option (List ℕ)} (kept : List ℕ) → Passed old new [] kept → IsAtEnd new → DecidesLines old new kept
ended_decides {old} {new} kept passed end = record {
  same = λ kind bytes is. ap (lines_of kind) (sym (all_given passed.piece bytes passed.gave end is) ∙ sym passed.gained);
  ended = λ kind bytes lines is h. none_left passed.piece bytes passed.gave end is;
}

not_both : (lines : List Line) (n : ℕ) (r : Result (List Line) ℕ) → r ≡ Ok lines → r ≡ Err n → ⊥
not_both lines n r is other = absurd (cc)

-- or more than lines may have
pub long_decides : {old new : Option (List ℕ)} (kept : List ℕ) → Passed old new [] kept → max_text < length kept → DecidesLines old new kept
long_decides {old} {new} kept passed long = record {
  same = λ kind bytes is.
      let rest = passed.gave.rest bytes is in
      ap (lines_of kind) (sym rest.2 ∙ ap (λ (xs : List ℕ). xs ++ rest.0) (sym passed.gained)) ∙ same_fault kind kept long rest.0;
  ended = λ kind bytes lines is h. let fault = kept_fault kind kept long in absurd (not_both lines fault.0 (lines_of kind kept) h fault.1);
}

pub enough_decides : {old new : Option (List ℕ)} (start kept : List ℕ) → start ≡ [] → Passed old new start kept → nat_lt max_text (length kept) ≡ true → DecidesLines old new kept
enough_decides {old} {new} start kept none passed enough =
    let long : max_text < length kept = grind (arith, nat_tests) in
    long_decides kept (subst (λ (xs : List ℕ). Passed old new xs kept) none passed) long
