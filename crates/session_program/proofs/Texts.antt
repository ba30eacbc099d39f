-- Texts that come from a source in pieces.
use Rattle.std.proofs.Common.{◌≡◌, ◌≤◌, ◌<◌, ◌-◌, ℕ, true, ◌&&◌, List, [], ◌++◌, length, Option, Some, append_assoc, take, arith, length-append, refl, ◌∙◌, sym, ap}
use Rattle.std.proofs.lemmas.List.{append-nil, length-take-le}
use Rattle.std.proofs.lemmas.Bool.{leb-true, both_ways}
use Rattle.std.specs.Prelude.{Result, Ok, IsErr, is_err, nat_le}
use Rattle.containers.proofs.Choices.{both_left}
use Rattle.outside.specs.Ends.{Gave, IsAtEnd}
use Rattle.script_text.specs.Limits.{keeps_limits, is_short, lines_begun}
use Rattle.script_text.specs.Script.{max_text, max_lines, script_of}
use Rattle.script_text.specs.declared.script.Script.{Script}
use Rattle.script_text.specs.Words.{parts}
use Rattle.std.specs.List.{list_all}
use Rattle.session_program.specs.Reading.{Gains, Refuses, Decides}

-- a text that keeps the limits has no more bytes than a text may have
pub length_kept : (text : List ℕ) → keeps_limits text ≡ true → length text ≤ max_text
unfolding keeps_limits
length_kept text h = leb-true (length text) max_text (both_left (nat_le (length text) max_text) (list_all is_short (parts 10 text)) (both_left (nat_le (length text) max_text && list_all is_short (parts 10 text)) (nat_le (lines_begun (parts 10 text)) max_lines) h))

-- a text that grew within its limits has less room left
pub shrinks : (before after room : List ℕ) (n : ℕ) → after ≡ before ++ take n room → 0 < n → n ≤ length room → keeps_limits after ≡ true → max_text - length after < max_text - length before
shrinks before after room n is some fits keeps = omega (arith, length_kept after keeps, ap length is, length-append before (take n room), length-take-le n room fits)

-- a source that gave one piece and then another
gave_more : {old mid new : Option (List ℕ)} {first second : List ℕ} → Gave old mid first → Gave mid new second → Gave old new (first ++ second)
gave_more {old} {mid} {new} {first} {second} one two = record {
  rest = λ bytes is.
      let a = one.rest bytes is in
      let b = two.rest a.0 a.1 in
      (b.0, b.1, append_assoc first second b.0 ∙ ap (λ (xs : List ℕ). first ++ xs) b.2 ∙ a.2);
}

-- nothing was given
pub gains_none : {left : Option (List ℕ)} (kept : List ℕ) → kept ≡ [] → Gains left left [] kept
gains_none {left} kept is = record { piece = []; gained = is; gave = record { rest = λ bytes is. (bytes, is, refl) } }

pub gains_more : {left mid rest : Option (List ℕ)} {before between after : List ℕ} → Gains left mid before between → Gains mid rest between after → Gains left rest before after
gains_more {before = before} one two = record {
  piece = one.piece ++ two.piece;
  gained = two.gained ∙ ap (λ (xs : List ℕ). xs ++ two.piece) one.gained ∙ append_assoc before one.piece two.piece;
  gave = gave_more one.gave two.gave;
}

-- all that the source had is kept
pub decides_ended : {old new : Option (List ℕ)} (kept : List ℕ) → Gains old new [] kept → IsAtEnd new → Decides old new kept
decides_ended {old} {new} kept all end = record {
  same = λ bytes is.
      let rest = all.gave.rest bytes is in
      let none : rest.0 ≡ [] = end rest.0 rest.1 in
      ap script_of (sym rest.2 ∙ ap (λ (xs : List ℕ). all.piece ++ xs) none ∙ append-nil all.piece ∙ sym all.gained);
  ended = λ bytes is script reads.
      let rest = all.gave.rest bytes is in
      rest.1 ∙ ap (λ (xs : List ℕ). Some xs) (end rest.0 rest.1);
}

not_refused : (text : List ℕ) (script : Script) → script_of text ≡ Ok script → IsErr (script_of text) → ⊥
not_refused text script is fault = both_ways (is_err (script_of text)) (ap (λ (r : Result Script ℕ). is_err r) is) fault

-- the source had too much, and what is kept is at fault
pub decides_passed : {old mid new : Option (List ℕ)} (kept after : List ℕ) → Gains old mid [] kept → Refuses mid new kept after → Decides old new after
decides_passed {old} {mid} {new} kept after all last =
    let gave = gave_more all.gave last.gave in
    record {
      same = λ bytes is.
          let rest = gave.rest bytes is in
          let front : all.piece ++ last.piece ≡ kept ++ last.piece = ap (λ (xs : List ℕ). xs ++ last.piece) (sym all.gained) in
          ap script_of (sym rest.2 ∙ ap (λ (xs : List ℕ). xs ++ rest.0) front) ∙ last.refused.same rest.0;
      ended = λ bytes is script reads. absurd (not_refused after script reads last.refused.fault);
    }
