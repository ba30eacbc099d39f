-- Texts that are written while they grow.
use Rattle.std.proofs.Common.{arith, ◌≡◌, ◌+◌, ℕ, List, [], ◌++◌, length, Option, Some, append_assoc, ◌∙◌, sym, ap, subst, length-append}
use Rattle.std.proofs.lemmas.List.{append-nil}
use Rattle.std.proofs.Math.Seq.{take-append-add}
use Rattle.std.specs.Prelude.{take}
use Rattle.outside.specs.Ends.{Gained, GainedPart}
use Rattle.program_ends.specs.Streaming.{Sent}

-- a sink that gained one text and then another
pub gained_more : {old mid new : Option (List ℕ)} (first second : List ℕ) → Gained old mid first → Gained mid new second → Gained old new (first ++ second)
gained_more {old} {mid} {new} first second one two = record {
  held = λ held told. two.held (held ++ first) (one.held held told) ∙ ap (λ (xs : List ℕ). Some xs) (append_assoc held first second);
}

-- and one that gained nothing
pub gained_none : {held : Option (List ℕ)} → Gained held held []
gained_none {held} = record { held = λ bytes told. told ∙ ap (λ (xs : List ℕ). Some xs) (sym (append-nil bytes)) }

-- nothing is written yet
pub sent_none : {held : Option (List ℕ)} (rest text : List ℕ) → rest ≡ text → Sent held held rest text
sent_none {held} rest text is = record { front = []; gained = gained_none; whole = is }

-- all is written
pub sent_all : {old new : Option (List ℕ)} (rest text : List ℕ) → rest ≡ [] → Gained old new text → Sent old new rest text
sent_all {old} {new} rest text none gained = record { front = text; gained = gained; whole = ap (λ (xs : List ℕ). text ++ xs) none ∙ append-nil text }

-- more text, of which some is written
pub sent_more : {old mid new : Option (List ℕ)} (before between after text more : List ℕ) → Sent old mid before text → between ≡ before ++ more → Sent mid new after between → Sent old new after (text ++ more)
sent_more {old} {mid} {new} before between after text more one grown two = record {
  front = one.front ++ two.front;
  gained = gained_more one.front two.front one.gained two.gained;
  whole = append_assoc one.front two.front after ∙ ap (λ (xs : List ℕ). one.front ++ xs) (two.whole ∙ grown) ∙ sym (append_assoc one.front before more)
      ∙ ap (λ (xs : List ℕ). xs ++ more) one.whole;
}

-- the rest is written too, and more
pub sent_end_more : {old mid new : Option (List ℕ)} (rest text more : List ℕ) → Sent old mid rest text → Gained mid new (rest ++ more) → Gained old new (text ++ more)
sent_end_more {old} {mid} {new} rest text more one last =
    subst (λ (xs : List ℕ). Gained old new xs) (sym (append_assoc one.front rest more) ∙ ap (λ (xs : List ℕ). xs ++ more) one.whole) (gained_more one.front (rest ++ more) one.gained last)

-- the rest is written too
pub sent_end : {old mid new : Option (List ℕ)} (rest text : List ℕ) → Sent old mid rest text → Gained mid new rest → Gained old new text
sent_end {old} {mid} {new} rest text one last = subst (λ (xs : List ℕ). Gained old new xs) one.whole (gained_more one.front rest one.gained last)

-- the front of the rest is written, and more
pub sent_part : {old mid new : Option (List ℕ)} (rest text more : List ℕ) → Sent old mid rest text → GainedPart mid new (rest ++ more) → GainedPart old new (text ++ more)
sent_part {old} {mid} {new} rest text more one last =
    let whole : one.front ++ (rest ++ more) ≡ text ++ more = sym (append_assoc one.front rest more) ∙ ap (λ (xs : List ℕ). xs ++ more) one.whole in
    record {
      count = length one.front + last.count;
      within = omega (arith, last.within, length-append one.front (rest ++ more), ap length whole);
      gained = subst (λ (xs : List ℕ). Gained old new xs) (sym (take-append-add one.front (rest ++ more) last.count) ∙ ap (λ (xs : List ℕ). take (length one.front + last.count) xs) whole)
          (gained_more one.front (take last.count (rest ++ more)) one.gained last.gained);
    }
