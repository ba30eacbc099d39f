-- Outcomes that are written while their text grows.
use Rattle.std.proofs.Common.{arith, ◌≡◌, ℕ, List, [], ◌∷◌, ◌++◌, Option, append_assoc, ◌∙◌, sym, ap, subst, length-append}
use Rattle.std.proofs.lemmas.List.{append-nil, take-append-le}
use Rattle.std.proofs.lemmas.Grind.{flat_map-append}
use Rattle.driver_model.specs.declared.outcome.Outcome.{Outcome}
use Rattle.outside.specs.Ends.{Gained, GainedPart}
use Rattle.program_ends.specs.Streaming.{Sent}
use Rattle.program_ends.proofs.Sent.{sent_more, sent_end, sent_part}
use Rattle.live_lines.specs.Outcomes.{outcome_line, outcome_lines}

-- the text of some outcomes, and of others behind them
pub lines-append : (os : List (Option Outcome)) (xs ys : List ℕ) → outcome_lines os (xs ++ ys) ≡ outcome_lines os xs ++ outcome_lines os ys
lines-append os xs ys = flat_map-append (outcome_line os) xs ys

-- the front of a text is the front of a longer one
pub part_of_more : {old new : Option (List ℕ)} (text more : List ℕ) → GainedPart old new text → GainedPart old new (text ++ more)
part_of_more {old} {new} text more part = record {
  count = part.count;
  within = omega (arith, part.within, length-append text more);
  gained = subst (λ (xs : List ℕ). Gained old new xs) (sym (take-append-le part.count text more part.within)) part.gained;
}

-- one outcome more is in the text, of which some is written
pub sent_next : {old mid new : Option (List ℕ)} (os : List (Option Outcome)) (numbers : List ℕ) (n : ℕ) (before between after : List ℕ) → Sent old mid before (outcome_lines os numbers)
    → between ≡ before ++ outcome_line os n → Sent mid new after between → Sent old new after (outcome_lines os (numbers ++ n ∷ []))
sent_next {old} {mid} {new} os numbers n before between after one grown two =
    subst (λ (text : List ℕ). Sent old new after text) (sym (lines-append os numbers (n ∷ []) ∙ ap (λ (xs : List ℕ). outcome_lines os numbers ++ xs) (append-nil (outcome_line os n))))
    (sent_more before between after (outcome_lines os numbers) (outcome_line os n) one grown two)

-- all of them are in the text, and the rest is written too
pub all_written : {old mid new : Option (List ℕ)} (os : List (Option Outcome)) (numbers all : List ℕ) (rest : List ℕ) → numbers ≡ all → Sent old mid rest (outcome_lines os numbers)
    → Gained mid new rest → Gained old new (outcome_lines os all)
all_written {old} {mid} {new} os numbers all rest is sent gained = subst (λ (ns : List ℕ). Gained old new (outcome_lines os ns)) is (sent_end rest (outcome_lines os numbers) sent gained)

-- some of them are in the text, and the front of the rest is written
pub cut_short : {old mid new : Option (List ℕ)} (os : List (Option Outcome)) (numbers behind all : List ℕ) (rest : List ℕ) → numbers ++ behind ≡ all → Sent old mid rest (outcome_lines os numbers)
    → GainedPart mid new rest → GainedPart old new (outcome_lines os all)
cut_short {old} {mid} {new} os numbers behind all rest is sent part =
    let text = outcome_lines os numbers in
    let front : GainedPart old new (text ++ []) = sent_part rest text [] sent (part_of_more rest [] part) in
    subst (λ (ns : List ℕ). GainedPart old new (outcome_lines os ns)) is
    (subst (λ (xs : List ℕ). GainedPart old new xs) (sym (lines-append os numbers behind)) (part_of_more text (outcome_lines os behind) (subst (λ (xs : List ℕ). GainedPart old new xs) (append-nil text) front)))

-- some of them are in the text, and the front of it and of the next one is written
pub cut_in : {old mid new : Option (List ℕ)} (os : List (Option Outcome)) (numbers behind all : List ℕ) (n : ℕ) (rest : List ℕ) → numbers ++ n ∷ behind ≡ all → Sent old mid rest (outcome_lines os numbers)
    → GainedPart mid new (rest ++ outcome_line os n) → GainedPart old new (outcome_lines os all)
cut_in {old} {mid} {new} os numbers behind all n rest is sent part =
    let front : GainedPart old new (outcome_lines os numbers ++ outcome_line os n) = sent_part rest (outcome_lines os numbers) (outcome_line os n) sent part in
    let whole : (outcome_lines os numbers ++ outcome_line os n) ++ outcome_lines os behind ≡ outcome_lines os all =
    append_assoc (outcome_lines os numbers) (outcome_line os n) (outcome_lines os behind) ∙ sym (lines-append os numbers (n ∷ behind)) ∙ ap (outcome_lines os) is in
    subst (λ (xs : List ℕ). GainedPart old new xs) whole (part_of_more (outcome_lines os numbers ++ outcome_line os n) (outcome_lines os behind) front)
