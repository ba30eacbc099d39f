-- What is kept of a text tells what the whole text is.
use Rattle.std.proofs.Common.{◌≡◌, ℕ, Bool, true, false, List, [], ◌∷◌, ◌++◌, Err, IsErr, refl, sym, ap, ◌∙◌, subst, append_assoc}
use Rattle.std.proofs.lemmas.Bool.{both_ways}
use Rattle.std.specs.Bool.{MatchBool}
use Rattle.std.proofs.lemmas.List.{append-nil}
use Rattle.script_text.specs.Script.{script_of}
use Rattle.script_text.specs.Limits.{keeps_limits, limited, IsRefused}
use Rattle.script_text.proofs.Limited.{limited_stop, limited_on}
use Rattle.script_text.proofs.Late.{beyond_limits}

-- where a byte stands beyond a limit, the text is at fault in the same line whatever comes behind it
pub decided : (kept : List ℕ) → keeps_limits kept ≡ false → (more : List ℕ) → script_of (kept ++ more) ≡ script_of kept
decided kept h more =
    let late = beyond_limits kept h in
    late.1 more ∙ sym (ap script_of (sym (append-nil kept)) ∙ late.1 [])

-- and it is at fault
pub at_fault : (kept : List ℕ) → keeps_limits kept ≡ false → (n : ℕ) × (script_of kept ≡ Err n)
at_fault kept h =
    let late = beyond_limits kept h in
    (late.0, ap script_of (sym (append-nil kept)) ∙ late.1 [])

left_out_by : (text : List ℕ) (b : ℕ) (more : List ℕ) (here : Bool) → keeps_limits text ≡ here
    → (keeps_limits (limited (text ++ b ∷ []) more) ≡ true → limited (text ++ b ∷ []) more ≡ (text ++ b ∷ []) ++ more)
    → keeps_limits (limited text (b ∷ more)) ≡ true → limited text (b ∷ more) ≡ text ++ b ∷ more
left_out_by text b more true here rest h =
    let on = limited_on text b more here in
    on ∙ rest (ap keeps_limits (sym on) ∙ h) ∙ append_assoc text (b ∷ []) more
left_out_by text b more false here rest h = absurd (both_ways (keeps_limits text) here (ap keeps_limits (sym (limited_stop text (b ∷ more) here)) ∙ h))

-- where what is kept keeps the limits, nothing was left out
pub nothing_left_out : (text more : List ℕ) → keeps_limits (limited text more) ≡ true → limited text more ≡ text ++ more
nothing_left_out text [] h = sym (append-nil text)
nothing_left_out text (b ∷ more) h = left_out_by text b more (keeps_limits text) refl (nothing_left_out (text ++ b ∷ []) more) h

same_by : (text : List ℕ) (b : ℕ) (more : List ℕ) (here : Bool) → keeps_limits text ≡ here
    → script_of (limited (text ++ b ∷ []) more) ≡ script_of ((text ++ b ∷ []) ++ more) → script_of (limited text (b ∷ more)) ≡ script_of (text ++ b ∷ more)
same_by text b more true here rest = ap script_of (limited_on text b more here) ∙ rest ∙ ap script_of (append_assoc text (b ∷ []) more)
same_by text b more false here rest = ap script_of (limited_stop text (b ∷ more) here) ∙ sym (decided text here (b ∷ more))

-- what is kept of a text is the script that the whole text is
pub same_script : (text more : List ℕ) → script_of (limited text more) ≡ script_of (text ++ more)
same_script text [] = ap script_of (sym (append-nil text))
same_script text (b ∷ more) = same_by text b more (keeps_limits text) refl (same_script (text ++ b ∷ []) more)

on_by : (text : List ℕ) (b : ℕ) (front more : List ℕ) (here : Bool) → keeps_limits text ≡ here
    → limited (text ++ b ∷ []) (front ++ more) ≡ limited (limited (text ++ b ∷ []) front) more → limited text (b ∷ front ++ more) ≡ limited (limited text (b ∷ front)) more
on_by text b front more true here rest = limited_on text b (front ++ more) here ∙ rest ∙ ap (λ kept. limited kept more) (sym (limited_on text b front here))
on_by text b front more false here rest =
    limited_stop text (b ∷ front ++ more) here ∙ sym (limited_stop text more here) ∙ ap (λ kept. limited kept more) (sym (limited_stop text (b ∷ front) here))

-- what is kept does not depend on how a text is cut
pub limited-append : (text front more : List ℕ) → limited text (front ++ more) ≡ limited (limited text front) more
limited-append text [] more = refl
limited-append text (b ∷ front) more = on_by text b front more (keeps_limits text) refl (limited-append (text ++ b ∷ []) front more)

refused_by : (old piece new : List ℕ) → new ≡ limited old piece → keeps_limits new ≡ false → IsRefused (old ++ piece) new
refused_by old piece new is beyond =
    let stop = ap keeps_limits (sym is) ∙ beyond in
    let fault = at_fault new beyond in
    record {
      same = λ left. ap script_of (append_assoc old piece left) ∙ sym (same_script old (piece ++ left)) ∙ ap script_of (limited-append old piece left ∙ limited_stop (limited old piece) left stop ∙ sym is);
      fault = subst IsErr (sym fault.1) refl;
    }

-- what an answer tells of what is kept
pub answer_by : (old piece new : List ℕ) (goes_on : Bool) → new ≡ limited old piece → goes_on ≡ keeps_limits new → MatchBool goes_on (new ≡ old ++ piece) (IsRefused (old ++ piece) new)
answer_by old piece new true is keeps = is ∙ nothing_left_out old piece (ap keeps_limits (sym is) ∙ sym keeps)
answer_by old piece new false is keeps = refused_by old piece new is (sym keeps)
