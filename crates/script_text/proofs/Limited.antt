-- Bytes that come one by one, up to the first beyond a limit.
use Rattle.std.proofs.Common.{◌≡◌, ℕ, suc, ◌+◌, ◌<◌, true, false, cond, List, [], ◌∷◌, ◌++◌, length, take, drop, get_or, refl, sym, ap, ◌∙◌, append_assoc, drop-cons, add-one}
use Rattle.std.proofs.Math.Seq.{take-suc}
use Rattle.script_text.specs.Limits.{keeps_limits, limited}

pub limited_stop : (text more : List ℕ) → keeps_limits text ≡ false → limited text more ≡ text
limited_stop text [] h = refl
limited_stop text (b ∷ more) h = ap (λ c. cond c (limited (text ++ b ∷ []) more) text) h

pub limited_on : (text : List ℕ) (b : ℕ) (more : List ℕ) → keeps_limits text ≡ true → limited text (b ∷ more) ≡ limited (text ++ b ∷ []) more
limited_on text b more h = ap (λ c. cond c (limited (text ++ b ∷ []) more) text) h

pub one_more : (text bs : List ℕ) (i : ℕ) → i < length bs → text ++ take (i + 1) bs ≡ (text ++ take i bs) ++ get_or bs i 0 ∷ []
one_more text bs i h = ap (λ k. text ++ take k bs) (add-one i) ∙ ap (λ t. text ++ t) (take-suc bs i 0 h) ∙ sym (append_assoc text (take i bs) (get_or bs i 0 ∷ []))

pub limited_more : (text bs : List ℕ) (i : ℕ) → i < length bs → keeps_limits (text ++ take i bs) ≡ true → limited (text ++ take i bs) (drop i bs) ≡ limited (text ++ take (i + 1) bs) (drop (i + 1) bs)
limited_more text bs i h keeps =
    ap (limited (text ++ take i bs)) (drop-cons bs i 0 h) ∙ limited_on (text ++ take i bs) (get_or bs i 0) (drop (suc i) bs) keeps
    ∙ (λ j. limited (sym (one_more text bs i h) j) (drop (sym (add-one i) j) bs))
