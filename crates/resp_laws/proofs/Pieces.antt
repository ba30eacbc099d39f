-- A text in pieces has the values of the whole.
use Rattle.std.proofs.Common.{◌≡◌, ℕ, Bool, true, false, List, [], ◌∷◌, ◌++◌, refl, sym, ap, ◌∙◌, append_assoc}
use Rattle.std.proofs.lemmas.List.{append-nil}
use Rattle.resp_read.specs.Values.{values, left_over, is_spoiled}
use Rattle.resp_read.proofs.ValueLaws.{values-append, values-spoiled, values-empty, left_over-settled}
use Rattle.resp_laws.specs.Pieces.{joined, piecewise}

-- where no value can begin none is read
none_more : (left : List ℕ) (ps : List (List ℕ)) → values left ≡ [] → is_spoiled left ≡ true → piecewise left ps ≡ []
none_more left [] none spoiled = refl
none_more left (p ∷ ps) none spoiled =
    let on = values-spoiled left p spoiled in
    let next = left_over-settled (left ++ p) in
    ap (λ vs. vs ++ piecewise (left_over (left ++ p)) ps) (on.0 ∙ none) ∙ none_more (left_over (left ++ p)) ps next.0 (next.2 ∙ on.1)

pieces_by : (bs : List ℕ) (ps : List (List ℕ)) (c : Bool) → is_spoiled bs ≡ c → (is_spoiled bs ≡ false → values (left_over bs ++ joined ps) ≡ piecewise (left_over bs) ps) → values (bs ++ joined ps) ≡ values bs ++ piecewise (left_over bs) ps
pieces_by bs ps true spoiled later =
    let left = left_over-settled bs in
    (values-spoiled bs (joined ps) spoiled).0 ∙ sym (append-nil (values bs)) ∙ ap (λ vs. values bs ++ vs) (sym (none_more (left_over bs) ps left.0 (left.2 ∙ spoiled)))
pieces_by bs ps false sound later = values-append bs (joined ps) sound ∙ ap (λ vs. values bs ++ vs) (later sound)

pieces_read : (bs : List ℕ) (ps : List (List ℕ)) → values (bs ++ joined ps) ≡ values bs ++ piecewise (left_over bs) ps
pieces_read bs [] = ap values (append-nil bs) ∙ sym (append-nil (values bs))
pieces_read bs (p ∷ ps) = pieces_by bs (p ∷ ps) (is_spoiled bs) refl (λ _. ap values (sym (append_assoc (left_over bs) p (joined ps))) ∙ pieces_read (left_over bs ++ p) ps)

pub same_values : (pieces : List (List ℕ)) → piecewise [] pieces ≡ values (joined pieces)
same_values pieces = sym (pieces_read [] pieces ∙ (λ i. values-empty.0 i ++ piecewise (values-empty.1 i) pieces))
