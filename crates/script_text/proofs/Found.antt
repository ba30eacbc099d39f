-- Where a search for a byte cuts a text.
use Rattle.std.proofs.Common.{◌≡◌, ℕ, zero, suc, ◌+◌, ◌<◌, ◌==◌, Bool, true, false, List, [], ◌∷◌, length, get_or, take, drop, Some, None, option_map, refl, sym, ap, ◌∙◌, arith, add-one}
use Rattle.containers.proofs.Choices.{taken_if, left_if}
use Rattle.memchr.specs.Find.{Nowhere, Passes, is_byte}
use Rattle.script_text.specs.Words.{cut_at}

abbrev behind : ℕ → List ℕ × List ℕ → List ℕ × List ℕ
behind x c = (x ∷ c.0, c.1)

-- the first byte isn't the one that is searched for
other_first : (at x : ℕ) (xs : List ℕ) → (x == at) ≡ false → cut_at at (x ∷ xs) ≡ option_map (behind x) (cut_at at xs)
other_first at x xs e = left_if (x == at) (Some ([], xs)) (option_map (behind x) (cut_at at xs)) e

not_here : (b : Bool) → (b ≡ true → ⊥) → b ≡ false
not_here true h = absurd (h refl)
not_here false h = refl

pub not_found : (at : ℕ) (text : List ℕ) → Nowhere (Passes (is_byte at) text) 0 (length text) → cut_at at text ≡ None
not_found at [] none = refl
not_found at (x ∷ xs) none =
    other_first at x xs (not_here (x == at) (none 0 (omega arith) (omega arith)))
    ∙ ap (option_map (behind x)) (not_found at xs (λ k low high is. none (suc k) (omega arith) (omega (arith, high)) is))

found_suc : (at : ℕ) (text : List ℕ) (k : ℕ) → k < length text → Nowhere (Passes (is_byte at) text) 0 k → (get_or text k 0 == at) ≡ true → cut_at at text ≡ Some (take k text, drop (suc k) text)
found_suc at [] k within none is = absurd (omega arith)
found_suc at (x ∷ xs) zero within none is = taken_if (x == at) (Some ([], xs)) (option_map (behind x) (cut_at at xs)) is
found_suc at (x ∷ xs) (suc k) within none is =
    other_first at x xs (not_here (x == at) (none 0 (omega arith) (omega arith)))
    ∙ ap (option_map (behind x)) (found_suc at xs k (omega arith) (λ j low high h. none (suc j) (omega arith) (omega (arith, high)) h) is)

pub found : (at : ℕ) (text : List ℕ) (k : ℕ) → k < length text → Nowhere (Passes (is_byte at) text) 0 k → Passes (is_byte at) text k → cut_at at text ≡ Some (take k text, drop (k + 1) text)
found at text k within none is = found_suc at text k within none is ∙ ap (λ n. Some (take k text, drop n text)) (sym (add-one k))
