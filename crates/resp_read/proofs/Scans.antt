-- Steps of the loops over a line.
use Rattle.std.proofs.Common.{◌≡◌, ℕ, ◌+◌, ◌-◌, ◌*◌, ◌≤◌, ◌<◌, List, [], ◌∷◌, ◌++◌, length, take, drop, get_or, append_assoc, Option, Some, None, Bool, true, false, cond, refl, sym, ap, ◌∙◌, arith}
use Rattle.std.proofs.lemmas.List.{append-nil, drop_more, take_more, drop_all, take_all}
use Rattle.std.proofs.lemmas.Bool.Decides.{nat_tests}
use Rattle.std.specs.Prelude.{◌==◌, nat_le}
use Rattle.resp_read.specs.Grammar.{is_digit, digits_after, at_most, before_space, after_space}
use Rattle.resp_read.specs.Doubles.{step, run}
use Rattle.resp_read.specs.declared.decimals.Seen.{Seen}

pub below_digits : (n b : ℕ) (ds : List ℕ) → b < 48 → digits_after n (b ∷ ds) ≡ None
below_digits n b ds low = let l : nat_le 48 b ≡ false = grind (arith, nat_tests) in rw l refl

none_by : (c : Bool) (most : ℕ) (x : Option ℕ) → at_most (Some most) x ≡ None → at_most (Some most) (cond c x None) ≡ None
none_by true most x h = h
none_by false most x h = refl

-- a number that is too large stays so
pub stays_above : (most n : ℕ) (ds : List ℕ) → most < n → at_most (Some most) (digits_after n ds) ≡ None
stays_above most n [] h = let c : nat_le n most ≡ false = grind (arith, nat_tests) in rw c refl
stays_above most n (b ∷ ds) h = none_by (is_digit b) most (digits_after (10 * n + (b - 48)) ds) (stays_above most (10 * n + (b - 48)) ds (omega arith))

-- no space stands in the first i bytes
abbrev pub IsSpaceless : ℕ → List ℕ → Type 0
IsSpaceless i l = (before_space l ≡ take i l ++ before_space (drop i l)) × (after_space l ≡ after_space (drop i l))

space_first : (b : ℕ) (bs : List ℕ) → b ≡ 32 → (before_space (b ∷ bs) ≡ []) × (after_space (b ∷ bs) ≡ Some bs)
space_first b bs is = let c : (b == 32) ≡ true = grind (arith, nat_tests) in (rw c refl, rw c refl)

no_space_first : (b : ℕ) (bs : List ℕ) → (b ≡ 32 → ⊥) → (before_space (b ∷ bs) ≡ b ∷ before_space bs) × (after_space (b ∷ bs) ≡ after_space bs)
no_space_first b bs is = let c : (b == 32) ≡ false = grind (arith, nat_tests) in (rw c refl, rw c refl)

pub spaceless_more : (i : ℕ) (l : List ℕ) → i < length l → IsSpaceless i l → (get_or l i 0 ≡ 32 → ⊥) → IsSpaceless (i + 1) l
spaceless_more i l h so_far other =
    let b = get_or l i 0 in
    let rest = drop (i + 1) l in
    let d : drop i l ≡ b ∷ rest = drop_more l i 0 h in
    let first = no_space_first b rest other in (
      so_far.0 ∙ ap (λ x. take i l ++ before_space x) d ∙ ap (λ x. take i l ++ x) first.0 ∙ sym (append_assoc (take i l) (b ∷ []) (before_space rest)) ∙ ap (λ x. x ++ before_space rest) (sym (take_more l i 0 h)),
      so_far.1 ∙ ap after_space d ∙ first.1,
    )

pub space_at : (i : ℕ) (l : List ℕ) → i < length l → IsSpaceless i l → get_or l i 0 ≡ 32 → (before_space l ≡ take i l) × (after_space l ≡ Some (drop (i + 1) l))
space_at i l h so_far is =
    let b = get_or l i 0 in
    let rest = drop (i + 1) l in
    let d : drop i l ≡ b ∷ rest = drop_more l i 0 h in
    let first = space_first b rest is in
    (so_far.0 ∙ ap (λ x. take i l ++ before_space x) d ∙ ap (λ x. take i l ++ x) first.0 ∙ append-nil (take i l), so_far.1 ∙ ap after_space d ∙ first.1)

pub no_space : (i : ℕ) (l : List ℕ) → length l ≤ i → IsSpaceless i l → (before_space l ≡ l) × (after_space l ≡ None)
no_space i l h so_far =
    let d = drop_all i l h in
    (so_far.0 ∙ (λ j. take_all i l h j ++ before_space (d j)) ∙ append-nil l, so_far.1 ∙ ap after_space d)

-- a double is read byte by byte
pub run_more : (s : Seen) (i : ℕ) (l : List ℕ) → i < length l → run s (drop i l) ≡ run (step s (get_or l i 0)) (drop (i + 1) l)
run_more s i l h = ap (run s) (drop_more l i 0 h)

pub run_done : (s : Seen) (i : ℕ) (l : List ℕ) → length l ≤ i → run s (drop i l) ≡ s
run_done s i l h = ap (run s) (drop_all i l h)
