-- Ranges that a further one was put behind.
use Rattle.std.proofs.Common.{◌≡◌, ℕ, zero, suc, ◌<◌, ◌≤◌, ◌==◌, nat_le, nat_lt, not, ◌&&◌, Bool, true, false, List, [], ◌∷◌, ◌++◌, Option, Some, None, refl, ap, sym, subst, ◌∙◌, arith, if◌then◌else◌}
use Rattle.std.proofs.lemmas.Bool.Decides.{nat_tests}
use Rattle.containers.proofs.Choices.{both_true}
use Rattle.mux_routing.specs.declared.range_table.SlotRange.{SlotRange}
use Rattle.mux_routing.specs.Ranges.{are_apart, are_apart_from, are_maximal, covers, goes_on, row_in, with_range, with_stretch}
use Rattle.mux_routing.proofs.Searching.{not_before, not_behind, parts}

-- with the last one taken off and looked at
pub grown : (front : List SlotRange) (last next : SlotRange) → goes_on last next ≡ true → with_range (front ++ last ∷ []) next ≡ front ++ record { start = last.start; end = next.end; row = last.row } ∷ []
grown [] last next h = ap (λ t. if t then record { start = last.start; end = next.end; row = last.row } ∷ [] else last ∷ next ∷ []) h
grown (r ∷ []) last next h = ap (λ rs. r ∷ rs) (grown [] last next h)
grown (r ∷ q ∷ rs) last next h = ap (λ qs. r ∷ qs) (grown (q ∷ rs) last next h)

pub apart_put : (front : List SlotRange) (last next : SlotRange) → goes_on last next ≡ false → with_range (front ++ last ∷ []) next ≡ (front ++ last ∷ []) ++ next ∷ []
apart_put [] last next h = ap (λ t. if t then record { start = last.start; end = next.end; row = last.row } ∷ [] else last ∷ next ∷ []) h
apart_put (r ∷ []) last next h = ap (λ rs. r ∷ rs) (apart_put [] last next h)
apart_put (r ∷ q ∷ rs) last next h = ap (λ qs. r ∷ qs) (apart_put (q ∷ rs) last next h)

-- the slot behind ranges
abbrev pub behind : ℕ → List SlotRange → ℕ
behind first [] = first
behind first (r ∷ rs) = behind (suc r.end) rs

pub first_behind : (first : ℕ) (rs : List SlotRange) → are_apart_from first rs ≡ true → first ≤ behind first rs
first_behind first [] h = omega arith
first_behind first (r ∷ rs) h =
    let p = parts first r rs h in
    omega (arith, p.first_is, p.some, first_behind (suc r.end) rs p.further)

pub none_from : (first : ℕ) (rs : List SlotRange) (slot : ℕ) → are_apart_from first rs ≡ true → behind first rs ≤ slot → row_in rs slot ≡ None
none_from first [] slot h g = refl
none_from first (r ∷ rs) slot h g =
    let p = parts first r rs h in
    ap (λ t. if t then Some r.row else row_in rs slot) (not_behind r slot (omega (arith, g, first_behind (suc r.end) rs p.further))) ∙ none_from (suc r.end) rs slot p.further g

pub behind_it : (first : ℕ) (rs : List SlotRange) (next : SlotRange) → behind first (with_range rs next) ≡ suc next.end
behind_it first [] next = refl
behind_it first (r ∷ []) next = by (goes_on r next)
  where
    by : (t : Bool) → behind first (if t then record { start = r.start; end = next.end; row = r.row } ∷ [] else r ∷ next ∷ []) ≡ suc next.end
    by true = refl
    by false = refl
behind_it first (r ∷ q ∷ rs) next = behind_it (suc r.end) (q ∷ rs) next

from_parts : (first : ℕ) (r : SlotRange) (rs : List SlotRange) → first ≤ r.start → r.start ≤ r.end → r.end < 16_384 → are_apart_from (suc r.end) rs ≡ true → are_apart_from first (r ∷ rs) ≡ true
from_parts first r rs a b c d = grind (arith, nat_tests)

pub apart_with : (first : ℕ) (rs : List SlotRange) (next : SlotRange) → are_apart_from first rs ≡ true → behind first rs ≤ next.start → next.start ≤ next.end → next.end < 16_384 → are_apart_from first (with_range rs next) ≡ true
apart_with first [] next h g k b = from_parts first next [] g k b refl
apart_with first (r ∷ []) next h g k b = by (goes_on r next)
  where
    by : (t : Bool) → are_apart_from first (if t then record { start = r.start; end = next.end; row = r.row } ∷ [] else r ∷ next ∷ []) ≡ true
    by true =
        let p = parts first r [] h in
        from_parts first (record { start = r.start; end = next.end; row = r.row }) [] p.first_is (omega (arith, p.some, g, k)) b refl
    by false =
        let p = parts first r [] h in
        from_parts first r (next ∷ []) p.first_is p.some p.within (from_parts (suc r.end) next [] g k b refl)
apart_with first (r ∷ q ∷ rs) next h g k b =
    let p = parts first r (q ∷ rs) h in
    from_parts first r (with_range (q ∷ rs) next) p.first_is p.some p.within (apart_with (suc r.end) (q ∷ rs) next p.further g k b)

pub maximal_with : (rs : List SlotRange) (next : SlotRange) → are_maximal rs ≡ true → are_maximal (with_range rs next) ≡ true
maximal_with [] next h = refl
maximal_with (r ∷ []) next h = by (goes_on r next) refl
  where
    by : (t : Bool) → goes_on r next ≡ t → are_maximal (if t then record { start = r.start; end = next.end; row = r.row } ∷ [] else r ∷ next ∷ []) ≡ true
    by true e = refl
    by false e = ap (λ u. not u && true) e
maximal_with (r ∷ q ∷ []) next h = by (goes_on q next) refl
  where
    by : (t : Bool) → goes_on q next ≡ t → are_maximal (r ∷ (if t then record { start = q.start; end = next.end; row = q.row } ∷ [] else q ∷ next ∷ [])) ≡ true
    by true e = h
    by false e = ap (λ u. not (goes_on r q) && (not u && true)) e ∙ h
maximal_with (r ∷ q ∷ p ∷ rs) next h =
    let both = both_true (not (goes_on r q)) (are_maximal (q ∷ p ∷ rs)) h in
    ap (λ t. t && are_maximal (with_range (q ∷ p ∷ rs) next)) both.0 ∙ maximal_with (q ∷ p ∷ rs) next both.1

-- two choices of which one at most is taken
swapped : {X : Type 0} (a b : Bool) (x y z : X) → (a ≡ true → b ≡ true → ⊥) → (if a then x else (if b then y else z)) ≡ (if b then y else (if a then x else z))
swapped true true x y z h = absurd (h refl refl)
swapped true false x y z h = refl
swapped false true x y z h = refl
swapped false false x y z h = refl

apart_covers : (r next : SlotRange) (slot : ℕ) → r.end < next.start → covers r slot ≡ true → covers next slot ≡ true → ⊥
apart_covers r next slot h e f = grind (arith, nat_tests)

joined_covers : (start end next last slot : ℕ) → suc end ≡ next → start ≤ end → next ≤ last → (n m : ℕ) → n ≡ m → (if nat_le start slot && nat_le slot last then Some n else None) ≡ (if nat_le next slot && nat_le slot last then Some m else (if nat_le start slot && nat_le slot end then Some n else None))
joined_covers start end next last slot e s l n m f = grind (arith, nat_tests)

pub row_with : (first : ℕ) (rs : List SlotRange) (next : SlotRange) (slot : ℕ) → are_apart_from first rs ≡ true → behind first rs ≤ next.start → next.start ≤ next.end → row_in (with_range rs next) slot ≡ (if covers next slot then Some next.row else row_in rs slot)
row_with first [] next slot h g k = refl
row_with first (r ∷ []) next slot h g k = by (goes_on r next) refl
  where
    by : (t : Bool) → goes_on r next ≡ t → row_in (if t then record { start = r.start; end = next.end; row = r.row } ∷ [] else r ∷ next ∷ []) slot ≡ (if covers next slot then Some next.row else row_in (r ∷ []) slot)
    by true e =
        let both = both_true (suc r.end == next.start) (r.row == next.row) e in
        joined_covers r.start r.end next.start next.end slot (grind (arith, nat_tests, both.0)) (parts first r [] h).some k r.row next.row (grind (arith, nat_tests, both.1))
    by false e = swapped (covers r slot) (covers next slot) (Some r.row) (Some next.row) None (apart_covers r next slot (omega (arith, g)))
row_with first (r ∷ q ∷ rs) next slot h g k =
    let p = parts first r (q ∷ rs) h in
    ap (λ o. if covers r slot then Some r.row else o) (row_with (suc r.end) (q ∷ rs) next slot p.further g k)
    ∙ swapped (covers r slot) (covers next slot) (Some r.row) (Some next.row) (row_in (q ∷ rs) slot) (apart_covers r next slot (omega (arith, g, first_behind (suc r.end) (q ∷ rs) p.further)))

-- maximal ranges that tell the row of each slot before one, and say nothing of the others
pub record Tell (ranges : List SlotRange) (slots : ℕ) (row : ℕ → Option ℕ) : Type 0 where
  pub apart : are_apart ranges ≡ true
  pub maximal : are_maximal ranges ≡ true
  pub last : behind 0 ranges ≤ slots
  pub each : (slot : ℕ) → row_in ranges slot ≡ (if nat_lt slot slots then row slot else None)

chosen_by : (slot : ℕ) (row : ℕ → Option ℕ) (t u : Bool) → t ≡ u → (if t then row slot else None) ≡ (if u then row slot else None)
chosen_by slot row t u e = ap (λ v. if v then row slot else None) e

told_here : (start end slot : ℕ) (row : ℕ → Option ℕ) (n : ℕ) (t : Bool) → start ≤ end → ((s : ℕ) → start ≤ s → s ≤ end → row s ≡ Some n) → (nat_le start slot && nat_le slot end) ≡ t → (if t then Some n else (if nat_lt slot start then row slot else None)) ≡ (if nat_lt slot (suc end) then row slot else None)
told_here start end slot row n true h f e =
    let now : nat_lt slot (suc end) ≡ true = grind (arith, nat_tests) in
    sym (chosen_by slot row (nat_lt slot (suc end)) true now ∙ f slot (grind (arith, nat_tests)) (grind (arith, nat_tests)))
told_here start end slot row n false h f e =
    let same : nat_lt slot start ≡ nat_lt slot (suc end) = grind (arith, nat_tests) in
    chosen_by slot row (nat_lt slot start) (nat_lt slot (suc end)) same

-- the same with no row
told_none : (start end slot : ℕ) (row : ℕ → Option ℕ) (t : Bool) → start ≤ end → ((s : ℕ) → start ≤ s → s ≤ end → row s ≡ None) → (nat_le start slot && nat_le slot end) ≡ t → (if nat_lt slot start then row slot else None) ≡ (if nat_lt slot (suc end) then row slot else None)
told_none start end slot row true h f e =
    let before : nat_lt slot start ≡ false = grind (arith, nat_tests) in
    let now : nat_lt slot (suc end) ≡ true = grind (arith, nat_tests) in
    chosen_by slot row (nat_lt slot start) false before ∙ sym (chosen_by slot row (nat_lt slot (suc end)) true now ∙ f slot (grind (arith, nat_tests)) (grind (arith, nat_tests)))
told_none start end slot row false h f e =
    let same : nat_lt slot start ≡ nat_lt slot (suc end) = grind (arith, nat_tests) in
    chosen_by slot row (nat_lt slot start) (nat_lt slot (suc end)) same

pub told_on : (ranges : List SlotRange) (start end : ℕ) (row : ℕ → Option ℕ) (value : Option ℕ) → start ≤ end → end < 16_384 → ((s : ℕ) → start ≤ s → s ≤ end → row s ≡ value) → Tell ranges start row → Tell (with_stretch ranges start end value) (suc end) row
told_on ranges start end row None h b f t = record {
  apart = t.apart;
  maximal = t.maximal;
  last = omega (arith, t.last, h);
  each = λ slot. t.each slot ∙ told_none start end slot row (nat_le start slot && nat_le slot end) h f refl;
}
told_on ranges start end row (Some n) h b f t =
    let next : SlotRange = record { start = start; end = end; row = n } in
    record {
      apart = apart_with 0 ranges next t.apart t.last h b;
      maximal = maximal_with ranges next t.maximal;
      last = omega (arith, behind_it 0 ranges next);
      each = λ slot. row_with 0 ranges next slot t.apart t.last h ∙ ap (λ o. if covers next slot then Some n else o) (t.each slot) ∙ told_here start end slot row n (covers next slot) h f refl;
    }
