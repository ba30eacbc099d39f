-- What ranges in order tell of the slots before and behind one of them.
use Rattle.std.proofs.Common.{◌≡◌, ℕ, zero, suc, ◌+◌, ◌*◌, ◌^◌, ◌-◌, ◌<◌, ◌≤◌, nat_le, nat_lt, ◌&&◌, Bool, true, false, List, [], ◌∷◌, Option, Some, None, length, drop, take, refl, ap, sym, subst, ◌∙◌, arith, if◌then◌else◌}
use Rattle.std.specs.Prelude.{slice_get}
use Rattle.std.proofs.lemmas.Bool.Decides.{nat_tests}
use Rattle.std.proofs.lemmas.Grind.{pow_more}
use Rattle.std.proofs.lemmas.Nat.{mul-le}
use Rattle.std.proofs.Math.Nat.{mul_assoc}
use Rattle.mux_routing.specs.declared.range_table.SlotRange.{SlotRange}
use Rattle.mux_routing.specs.Ranges.{are_apart, are_apart_from, covers, row_in}

pub record Parts (first : ℕ) (r : SlotRange) (rs : List SlotRange) : Type 0 where
  pub first_is : first ≤ r.start
  pub some : r.start ≤ r.end
  pub within : r.end < 16_384
  pub further : are_apart_from (suc r.end) rs ≡ true

pub parts : (first : ℕ) (r : SlotRange) (rs : List SlotRange) → are_apart_from first (r ∷ rs) ≡ true → Parts first r rs
parts first r rs h = record {
  first_is = grind (arith, nat_tests);
  some = grind (arith, nat_tests);
  within = grind (arith, nat_tests);
  further = grind (arith, nat_tests);
}

-- there are at most as many ranges as slots
few_from : (first : ℕ) (rs : List SlotRange) → are_apart_from first rs ≡ true → first ≤ 16_384 → first + length rs ≤ 16_384
few_from first [] h g = omega (arith, g)
few_from first (r ∷ rs) h g =
    let p = parts first r rs h in
    omega (arith, p.first_is, p.some, p.within, few_from (suc r.end) rs p.further (omega (arith, p.within)))

pub few : (rs : List SlotRange) → are_apart rs ≡ true → length rs ≤ 16_384
few rs h = omega (arith, few_from 0 rs h (omega arith))

miss : (r : SlotRange) (rs : List SlotRange) (slot : ℕ) → covers r slot ≡ false → row_in rs slot ≡ None → row_in (r ∷ rs) slot ≡ None
miss r rs slot h g = ap (λ t. if t then Some r.row else row_in rs slot) h ∙ g

hit : (r : SlotRange) (rs : List SlotRange) (slot : ℕ) → covers r slot ≡ true → row_in (r ∷ rs) slot ≡ Some r.row
hit r rs slot h = ap (λ t. if t then Some r.row else row_in rs slot) h

pub not_before : (r : SlotRange) (slot : ℕ) → slot < r.start → covers r slot ≡ false
not_before r slot h = grind (arith, nat_tests)

pub not_behind : (r : SlotRange) (slot : ℕ) → r.end < slot → covers r slot ≡ false
not_behind r slot h = grind (arith, nat_tests)

pub none_below : (first : ℕ) (rs : List SlotRange) (slot : ℕ) → are_apart_from first rs ≡ true → slot < first → row_in rs slot ≡ None
none_below first [] slot h g = refl
none_below first (r ∷ rs) slot h g =
    let p = parts first r rs h in
    miss r rs slot (not_before r slot (omega (arith, p.first_is, g))) (none_below (suc r.end) rs slot p.further (omega (arith, p.first_is, p.some, g)))

pub none_beyond : (first : ℕ) (rs : List SlotRange) (slot : ℕ) → are_apart_from first rs ≡ true → 16_384 ≤ slot → row_in rs slot ≡ None
none_beyond first [] slot h g = refl
none_beyond first (r ∷ rs) slot h g =
    let p = parts first r rs h in
    miss r rs slot (not_behind r slot (omega (arith, p.within, g))) (none_beyond (suc r.end) rs slot p.further g)

begins : (first : ℕ) (rs : List SlotRange) (m : ℕ) (r : SlotRange) → are_apart_from first rs ≡ true → slice_get rs m ≡ Some r → (first ≤ r.start) × (r.start ≤ r.end)
begins first [] m r h e = absurd (cc)
begins first (q ∷ rs) zero r h e =
    let p = parts first q rs h in
    let same : q ≡ r = cc in
    (omega (arith, p.first_is, ap (λ (s : SlotRange). s.start) same), omega (arith, p.some, ap (λ (s : SlotRange). s.start) same, ap (λ (s : SlotRange). s.end) same))
begins first (q ∷ rs) (suc m) r h e =
    let p = parts first q rs h in
    let later = begins (suc q.end) rs m r p.further e in
    (omega (arith, p.first_is, p.some, later.0), later.1)

none_to : (first : ℕ) (rs : List SlotRange) (m : ℕ) (r : SlotRange) (slot : ℕ) → are_apart_from first rs ≡ true → slice_get rs m ≡ Some r → r.end < slot → row_in (take (suc m) rs) slot ≡ None
none_to first [] m r slot h e g = absurd (cc)
none_to first (q ∷ rs) zero r slot h e g =
    let same : q ≡ r = cc in
    miss q [] slot (not_behind q slot (omega (arith, g, ap (λ (s : SlotRange). s.end) same))) refl
none_to first (q ∷ rs) (suc m) r slot h e g =
    let p = parts first q rs h in
    let later = begins (suc q.end) rs m r p.further e in
    miss q (take (suc m) rs) slot (not_behind q slot (omega (arith, g, later.0, later.1))) (none_to (suc q.end) rs m r slot p.further e g)

pub none_to_next : (first : ℕ) (rs : List SlotRange) (m next : ℕ) (r : SlotRange) (slot : ℕ) → suc m ≡ next → are_apart_from first rs ≡ true → slice_get rs m ≡ Some r → r.end < slot → row_in (take next rs) slot ≡ None
none_to_next first rs m next r slot is h e g = subst (λ k. row_in (take k rs) slot ≡ None) is (none_to first rs m r slot h e g)

pub none_behind : (first : ℕ) (rs : List SlotRange) (m : ℕ) (r : SlotRange) (slot : ℕ) → are_apart_from first rs ≡ true → slice_get rs m ≡ Some r → slot < r.start → row_in (drop m rs) slot ≡ None
none_behind first [] m r slot h e g = absurd (cc)
none_behind first (q ∷ rs) zero r slot h e g =
    let p = parts first q rs h in
    let same : q ≡ r = cc in
    let before : slot < q.start = omega (arith, g, ap (λ (s : SlotRange). s.start) same) in
    miss q rs slot (not_before q slot before) (none_below (suc q.end) rs slot p.further (omega (arith, before, p.some)))
none_behind first (q ∷ rs) (suc m) r slot h e g = none_behind (suc q.end) rs m r slot (parts first q rs h).further e g

pub lies_in : (first : ℕ) (rs : List SlotRange) (m : ℕ) (r : SlotRange) (slot : ℕ) → are_apart_from first rs ≡ true → slice_get rs m ≡ Some r → r.start ≤ slot → slot ≤ r.end → row_in rs slot ≡ Some r.row
lies_in first [] m r slot h e g k = absurd (cc)
lies_in first (q ∷ rs) zero r slot h e g k =
    let same : q ≡ r = cc in
    hit q rs slot (ap (λ s. covers s slot) same ∙ grind (arith, nat_tests)) ∙ ap (λ (s : SlotRange). Some s.row) same
lies_in first (q ∷ rs) (suc m) r slot h e g k =
    let p = parts first q rs h in
    let later = begins (suc q.end) rs m r p.further e in
    ap (λ t. if t then Some q.row else row_in rs slot) (not_behind q slot (omega (arith, g, later.0))) ∙ lies_in (suc q.end) rs m r slot p.further e g k

some_none : (n : ℕ) → Some n ≡ None → ⊥
some_none n e = cc

either : (r : SlotRange) (rs before : List SlotRange) (slot : ℕ) (t : Bool) → covers r slot ≡ t → row_in (r ∷ before) slot ≡ None → (row_in before slot ≡ None → row_in rs slot ≡ None) → row_in (r ∷ rs) slot ≡ None
either r rs before slot true e h f = absurd (some_none r.row (sym (hit r before slot e) ∙ h))
either r rs before slot false e h f = miss r rs slot e (f (sym (ap (λ t. if t then Some r.row else row_in before slot) e) ∙ h))

-- a slot that lies neither before nor behind
pub nowhere : (rs : List SlotRange) (m : ℕ) (slot : ℕ) → row_in (take m rs) slot ≡ None → row_in (drop m rs) slot ≡ None → row_in rs slot ≡ None
nowhere [] m slot h g = refl
nowhere (r ∷ rs) zero slot h g = g
nowhere (r ∷ rs) (suc m) slot h g = either r rs (take m rs) slot (covers r slot) refl h (λ k. nowhere rs m slot k g)

-- what is left is at most half as long after a step
pub halved : (k n s left : ℕ) → 0 < s → 2 * left ≤ s → 2 ^ k * s ≤ n → (2 ^ (k + 1) * left ≤ n) × (2 ^ (k + 1) ≤ 2 * n + 1)
halved k n s left some half h =
    let p : 2 ^ (k + 1) ≡ 2 ^ k * 2 = pow_more 2 k in
    let grown : 2 ^ k * (2 * left) ≤ 2 ^ k * s = mul-le (2 ^ k) (2 * left) (2 ^ k) s (omega arith) half in
    let one : 2 ^ k * 1 ≤ 2 ^ k * s = mul-le (2 ^ k) 1 (2 ^ k) s (omega arith) some in
    let twice : 2 ^ k * 2 * left ≡ 2 ^ k * (2 * left) = omega (arith, mul_assoc (2 ^ k) 2 left) in
    (omega (arith, ap (λ q. q * left) p, grown, twice, h), omega (arith, p, one, h))

pub one_more : (before now after n s left : ℕ) → before ≤ now → after ≡ now + 1 → 0 < s → 2 * left ≤ s → 2 ^ (now - before) * s ≤ n → (2 ^ (after - before) * left ≤ n) × (2 ^ (after - before) ≤ 2 * n + 1)
one_more before now after n s left grows e some half h =
    subst (λ k. (2 ^ k * left ≤ n) × (2 ^ k ≤ 2 * n + 1)) (omega (arith, grows, e)) (halved (now - before) n s left some half h)

pub nowhere_at : (rs : List SlotRange) (low high slot : ℕ) → low ≤ high → high ≤ low → row_in (take low rs) slot ≡ None → row_in (drop high rs) slot ≡ None → row_in rs slot ≡ None
nowhere_at rs low high slot le ge h g = nowhere rs low slot h (subst (λ k. row_in (drop k rs) slot ≡ None) (omega (arith, le, ge)) g)
