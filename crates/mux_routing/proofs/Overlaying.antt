-- Ranges over others, stretch by stretch.
use Rattle.std.proofs.Common.{◌≡◌, ℕ, zero, suc, ◌+◌, ◌<◌, ◌≤◌, ◌==◌, nat_le, nat_lt, ◌&&◌, Bool, true, false, List, [], ◌∷◌, Option, Some, None, drop, refl, ap, sym, subst, ◌∙◌, arith, if◌then◌else◌}
use Rattle.std.specs.Prelude.{slice_get}
use Rattle.std.proofs.lemmas.Bool.Decides.{nat_tests}
use Rattle.containers.proofs.Choices.{le_from, le_test}
use Rattle.mux_routing.specs.declared.range_table.SlotRange.{SlotRange}
use Rattle.mux_routing.specs.Ranges.{are_apart, are_apart_from, covers, reach, row_in, with_stretch}
use Rattle.mux_routing.specs.Shards.{or_else}
use Rattle.mux_routing.proofs.Pushing.{Tell, told_on}
use Rattle.mux_routing.proofs.Searching.{lies_in, none_behind, none_beyond, not_behind, parts}

pub no_first : (rs : List SlotRange) (slot : ℕ) → slice_get rs 0 ≡ None → row_in rs slot ≡ None
no_first [] slot e = refl
no_first (r ∷ rs) slot e = absurd (cc)

pub no_first_reach : (rs : List SlotRange) (slot : ℕ) → slice_get rs 0 ≡ None → reach slot rs ≡ true
no_first_reach [] slot e = refl
no_first_reach (r ∷ rs) slot e = absurd (cc)

pub record First (r : SlotRange) (rs : List SlotRange) : Type 0 where
  pub order : r.start ≤ r.end
  pub within : r.end < 16_384

pub first_parts : (rs : List SlotRange) (r : SlotRange) → are_apart rs ≡ true → slice_get rs 0 ≡ Some r → First r rs
first_parts [] r h e = absurd (cc)
first_parts (q ∷ rs) r h e =
    let p = parts 0 q rs h in
    let same : q ≡ r = cc in
    subst (λ s. First s (q ∷ rs)) same (record { order = p.some; within = p.within })

pub reaches : (rs : List SlotRange) (r : SlotRange) (slot : ℕ) → slice_get rs 0 ≡ Some r → reach slot rs ≡ true → slot ≤ r.end
reaches [] r slot e h = absurd (cc)
reaches (q ∷ rs) r slot e h =
    let same : q ≡ r = cc in
    omega (arith, le_from slot q.end h, ap (λ (s : SlotRange). s.end) same)

pub reach_by : (rs : List SlotRange) (r : SlotRange) (slot : ℕ) → slice_get rs 0 ≡ Some r → slot ≤ r.end → reach slot rs ≡ true
reach_by [] r slot e h = refl
reach_by (q ∷ rs) r slot e h =
    let same : q ≡ r = cc in
    le_test slot q.end (omega (arith, h, ap (λ (s : SlotRange). s.end) same))

pub reach_less : (rs : List SlotRange) (slot to : ℕ) → reach to rs ≡ true → slot ≤ to → reach slot rs ≡ true
reach_less [] slot to h le = refl
reach_less (r ∷ rs) slot to h le = le_test slot r.end (omega (arith, le_from to r.end h, le))

apart_less : (first from : ℕ) (rs : List SlotRange) → are_apart_from from rs ≡ true → first ≤ from → are_apart_from first rs ≡ true
apart_less first from [] h le = refl
apart_less first from (r ∷ rs) h le = grind (arith, nat_tests)

-- what is left of ranges where the slots before one are done with
pub record Left (rest all : List SlotRange) (at : ℕ) : Type 0 where
  pub apart : are_apart rest ≡ true
  pub reach : reach at rest ≡ true
  pub same : (slot : ℕ) → at ≤ slot → row_in rest slot ≡ row_in all slot

pub record Behind (rest all : List SlotRange) (slot : ℕ) : Type 0 where
  pub apart : are_apart rest ≡ true
  pub reach : reach (slot + 1) rest ≡ true
  pub same : (later : ℕ) → slot < later → row_in rest later ≡ row_in all later

reach_from : (rs : List SlotRange) (slot : ℕ) → are_apart_from (suc slot) rs ≡ true → reach (slot + 1) rs ≡ true
reach_from [] slot h = refl
reach_from (r ∷ rs) slot h =
    let p = parts (suc slot) r rs h in
    le_test (slot + 1) r.end (omega (arith, p.first_is, p.some))

pub without_first : (rs : List SlotRange) (r : SlotRange) (slot : ℕ) → are_apart rs ≡ true → slice_get rs 0 ≡ Some r → r.end ≡ slot → Behind (drop 1 rs) rs slot
without_first [] r slot h e f = absurd (cc)
without_first (q ∷ rs) r slot h e f =
    let p = parts 0 q rs h in
    let same : q ≡ r = cc in
    let ends : q.end ≡ slot = ap (λ (s : SlotRange). s.end) same ∙ f in
    record {
      apart = apart_less 0 (suc q.end) rs p.further (omega arith);
      reach = subst (λ k. reach (k + 1) rs ≡ true) ends (reach_from rs q.end p.further);
      same = λ later lt. sym (ap (λ t. if t then Some q.row else row_in rs later) (not_behind q later (omega (arith, lt, ends))));
    }

pub with_first : (rs : List SlotRange) (r : SlotRange) (slot : ℕ) → are_apart rs ≡ true → reach slot rs ≡ true → slice_get rs 0 ≡ Some r → (r.end ≡ slot → ⊥) → Behind rs rs slot
with_first rs r slot h g e ne = record {
  apart = h;
  reach = reach_by rs r (slot + 1) e (further (reaches rs r slot e g) ne);
  same = λ later lt. refl;
}
  where
    further : slot ≤ r.end → (r.end ≡ slot → ⊥) → slot + 1 ≤ r.end
    further le apart = grind (arith, apart)

pub go_on : (rest all later : List SlotRange) (at slot : ℕ) → at ≤ slot → Left rest all at → Behind later rest slot → Left later all (slot + 1)
go_on rest all later at slot le l b = record {
  apart = b.apart;
  reach = b.reach;
  same = λ k h. b.same k (omega (arith, h)) ∙ l.same k (omega (arith, h, le));
}

pub before_first : (rs : List SlotRange) (r : SlotRange) (slot : ℕ) → are_apart rs ≡ true → slice_get rs 0 ≡ Some r → slot < r.start → row_in rs slot ≡ None
before_first rs r slot h e lt = none_behind 0 rs 0 r slot h e lt

pub told_next : (ranges more : List SlotRange) (row : ℕ → Option ℕ) (at end : ℕ) (value : Option ℕ) → at ≤ end → end < 16_384 → ((s : ℕ) → at ≤ s → s ≤ end → row s ≡ value) → more ≡ with_stretch ranges at end value → Tell ranges at row → Tell more (end + 1) row
told_next ranges more row at end value le lt f e t =
    subst (λ rs. Tell rs (end + 1) row) (sym e) (subst (λ k. Tell (with_stretch ranges at end value) k row) (omega arith) (told_on ranges at end row value le lt f t))

-- a stretch that two tables have
pub both_say : (later earlier later_all earlier_all : List SlotRange) (at end : ℕ) (above below : Option ℕ) → Left later later_all at → Left earlier earlier_all at → ((s : ℕ) → at ≤ s → s ≤ end → row_in later s ≡ above) → ((s : ℕ) → at ≤ s → s ≤ end → row_in earlier s ≡ below) → (s : ℕ) → at ≤ s → s ≤ end → or_else (row_in later_all s) (row_in earlier_all s) ≡ or_else above below
both_say later earlier later_all earlier_all at end above below l e f g s ge le =
    ap (λ o. or_else o (row_in earlier_all s)) (sym (l.same s ge) ∙ f s ge le)
    ∙ ap (λ o. or_else above o) (sym (e.same s ge) ∙ g s ge le)

pub told_whole : (ranges later earlier : List SlotRange) (at : ℕ) → 16_384 ≤ at → are_apart later ≡ true → are_apart earlier ≡ true → Tell ranges at (λ slot. or_else (row_in later slot) (row_in earlier slot)) → (slot : ℕ) → row_in ranges slot ≡ or_else (row_in later slot) (row_in earlier slot)
told_whole ranges later earlier at ge h g t slot = t.each slot ∙ by (nat_lt slot at) refl
  where
    by : (b : Bool) → nat_lt slot at ≡ b → (if b then or_else (row_in later slot) (row_in earlier slot) else None) ≡ or_else (row_in later slot) (row_in earlier slot)
    by true e = refl
    by false e =
        let beyond : 16_384 ≤ slot = grind (arith, nat_tests) in
        sym (ap (λ o. or_else o (row_in earlier slot)) (none_beyond 0 later slot h beyond) ∙ none_beyond 0 earlier slot g beyond)
