-- How one key more is placed: behind parts of other slots, in the first part of its own.
use Rattle.std.proofs.Common.{◌≡◌, ℕ, zero, suc, ◌+◌, ◌<◌, ◌≤◌, Bool, true, not, ◌&&◌, ◌==◌, List, [], ◌∷◌, ◌++◌, length, get_or, set, refl, ap, arith, add-one}
use Rattle.std.proofs.lemmas.Bool.Decides.{nat_tests}
use Rattle.command_table.specs.declared.routing.Route.{Route}
use Rattle.command_table.specs.declared.routing.SlotAddr.{SlotAddr}
use Rattle.command_table.specs.Parts.{joined, slot_at}
use Rattle.command_table.specs.Routing.{placed}

-- none of the first k parts is of this slot
abbrev pub is_in_none : ℕ → ℕ → List (Route × List ℕ) → Bool
is_in_none slot zero ps = true
is_in_none slot (suc k) [] = true
is_in_none slot (suc k) (p ∷ ps) = not (p.0.slot == slot) && is_in_none slot k ps

more : (slot k : ℕ) (ps : List (Route × List ℕ)) → is_in_none slot k ps ≡ true → k < length ps → (slot_at k ps ≡ slot → ⊥) → is_in_none slot (suc k) ps ≡ true
more slot k [] h lt ne = absurd (omega arith)
more slot zero (p ∷ ps) h lt ne = grind (arith, nat_tests)
more slot (suc k) (p ∷ ps) h lt ne = grind (arith, nat_tests, more slot k ps)

pub one_part_more : (slot k : ℕ) (ps : List (Route × List ℕ)) → is_in_none slot k ps ≡ true → k < length ps → (slot_at k ps ≡ slot → ⊥) → is_in_none slot (k + 1) ps ≡ true
one_part_more slot k ps h lt ne = rw add-one (more slot k ps h lt ne)

pub found : (addr : SlotAddr) (slot i k : ℕ) (ps : List (Route × List ℕ)) → is_in_none slot k ps ≡ true → k < length ps → slot_at k ps ≡ slot → placed addr slot i ps ≡ joined i k ps
found addr slot i k [] h lt e = absurd (omega arith)
found addr slot i zero (p ∷ ps) h lt e = grind (arith, nat_tests)
found addr slot i (suc k) (p ∷ ps) h lt e = grind (arith, nat_tests, found addr slot i k ps)

pub found_nowhere : (addr : SlotAddr) (slot i k : ℕ) (ps : List (Route × List ℕ)) → is_in_none slot k ps ≡ true → length ps ≤ k → placed addr slot i ps ≡ ps ++ (record { slot = slot; addr = addr }, i ∷ []) ∷ []
found_nowhere addr slot i k [] h le = refl
found_nowhere addr slot i zero (p ∷ ps) h le = absurd (omega arith)
found_nowhere addr slot i (suc k) (p ∷ ps) h le = grind (arith, nat_tests, found_nowhere addr slot i k ps)

pub slot_at_is : (k : ℕ) (ps : List (Route × List ℕ)) (d : Route × List ℕ) → k < length ps → slot_at k ps ≡ (get_or ps k d).0.slot
slot_at_is k [] d h = absurd (omega arith)
slot_at_is zero (p ∷ ps) d h = refl
slot_at_is (suc k) (p ∷ ps) d h = slot_at_is k ps d (omega arith)

pub joined_is : (i k : ℕ) (ps : List (Route × List ℕ)) (d : Route × List ℕ) → k < length ps → joined i k ps ≡ set ps k ((get_or ps k d).0, (get_or ps k d).1 ++ i ∷ [])
joined_is i k [] d h = absurd (omega arith)
joined_is i zero (p ∷ ps) d h = refl
joined_is i (suc k) (p ∷ ps) d h = ap (λ qs. p ∷ qs) (joined_is i k ps d (omega arith))
