-- A node is among the nodes of a map of slots where its address has a place there.
use Rattle.std.proofs.Common.{◌≡◌, ℕ, zero, suc, Bool, true, false, List, [], ◌∷◌, slice_get, Option, Some, None, is_some, IfSome, IsNone, refl, sym, ap, arith, if◌then◌else◌}
use Rattle.std.specs.List.{Contains}
use Rattle.slot_hash.specs.declared.address.NodeAddress.{NodeAddress}
use Rattle.slot_hash.proofs.Order.{same_exactly}
use Rattle.cluster_plan.specs.Asks.{same_address}
use Rattle.cluster_plan.specs.Repair.{is_among}
use Rattle.cluster_plan.proofs.Choosing.{of_either}

at_place : (a : NodeAddress) (nodes : List NodeAddress) (i : ℕ) → slice_get nodes i ≡ Some a → is_among a nodes ≡ true
at_place a [] i h = cc
at_place a (b ∷ nodes) zero h = let e : a ≡ b = cc in ap (λ t. if t then true else is_among a nodes) ((same_exactly a b).1 e)
at_place a (b ∷ nodes) (suc i) h = of_either (λ t. t ≡ true) (same_address a b) true (is_among a nodes) refl (at_place a nodes i h)

neither : (p q : Bool) → (p ≡ true → ⊥) → q ≡ false → (if p then true else q) ≡ false
neither true q h g = absurd (h refl)
neither false q h g = g

nowhere : (a : NodeAddress) (nodes : List NodeAddress) → (Contains nodes a → ⊥) → is_among a nodes ≡ false
nowhere a [] h = refl
nowhere a (b ∷ nodes) h =
    neither (same_address a b) (is_among a nodes) (λ e. h (0, omega arith, sym ((same_exactly a b).0 e)))
    (nowhere a nodes (λ c. h (suc c.0, omega arith, c.2)))

pub looked_up : (a : NodeAddress) (nodes : List NodeAddress) (place : Option ℕ) → IfSome place (λ i. slice_get nodes i ≡ Some a) → (IsNone place → Contains nodes a → ⊥)
    → is_some place ≡ is_among a nodes
looked_up a nodes (Some i) h g = sym (at_place a nodes i h)
looked_up a nodes None h g = sym (nowhere a nodes (g refl))
