-- A map of entries in order stays in order.
use Rattle.std.proofs.Common.{◌≡◌, ◌&&◌, Bool, true, false, List, [], ◌∷◌, refl, subst, if◌then◌else◌}
use Rattle.std.specs.List.{list_all}
use Rattle.containers.proofs.Choices.{both_left, both_right, chosen}
use Rattle.slot_hash.specs.declared.address.NodeAddress.{NodeAddress}
use Rattle.mux_routing.specs.Shards.{address_less}
use Rattle.cluster_plan.specs.Asks.{same_address}
use Rattle.cluster_plan.specs.Connections.{entry, put, repaired_state, state_at, without, mark_reconnecting}
use Rattle.cluster_plan.specs.declared.connections.ConnState.{ConnState}
use Rattle.cluster_plan.specs.declared.connections.NodeEntry.{NodeEntry}
use Rattle.route_choice.specs.Entries.{addresses_of, are_ordered}
use Rattle.route_choice.specs.OrderLaws.{RepairKeepsOrder, StaysInOrderWith, StaysInOrderWithout}
use Rattle.route_choice.proofs.Order.{onwards, tied}

pub both : (p q : Bool) → p ≡ true → q ≡ true → (p && q) ≡ true
both true q h g = g
both false q h g = cc

abbrev ComesBefore : NodeAddress → List NodeEntry → Bool
ComesBefore a es = list_all (address_less a) (addresses_of es)

before_all : (a b : NodeAddress) (es : List NodeEntry) → address_less a b ≡ true → ComesBefore b es ≡ true → ComesBefore a es ≡ true
before_all a b [] l h = refl
before_all a b (e ∷ es) l h =
    both (address_less a e.address) (ComesBefore a es)
    (onwards a b e.address l (both_left (address_less b e.address) (ComesBefore b es) h))
    (before_all a b es l (both_right (address_less b e.address) (ComesBefore b es) h))

before_put : (b a : NodeAddress) (state : ConnState) (es : List NodeEntry) → address_less b a ≡ true → ComesBefore b es ≡ true → ComesBefore b (put a state es) ≡ true
before_put b a state [] l h = both (address_less b a) true l refl
before_put b a state (e ∷ es) l h =
    let first = both_left (address_less b e.address) (ComesBefore b es) h in
    let others = both_right (address_less b e.address) (ComesBefore b es) h in
    chosen (λ xs. ComesBefore b xs ≡ true) (address_less e.address a) (e ∷ put a state es) (if address_less a e.address then entry a state ∷ e ∷ es else entry a state ∷ es)
    (λ t. both (address_less b e.address) (ComesBefore b (put a state es)) first (before_put b a state es l others))
    (λ f. chosen (λ xs. ComesBefore b xs ≡ true) (address_less a e.address) (entry a state ∷ e ∷ es) (entry a state ∷ es)
    (λ t. both (address_less b a) (ComesBefore b (e ∷ es)) l h)
    (λ g. both (address_less b a) (ComesBefore b es) l others))

pub stays_with : StaysInOrderWith
stays_with a state [] h = refl
stays_with a state (e ∷ es) h =
    let behind = both_left (ComesBefore e.address es) (are_ordered es) h in
    let rest = both_right (ComesBefore e.address es) (are_ordered es) h in
    chosen (λ xs. are_ordered xs ≡ true) (address_less e.address a) (e ∷ put a state es) (if address_less a e.address then entry a state ∷ e ∷ es else entry a state ∷ es)
    (λ t. both (ComesBefore e.address (put a state es)) (are_ordered (put a state es)) (before_put e.address a state es t behind) (stays_with a state es rest))
    (λ f. chosen (λ xs. are_ordered xs ≡ true) (address_less a e.address) (entry a state ∷ e ∷ es) (entry a state ∷ es)
    (λ t. both (ComesBefore a (e ∷ es)) (are_ordered (e ∷ es)) (both (address_less a e.address) (ComesBefore a es) t (before_all a e.address es t behind)) h)
    (λ g. both (ComesBefore a es) (are_ordered es) (subst (λ b. ComesBefore b es ≡ true) (tied e.address a f g) behind) rest))

before_without : (b a : NodeAddress) (es : List NodeEntry) → ComesBefore b es ≡ true → ComesBefore b (without a es) ≡ true
before_without b a [] h = refl
before_without b a (e ∷ es) h =
    let others = both_right (address_less b e.address) (ComesBefore b es) h in
    chosen (λ xs. ComesBefore b xs ≡ true) (same_address a e.address) es (e ∷ without a es)
    (λ t. others)
    (λ f. both (address_less b e.address) (ComesBefore b (without a es)) (both_left (address_less b e.address) (ComesBefore b es) h) (before_without b a es others))

pub stays_without : StaysInOrderWithout
stays_without a [] h = refl
stays_without a (e ∷ es) h =
    let rest = both_right (ComesBefore e.address es) (are_ordered es) h in
    chosen (λ xs. are_ordered xs ≡ true) (same_address a e.address) es (e ∷ without a es)
    (λ t. rest)
    (λ f. both (ComesBefore e.address (without a es)) (are_ordered (without a es)) (before_without e.address a es (both_left (ComesBefore e.address es) (are_ordered es) h)) (stays_without a es rest))

pub repair_keeps : RepairKeepsOrder
unfolding mark_reconnecting
repair_keeps a entries h = stays_with a (repaired_state (state_at a entries)) entries h
