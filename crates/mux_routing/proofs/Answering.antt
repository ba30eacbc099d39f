-- The places that a map answers are those of the nodes of its rows.
use Rattle.std.proofs.Common.{◌≡◌, ℕ, zero, suc, ◌≤◌, nat_lt, Bool, true, false, List, [], ◌∷◌, ◌++◌, map, length, Option, Some, None, IfSome, refl, ap, sym, subst, ◌∙◌, arith, if◌then◌else◌}
use Rattle.std.specs.Prelude.{option_and_then, option_map, slice_get, unwrap_or}
use Rattle.std.specs.List.{list_all}
use Rattle.std.proofs.lemmas.Bool.Decides.{nat_tests}
use Rattle.std.proofs.lemmas.List.{length-map}
use Rattle.std.proofs.lemmas.List.Folds.{list_all-append}
use Rattle.std.proofs.lemmas.Option.{slice_get_within}
use Rattle.slot_hash.specs.declared.address.NodeAddress.{NodeAddress}
use Rattle.command_table.specs.declared.routing.SlotAddr.{SlotAddr}
use Rattle.command_table.specs.declared.routing.SlotAddr.TheVariants.{Master, ReplicaOptional, ReplicaRequired}
use Rattle.mux_routing.specs.declared.rows.SlotRow.{SlotRow}
use Rattle.mux_routing.specs.Shards.{Shard, address_in, addresses, addresses_from, all_inserted, are_places, fallback_addresses, fallbacks_in, first_numbers, holds, inserted, is_place, last_row, leading_below, leads, node_in, node_places, or_else, place_of, primaries, primary_at, shard_at, shard_of, shards}
use Rattle.mux_routing.proofs.Finding.{AreAt, IsAt, IsPlaced, row_comes, stay_with}

picked : (nodes : List NodeAddress) (p : NodeAddress) (rs : List NodeAddress) (k : ℕ) → IsAt nodes p → AreAt nodes rs → slice_get nodes (unwrap_or (slice_get (map (place_of nodes) rs) k) (place_of nodes p)) ≡ Some (unwrap_or (slice_get rs k) p)
picked nodes p [] zero h g = h
picked nodes p [] (suc k) h g = h
picked nodes p (r ∷ rs) zero h g = g.0
picked nodes p (r ∷ rs) (suc k) h g = picked nodes p rs k h g.1

picked_by : (nodes : List NodeAddress) (pick : ℕ → ℕ) (p : NodeAddress) (rs : List NodeAddress) → IsAt nodes p → AreAt nodes rs → slice_get nodes (unwrap_or (slice_get (map (place_of nodes) rs) (pick (length (map (place_of nodes) rs)))) (place_of nodes p)) ≡ Some (unwrap_or (slice_get rs (pick (length rs))) p)
picked_by nodes pick p rs h g =
    ap (λ n. slice_get nodes (unwrap_or (slice_get (map (place_of nodes) rs) (pick n)) (place_of nodes p))) (length-map rs (place_of nodes))
    ∙ picked nodes p rs (pick (length rs)) h g

choice : (addr : SlotAddr) (pick : Option (ℕ → ℕ)) (nodes : List NodeAddress) (row : SlotRow) → IsPlaced nodes row → slice_get nodes (node_in addr pick (shard_of nodes row)) ≡ Some (address_in addr pick row)
choice Master pick nodes row h = h.0
choice ReplicaOptional None nodes row h = h.0
choice ReplicaRequired None nodes row h = picked nodes row.primary row.replicas 0 h.0 h.1
choice ReplicaOptional (Some pick) nodes row h = picked_by nodes pick row.primary row.replicas h.0 h.1
choice ReplicaRequired (Some pick) nodes row h = picked_by nodes pick row.primary row.replicas h.0 h.1

either : (later : Option SlotRow) (b : Bool) (r : SlotRow) (P : SlotRow → Type 0) → IfSome later P → P r → IfSome (or_else later (if b then Some r else None)) P
either (Some row) b r P h g = h
either None true r P h g = g
either None false r P h g = tt

row_is_placed : (slot : ℕ) (nodes : List NodeAddress) (rows : List SlotRow) → IfSome (last_row slot rows) (IsPlaced (addresses_from nodes rows))
row_is_placed slot nodes [] = tt
row_is_placed slot nodes (r ∷ rs) =
    let more = all_inserted (inserted r.primary nodes) r.replicas in
    either (last_row slot rs) (holds slot r) r (IsPlaced (addresses_from more rs)) (row_is_placed slot more rs) (stay_with (r.primary ∷ r.replicas) more rs (row_comes nodes r))

address_of_row : (addr : SlotAddr) (pick : Option (ℕ → ℕ)) (nodes : List NodeAddress) (row : Option SlotRow) → IfSome row (IsPlaced nodes) → option_and_then (slice_get nodes) (option_map (node_in addr pick) (option_map (shard_of nodes) row)) ≡ option_map (address_in addr pick) row
address_of_row addr pick nodes None h = refl
address_of_row addr pick nodes (Some row) h = choice addr pick nodes row h

within_nodes : (addr : SlotAddr) (pick : Option (ℕ → ℕ)) (nodes : List NodeAddress) (row : Option SlotRow) → IfSome row (IsPlaced nodes) → IfSome (option_map (node_in addr pick) (option_map (shard_of nodes) row)) (λ i. nat_lt i (length nodes) ≡ true)
within_nodes addr pick nodes None h = tt
within_nodes addr pick nodes (Some row) h = grind (arith, nat_tests, slice_get_within nodes (node_in addr pick (shard_of nodes row)) (address_in addr pick row) (choice addr pick nodes row h))

leads_to : (slot : ℕ) (rows : List SlotRow) (addr : SlotAddr) (pick : Option (ℕ → ℕ)) → option_and_then (slice_get (addresses rows)) (option_map (node_in addr pick) (shard_at slot rows)) ≡ option_map (address_in addr pick) (last_row slot rows)
unfolding shard_at
leads_to slot rows addr pick = address_of_row addr pick (addresses rows) (last_row slot rows) (row_is_placed slot [] rows)

leads_within : (slot : ℕ) (rows : List SlotRow) (addr : SlotAddr) (pick : Option (ℕ → ℕ)) → IfSome (option_map (node_in addr pick) (shard_at slot rows)) (λ i. is_place rows i ≡ true)
unfolding shard_at is_place
leads_within slot rows addr pick = within_nodes addr pick (addresses rows) (last_row slot rows) (row_is_placed slot [] rows)

pub leads_nowhere : (slot : ℕ) (rows : List SlotRow) (addr : SlotAddr) (pick : Option (ℕ → ℕ)) (r : Option ℕ) → r ≡ option_map (node_in addr pick) (shard_at slot rows) → option_and_then (slice_get (addresses rows)) r ≡ option_map (address_in addr pick) (last_row slot rows)
leads_nowhere slot rows addr pick r e = ap (option_and_then (slice_get (addresses rows))) e ∙ leads_to slot rows addr pick

pub leads_to_address : (slot : ℕ) (rows : List SlotRow) (addr : SlotAddr) (pick : Option (ℕ → ℕ)) (i : ℕ) → Some i ≡ option_map (node_in addr pick) (shard_at slot rows) → slice_get (addresses rows) i ≡ option_map (address_in addr pick) (last_row slot rows)
leads_to_address slot rows addr pick i e = leads_nowhere slot rows addr pick (Some i) e

pub primary_nowhere : (slot : ℕ) (rows : List SlotRow) (r : Option ℕ) → r ≡ primary_at slot rows → option_and_then (slice_get (addresses rows)) r ≡ option_map (λ (row : SlotRow). row.primary) (last_row slot rows)
primary_nowhere slot rows r e = leads_nowhere slot rows Master None r e

pub primary_somewhere : (slot : ℕ) (rows : List SlotRow) (i : ℕ) → Some i ≡ primary_at slot rows → slice_get (addresses rows) i ≡ option_map (λ (row : SlotRow). row.primary) (last_row slot rows)
primary_somewhere slot rows i e = leads_nowhere slot rows Master None (Some i) e

pub leads_to_place : (slot : ℕ) (rows : List SlotRow) (addr : SlotAddr) (pick : Option (ℕ → ℕ)) (shard : Shard) (i : ℕ) → i ≡ node_in addr pick shard → Some shard ≡ shard_at slot rows → is_place rows i ≡ true
leads_to_place slot rows addr pick shard i e f =
    ap (is_place rows) e ∙ subst (λ s. IfSome (option_map (node_in addr pick) s) (λ k. is_place rows k ≡ true)) (sym f) (leads_within slot rows addr pick)

all_at : (nodes ns : List NodeAddress) → AreAt nodes ns → map (slice_get nodes) (map (place_of nodes) ns) ≡ map Some ns
all_at nodes [] h = refl
all_at nodes (a ∷ ns) h = λ i. h.0 i ∷ all_at nodes ns h.1 i

then_one : (nodes ns : List NodeAddress) (a : NodeAddress) → AreAt nodes ns → IsAt nodes a → map (slice_get nodes) (map (place_of nodes) ns ++ place_of nodes a ∷ []) ≡ map Some (ns ++ a ∷ [])
then_one nodes [] a h g = λ i. g i ∷ []
then_one nodes (b ∷ ns) a h g = λ i. h.0 i ∷ then_one nodes ns a h.1 g i

row_fallbacks : (addr : SlotAddr) (nodes : List NodeAddress) (row : Option SlotRow) → IfSome row (IsPlaced nodes) → map (slice_get nodes) (fallbacks_in addr (option_map (shard_of nodes) row)) ≡ map Some (fallback_addresses addr row)
row_fallbacks addr nodes None h = refl
row_fallbacks Master nodes (Some row) h = refl
row_fallbacks ReplicaOptional nodes (Some row) h = then_one nodes row.replicas row.primary h.1 h.0
row_fallbacks ReplicaRequired nodes (Some row) h = all_at nodes row.replicas h.1

fallbacks_lead_to : (slot : ℕ) (rows : List SlotRow) (addr : SlotAddr) → map (slice_get (addresses rows)) (fallbacks_in addr (shard_at slot rows)) ≡ map Some (fallback_addresses addr (last_row slot rows))
unfolding shard_at
fallbacks_lead_to slot rows addr = row_fallbacks addr (addresses rows) (last_row slot rows) (row_is_placed slot [] rows)

found_within : {T : Type 0} → (nodes : List T) (places : List ℕ) (found : List T) → map (slice_get nodes) places ≡ map Some found → list_all (λ i. nat_lt i (length nodes)) places ≡ true
found_within nodes [] found h = refl
found_within nodes (i ∷ is) [] h = absurd (cc)
found_within nodes (i ∷ is) (x ∷ xs) h =
    let here : slice_get nodes i ≡ Some x = cc in
    let rest : map (slice_get nodes) is ≡ map Some xs = cc in
    grind (arith, nat_tests, slice_get_within nodes i x here, found_within nodes is xs rest)

fallbacks_within : (slot : ℕ) (rows : List SlotRow) (addr : SlotAddr) → are_places rows (fallbacks_in addr (shard_at slot rows)) ≡ true
unfolding are_places is_place
fallbacks_within slot rows addr = found_within (addresses rows) (fallbacks_in addr (shard_at slot rows)) (fallback_addresses addr (last_row slot rows)) (fallbacks_lead_to slot rows addr)

pub stand_in : (slot : ℕ) (rows : List SlotRow) (addr : SlotAddr) (places : List ℕ) → places ≡ fallbacks_in addr (shard_at slot rows) → map (slice_get (addresses rows)) places ≡ map Some (fallback_addresses addr (last_row slot rows))
stand_in slot rows addr places e = ap (map (slice_get (addresses rows))) e ∙ fallbacks_lead_to slot rows addr

pub stand_within : (slot : ℕ) (rows : List SlotRow) (addr : SlotAddr) (places : List ℕ) → places ≡ fallbacks_in addr (shard_at slot rows) → are_places rows places ≡ true
stand_within slot rows addr places e = ap (are_places rows) e ∙ fallbacks_within slot rows addr

numbers_below : (n m : ℕ) → n ≤ m → list_all (λ i. nat_lt i m) (first_numbers n) ≡ true
numbers_below zero m h = refl
numbers_below (suc n) m h = grind (arith, nat_tests, list_all-append (λ i. nat_lt i m) (first_numbers n) (n ∷ []), numbers_below n m (omega arith))

pub nodes_within : (rows : List SlotRow) → are_places rows (node_places rows) ≡ true
unfolding are_places is_place
nodes_within rows = numbers_below (length (addresses rows)) (length (addresses rows)) (omega arith)

leading_within : (n m : ℕ) (all : List Shard) → n ≤ m → list_all (λ i. nat_lt i m) (leading_below n all) ≡ true
leading_within zero m all h = refl
leading_within (suc n) m all h = grind (arith, nat_tests, list_all-append (λ i. nat_lt i m) (leading_below n all) (if leads n all then n ∷ [] else []), leading_within n m all (omega arith))

pub primaries_within : (rows : List SlotRow) → are_places rows (primaries rows) ≡ true
unfolding are_places is_place primaries
primaries_within rows = leading_within (length (addresses rows)) (length (addresses rows)) (shards rows) (omega arith)
