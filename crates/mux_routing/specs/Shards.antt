-- What a map of slots answers, by the rows that it was made from.
use Rattle.std.specs.Prelude.{ℕ, zero, suc, ◌==◌, ◌||◌, ◌&&◌, nat_le, nat_lt, Bool, true, false, List, [], ◌∷◌, ◌++◌, map, length, Option, Some, None, option_map, unwrap_or, slice_get, if◌then◌else◌}
use Rattle.std.specs.List.{list_all}
use Rattle.std.specs.Str.{bytes_eq}
use Rattle.slot_hash.specs.declared.address.NodeAddress.{NodeAddress}
use Rattle.command_table.specs.declared.routing.Route.{Route}
use Rattle.command_table.specs.declared.routing.SlotAddr.{SlotAddr}
use Rattle.command_table.specs.declared.routing.SlotAddr.TheVariants.{Master, ReplicaOptional, ReplicaRequired}
use Rattle.mux_routing.specs.declared.rows.SlotRow.{SlotRow}

-- a row with its nodes by their places among the addresses
pub record Shard : Type 0 where
  pub start : ℕ
  pub end : ℕ
  pub primary : ℕ
  pub replicas : List ℕ

-- byte by byte; a text comes after its beginnings
abbrev pub text_less : List ℕ → List ℕ → Bool
text_less [] [] = false
text_less [] (y ∷ ys) = true
text_less (x ∷ xs) [] = false
text_less (x ∷ xs) (y ∷ ys) = nat_lt x y || (x == y && text_less xs ys)

-- by the bytes of the host, and then by the port
unfoldable pub address_less : NodeAddress → NodeAddress → Bool
address_less a b = text_less a.host b.host || (bytes_eq a.host b.host && nat_lt a.port b.port)

-- an address put in its place among others in order; one that stands there already is not put in again
abbrev pub inserted : NodeAddress → List NodeAddress → List NodeAddress
inserted a [] = a ∷ []
inserted a (b ∷ bs) = if address_less b a then b ∷ inserted a bs else (if address_less a b then a ∷ b ∷ bs else b ∷ bs)

abbrev pub all_inserted : List NodeAddress → List NodeAddress → List NodeAddress
all_inserted nodes [] = nodes
all_inserted nodes (a ∷ more) = all_inserted (inserted a nodes) more

abbrev pub addresses_from : List NodeAddress → List SlotRow → List NodeAddress
addresses_from nodes [] = nodes
addresses_from nodes (r ∷ rs) = addresses_from (all_inserted (inserted r.primary nodes) r.replicas) rs

-- the distinct addresses of all rows, in order
abbrev pub addresses : List SlotRow → List NodeAddress
addresses rows = addresses_from [] rows

-- whether each address comes before all behind it
abbrev pub in_order : List NodeAddress → Bool
in_order [] = true
in_order (a ∷ more) = list_all (address_less a) more && in_order more

-- the place of an address: how many stand before it
abbrev pub place_of : List NodeAddress → NodeAddress → ℕ
place_of [] a = 0
place_of (b ∷ bs) a = if address_less b a then suc (place_of bs a) else 0

abbrev pub shard_of : List NodeAddress → SlotRow → Shard
shard_of nodes row = record { start = row.start; end = row.end; primary = place_of nodes row.primary; replicas = map (place_of nodes) row.replicas }

abbrev pub shards : List SlotRow → List Shard
shards rows = map (shard_of (addresses rows)) rows

abbrev pub holds : ℕ → SlotRow → Bool
holds slot row = nat_le row.start slot && nat_le slot row.end

abbrev pub or_else : {T : Type 0} → Option T → Option T → Option T
or_else (Some later) earlier = Some later
or_else None earlier = earlier

-- the last row that holds a slot
abbrev pub last_row : ℕ → List SlotRow → Option SlotRow
last_row slot [] = None
last_row slot (r ∷ rs) = or_else (last_row slot rs) (if holds slot r then Some r else None)

-- the nodes of a slot, if a row holds it
unfoldable pub shard_at : ℕ → List SlotRow → Option Shard
shard_at slot rows = option_map (shard_of (addresses rows)) (last_row slot rows)

-- the primary of a slot, if a row holds it
abbrev pub primary_at : ℕ → List SlotRow → Option ℕ
primary_at slot rows = option_map (λ (s : Shard). s.primary) (shard_at slot rows)

-- the replica that is picked; the primary where there is none
abbrev pub replica_of : {T : Type 0} → T → List T → (ℕ → ℕ) → T
replica_of primary replicas pick = unwrap_or (slice_get replicas (pick (length replicas))) primary

-- of a primary and its replicas one, with a strategy that picks one of so many replicas, or without one
abbrev pub chosen : {T : Type 0} → SlotAddr → Option (ℕ → ℕ) → T → List T → T
chosen Master pick primary replicas = primary
chosen ReplicaOptional None primary replicas = primary
chosen ReplicaRequired None primary replicas = unwrap_or (slice_get replicas 0) primary
chosen ReplicaOptional (Some pick) primary replicas = replica_of primary replicas pick
chosen ReplicaRequired (Some pick) primary replicas = replica_of primary replicas pick

-- the place to which a route to a shard leads
abbrev pub node_in : SlotAddr → Option (ℕ → ℕ) → Shard → ℕ
node_in addr pick shard = chosen addr pick shard.primary shard.replicas

-- the address to which a route to a row leads
abbrev pub address_in : SlotAddr → Option (ℕ → ℕ) → SlotRow → NodeAddress
address_in addr pick row = chosen addr pick row.primary row.replicas

abbrev pub may_pick : SlotAddr → Bool
may_pick Master = false
may_pick ReplicaOptional = true
may_pick ReplicaRequired = true

-- whether a strategy is asked: where a replica may be read, and there are any
abbrev pub asks : SlotAddr → Option Shard → Bool
asks addr None = false
asks addr (Some shard) = may_pick addr && nat_lt 0 (length shard.replicas)

abbrev pub replica_count : Option Shard → ℕ
replica_count None = 0
replica_count (Some shard) = length shard.replicas

-- how a strategy picks one of so many replicas by this draw, where there is one
abbrev pub picking : {R : Type 0} → (R → ℕ → ℕ → ℕ) → Option R → ℕ → Option (ℕ → ℕ)
picking pick_of reads draw = option_map (λ r n. pick_of r n draw) reads

-- the strategy after a route to a shard, where there is one: it has picked if it was asked
abbrev pub reads_after : {R : Type 0} → (R → ℕ → ℕ → R) → SlotAddr → Option Shard → ℕ → Option R → Option R
reads_after picked addr shard draw reads =
    if asks addr shard then option_map (λ r. picked r (replica_count shard) draw) reads else reads

-- the place to which a route leads, if a row holds its slot
abbrev pub place_led_to : Route → Option (ℕ → ℕ) → List SlotRow → Option ℕ
place_led_to route pick rows = option_map (node_in route.addr pick) (shard_at route.slot rows)

-- the address to which a route leads, if a row holds its slot
abbrev pub address_led_to : Route → Option (ℕ → ℕ) → List SlotRow → Option NodeAddress
address_led_to route pick rows = option_map (address_in route.addr pick) (last_row route.slot rows)

-- of a primary and its replicas those that may stand in
abbrev pub stand_ins : {T : Type 0} → SlotAddr → T → List T → List T
stand_ins Master primary replicas = []
stand_ins ReplicaOptional primary replicas = replicas ++ primary ∷ []
stand_ins ReplicaRequired primary replicas = replicas

-- the places that may stand in for that of a route to a shard
abbrev pub fallbacks_in : SlotAddr → Option Shard → List ℕ
fallbacks_in addr None = []
fallbacks_in addr (Some shard) = stand_ins addr shard.primary shard.replicas

-- the addresses that may stand in for that of a route to a row
abbrev pub fallback_addresses : SlotAddr → Option SlotRow → List NodeAddress
fallback_addresses addr None = []
fallback_addresses addr (Some row) = stand_ins addr row.primary row.replicas

-- whether a node is the primary of a row, also of one whose slots all lie in later rows
abbrev pub leads : ℕ → List Shard → Bool
leads node [] = false
leads node (s ∷ ss) = s.primary == node || leads node ss

abbrev pub leading_below : ℕ → List Shard → List ℕ
leading_below zero all = []
leading_below (suc n) all = leading_below n all ++ (if leads n all then n ∷ [] else [])

-- the primaries of all rows, in the order of their addresses
unfoldable pub primaries : List SlotRow → List ℕ
primaries rows = leading_below (length (addresses rows)) (shards rows)

abbrev pub first_numbers : ℕ → List ℕ
first_numbers zero = []
first_numbers (suc n) = first_numbers n ++ n ∷ []

-- all nodes of all rows, in the order of their addresses
abbrev pub node_places : List SlotRow → List ℕ
node_places rows = first_numbers (length (addresses rows))

-- whether a number is the place of an address
unfoldable pub is_place : List SlotRow → ℕ → Bool
is_place rows i = nat_lt i (length (addresses rows))

-- whether each of these numbers is
unfoldable pub are_places : List SlotRow → List ℕ → Bool
are_places rows places = list_all (is_place rows) places
