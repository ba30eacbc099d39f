-- What the addresses and the primaries of a map are, by membership.
use Rattle.std.specs.Prelude.{◌≡◌, ◌↔◌, ℕ, List, [], ◌∷◌, ◌++◌, Some, slice_get}
use Rattle.std.specs.List.{Contains}
use Rattle.slot_hash.specs.declared.address.NodeAddress.{NodeAddress}
use Rattle.mux_routing.specs.declared.rows.SlotRow.{SlotRow}
use Rattle.mux_routing.specs.Shards.{addresses}

-- the addresses that rows name, as they stand there
abbrev pub named : List SlotRow → List NodeAddress
named [] = []
named (r ∷ rs) = r.primary ∷ (r.replicas ++ named rs)

-- these are the addresses that rows name, and no others
abbrev pub AreNamed : List SlotRow → List NodeAddress → Type 0
AreNamed rows nodes = (a : NodeAddress) → Contains nodes a ↔ Contains (named rows) a

-- the address of this place is the primary of a row
abbrev pub LeadsARow : List SlotRow → ℕ → Type 0
LeadsARow rows i = (row : SlotRow) × Contains rows row × (slice_get (addresses rows) i ≡ Some row.primary)

-- these are the places whose addresses are primaries of rows, and no others
abbrev pub AreLeaders : List SlotRow → List ℕ → Type 0
AreLeaders rows places = (i : ℕ) → Contains places i ↔ LeadsARow rows i
