-- Which address is dialled for a node.
use Rattle.std.specs.Prelude.{◌==◌, ◌&&◌, Bool, List, [], ◌∷◌, bytes_eq, Option, Some, None, unwrap_or, if◌then◌else◌}
use Rattle.std.specs.Option.{option_or}
use Rattle.slot_hash.specs.declared.address.NodeAddress.{NodeAddress}

abbrev pub is_same_address : NodeAddress → NodeAddress → Bool
is_same_address a b = bytes_eq a.host b.host && a.port == b.port

-- what the last pair of an address has in its place, if there is one
abbrev pub last_for : List (NodeAddress × NodeAddress) → NodeAddress → Option NodeAddress
last_for [] address = None
last_for (pair ∷ pairs) address = option_or (last_for pairs address) (if is_same_address pair.0 address then Some pair.1 else None)

-- the address that is dialled for a node: its own, unless the map has another in its place
abbrev pub dialled : List (NodeAddress × NodeAddress) → NodeAddress → NodeAddress
dialled map address = unwrap_or (last_for map address) address
