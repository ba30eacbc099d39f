-- Nodes by their places among those of a map of slots.
use Rattle.std.specs.Prelude.{ℕ, List, [], ◌∷◌, Option, None, option_and_then, slice_get}
use Rattle.std.specs.Option.{option_or}
use Rattle.slot_hash.specs.declared.address.NodeAddress.{NodeAddress}
use Rattle.cluster_plan.specs.declared.connections.NodeEntry.{NodeEntry}
use Rattle.route_choice.specs.declared.targets.NodeLink.{NodeLink}
use Rattle.route_choice.specs.Entries.{connected_at}

-- the first of the addresses at these places whose node is connected
abbrev pub first_of : List NodeEntry → List NodeAddress → List ℕ → Option NodeLink
first_of entries nodes [] = None
first_of entries nodes (place ∷ more) = option_or (option_and_then (connected_at entries) (slice_get nodes place)) (first_of entries nodes more)
