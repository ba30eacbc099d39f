-- The nodes that a map of a cluster's links has links to.
use Rattle.std.specs.Prelude.{ℕ, Bool, List, [], ◌∷◌, map, Option, Some, None, option_map}
use Rattle.std.specs.Option.{option_or}
use Rattle.slot_hash.specs.declared.address.NodeAddress.{NodeAddress}
use Rattle.mux_routing.specs.Shards.{in_order}
use Rattle.cluster_plan.specs.declared.connections.ConnState.{ConnState}
use Rattle.cluster_plan.specs.declared.connections.NodeEntry.{NodeEntry}
use Rattle.cluster_plan.specs.Connections.{connected_link, state_at}
use Rattle.route_choice.specs.declared.targets.NodeLink.{NodeLink}

abbrev pub addresses_of : List NodeEntry → List NodeAddress
addresses_of entries = map (λ e. e.address) entries

-- the entries stand in the order of their addresses, each address once
abbrev pub are_ordered : List NodeEntry → Bool
are_ordered entries = in_order (addresses_of entries)

-- a node over a link
abbrev pub over : NodeAddress → ℕ → NodeLink
over a link = record { address = a; link = link }

-- the link that serves requests, of a node that the map may have
abbrev pub serving : Option ConnState → Option ℕ
serving None = None
serving (Some state) = connected_link state

-- the node at an address, if it is connected
abbrev pub connected_at : List NodeEntry → NodeAddress → Option NodeLink
connected_at entries a = option_map (over a) (serving (state_at a entries))

abbrev pub before_others : Option NodeLink → List NodeLink → List NodeLink
before_others None others = others
before_others (Some node) others = node ∷ others

-- all nodes that are connected, in the order of the map
abbrev pub connected_nodes : List NodeEntry → List NodeLink
connected_nodes [] = []
connected_nodes (e ∷ es) = before_others (option_map (over e.address) (connected_link e.state)) (connected_nodes es)

-- the first of these addresses whose node is connected
abbrev pub first_connected : List NodeEntry → List NodeAddress → Option NodeLink
first_connected entries [] = None
first_connected entries (a ∷ more) = option_or (connected_at entries a) (first_connected entries more)
