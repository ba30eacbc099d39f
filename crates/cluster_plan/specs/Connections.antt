-- The map of a cluster's links: what it has of each node, in the order of addresses.
use Rattle.std.specs.Prelude.{ℕ, List, [], ◌∷◌, Option, Some, None, if◌then◌else◌}
use Rattle.slot_hash.specs.declared.address.NodeAddress.{NodeAddress}
use Rattle.mux_routing.specs.Shards.{address_less}
use Rattle.cluster_plan.specs.Asks.{same_address}
use Rattle.cluster_plan.specs.declared.connections.ConnState.{ConnState}
use Rattle.cluster_plan.specs.declared.connections.ConnState.TheVariants.{Connected, Reconnecting, Connecting}
use Rattle.cluster_plan.specs.declared.connections.NodeEntry.{NodeEntry}

-- the link that serves requests
abbrev pub connected_link : ConnState → Option ℕ
connected_link (Connected link) = Some link
connected_link (Reconnecting link) = None
connected_link Connecting = None

-- the link that there is, also one that is being repaired
abbrev pub link_of : ConnState → Option ℕ
link_of (Connected link) = Some link
link_of (Reconnecting link) = Some link
link_of Connecting = None

-- what there is of a node, if the map has it
abbrev pub state_at : NodeAddress → List NodeEntry → Option ConnState
state_at a [] = None
state_at a (e ∷ es) = if same_address a e.address then Some e.state else state_at a es

abbrev pub link_in : Option ConnState → Option ℕ
link_in None = None
link_in (Some state) = link_of state

-- the link to a node, if there is one
abbrev pub link_to : NodeAddress → List NodeEntry → Option ℕ
link_to a map = link_in (state_at a map)

abbrev pub entry : NodeAddress → ConnState → NodeEntry
entry a state = record { address = a; state = state }

-- a node's entry is put in its place, or replaced
abbrev pub put : NodeAddress → ConnState → List NodeEntry → List NodeEntry
put a state [] = entry a state ∷ []
put a state (e ∷ es) = if address_less e.address a then e ∷ put a state es else (if address_less a e.address then entry a state ∷ e ∷ es else entry a state ∷ es)

-- a node's entry goes
abbrev pub without : NodeAddress → List NodeEntry → List NodeEntry
without a [] = []
without a (e ∷ es) = if same_address a e.address then es else e ∷ without a es

-- the entry of a node whose repair begins: its link is kept, if there is one
abbrev pub repaired_state : Option ConnState → ConnState
repaired_state None = Connecting
repaired_state (Some (Connected link)) = Reconnecting link
repaired_state (Some (Reconnecting link)) = Reconnecting link
repaired_state (Some Connecting) = Connecting

-- the map with which the repair of a node begins
unfoldable pub mark_reconnecting : NodeAddress → List NodeEntry → List NodeEntry
mark_reconnecting a map = put a (repaired_state (state_at a map)) map
