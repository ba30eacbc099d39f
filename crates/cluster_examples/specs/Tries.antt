-- Tries in a cluster of three nodes at the host h, and where they go.
use Rattle.std.specs.Prelude.{ℕ, List, [], ◌∷◌, Option, codes}
use Rattle.slot_hash.specs.declared.address.NodeAddress.{NodeAddress}
use Rattle.command_table.specs.declared.routing.SlotAddr.{SlotAddr}
use Rattle.mux_routing.specs.declared.rows.SlotRow.{SlotRow}
use Rattle.mux_routing.specs.declared.strategy.ReadStrategy.{ReadStrategy}
use Rattle.mux_routing.specs.Strategies.{place_picked}
use Rattle.cluster_retries.specs.declared.request_routing.Redirect.{Redirect}
use Rattle.cluster_retries.specs.declared.request_routing.SingleNodeRoute.{SingleNodeRoute}
use Rattle.cluster_retries.specs.declared.request_routing.SingleNodeRoute.TheVariants.{SpecificNode}
use Rattle.cluster_plan.specs.declared.connections.ConnState.{ConnState}
use Rattle.cluster_plan.specs.declared.connections.ConnState.TheVariants.{Connected, Connecting, Reconnecting}
use Rattle.cluster_plan.specs.declared.connections.NodeEntry.{NodeEntry}
use Rattle.cluster_plan.specs.Connections.{entry}
use Rattle.route_choice.specs.declared.targets.RouteTarget.TheVariants.{Node, Connect, NotFound}
use Rattle.route_choice.specs.declared.targets.Resolution.{Resolution}
use Rattle.route_choice.specs.Entries.{over}
use Rattle.route_choice.specs.Resolver.{goes, resolution}

abbrev pub node : ℕ → NodeAddress
node port = record { host = codes "h"; port = port }

-- the slots up to 8191 are those of the primary 7000 with two replicas; the others have no row
abbrev pub rows : List SlotRow
rows = record { start = 0; end = 8_191; primary = node 7_000; replicas = node 7_001 ∷ node 7_002 ∷ [] } ∷ []

-- what there is of the three nodes
abbrev pub having : ConnState → ConnState → ConnState → List NodeEntry
having first second third = entry (node 7_000) first ∷ entry (node 7_001) second ∷ entry (node 7_002) third ∷ []

-- none of the slots' own nodes, and three others
abbrev pub others_alone : List NodeEntry
others_alone =
    entry (node 7_000) (Reconnecting 0)
    ∷ entry (node 7_001) Connecting
    ∷ entry (node 7_002) (Reconnecting 2)
    ∷ entry (node 7_003) (Connected 3)
    ∷ entry (node 7_004) (Connected 4)
    ∷ entry (node 7_005) (Connected 5)
    ∷ []

-- to which of a slot's nodes
abbrev pub to : ℕ → SlotAddr → SingleNodeRoute
to slot addr = SpecificNode (record { slot = slot; addr = addr })

-- where a try goes with the draws 5 and 7, of which the first is 1 of 2 and 2 of 3, and the second 1 of 2 and of 3
abbrev pub tried : Option ReadStrategy → Option Redirect → SingleNodeRoute → List NodeEntry → Resolution
tried reads redirect route entries = resolution place_picked reads (record { route = route; redirect = redirect }) (record { first = 5; second = 7 }) entries rows

abbrev pub at : ℕ → ℕ → ℕ → Resolution
at draws port link = goes draws (Node (over (node port) link))

abbrev pub connecting : ℕ → Resolution
connecting port = goes 0 (Connect (node port))

abbrev pub nowhere : ℕ → Resolution
nowhere draws = goes draws NotFound
