-- Which node a try of a request goes to, and how many draws that takes.
use Rattle.std.specs.Prelude.{ℕ, zero, suc, ◌+◌, ◌%◌, ◌==◌, List, length, Option, Some, None, option_and_then, slice_get, if◌then◌else◌}
use Rattle.slot_hash.specs.declared.address.NodeAddress.{NodeAddress}
use Rattle.command_table.specs.declared.routing.Route.{Route}
use Rattle.mux_routing.specs.declared.rows.SlotRow.{SlotRow}
use Rattle.mux_routing.specs.Shards.{address_led_to, asks, fallback_addresses, last_row, picking, reads_after, shard_at}
use Rattle.cluster_retries.specs.declared.request_routing.Redirect.{Redirect}
use Rattle.cluster_retries.specs.declared.request_routing.Redirect.TheVariants.{Moved, Ask}
use Rattle.cluster_retries.specs.declared.request_routing.SingleNodeRoute.{SingleNodeRoute}
use Rattle.cluster_retries.specs.declared.request_routing.SingleNodeRoute.TheVariants.{Random, SpecificNode, ByAddress, Connection}
use Rattle.cluster_retries.specs.declared.request_routing.InternalSingleNodeRouting.{InternalSingleNodeRouting}
use Rattle.cluster_plan.specs.declared.connections.NodeEntry.{NodeEntry}
use Rattle.route_choice.specs.declared.targets.Draws.{Draws}
use Rattle.route_choice.specs.declared.targets.NodeLink.{NodeLink}
use Rattle.route_choice.specs.declared.targets.RouteTarget.{RouteTarget}
use Rattle.route_choice.specs.declared.targets.RouteTarget.TheVariants.{Node, Connect, NotFound}
use Rattle.route_choice.specs.declared.targets.Resolution.{Resolution}
use Rattle.route_choice.specs.Entries.{connected_at, connected_nodes, first_connected, over}

-- there, with so many draws used
abbrev pub goes : ℕ → RouteTarget → Resolution
goes used target = record { target = target; draws = used }

-- to that node, and otherwise elsewhere
abbrev pub node_or : RouteTarget → Option NodeLink → RouteTarget
node_or otherwise None = otherwise
node_or otherwise (Some node) = Node node

abbrev pub served : ℕ → Option NodeLink → Resolution → Resolution
served used None otherwise = otherwise
served used (Some node) otherwise = goes used (Node node)

-- the draw behind those that were used
abbrev pub draw_behind : ℕ → Draws → ℕ
draw_behind zero draws = draws.first
draw_behind (suc used) draws = draws.second

-- one of these nodes by a draw; where there is none nothing is drawn
abbrev pub any_of : ℕ → ℕ → List NodeLink → Resolution
any_of used draw nodes = if length nodes == 0 then goes used NotFound else goes (used + 1) (node_or NotFound (slice_get nodes (draw % length nodes)))

-- any connected node
abbrev pub any_node : ℕ → Draws → List NodeEntry → Resolution
any_node used draws entries = any_of used (draw_behind used draws) (connected_nodes entries)

-- how many picks of replicas a strategy makes for a route, if there is a strategy: one, where a replica may be read and there are any
abbrev pub pick_count : {R : Type 0} → Option R → ℕ
pick_count None = 0
pick_count (Some strategy) = 1

abbrev pub picks_for : {R : Type 0} → Option R → Route → List SlotRow → ℕ
picks_for reads route rows = if asks route.addr (shard_at route.slot rows) then pick_count reads else 0

-- the node that a slot's route prefers, if it is connected
abbrev pub preferred : Option (ℕ → ℕ) → Route → List NodeEntry → List SlotRow → Option NodeLink
preferred pick route entries rows = option_and_then (connected_at entries) (address_led_to route pick rows)

-- the first node of its shard that may stand in and is connected
abbrev pub stand_in : Route → List NodeEntry → List SlotRow → Option NodeLink
stand_in route entries rows = first_connected entries (fallback_addresses route.addr (last_row route.slot rows))

-- of a slot's route: the node that it prefers, else one that stands in, else any
abbrev pub by_slot : ℕ → Option (ℕ → ℕ) → Route → Draws → List NodeEntry → List SlotRow → Resolution
by_slot used pick route draws entries rows =
    served used (preferred pick route entries rows) (served used (stand_in route entries rows) (any_node used draws entries))

-- the node at an address, and no other
abbrev pub by_address : NodeAddress → List NodeEntry → Resolution
by_address a entries = goes 0 (node_or NotFound (connected_at entries a))

-- the node that a server named: a link to it is made where it isn't connected
abbrev pub by_redirect : NodeAddress → List NodeEntry → Resolution
by_redirect a entries = goes 0 (node_or (Connect a) (connected_at entries a))

abbrev pub named_by : Redirect → NodeAddress
named_by (Moved a) = a
named_by (Ask a) = a

-- without a redirect; a part of a request keeps the link that it was made for
abbrev pub by_route : {R : Type 0} → (R → ℕ → ℕ → ℕ) → Option R → SingleNodeRoute → Draws → List NodeEntry → List SlotRow → Resolution
by_route pick_of reads Random draws entries rows = any_node 0 draws entries
by_route pick_of reads (SpecificNode route) draws entries rows =
    by_slot (picks_for reads route rows) (picking pick_of reads draws.first) route draws entries rows
by_route pick_of reads (ByAddress a) draws entries rows = by_address a entries
by_route pick_of reads (Connection a link) draws entries rows = goes 0 (Node (over a link))

abbrev pub redirected_or : Option Redirect → List NodeEntry → Resolution → Resolution
redirected_or None entries otherwise = otherwise
redirected_or (Some redirect) entries otherwise = by_redirect (named_by redirect) entries

-- where a try goes, from its routing, the next draws, the map of links and the rows of the slots, with a strategy that picks replicas
-- or without one
unfoldable pub resolution : {R : Type 0} → (R → ℕ → ℕ → ℕ) → Option R → InternalSingleNodeRouting → Draws → List NodeEntry → List SlotRow → Resolution
resolution pick_of reads routing draws entries rows =
    redirected_or routing.redirect entries (by_route pick_of reads routing.route draws entries rows)

-- the slot's route that a try follows, if it follows one
abbrev pub route_unless : Option Redirect → SingleNodeRoute → Option Route
route_unless (Some redirect) route = None
route_unless None Random = None
route_unless None (SpecificNode route) = Some route
route_unless None (ByAddress a) = None
route_unless None (Connection a link) = None

abbrev pub slot_route : InternalSingleNodeRouting → Option Route
slot_route routing = route_unless routing.redirect routing.route

-- the strategy after a try, where there is one: it has picked if it was asked
abbrev pub reads_by : {R : Type 0} → (R → ℕ → ℕ → R) → Option Route → ℕ → List SlotRow → Option R → Option R
reads_by picked None draw rows reads = reads
reads_by picked (Some route) draw rows reads = reads_after picked route.addr (shard_at route.slot rows) draw reads
