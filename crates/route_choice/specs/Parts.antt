-- Which nodes the parts of a request go to that goes to several nodes. Nothing stands in for a node without a link.
use Rattle.std.specs.Prelude.{ℕ, suc, ◌+◌, ◌==◌, nat_lt, Bool, get_or, List, [], ◌∷◌, length, Option, Some, None, option_and_then, option_map, slice_get, if◌then◌else◌}
use Rattle.std.specs.List.{list_all}
use Rattle.slot_hash.specs.declared.address.NodeAddress.{NodeAddress}
use Rattle.command_table.specs.declared.routing.Route.{Route}
use Rattle.command_table.specs.declared.routing.MultipleNodeRoutingInfo.{MultipleNodeRoutingInfo}
use Rattle.command_table.specs.declared.routing.MultipleNodeRoutingInfo.TheVariants.{AllNodes, AllMasters, MultiSlot}
use Rattle.mux_routing.specs.declared.rows.SlotRow.{SlotRow}
use Rattle.mux_routing.specs.Shards.{address_led_to, addresses, node_places, picking, primaries, reads_after, shard_at}
use Rattle.cluster_plan.specs.declared.connections.NodeEntry.{NodeEntry}
use Rattle.cluster_plan.specs.Connections.{link_to}
use Rattle.route_choice.specs.declared.targets.NodeLink.{NodeLink}
use Rattle.route_choice.specs.declared.targets.PartTargets.{PartTargets}
use Rattle.route_choice.specs.declared.targets.PartTargets.TheVariants.{Parts, NotFound, RouteWithoutLink}
use Rattle.route_choice.specs.declared.targets.PartResolution.{PartResolution}
use Rattle.route_choice.specs.Entries.{before_others, over}
use Rattle.route_choice.specs.Resolver.{picks_for}

-- the node of a part: one that has a link, also one that is being repaired
abbrev pub part_at : List NodeEntry → NodeAddress → Option NodeLink
part_at entries a = option_map (over a) (link_to a entries)

-- the nodes at these places of the map of slots
abbrev pub parts_at : List NodeEntry → List NodeAddress → List ℕ → List (Option NodeLink)
parts_at entries nodes [] = []
parts_at entries nodes (place ∷ more) = option_and_then (part_at entries) (slice_get nodes place) ∷ parts_at entries nodes more

-- those that have a link, in order
abbrev pub those_there : List (Option NodeLink) → List NodeLink
those_there [] = []
those_there (found ∷ more) = before_others found (those_there more)

-- the numbers, counted on, of those that have none
abbrev pub missing_from : ℕ → List (Option NodeLink) → List ℕ
missing_from number [] = []
missing_from number (None ∷ more) = number ∷ missing_from (suc number) more
missing_from number (Some node ∷ more) = missing_from (suc number) more

-- one part for each node that has a link
abbrev pub for_nodes : List NodeLink → PartTargets
for_nodes nodes = if length nodes == 0 then NotFound else Parts nodes

-- one part for each route; where some routes but not all are without a link, there is none for the others either
abbrev pub for_routes : List NodeLink → List ℕ → PartTargets
for_routes nodes missing = if length missing == 0 then for_nodes nodes else (if length nodes == 0 then NotFound else RouteWithoutLink missing)

-- the node of each route, in order. Each pick of a strategy takes the next draw
abbrev pub route_nodes : {R : Type 0} → (R → ℕ → ℕ → ℕ) → (R → ℕ → ℕ → R) → Option R → List ℕ → ℕ → List NodeEntry → List SlotRow → List (Route × List ℕ) → List (Option NodeLink)
route_nodes pick_of picked reads draws used entries rows [] = []
route_nodes pick_of picked reads draws used entries rows (part ∷ more) =
    option_and_then (part_at entries) (address_led_to part.0 (picking pick_of reads (get_or draws used 0)) rows)
    ∷ route_nodes pick_of picked (reads_after picked part.0.addr (shard_at part.0.slot rows) (get_or draws used 0) reads) draws (used + picks_for reads part.0 rows) entries rows more

-- how many picks there are for all routes
abbrev pub route_picks : {R : Type 0} → (R → ℕ → ℕ → R) → Option R → List ℕ → ℕ → List SlotRow → List (Route × List ℕ) → ℕ
route_picks picked reads draws used rows [] = used
route_picks picked reads draws used rows (part ∷ more) =
    route_picks picked (reads_after picked part.0.addr (shard_at part.0.slot rows) (get_or draws used 0) reads) draws (used + picks_for reads part.0 rows) rows more

-- the strategy after them
abbrev pub route_reads : {R : Type 0} → (R → ℕ → ℕ → R) → Option R → List ℕ → ℕ → List SlotRow → List (Route × List ℕ) → Option R
route_reads picked reads draws used rows [] = reads
route_reads picked reads draws used rows (part ∷ more) =
    route_reads picked (reads_after picked part.0.addr (shard_at part.0.slot rows) (get_or draws used 0) reads) draws (used + picks_for reads part.0 rows) rows more

abbrev pub parts : ℕ → PartTargets → PartResolution
parts used targets = record { targets = targets; draws = used }

abbrev pub of_routes : ℕ → List (Option NodeLink) → PartResolution
of_routes used found = parts used (for_routes (those_there found) (missing_from 0 found))

abbrev pub of_places : List NodeEntry → List SlotRow → List ℕ → PartResolution
of_places entries rows places = parts 0 (for_nodes (those_there (parts_at entries (addresses rows) places)))

-- where the parts of a request go, and how many draws that takes
unfoldable pub part_resolution : {R : Type 0} → (R → ℕ → ℕ → ℕ) → (R → ℕ → ℕ → R) → Option R → MultipleNodeRoutingInfo → List ℕ → List NodeEntry → List SlotRow → PartResolution
part_resolution pick_of picked reads AllNodes draws entries rows = of_places entries rows (node_places rows)
part_resolution pick_of picked reads AllMasters draws entries rows = of_places entries rows (primaries rows)
part_resolution pick_of picked reads (MultiSlot routes) draws entries rows =
    of_routes (route_picks picked reads draws 0 rows routes) (route_nodes pick_of picked reads draws 0 entries rows routes)

-- the routes of a request's parts, where it is one with keys in several slots
abbrev pub routes_of : MultipleNodeRoutingInfo → List (Route × List ℕ)
routes_of AllNodes = []
routes_of AllMasters = []
routes_of (MultiSlot routes) = routes

-- routes to slots that there are
abbrev pub are_slots : List (Route × List ℕ) → Bool
are_slots routes = list_all (λ part. nat_lt part.0.slot 16_384) routes
