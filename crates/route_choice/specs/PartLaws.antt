-- What is true of the parts of a request that goes to several nodes.
use Rattle.std.specs.Prelude.{◌≡◌, ◌≤◌, ◌⊎◌, ℕ, ◌+◌, true, get_or, List, [], ◌∷◌, map, length, slice_get, Option, Some}
use Rattle.std.specs.List.{All}
use Rattle.slot_hash.specs.declared.address.NodeAddress.{NodeAddress}
use Rattle.command_table.specs.declared.routing.Route.{Route}
use Rattle.command_table.specs.declared.routing.MultipleNodeRoutingInfo.{MultipleNodeRoutingInfo}
use Rattle.command_table.specs.declared.routing.MultipleNodeRoutingInfo.TheVariants.{AllNodes, AllMasters, MultiSlot}
use Rattle.mux_routing.specs.declared.rows.SlotRow.{SlotRow}
use Rattle.mux_routing.specs.Shards.{address_led_to, addresses, in_order, picking, reads_after, shard_at}
use Rattle.cluster_plan.specs.declared.connections.ConnState.TheVariants.{Connected, Reconnecting}
use Rattle.cluster_plan.specs.declared.connections.NodeEntry.{NodeEntry}
use Rattle.cluster_plan.specs.Connections.{state_at}
use Rattle.route_choice.specs.declared.targets.NodeLink.{NodeLink}
use Rattle.route_choice.specs.declared.targets.PartTargets.TheVariants.{Parts, RouteWithoutLink}
use Rattle.route_choice.specs.Parts.{part_resolution, routes_of}
use Rattle.route_choice.specs.Resolver.{picks_for}

-- the map has the node connected or being repaired, by this link
abbrev pub IsLinked : List NodeEntry → NodeLink → Type 0
IsLinked entries node =
    (state_at node.address entries ≡ Some (Connected node.link)) ⊎ (state_at node.address entries ≡ Some (Reconnecting node.link))

-- each part goes over a link that there is
abbrev pub EachPartIsLinked : {R : Type 0} → (R → ℕ → ℕ → ℕ) → (R → ℕ → ℕ → R) → Type 0
EachPartIsLinked {R} pick_of picked =
    (reads : Option R) (nodes : MultipleNodeRoutingInfo) (draws : List ℕ) (entries : List NodeEntry) (rows : List SlotRow) (found : List NodeLink)
    → (part_resolution pick_of picked reads nodes draws entries rows).targets ≡ Parts found → All (IsLinked entries) found

abbrev pub IsOfNodes : MultipleNodeRoutingInfo → Type 0
IsOfNodes AllNodes = Unit {0}
IsOfNodes AllMasters = Unit {0}
IsOfNodes (MultiSlot routes) = ⊥

-- to all nodes, or to all primaries, the parts go in the order of addresses, to each once; the addresses of a map's rows stand in
-- order, each once
abbrev pub EachNodeOnce : {R : Type 0} → (R → ℕ → ℕ → ℕ) → (R → ℕ → ℕ → R) → Type 0
EachNodeOnce {R} pick_of picked =
    (reads : Option R) (nodes : MultipleNodeRoutingInfo) (draws : List ℕ) (entries : List NodeEntry) (rows : List SlotRow) (found : List NodeLink)
    → IsOfNodes nodes → in_order (addresses rows) ≡ true
    → (part_resolution pick_of picked reads nodes draws entries rows).targets ≡ Parts found
    → in_order (map (λ node. node.address) found) ≡ true

-- the addresses to which routes lead, in order; each pick of a strategy takes the next draw
abbrev pub led_addresses : {R : Type 0} → (R → ℕ → ℕ → ℕ) → (R → ℕ → ℕ → R) → Option R → List ℕ → ℕ → List SlotRow → List (Route × List ℕ) → List (Option NodeAddress)
led_addresses pick_of picked reads draws used rows [] = []
led_addresses pick_of picked reads draws used rows (part ∷ more) =
    address_led_to part.0 (picking pick_of reads (get_or draws used 0)) rows
    ∷ led_addresses pick_of picked (reads_after picked part.0.addr (shard_at part.0.slot rows) (get_or draws used 0) reads) draws (used + picks_for reads part.0 rows) rows more

-- each route has one part, in order, and it goes to the node to which the route leads: nothing stands in
abbrev pub EachRouteHasItsNode : {R : Type 0} → (R → ℕ → ℕ → ℕ) → (R → ℕ → ℕ → R) → Type 0
EachRouteHasItsNode {R} pick_of picked =
    (reads : Option R) (routes : List (Route × List ℕ)) (draws : List ℕ) (entries : List NodeEntry) (rows : List SlotRow) (found : List NodeLink)
    → (part_resolution pick_of picked reads (MultiSlot routes) draws entries rows).targets ≡ Parts found
    → map (λ node. Some node.address) found ≡ led_addresses pick_of picked reads draws 0 rows routes

-- no more draws are used than there are routes
abbrev pub DrawsAreFew : {R : Type 0} → (R → ℕ → ℕ → ℕ) → (R → ℕ → ℕ → R) → Type 0
DrawsAreFew {R} pick_of picked =
    (reads : Option R) (nodes : MultipleNodeRoutingInfo) (draws : List ℕ) (entries : List NodeEntry) (rows : List SlotRow)
    → (part_resolution pick_of picked reads nodes draws entries rows).draws ≤ length (routes_of nodes)

-- a route leads to no node that has a link
abbrev pub LeadsNowhere : List NodeEntry → Option NodeAddress → Type 0
LeadsNowhere entries led = (node : NodeLink) → led ≡ Some node.address → IsLinked entries node → ⊥

abbrev pub IsAmong : List ℕ → ℕ → Type 0
IsAmong numbers n = (i : ℕ) × (slice_get numbers i ≡ Some n)

-- where some routes have no link, the numbers that are named are those of the routes that lead nowhere, counted from 0
abbrev pub NamesTheMissing : {R : Type 0} → (R → ℕ → ℕ → ℕ) → (R → ℕ → ℕ → R) → Type 0
NamesTheMissing {R} pick_of picked =
    (reads : Option R) (routes : List (Route × List ℕ)) (draws : List ℕ) (entries : List NodeEntry) (rows : List SlotRow) (missing : List ℕ)
    → (part_resolution pick_of picked reads (MultiSlot routes) draws entries rows).targets ≡ RouteWithoutLink missing
    → (n : ℕ) (led : Option NodeAddress) → slice_get (led_addresses pick_of picked reads draws 0 rows routes) n ≡ Some led
    → (LeadsNowhere entries led → IsAmong missing n) × (IsAmong missing n → LeadsNowhere entries led)
