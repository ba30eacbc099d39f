-- Which node a try may use, and with how many draws: what its route asks of it, apart from how it is found.
use Rattle.std.specs.Prelude.{◌≡◌, ◌⊎◌, ℕ, ◌+◌, ◌%◌, true, List, ◌∷◌, ◌++◌, length, Option, Some, None, slice_get}
use Rattle.std.specs.List.{All}
use Rattle.slot_hash.specs.declared.address.NodeAddress.{NodeAddress}
use Rattle.mux_routing.specs.declared.rows.SlotRow.{SlotRow}
use Rattle.mux_routing.specs.Shards.{address_led_to, fallback_addresses, last_row, picking}
use Rattle.cluster_retries.specs.declared.request_routing.Redirect.{Redirect}
use Rattle.cluster_retries.specs.declared.request_routing.SingleNodeRoute.{SingleNodeRoute}
use Rattle.cluster_retries.specs.declared.request_routing.SingleNodeRoute.TheVariants.{Random, SpecificNode, ByAddress, Connection}
use Rattle.cluster_retries.specs.declared.request_routing.InternalSingleNodeRouting.{InternalSingleNodeRouting}
use Rattle.cluster_plan.specs.declared.connections.ConnState.TheVariants.{Connected}
use Rattle.cluster_plan.specs.declared.connections.NodeEntry.{NodeEntry}
use Rattle.cluster_plan.specs.Connections.{state_at}
use Rattle.route_choice.specs.declared.targets.Draws.{Draws}
use Rattle.route_choice.specs.declared.targets.NodeLink.{NodeLink}
use Rattle.route_choice.specs.declared.targets.RouteTarget.TheVariants.{Node, Connect, NotFound}
use Rattle.route_choice.specs.Entries.{are_ordered, connected_nodes, over}
use Rattle.route_choice.specs.Resolver.{draw_behind, named_by, picks_for, resolution}

-- the map has the node at this address connected, by this link
abbrev pub IsConnected : List NodeEntry → NodeAddress → ℕ → Type 0
IsConnected entries a link = state_at a entries ≡ Some (Connected link)

abbrev pub IsAway : List NodeEntry → NodeAddress → Type 0
IsAway entries a = (link : ℕ) → IsConnected entries a link → ⊥

-- no node is connected
abbrev pub AllAreAway : List NodeEntry → Type 0
AllAreAway entries = (a : NodeAddress) → IsAway entries a

-- the node to which a route leads isn't connected, if it leads to one
abbrev pub LedIsAway : List NodeEntry → Option NodeAddress → Type 0
LedIsAway entries None = Unit {0}
LedIsAway entries (Some a) = IsAway entries a

-- of these addresses it is the first whose node is connected
abbrev pub IsFirst : List NodeEntry → List NodeAddress → NodeAddress → Type 0
IsFirst entries nodes a = (before : List NodeAddress) × (after : List NodeAddress) × (nodes ≡ before ++ a ∷ after) × All (IsAway entries) before

-- among all nodes that are connected, in the order of their addresses, it has the place that the draw says
abbrev pub IsDrawn : List NodeEntry → ℕ → NodeLink → Type 0
IsDrawn entries draw node = slice_get (connected_nodes entries) (draw % length (connected_nodes entries)) ≡ Some node

-- for a slot's route, behind so many picks: the node to which it leads; where that is away, the first of its shard that may stand in;
-- and where these are away too, any by one draw more
abbrev pub MayServe : List NodeEntry → Draws → ℕ → Option NodeAddress → List NodeAddress → ℕ → NodeLink → Type 0
MayServe entries draws picks led others used node =
    ((led ≡ Some node.address) × (used ≡ picks))
    ⊎ ((LedIsAway entries led × IsFirst entries others node.address × (used ≡ picks))
    ⊎ (LedIsAway entries led × All (IsAway entries) others × IsDrawn entries (draw_behind picks draws) node × (used ≡ picks + 1)))

abbrev pub MayUseBy : {R : Type 0} → (R → ℕ → ℕ → ℕ) → Option R → Option Redirect → SingleNodeRoute → Draws → List NodeEntry → List SlotRow → ℕ → NodeLink → Type 0
MayUseBy pick_of reads (Some redirect) route draws entries rows used node =
    (node.address ≡ named_by redirect) × IsConnected entries node.address node.link × (used ≡ 0)
MayUseBy pick_of reads None Random draws entries rows used node =
    IsConnected entries node.address node.link × IsDrawn entries draws.first node × (used ≡ 1)
MayUseBy pick_of reads None (SpecificNode route) draws entries rows used node =
    IsConnected entries node.address node.link
    × MayServe entries draws (picks_for reads route rows) (address_led_to route (picking pick_of reads draws.first) rows) (fallback_addresses route.addr (last_row route.slot rows)) used node
MayUseBy pick_of reads None (ByAddress a) draws entries rows used node =
    (node.address ≡ a) × IsConnected entries node.address node.link × (used ≡ 0)
MayUseBy pick_of reads None (Connection a link) draws entries rows used node = (node ≡ over a link) × (used ≡ 0)

-- a try of this routing may use the node, with so many draws
abbrev pub MayUse : {R : Type 0} → (R → ℕ → ℕ → ℕ) → Option R → InternalSingleNodeRouting → Draws → List NodeEntry → List SlotRow → ℕ → NodeLink → Type 0
MayUse pick_of reads routing draws entries rows used node = MayUseBy pick_of reads routing.redirect routing.route draws entries rows used node

-- nobody can serve such a try, and so many draws are used all the same
abbrev pub NobodyServesBy : {R : Type 0} → Option R → Option Redirect → SingleNodeRoute → List NodeEntry → List SlotRow → ℕ → Type 0
NobodyServesBy reads (Some redirect) route entries rows used = ⊥
NobodyServesBy reads None Random entries rows used = AllAreAway entries × (used ≡ 0)
NobodyServesBy reads None (SpecificNode route) entries rows used = AllAreAway entries × (used ≡ picks_for reads route rows)
NobodyServesBy reads None (ByAddress a) entries rows used = IsAway entries a × (used ≡ 0)
NobodyServesBy reads None (Connection a link) entries rows used = ⊥

abbrev pub NobodyServes : {R : Type 0} → Option R → InternalSingleNodeRouting → List NodeEntry → List SlotRow → ℕ → Type 0
NobodyServes reads routing entries rows used = NobodyServesBy reads routing.redirect routing.route entries rows used

-- a redirect names this node, and it isn't connected
abbrev pub IsNamedBy : Option Redirect → List NodeEntry → NodeAddress → Type 0
IsNamedBy None entries a = ⊥
IsNamedBy (Some redirect) entries a = (named_by redirect ≡ a) × IsAway entries a

-- each try goes to a node that it may use, with as many draws as that takes
abbrev pub GoesWhereItMay : {R : Type 0} → (R → ℕ → ℕ → ℕ) → Type 0
GoesWhereItMay {R} pick_of =
    (reads : Option R) (routing : InternalSingleNodeRouting) (draws : Draws) (entries : List NodeEntry) (rows : List SlotRow) (node : NodeLink)
    → are_ordered entries ≡ true
    → (resolution pick_of reads routing draws entries rows).target ≡ Node node
    → MayUse pick_of reads routing draws entries rows (resolution pick_of reads routing draws entries rows).draws node

-- it isn't found only where nobody can serve it
abbrev pub IsFoundWhereOneServes : {R : Type 0} → (R → ℕ → ℕ → ℕ) → Type 0
IsFoundWhereOneServes {R} pick_of =
    (reads : Option R) (routing : InternalSingleNodeRouting) (draws : Draws) (entries : List NodeEntry) (rows : List SlotRow)
    → (resolution pick_of reads routing draws entries rows).target ≡ NotFound
    → NobodyServes reads routing entries rows (resolution pick_of reads routing draws entries rows).draws

-- a link is made only to a node that a redirect names and that isn't connected, and without a draw
abbrev pub ConnectsWhereNamed : {R : Type 0} → (R → ℕ → ℕ → ℕ) → Type 0
ConnectsWhereNamed {R} pick_of =
    (reads : Option R) (routing : InternalSingleNodeRouting) (draws : Draws) (entries : List NodeEntry) (rows : List SlotRow) (a : NodeAddress)
    → (resolution pick_of reads routing draws entries rows).target ≡ Connect a
    → IsNamedBy routing.redirect entries a × ((resolution pick_of reads routing draws entries rows).draws ≡ 0)
