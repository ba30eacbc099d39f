-- Requests to several nodes in a cluster of two primaries and two replicas at the host h, and where their parts go.
use Rattle.std.specs.Prelude.{ℕ, List, [], ◌∷◌, map, Option}
use Rattle.command_table.specs.declared.routing.Route.{Route}
use Rattle.command_table.specs.declared.routing.SlotAddr.{SlotAddr}
use Rattle.command_table.specs.declared.routing.MultipleNodeRoutingInfo.{MultipleNodeRoutingInfo}
use Rattle.command_table.specs.declared.routing.MultipleNodeRoutingInfo.TheVariants.{MultiSlot}
use Rattle.mux_routing.specs.declared.rows.SlotRow.{SlotRow}
use Rattle.mux_routing.specs.declared.strategy.ReadStrategy.{ReadStrategy}
use Rattle.mux_routing.specs.declared.strategy.ReadStrategy.TheVariants.{RoundRobin}
use Rattle.mux_routing.specs.Strategies.{after_pick, place_picked}
use Rattle.cluster_plan.specs.declared.connections.ConnState.{ConnState}
use Rattle.cluster_plan.specs.declared.connections.NodeEntry.{NodeEntry}
use Rattle.cluster_plan.specs.Connections.{entry}
use Rattle.route_choice.specs.declared.targets.NodeLink.{NodeLink}
use Rattle.route_choice.specs.declared.targets.PartTargets.TheVariants as targets
use Rattle.route_choice.specs.declared.targets.PartResolution.{PartResolution}
use Rattle.route_choice.specs.Entries.{over}
use Rattle.route_choice.specs.Parts.{part_resolution, parts}
use Rattle.cluster_examples.specs.Tries.{node}

abbrev pub rows : List SlotRow
rows =
    record { start = 0; end = 8_191; primary = node 7_002; replicas = node 7_003 ∷ node 7_004 ∷ [] }
    ∷ record { start = 8_192; end = 16_383; primary = node 7_000; replicas = [] }
    ∷ []

-- what there is of the four nodes
abbrev pub having : ConnState → ConnState → ConnState → ConnState → List NodeEntry
having a b c d = entry (node 7_000) a ∷ entry (node 7_002) b ∷ entry (node 7_003) c ∷ entry (node 7_004) d ∷ []

-- one key in each of these slots
abbrev pub part : SlotAddr → ℕ → Route × List ℕ
part addr slot = (record { slot = slot; addr = addr }, 0 ∷ [])

abbrev pub keys_in : SlotAddr → List ℕ → MultipleNodeRoutingInfo
keys_in addr slots = MultiSlot (map (part addr) slots)

-- where the parts go with the draws 5, 8 and 9
abbrev pub spread : Option ReadStrategy → MultipleNodeRoutingInfo → List NodeEntry → PartResolution
spread reads nodes entries = part_resolution place_picked after_pick reads nodes (5 ∷ 8 ∷ 9 ∷ []) entries rows

abbrev pub to : ℕ → ℕ → NodeLink
to port link = over (node port) link

abbrev pub each : ℕ → List NodeLink → PartResolution
each draws nodes = parts draws (targets.Parts nodes)

abbrev pub nowhere : ℕ → PartResolution
nowhere draws = parts draws targets.NotFound

abbrev pub without : ℕ → List ℕ → PartResolution
without draws routes = parts draws (targets.RouteWithoutLink routes)

-- which of two replicas is picked in turn behind so many picks, and what counts from then on
abbrev pub picked_in_turn : ℕ → ℕ × ReadStrategy
picked_in_turn next = (place_picked (RoundRobin next) 2 8, after_pick (RoundRobin next) 2 8)

-- the count stands still at the greatest number of 32 bits
abbrev pub turns_taken : List (ℕ × (ℕ × ReadStrategy))
turns_taken =
    (0, (0, RoundRobin 1))
    ∷ (1, (1, RoundRobin 2))
    ∷ (4_294_967_294, (0, RoundRobin 4_294_967_295))
    ∷ (4_294_967_295, (1, RoundRobin 4_294_967_295))
    ∷ []
