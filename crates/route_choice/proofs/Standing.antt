-- Nodes that stand in, by their places.
use Rattle.std.proofs.Common.{◌≡◌, ℕ, List, [], ◌∷◌, map, Some, refl, ap, ◌∙◌}
use Rattle.std.specs.Prelude.{option_and_then, slice_get}
use Rattle.std.specs.Option.{option_or}
use Rattle.slot_hash.specs.declared.address.NodeAddress.{NodeAddress}
use Rattle.command_table.specs.declared.routing.Route.{Route}
use Rattle.mux_routing.specs.declared.rows.SlotRow.{SlotRow}
use Rattle.mux_routing.specs.Shards.{addresses, fallback_addresses, last_row}
use Rattle.cluster_plan.specs.declared.connections.NodeEntry.{NodeEntry}
use Rattle.route_choice.specs.Entries.{connected_at, first_connected}
use Rattle.route_choice.specs.Places.{first_of}
use Rattle.route_choice.specs.Resolver.{stand_in}

first_is : (entries : List NodeEntry) (nodes : List NodeAddress) (places : List ℕ) (listed : List NodeAddress) → map (slice_get nodes) places ≡ map Some listed → first_of entries nodes places ≡ first_connected entries listed
first_is entries nodes [] [] e = refl
first_is entries nodes [] (a ∷ more) e = cc
first_is entries nodes (place ∷ places) [] e = cc
first_is entries nodes (place ∷ places) (a ∷ more) e =
    let here : slice_get nodes place ≡ Some a = cc in
    let rest : map (slice_get nodes) places ≡ map Some more = cc in
    ap (λ found. option_or (option_and_then (connected_at entries) found) (first_of entries nodes places)) here
    ∙ ap (option_or (connected_at entries a)) (first_is entries nodes places more rest)

pub stand_in_is : (entries : List NodeEntry) (route : Route) (rows : List SlotRow) (places : List ℕ) → map (slice_get (addresses rows)) places ≡ map Some (fallback_addresses route.addr (last_row route.slot rows)) → first_of entries (addresses rows) places ≡ stand_in route entries rows
stand_in_is entries route rows places e = first_is entries (addresses rows) places (fallback_addresses route.addr (last_row route.slot rows)) e
