-- Parts go over links that there are, to the nodes to which their routes lead.
use Rattle.std.proofs.Common.{◌≡◌, ◌≤◌, inl, inr, ℕ, suc, ◌+◌, ◌==◌, Bool, true, false, List, [], ◌∷◌, map, length, Option, Some, None, IfSome, refl, sym, ap, subst, ◌∙◌, arith, get_or, if◌then◌else◌}
use Rattle.std.specs.Prelude.{option_and_then, option_map, slice_get}
use Rattle.std.specs.List.{All}
use Rattle.std.proofs.lemmas.List.Elements.{All-nil, All-cons, All-head, All-tail}
use Rattle.containers.proofs.Choices.{eq_from}
use Rattle.slot_hash.specs.declared.address.NodeAddress.{NodeAddress}
use Rattle.command_table.specs.declared.routing.Route.{Route}
use Rattle.command_table.specs.declared.routing.MultipleNodeRoutingInfo.TheVariants.{AllNodes, AllMasters, MultiSlot}
use Rattle.mux_routing.specs.declared.rows.SlotRow.{SlotRow}
use Rattle.mux_routing.specs.Shards.{address_led_to, addresses, asks, node_places, picking, primaries, reads_after, shard_at}
use Rattle.cluster_plan.specs.declared.connections.ConnState.{ConnState}
use Rattle.cluster_plan.specs.declared.connections.ConnState.TheVariants.{Connected, Reconnecting, Connecting}
use Rattle.cluster_plan.specs.declared.connections.NodeEntry.{NodeEntry}
use Rattle.cluster_plan.specs.Connections.{link_in, state_at}
use Rattle.route_choice.specs.declared.targets.NodeLink.{NodeLink}
use Rattle.route_choice.specs.declared.targets.PartTargets.TheVariants as targets
use Rattle.route_choice.specs.Entries.{over}
use Rattle.route_choice.specs.Parts.{for_nodes, for_routes, missing_from, part_at, part_resolution, parts_at, route_nodes, route_picks, those_there}
use Rattle.route_choice.specs.PartLaws.{DrawsAreFew, EachPartIsLinked, EachRouteHasItsNode, IsLinked, led_addresses}
use Rattle.route_choice.specs.Resolver.{pick_count, picks_for}

-- a node that was found is linked
linked_by : (entries : List NodeEntry) (a : NodeAddress) (state : Option ConnState) → state_at a entries ≡ state → IfSome (option_map (over a) (link_in state)) (IsLinked entries)
linked_by entries a None e = tt
linked_by entries a (Some (Connected link)) e = inl e
linked_by entries a (Some (Reconnecting link)) e = inr e
linked_by entries a (Some Connecting) e = tt

pub linked_at : (entries : List NodeEntry) (to : Option NodeAddress) → IfSome (option_and_then (part_at entries) to) (IsLinked entries)
linked_at entries None = tt
linked_at entries (Some a) = linked_by entries a (state_at a entries) refl

abbrev MayBeLinked : List NodeEntry → Option NodeLink → Type 0
MayBeLinked entries found = IfSome found (IsLinked entries)

abbrev AreLinked : List NodeEntry → List (Option NodeLink) → Type 0
AreLinked entries found = All (MayBeLinked entries) found

there : (entries : List NodeEntry) (found : List (Option NodeLink)) → AreLinked entries found → All (IsLinked entries) (those_there found)
there entries [] h = All-nil (IsLinked entries)
there entries (None ∷ more) h = there entries more (All-tail (MayBeLinked entries) None more h)
there entries (Some node ∷ more) h =
    All-cons (IsLinked entries) node (those_there more) (All-head (MayBeLinked entries) (Some node) more h) (there entries more (All-tail (MayBeLinked entries) (Some node) more h))

all_at : (entries : List NodeEntry) (nodes : List NodeAddress) (places : List ℕ) → AreLinked entries (parts_at entries nodes places)
all_at entries nodes [] = All-nil (MayBeLinked entries)
all_at entries nodes (place ∷ more) =
    All-cons (MayBeLinked entries) (option_and_then (part_at entries) (slice_get nodes place)) (parts_at entries nodes more) (linked_at entries (slice_get nodes place)) (all_at entries nodes more)

all_led : {R : Type 0} (pick_of : R → ℕ → ℕ → ℕ) (picked : R → ℕ → ℕ → R) (reads : Option R) (draws : List ℕ) (used : ℕ) (entries : List NodeEntry) (rows : List SlotRow) (routes : List (Route × List ℕ)) → AreLinked entries (route_nodes pick_of picked reads draws used entries rows routes)
all_led pick_of picked reads draws used entries rows [] = All-nil (MayBeLinked entries)
all_led pick_of picked reads draws used entries rows (part ∷ more) =
    let to = address_led_to part.0 (picking pick_of reads (get_or draws used 0)) rows in
    let after = reads_after picked part.0.addr (shard_at part.0.slot rows) (get_or draws used 0) reads in
    All-cons (MayBeLinked entries) (option_and_then (part_at entries) to) (route_nodes pick_of picked after draws (used + picks_for reads part.0 rows) entries rows more)
    (linked_at entries to) (all_led pick_of picked after draws (used + picks_for reads part.0 rows) entries rows more)

-- the parts are those that were found
parts_same : (x y : List NodeLink) → targets.Parts x ≡ targets.Parts y → x ≡ y
parts_same x y e = cc e

pub nodes_are : (nodes found : List NodeLink) → for_nodes nodes ≡ targets.Parts found → nodes ≡ found
nodes_are nodes found = by (length nodes == 0)
  where
    by : (b : Bool) → (if b then targets.NotFound else targets.Parts nodes) ≡ targets.Parts found → nodes ≡ found
    by true e = cc
    by false e = parts_same nodes found e

routes_are : (nodes found : List NodeLink) (missing : List ℕ) → for_routes nodes missing ≡ targets.Parts found → (nodes ≡ found) × (length missing ≡ 0)
routes_are nodes found missing = by (length missing == 0) refl (length nodes == 0)
  where
    by : (b : Bool) → (length missing == 0) ≡ b → (c : Bool) → (if b then for_nodes nodes else (if c then targets.NotFound else targets.RouteWithoutLink missing)) ≡ targets.Parts found → (nodes ≡ found) × (length missing ≡ 0)
    by true t c e = (nodes_are nodes found e, eq_from (length missing) 0 t)
    by false t true e = cc
    by false t false e = cc

pub each_part_is_linked : {R : Type 0} (pick_of : R → ℕ → ℕ → ℕ) (picked : R → ℕ → ℕ → R) → EachPartIsLinked pick_of picked
unfolding part_resolution
each_part_is_linked pick_of picked reads AllNodes draws entries rows found e =
    subst (All (IsLinked entries)) (nodes_are _ found e) (there entries (parts_at entries (addresses rows) (node_places rows)) (all_at entries (addresses rows) (node_places rows)))
each_part_is_linked pick_of picked reads AllMasters draws entries rows found e =
    subst (All (IsLinked entries)) (nodes_are _ found e) (there entries (parts_at entries (addresses rows) (primaries rows)) (all_at entries (addresses rows) (primaries rows)))
each_part_is_linked pick_of picked reads (MultiSlot routes) draws entries rows found e =
    subst (All (IsLinked entries)) ((routes_are _ found _ e).0) (there entries (route_nodes pick_of picked reads draws 0 entries rows routes) (all_led pick_of picked reads draws 0 entries rows routes))

-- where none is missing all are there
whole : (number : ℕ) (found : List (Option NodeLink)) → length (missing_from number found) ≡ 0 → found ≡ map Some (those_there found)
whole number [] e = refl
whole number (None ∷ more) e = absurd (omega (arith, e))
whole number (Some node ∷ more) e = ap (λ others. Some node ∷ others) (whole (suc number) more e)

of_over : (a : NodeAddress) (link : Option ℕ) (node : NodeLink) → option_map (over a) link ≡ Some node → Some node.address ≡ Some a
of_over a None node e = cc
of_over a (Some l) node e = let is : over a l ≡ node = cc e in sym (ap (λ n. Some n.address) is)

pub led_part : (entries : List NodeEntry) (to : Option NodeAddress) (node : NodeLink) → option_and_then (part_at entries) to ≡ Some node → Some node.address ≡ to
led_part entries None node e = cc
led_part entries (Some a) node e = of_over a (link_in (state_at a entries)) node e

each_led : {R : Type 0} (pick_of : R → ℕ → ℕ → ℕ) (picked : R → ℕ → ℕ → R) (reads : Option R) (draws : List ℕ) (used : ℕ) (entries : List NodeEntry) (rows : List SlotRow) (routes : List (Route × List ℕ)) (found : List NodeLink) → route_nodes pick_of picked reads draws used entries rows routes ≡ map Some found → map (λ node. Some node.address) found ≡ led_addresses pick_of picked reads draws used rows routes
each_led pick_of picked reads draws used entries rows [] [] e = refl
each_led pick_of picked reads draws used entries rows [] (node ∷ found) e = cc
each_led pick_of picked reads draws used entries rows (part ∷ more) [] e = cc
each_led pick_of picked reads draws used entries rows (part ∷ more) (node ∷ found) e =
    let to = address_led_to part.0 (picking pick_of reads (get_or draws used 0)) rows in
    let after = reads_after picked part.0.addr (shard_at part.0.slot rows) (get_or draws used 0) reads in
    let here : option_and_then (part_at entries) to ≡ Some node = cc in
    let rest : route_nodes pick_of picked after draws (used + picks_for reads part.0 rows) entries rows more ≡ map Some found = cc in
    let first = led_part entries to node here in
    let others = each_led pick_of picked after draws (used + picks_for reads part.0 rows) entries rows more found rest in
    λ i. first i ∷ others i

pub each_route_has_its_node : {R : Type 0} (pick_of : R → ℕ → ℕ → ℕ) (picked : R → ℕ → ℕ → R) → EachRouteHasItsNode pick_of picked
unfolding part_resolution
each_route_has_its_node pick_of picked reads routes draws entries rows found e =
    let nodes = route_nodes pick_of picked reads draws 0 entries rows routes in
    let are = routes_are (those_there nodes) found (missing_from 0 nodes) e in
    each_led pick_of picked reads draws 0 entries rows routes found (whole 0 nodes are.1 ∙ ap (map Some) are.0)

-- a pick a route at most
one_at_most : {R : Type 0} (reads : Option R) (b : Bool) → (if b then pick_count reads else 0) ≤ 1
one_at_most None true = omega arith
one_at_most None false = omega arith
one_at_most (Some r) true = omega arith
one_at_most (Some r) false = omega arith

few : {R : Type 0} (picked : R → ℕ → ℕ → R) (reads : Option R) (draws : List ℕ) (used : ℕ) (rows : List SlotRow) (routes : List (Route × List ℕ)) → route_picks picked reads draws used rows routes ≤ used + length routes
few picked reads draws used rows [] = omega arith
few picked reads draws used rows (part ∷ more) =
    let rest = few picked (reads_after picked part.0.addr (shard_at part.0.slot rows) (get_or draws used 0) reads) draws (used + picks_for reads part.0 rows) rows more in
    omega (arith, rest, one_at_most reads (asks part.0.addr (shard_at part.0.slot rows)))

pub draws_are_few : {R : Type 0} (pick_of : R → ℕ → ℕ → ℕ) (picked : R → ℕ → ℕ → R) → DrawsAreFew pick_of picked
unfolding part_resolution
draws_are_few pick_of picked reads AllNodes draws entries rows = omega arith
draws_are_few pick_of picked reads AllMasters draws entries rows = omega arith
draws_are_few pick_of picked reads (MultiSlot routes) draws entries rows = omega (arith, few picked reads draws 0 rows routes)
