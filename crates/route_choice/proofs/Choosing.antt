-- Where each route goes is where it may.
use Rattle.std.proofs.Common.{◌≡◌, inl, inr, ℕ, true, List, Option, Some, None, refl, sym, ap, subst, ◌∙◌}
use Rattle.std.specs.Prelude.{option_and_then}
use Rattle.slot_hash.specs.declared.address.NodeAddress.{NodeAddress}
use Rattle.mux_routing.specs.declared.rows.SlotRow.{SlotRow}
use Rattle.mux_routing.specs.Shards.{address_led_to, fallback_addresses, last_row, picking}
use Rattle.cluster_retries.specs.declared.request_routing.Redirect.{Redirect}
use Rattle.cluster_retries.specs.declared.request_routing.SingleNodeRoute.{SingleNodeRoute}
use Rattle.cluster_retries.specs.declared.request_routing.SingleNodeRoute.TheVariants.{Random, SpecificNode, ByAddress, Connection}
use Rattle.cluster_plan.specs.declared.connections.NodeEntry.{NodeEntry}
use Rattle.route_choice.specs.declared.targets.Draws.{Draws}
use Rattle.route_choice.specs.declared.targets.NodeLink.{NodeLink}
use Rattle.route_choice.specs.declared.targets.RouteTarget.TheVariants.{Node, Connect, NotFound}
use Rattle.route_choice.specs.declared.targets.Resolution.{Resolution}
use Rattle.route_choice.specs.Entries.{are_ordered, connected_at, connected_nodes, first_connected, over}
use Rattle.route_choice.specs.Resolver.{any_node, by_route, draw_behind, named_by, node_or, picks_for, redirected_or, resolution, served}
use Rattle.route_choice.specs.MayUse.{AllAreAway, ConnectsWhereNamed, GoesWhereItMay, IsAway, IsConnected, IsFoundWhereOneServes, IsNamedBy, MayServe, MayUseBy, NobodyServesBy}
use Rattle.route_choice.proofs.Allowed.{all_away, any_here, first_here, is_away, is_connected, led_away, led_here, listed, never_connects, none_here, none_listed}

node_same : (x y : NodeLink) → Node x ≡ Node y → x ≡ y
node_same x y e = cc e

-- a slot's route
abbrev Served : ℕ → Draws → List NodeEntry → Option NodeAddress → List NodeAddress → Option NodeLink → Option NodeLink → Resolution
Served used draws entries led others first second = served used first (served used second (any_node used draws entries))

served_well : (used : ℕ) (draws : Draws) (entries : List NodeEntry) (led : Option NodeAddress) (others : List NodeAddress) (first second : Option NodeLink) (node : NodeLink) → are_ordered entries ≡ true → option_and_then (connected_at entries) led ≡ first → first_connected entries others ≡ second → (Served used draws entries led others first second).target ≡ Node node → IsConnected entries node.address node.link × MayServe entries draws used led others (Served used draws entries led others first second).draws node
served_well used draws entries led others (Some n) second node h at by e =
    let found = led_here entries led node (at ∙ ap Some (node_same n node e)) in
    (found.1, inl (found.0, refl))
served_well used draws entries led others None (Some n) node h at by e =
    let found = first_here entries others node (by ∙ ap Some (node_same n node e)) in
    (found.1, inr (inl (led_away entries led at, found.0, refl)))
served_well used draws entries led others None None node h at by e =
    let any = any_here used (draw_behind used draws) (connected_nodes entries) node e in
    (listed entries _ node h any.0, inr (inr (led_away entries led at, all_away entries others by, any.0, any.1)))

served_none : (used : ℕ) (draws : Draws) (entries : List NodeEntry) (led : Option NodeAddress) (others : List NodeAddress) (first second : Option NodeLink) → (Served used draws entries led others first second).target ≡ NotFound → AllAreAway entries × ((Served used draws entries led others first second).draws ≡ used)
served_none used draws entries led others (Some n) second e = cc
served_none used draws entries led others None (Some n) e = cc
served_none used draws entries led others None None e =
    let none = none_here used (draw_behind used draws) (connected_nodes entries) e in
    (none_listed entries none.0, none.1)

served_not_by_connect : (used : ℕ) (draws : Draws) (entries : List NodeEntry) (led : Option NodeAddress) (others : List NodeAddress) (first second : Option NodeLink) (a : NodeAddress) → (Served used draws entries led others first second).target ≡ Connect a → ⊥
served_not_by_connect used draws entries led others (Some n) second a e = cc
served_not_by_connect used draws entries led others None (Some n) a e = cc
served_not_by_connect used draws entries led others None None a e = never_connects used (draw_behind used draws) (connected_nodes entries) a e

-- one address alone
alone : (entries : List NodeEntry) (a : NodeAddress) (found : Option NodeLink) (node : NodeLink) → connected_at entries a ≡ found → node_or NotFound found ≡ Node node → (node.address ≡ a) × IsConnected entries node.address node.link
alone entries a None node at e = cc
alone entries a (Some n) node at e = is_connected entries a node (at ∙ ap Some (node_same n node e))

alone_or_connect : (entries : List NodeEntry) (a : NodeAddress) (found : Option NodeLink) (node : NodeLink) → connected_at entries a ≡ found → node_or (Connect a) found ≡ Node node → (node.address ≡ a) × IsConnected entries node.address node.link
alone_or_connect entries a None node at e = cc
alone_or_connect entries a (Some n) node at e = is_connected entries a node (at ∙ ap Some (node_same n node e))

alone_away : (entries : List NodeEntry) (a : NodeAddress) (found : Option NodeLink) → connected_at entries a ≡ found → node_or NotFound found ≡ NotFound → IsAway entries a
alone_away entries a None at e = is_away entries a at
alone_away entries a (Some n) at e = cc

connects : (entries : List NodeEntry) (a b : NodeAddress) (found : Option NodeLink) → connected_at entries a ≡ found → node_or (Connect a) found ≡ Connect b → (a ≡ b) × IsAway entries b
connects entries a b None at e =
    let is : a ≡ b = cc e in
    (is, subst (IsAway entries) is (is_away entries a at))
connects entries a b (Some n) at e = cc

-- each route
abbrev Goes : {R : Type 0} → (R → ℕ → ℕ → ℕ) → Option R → Option Redirect → SingleNodeRoute → Draws → List NodeEntry → List SlotRow → Resolution
Goes pick_of reads redirect route draws entries rows = redirected_or redirect entries (by_route pick_of reads route draws entries rows)

goes_by : {R : Type 0} (pick_of : R → ℕ → ℕ → ℕ) (reads : Option R) (redirect : Option Redirect) (route : SingleNodeRoute) (draws : Draws) (entries : List NodeEntry) (rows : List SlotRow) (node : NodeLink) → are_ordered entries ≡ true → (Goes pick_of reads redirect route draws entries rows).target ≡ Node node → MayUseBy pick_of reads redirect route draws entries rows (Goes pick_of reads redirect route draws entries rows).draws node
goes_by pick_of reads (Some redirect) route draws entries rows node h e =
    let found = alone_or_connect entries (named_by redirect) (connected_at entries (named_by redirect)) node refl e in
    (found.0, found.1, refl)
goes_by pick_of reads None Random draws entries rows node h e =
    let any = any_here 0 draws.first (connected_nodes entries) node e in
    (listed entries _ node h any.0, any.0, any.1)
goes_by pick_of reads None (SpecificNode route) draws entries rows node h e =
    let led = address_led_to route (picking pick_of reads draws.first) rows in
    let others = fallback_addresses route.addr (last_row route.slot rows) in
    served_well (picks_for reads route rows) draws entries led others (option_and_then (connected_at entries) led) (first_connected entries others) node h refl refl e
goes_by pick_of reads None (ByAddress a) draws entries rows node h e =
    let found = alone entries a (connected_at entries a) node refl e in
    (found.0, found.1, refl)
goes_by pick_of reads None (Connection a link) draws entries rows node h e = (sym (node_same (over a link) node e), refl)

found_by : {R : Type 0} (pick_of : R → ℕ → ℕ → ℕ) (reads : Option R) (redirect : Option Redirect) (route : SingleNodeRoute) (draws : Draws) (entries : List NodeEntry) (rows : List SlotRow) → (Goes pick_of reads redirect route draws entries rows).target ≡ NotFound → NobodyServesBy reads redirect route entries rows (Goes pick_of reads redirect route draws entries rows).draws
found_by pick_of reads (Some redirect) route draws entries rows e = never_lost (named_by redirect) (connected_at entries (named_by redirect)) e
  where
    never_lost : (a : NodeAddress) (found : Option NodeLink) → node_or (Connect a) found ≡ NotFound → ⊥
    never_lost a None h = cc
    never_lost a (Some n) h = cc
found_by pick_of reads None Random draws entries rows e =
    let none = none_here 0 draws.first (connected_nodes entries) e in
    (none_listed entries none.0, none.1)
found_by pick_of reads None (SpecificNode route) draws entries rows e =
    let led = address_led_to route (picking pick_of reads draws.first) rows in
    let others = fallback_addresses route.addr (last_row route.slot rows) in
    served_none (picks_for reads route rows) draws entries led others (option_and_then (connected_at entries) led) (first_connected entries others) e
found_by pick_of reads None (ByAddress a) draws entries rows e = (alone_away entries a (connected_at entries a) refl e, refl)
found_by pick_of reads None (Connection a link) draws entries rows e = cc

connects_by : {R : Type 0} (pick_of : R → ℕ → ℕ → ℕ) (reads : Option R) (redirect : Option Redirect) (route : SingleNodeRoute) (draws : Draws) (entries : List NodeEntry) (rows : List SlotRow) (a : NodeAddress) → (Goes pick_of reads redirect route draws entries rows).target ≡ Connect a → IsNamedBy redirect entries a × ((Goes pick_of reads redirect route draws entries rows).draws ≡ 0)
connects_by pick_of reads (Some redirect) route draws entries rows a e = (connects entries (named_by redirect) a (connected_at entries (named_by redirect)) refl e, refl)
connects_by pick_of reads None Random draws entries rows a e = absurd (never_connects 0 draws.first (connected_nodes entries) a e)
connects_by pick_of reads None (SpecificNode route) draws entries rows a e =
    let led = address_led_to route (picking pick_of reads draws.first) rows in
    let others = fallback_addresses route.addr (last_row route.slot rows) in
    absurd (served_not_by_connect (picks_for reads route rows) draws entries led others (option_and_then (connected_at entries) led) (first_connected entries others) a e)
connects_by pick_of reads None (ByAddress b) draws entries rows a e = absurd (never_there (connected_at entries b) e)
  where
    never_there : (found : Option NodeLink) → node_or NotFound found ≡ Connect a → ⊥
    never_there None h = cc
    never_there (Some n) h = cc
connects_by pick_of reads None (Connection b link) draws entries rows a e = cc

pub goes_where_it_may : {R : Type 0} (pick_of : R → ℕ → ℕ → ℕ) → GoesWhereItMay pick_of
unfolding resolution
goes_where_it_may pick_of reads routing draws entries rows node h e = goes_by pick_of reads routing.redirect routing.route draws entries rows node h e

pub is_found_where_one_serves : {R : Type 0} (pick_of : R → ℕ → ℕ → ℕ) → IsFoundWhereOneServes pick_of
unfolding resolution
is_found_where_one_serves pick_of reads routing draws entries rows e = found_by pick_of reads routing.redirect routing.route draws entries rows e

pub connects_where_named : {R : Type 0} (pick_of : R → ℕ → ℕ → ℕ) → ConnectsWhereNamed pick_of
unfolding resolution
connects_where_named pick_of reads routing draws entries rows a e = connects_by pick_of reads routing.redirect routing.route draws entries rows a e
