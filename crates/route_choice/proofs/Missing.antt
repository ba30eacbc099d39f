-- The routes that are named as missing are those that lead to no link.
use Rattle.std.proofs.Common.{◌≡◌, inl, inr, ℕ, zero, suc, ◌+◌, ◌==◌, Bool, true, false, List, [], ◌∷◌, length, Option, Some, None, IfSome, refl, sym, ap, subst, ◌∙◌, arith, get_or, if◌then◌else◌}
use Rattle.std.specs.Prelude.{option_and_then, option_map, slice_get}
use Rattle.slot_hash.specs.declared.address.NodeAddress.{NodeAddress}
use Rattle.command_table.specs.declared.routing.Route.{Route}
use Rattle.command_table.specs.declared.routing.MultipleNodeRoutingInfo.TheVariants.{MultiSlot}
use Rattle.mux_routing.specs.declared.rows.SlotRow.{SlotRow}
use Rattle.mux_routing.specs.Shards.{address_led_to, picking, reads_after, shard_at}
use Rattle.cluster_plan.specs.declared.connections.ConnState.{ConnState}
use Rattle.cluster_plan.specs.declared.connections.ConnState.TheVariants.{Connected, Reconnecting, Connecting}
use Rattle.cluster_plan.specs.declared.connections.NodeEntry.{NodeEntry}
use Rattle.cluster_plan.specs.Connections.{link_in, state_at}
use Rattle.route_choice.specs.declared.targets.NodeLink.{NodeLink}
use Rattle.route_choice.specs.declared.targets.PartTargets.TheVariants as targets
use Rattle.route_choice.specs.Entries.{over}
use Rattle.route_choice.specs.Parts.{for_nodes, for_routes, missing_from, part_at, part_resolution, route_nodes, those_there}
use Rattle.route_choice.specs.PartLaws.{IsAmong, IsLinked, LeadsNowhere, NamesTheMissing, led_addresses}
use Rattle.route_choice.specs.Resolver.{picks_for}
use Rattle.route_choice.proofs.PartsLinked.{led_part, linked_at}

-- the node of a route is that of the address to which it leads
node_led : {R : Type 0} (pick_of : R → ℕ → ℕ → ℕ) (picked : R → ℕ → ℕ → R) (reads : Option R) (draws : List ℕ) (used : ℕ) (entries : List NodeEntry) (rows : List SlotRow) (routes : List (Route × List ℕ)) (n : ℕ) (led : Option NodeAddress)
    → slice_get (led_addresses pick_of picked reads draws used rows routes) n ≡ Some led → slice_get (route_nodes pick_of picked reads draws used entries rows routes) n ≡ Some (option_and_then (part_at entries) led)
node_led pick_of picked reads draws used entries rows [] n led e = cc
node_led pick_of picked reads draws used entries rows (part ∷ more) zero led e =
    let to = address_led_to part.0 (picking pick_of reads (get_or draws used 0)) rows in
    let same : to ≡ led = cc e in
    ap (λ x. Some (option_and_then (part_at entries) x)) same
node_led pick_of picked reads draws used entries rows (part ∷ more) (suc n) led e =
    node_led pick_of picked (reads_after picked part.0.addr (shard_at part.0.slot rows) (get_or draws used 0) reads) draws (used + picks_for reads part.0 rows) entries rows more n led e

-- where nothing was found, the number is among the missing
none_is_missing : (found : List (Option NodeLink)) (k n : ℕ) → slice_get found n ≡ Some None → IsAmong (missing_from k found) (k + n)
none_is_missing [] k n e = cc
none_is_missing (None ∷ more) k zero e = (0, let same : k ≡ k + 0 = omega arith in ap (λ (x : ℕ). Some x) same)
none_is_missing (None ∷ more) k (suc n) e =
    let rest = none_is_missing more (suc k) n e in
    let same : suc k + n ≡ k + suc n = omega arith in (suc rest.0, rest.1 ∙ ap (λ (x : ℕ). Some x) same)
none_is_missing (Some node ∷ more) k zero e = absurd (cc e)
none_is_missing (Some node ∷ more) k (suc n) e =
    let rest = none_is_missing more (suc k) n e in
    let same : suc k + n ≡ k + suc n = omega arith in (rest.0, rest.1 ∙ ap (λ (x : ℕ). Some x) same)

-- and where a number is, nothing was found
missing_is_none : (found : List (Option NodeLink)) (k i m : ℕ) → slice_get (missing_from k found) i ≡ Some m → (n : ℕ) × (m ≡ k + n) × (slice_get found n ≡ Some None)
missing_is_none [] k i m e = cc
missing_is_none (None ∷ more) k zero m e = let same : k ≡ m = cc e in (0, omega (arith, same), refl)
missing_is_none (None ∷ more) k (suc i) m e =
    let rest = missing_is_none more (suc k) i m e in
    let far : m ≡ suc k + rest.0 = rest.1 in (suc rest.0, omega (arith, far), rest.2)
missing_is_none (Some node ∷ more) k i m e =
    let rest = missing_is_none more (suc k) i m e in
    let far : m ≡ suc k + rest.0 = rest.1 in (suc rest.0, omega (arith, far), rest.2)

-- a node that is linked is found
linked_is_there : (entries : List NodeEntry) (node : NodeLink) (state : Option ConnState) → state_at node.address entries ≡ state → IsLinked entries node → option_map (over node.address) (link_in state) ≡ None → ⊥
linked_is_there entries node None e (inl linked) none = let x : None ≡ Some (Connected node.link) = sym e ∙ linked in cc x
linked_is_there entries node None e (inr linked) none = let x : None ≡ Some (Reconnecting node.link) = sym e ∙ linked in cc x
linked_is_there entries node (Some (Connected link)) e linked none = cc none
linked_is_there entries node (Some (Reconnecting link)) e linked none = cc none
linked_is_there entries node (Some Connecting) e (inl linked) none = let x : Some Connecting ≡ Some (Connected node.link) = sym e ∙ linked in cc x
linked_is_there entries node (Some Connecting) e (inr linked) none = let x : Some Connecting ≡ Some (Reconnecting node.link) = sym e ∙ linked in cc x

-- so a route leads nowhere exactly where nothing was found for it
none_leads_nowhere : (entries : List NodeEntry) (led : Option NodeAddress) → option_and_then (part_at entries) led ≡ None → LeadsNowhere entries led
none_leads_nowhere entries led none node is linked =
    linked_is_there entries node (state_at node.address entries) refl linked (sym (ap (option_and_then (part_at entries)) is) ∙ none)

nowhere_is_none : (entries : List NodeEntry) (led : Option NodeAddress) (found : Option NodeLink) → option_and_then (part_at entries) led ≡ found → LeadsNowhere entries led → found ≡ None
nowhere_is_none entries led None e nowhere = refl
nowhere_is_none entries led (Some node) e nowhere =
    absurd (nowhere node (sym (led_part entries led node e)) (subst (λ x. IfSome x (IsLinked entries)) e (linked_at entries led)))

-- what is named is what is missing
missing_are : (nodes : List NodeLink) (missing named : List ℕ) → for_routes nodes missing ≡ targets.RouteWithoutLink named → missing ≡ named
missing_are nodes missing named = by (length missing == 0) (length nodes == 0)
  where
    by_nodes : (b : Bool) → (if b then targets.NotFound else targets.Parts nodes) ≡ targets.RouteWithoutLink named → missing ≡ named
    by_nodes true e = cc
    by_nodes false e = cc

    by : (b c : Bool) → (if b then for_nodes nodes else (if c then targets.NotFound else targets.RouteWithoutLink missing)) ≡ targets.RouteWithoutLink named → missing ≡ named
    by true c e = by_nodes (length nodes == 0) e
    by false true e = cc
    by false false e = cc

pub names_the_missing : {R : Type 0} (pick_of : R → ℕ → ℕ → ℕ) (picked : R → ℕ → ℕ → R) → NamesTheMissing pick_of picked
unfolding part_resolution
names_the_missing pick_of picked reads routes draws entries rows missing e n led at =
    let nodes = route_nodes pick_of picked reads draws 0 entries rows routes in
    let same : missing_from 0 nodes ≡ missing = missing_are (those_there nodes) (missing_from 0 nodes) missing e in
    let found : slice_get nodes n ≡ Some (option_and_then (part_at entries) led) = node_led pick_of picked reads draws 0 entries rows routes n led at in (
      (λ nowhere.
          let none : option_and_then (part_at entries) led ≡ None = nowhere_is_none entries led (option_and_then (part_at entries) led) refl nowhere in
          let named = none_is_missing nodes 0 n (found ∙ ap (λ (x : Option NodeLink). Some x) none) in
          let from : 0 + n ≡ n = omega arith in
          (named.0, sym (ap (λ xs. slice_get xs named.0) same) ∙ (named.1 ∙ ap (λ (x : ℕ). Some x) from))),
      (λ named.
          let there = missing_is_none nodes 0 named.0 n (ap (λ xs. slice_get xs named.0) same ∙ named.1) in
          let from : there.0 ≡ n = let far : n ≡ 0 + there.0 = there.1 in omega (arith, far) in
          let none : Some None ≡ Some (option_and_then (part_at entries) led) = sym there.2 ∙ (ap (slice_get nodes) from ∙ found) in
          none_leads_nowhere entries led (let x : None ≡ option_and_then (part_at entries) led = cc none in sym x)),
    )
