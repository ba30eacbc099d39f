-- A resolution gives a node that its try may use.
use Rattle.std.proofs.Common.{◌≡◌, ℕ, zero, suc, ◌+◌, ◌%◌, ◌<◌, ◌==◌, Bool, true, false, List, [], ◌∷◌, length, Option, Some, None, refl, sym, ap, subst, ◌∙◌, arith, if◌then◌else◌}
use Rattle.std.specs.Prelude.{option_and_then, option_map, slice_get}
use Rattle.std.specs.List.{All, list_all}
use Rattle.std.specs.Option.{option_or}
use Rattle.std.proofs.lemmas.List.Elements.{All-nil, All-cons}
use Rattle.containers.proofs.Choices.{by_test, both_left, both_right, eq_from, left_if, ne_from, taken_if}
use Rattle.slot_hash.specs.declared.address.NodeAddress.{NodeAddress}
use Rattle.mux_routing.specs.Shards.{address_less}
use Rattle.cluster_plan.specs.Asks.{same_address}
use Rattle.cluster_plan.specs.Connections.{connected_link, state_at}
use Rattle.cluster_plan.specs.declared.connections.ConnState.{ConnState}
use Rattle.cluster_plan.specs.declared.connections.ConnState.TheVariants.{Connected, Reconnecting, Connecting}
use Rattle.cluster_plan.specs.declared.connections.NodeEntry.{NodeEntry}
use Rattle.route_choice.specs.declared.targets.NodeLink.{NodeLink}
use Rattle.route_choice.specs.declared.targets.RouteTarget.{RouteTarget}
use Rattle.route_choice.specs.declared.targets.RouteTarget.TheVariants.{Node, Connect, NotFound}
use Rattle.route_choice.specs.declared.targets.Resolution.{Resolution}
use Rattle.route_choice.specs.Entries.{addresses_of, are_ordered, before_others, connected_at, connected_nodes, first_connected, over, serving}
use Rattle.route_choice.specs.Resolver.{any_of, goes, node_or}
use Rattle.route_choice.specs.MayUse.{AllAreAway, IsAway, IsConnected, IsFirst, LedIsAway}
use Rattle.route_choice.proofs.Finding.{other_than_more}
use Rattle.route_choice.proofs.Order.{one, same}

some_same : {A : Type 0} (x y : A) → Some x ≡ Some y → x ≡ y
some_same x y e = cc e

-- the node that an address finds is connected
pub found_here : (a : NodeAddress) (state : Option ConnState) (node : NodeLink) → option_map (over a) (serving state) ≡ Some node → (node.address ≡ a) × (state ≡ Some (Connected node.link))
found_here a None node e = cc
found_here a (Some (Connected link)) node e =
    let is : over a link ≡ node = some_same (over a link) node e in
    (sym (ap (λ n. n.address) is), ap (λ n. Some (Connected n.link)) is)
found_here a (Some (Reconnecting link)) node e = cc
found_here a (Some Connecting) node e = cc

pub is_connected : (entries : List NodeEntry) (a : NodeAddress) (node : NodeLink) → connected_at entries a ≡ Some node → (node.address ≡ a) × IsConnected entries node.address node.link
is_connected entries a node e =
    let found = found_here a (state_at a entries) node e in
    (found.0, ap (λ b. state_at b entries) found.0 ∙ found.1)

away_from : (a : NodeAddress) (state : Option ConnState) (link : ℕ) → option_map (over a) (serving state) ≡ None → state ≡ Some (Connected link) → ⊥
away_from a None link e h = cc
away_from a (Some (Connected l)) link e h = cc
away_from a (Some (Reconnecting l)) link e h = cc
away_from a (Some Connecting) link e h = cc

pub is_away : (entries : List NodeEntry) (a : NodeAddress) → connected_at entries a ≡ None → IsAway entries a
is_away entries a e link h = away_from a (state_at a entries) link e h

-- the node to which a route leads
pub led_here : (entries : List NodeEntry) (led : Option NodeAddress) (node : NodeLink) → option_and_then (connected_at entries) led ≡ Some node → (led ≡ Some node.address) × IsConnected entries node.address node.link
led_here entries None node e = cc
led_here entries (Some a) node e =
    let found = is_connected entries a node e in
    (ap Some (sym found.0), found.1)

pub led_away : (entries : List NodeEntry) (led : Option NodeAddress) → option_and_then (connected_at entries) led ≡ None → LedIsAway entries led
led_away entries None e = tt
led_away entries (Some a) e = is_away entries a e

-- the first that is connected
abbrev FirstOf : List NodeEntry → List NodeAddress → NodeLink → Type 0
FirstOf entries nodes node = IsFirst entries nodes node.address × IsConnected entries node.address node.link

first_by : (entries : List NodeEntry) (a : NodeAddress) (more : List NodeAddress) (node : NodeLink) (here : Option NodeLink) → connected_at entries a ≡ here → option_or here (first_connected entries more) ≡ Some node → (first_connected entries more ≡ Some node → FirstOf entries more node) → FirstOf entries (a ∷ more) node
first_by entries a more node (Some found) at e rest =
    let it = is_connected entries a node (at ∙ e) in
    (([], more, ap (λ b. b ∷ more) (sym it.0), All-nil (IsAway entries)), it.1)
first_by entries a more node None at e rest =
    let later = rest e in
    ((a ∷ later.0.0, later.0.1, ap (λ nodes. a ∷ nodes) later.0.2, All-cons (IsAway entries) a later.0.0 (is_away entries a at) later.0.3), later.1)

pub first_here : (entries : List NodeEntry) (nodes : List NodeAddress) (node : NodeLink) → first_connected entries nodes ≡ Some node → FirstOf entries nodes node
first_here entries [] node e = cc
first_here entries (a ∷ more) node e = first_by entries a more node (connected_at entries a) refl e (first_here entries more node)

away_by : (entries : List NodeEntry) (a : NodeAddress) (more : List NodeAddress) (here : Option NodeLink) → connected_at entries a ≡ here → option_or here (first_connected entries more) ≡ None → (first_connected entries more ≡ None → All (IsAway entries) more) → All (IsAway entries) (a ∷ more)
away_by entries a more (Some found) at e rest = cc
away_by entries a more None at e rest = All-cons (IsAway entries) a more (is_away entries a at) (rest e)

pub all_away : (entries : List NodeEntry) (nodes : List NodeAddress) → first_connected entries nodes ≡ None → All (IsAway entries) nodes
all_away entries [] e = All-nil (IsAway entries)
all_away entries (a ∷ more) e = away_by entries a more (connected_at entries a) refl e (all_away entries more)

-- those that are connected, one by one
not_among : (a : NodeAddress) (es : List NodeEntry) → list_all (address_less a) (addresses_of es) ≡ true → state_at a es ≡ None
not_among a [] h = refl
not_among a (e ∷ es) h =
    left_if (same_address a e.address) (Some e.state) (state_at a es) (other_than_more a e.address (both_left (address_less a e.address) (list_all (address_less a) (addresses_of es)) h))
    ∙ not_among a es (both_right (address_less a e.address) (list_all (address_less a) (addresses_of es)) h)

later : (a : NodeAddress) (state : ConnState) (es : List NodeEntry) (node : NodeLink) → list_all (address_less a) (addresses_of es) ≡ true → IsConnected es node.address node.link → (if same_address node.address a then Some state else state_at node.address es) ≡ Some (Connected node.link)
later a state es node h e =
    by_test (same_address node.address a) ((if same_address node.address a then Some state else state_at node.address es) ≡ Some (Connected node.link))
    (λ t. let gone : state_at node.address es ≡ None = subst (λ b. state_at b es ≡ None) (sym (one node.address a t)) (not_among a es h) in
    let no : ◌≡◌ {A = Option ConnState} None (Some (Connected node.link)) = sym gone ∙ e in cc no)
    (λ f. left_if (same_address node.address a) (Some state) (state_at node.address es) f ∙ e)

listed_by : (a : NodeAddress) (state : ConnState) (es : List NodeEntry) (k : ℕ) (node : NodeLink) → list_all (address_less a) (addresses_of es) ≡ true → ((j : ℕ) → slice_get (connected_nodes es) j ≡ Some node → IsConnected es node.address node.link) → slice_get (before_others (option_map (over a) (connected_link state)) (connected_nodes es)) k ≡ Some node → (if same_address node.address a then Some state else state_at node.address es) ≡ Some (Connected node.link)
listed_by a (Connected link) es zero node h rest e =
    let is : over a link ≡ node = some_same (over a link) node e in
    let there : same_address node.address a ≡ true = subst (λ b. same_address b a ≡ true) (ap (λ n. n.address) is) (same a) in
    taken_if (same_address node.address a) (Some (Connected link)) (state_at node.address es) there ∙ ap (λ n. Some (Connected n.link)) is
listed_by a (Connected link) es (suc k) node h rest e = later a (Connected link) es node h (rest k e)
listed_by a (Reconnecting link) es k node h rest e = later a (Reconnecting link) es node h (rest k e)
listed_by a Connecting es k node h rest e = later a Connecting es node h (rest k e)

pub listed : (es : List NodeEntry) (k : ℕ) (node : NodeLink) → are_ordered es ≡ true → slice_get (connected_nodes es) k ≡ Some node → IsConnected es node.address node.link
listed [] k node h e = cc
listed (x ∷ es) k node h e =
    listed_by x.address x.state es k node
    (both_left (list_all (address_less x.address) (addresses_of es)) (are_ordered es) h)
    (λ j. listed es j node (both_right (list_all (address_less x.address) (addresses_of es)) (are_ordered es) h))
    e

-- where none is listed, none is connected
none_by : (a b : NodeAddress) (state : ConnState) (es : List NodeEntry) (link : ℕ) → length (before_others (option_map (over b) (connected_link state)) (connected_nodes es)) ≡ 0 → (length (connected_nodes es) ≡ 0 → IsAway es a) → (if same_address a b then Some state else state_at a es) ≡ Some (Connected link) → ⊥
none_by a b (Connected l) es link e rest h = absurd (omega (arith, e))
none_by a b (Reconnecting l) es link e rest h =
    by_test (same_address a b) ⊥
    (λ t. let no : ◌≡◌ {A = Option ConnState} (Some (Reconnecting l)) (Some (Connected link)) = sym (taken_if (same_address a b) (Some (Reconnecting l)) (state_at a es) t) ∙ h in cc no)
    (λ f. rest e link (sym (left_if (same_address a b) (Some (Reconnecting l)) (state_at a es) f) ∙ h))
none_by a b Connecting es link e rest h =
    by_test (same_address a b) ⊥
    (λ t. let no : ◌≡◌ {A = Option ConnState} (Some Connecting) (Some (Connected link)) = sym (taken_if (same_address a b) (Some Connecting) (state_at a es) t) ∙ h in cc no)
    (λ f. rest e link (sym (left_if (same_address a b) (Some Connecting) (state_at a es) f) ∙ h))

pub none_listed : (es : List NodeEntry) → length (connected_nodes es) ≡ 0 → AllAreAway es
none_listed [] e a link h = cc
none_listed (x ∷ es) e a link h = none_by a x.address x.state es link e (λ k. none_listed es k a) h

-- any of the nodes that are listed
to_that : (otherwise : RouteTarget) (found : Option NodeLink) (node : NodeLink) → (otherwise ≡ Node node → ⊥) → node_or otherwise found ≡ Node node → found ≡ Some node
to_that otherwise None node other e = absurd (other e)
to_that otherwise (Some n) node other e = cc

not_found_is_no_node : (node : NodeLink) → ◌≡◌ {A = RouteTarget} NotFound (Node node) → ⊥
not_found_is_no_node node e = cc

connect_is_no_node : (a : NodeAddress) (node : NodeLink) → ◌≡◌ {A = RouteTarget} (Connect a) (Node node) → ⊥
connect_is_no_node a node e = cc

abbrev AnyIs : ℕ → ℕ → List NodeLink → NodeLink → Resolution → Type 0
AnyIs used draw nodes node r = r.target ≡ Node node → (slice_get nodes (draw % length nodes) ≡ Some node) × (r.draws ≡ used + 1)

pub any_here : (used draw : ℕ) (nodes : List NodeLink) (node : NodeLink) → AnyIs used draw nodes node (any_of used draw nodes)
any_here used draw nodes node = by (length nodes == 0)
  where
    by : (b : Bool) → AnyIs used draw nodes node (if b then goes used NotFound else goes (used + 1) (node_or NotFound (slice_get nodes (draw % length nodes))))
    by true e = absurd (not_found_is_no_node node e)
    by false e = (to_that NotFound (slice_get nodes (draw % length nodes)) node (not_found_is_no_node node) e, refl)

nowhere : (found : Option NodeLink) → node_or NotFound found ≡ NotFound → found ≡ None
nowhere None e = refl
nowhere (Some n) e = cc

get_within : (nodes : List NodeLink) (k : ℕ) → k < length nodes → slice_get nodes k ≡ None → ⊥
get_within [] k l e = absurd (omega (arith, l))
get_within (n ∷ nodes) zero l e = cc
get_within (n ∷ nodes) (suc k) l e = get_within nodes k (omega (arith, l)) e

rest_below : (draw n : ℕ) → (n ≡ 0 → ⊥) → draw % n < n
rest_below draw n h = omega (arith, h)

abbrev NoneIs : ℕ → List NodeLink → Resolution → Type 0
NoneIs used nodes r = r.target ≡ NotFound → (length nodes ≡ 0) × (r.draws ≡ used)

pub none_here : (used draw : ℕ) (nodes : List NodeLink) → NoneIs used nodes (any_of used draw nodes)
none_here used draw nodes = by (length nodes == 0) refl
  where
    by : (b : Bool) → (length nodes == 0) ≡ b → NoneIs used nodes (if b then goes used NotFound else goes (used + 1) (node_or NotFound (slice_get nodes (draw % length nodes))))
    by true t e = (eq_from (length nodes) 0 t, refl)
    by false t e = absurd (get_within nodes (draw % length nodes) (rest_below draw (length nodes) (ne_from (length nodes) 0 t)) (nowhere (slice_get nodes (draw % length nodes)) e))

pub never_connects : (used draw : ℕ) (nodes : List NodeLink) (a : NodeAddress) → (any_of used draw nodes).target ≡ Connect a → ⊥
never_connects used draw nodes a = by (length nodes == 0) (slice_get nodes (draw % length nodes))
  where
    by : (b : Bool) (found : Option NodeLink) → (if b then goes used NotFound else goes (used + 1) (node_or NotFound found)).target ≡ Connect a → ⊥
    by true found e = cc
    by false None e = cc
    by false (Some n) e = cc
