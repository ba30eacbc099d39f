-- The nodes of a new map go on behind an answer as their plan does.
use Rattle.std.proofs.Common.{◌≡◌, ◌⊎◌, inl, inr, ℕ, zero, suc, ◌≤◌, ◌==◌, ◌&&◌, Bool, true, false, List, [], ◌∷◌, ◌++◌, map, length, take, drop, slice_get, option_to_list, Option, Some, None, refl, sym, ◌∙◌, ap, subst, append_assoc, append-nil, arith, if◌then◌else◌}
use Rattle.std.specs.List.{All, Contains, list_all}
use Rattle.std.proofs.lemmas.Bool.Decides.{nat_tests}
use Rattle.std.proofs.lemmas.List.{drop_all, take_all}
use Rattle.std.proofs.lemmas.List.Elements.{All-nil, All-cons, All-head, All-tail}
use Rattle.std.proofs.lemmas.Slice.Eq.{bytes_eq-Decides}
use Rattle.containers.proofs.Choices.{both_left, both_right, chosen, left_if, taken_if}
use Rattle.redis_error.specs.declared.redis_error.RedisError.{RedisError}
use Rattle.slot_hash.specs.declared.address.NodeAddress.{NodeAddress}
use Rattle.mux_routing.specs.declared.rows.SlotRow.{SlotRow}
use Rattle.mux_routing.specs.Shards.{address_less, addresses, first_numbers, in_order, node_places}
use Rattle.cluster_plan.specs.declared.asks.Ask.{Ask}
use Rattle.cluster_plan.specs.declared.asks.Answer.{Answer}
use Rattle.cluster_plan.specs.declared.asks.Part.TheVariants.{Initial, Last}
use Rattle.cluster_plan.specs.declared.progress.Progress.{Progress}
use Rattle.cluster_plan.specs.declared.progress.Progress.TheVariants as progress
use Rattle.cluster_plan.specs.declared.progress.Tried.{Tried}
use Rattle.cluster_plan.specs.declared.connections.NodeEntry.{NodeEntry}
use Rattle.cluster_plan.specs.declared.step.Arrival.{Arrival}
use Rattle.cluster_plan.specs.declared.step.Step.{Step}
use Rattle.cluster_plan.specs.declared.step.Step.TheVariants.{Checking, Connecting, Arrived}
use Rattle.cluster_plan.specs.Asks.{Answered, error_told, link_told, passes, same_address}
use Rattle.cluster_plan.specs.Connections.{entry, link_to}
use Rattle.cluster_plan.specs.declared.connections.ConnState.TheVariants as conn
use Rattle.cluster_plan.specs.Laws.{IsGiven}
use Rattle.cluster_plan.specs.Reached.{Reached, asked, by_link, by_none, arrived, asked_for, brought, check, connect, reached}
use Rattle.cluster_plan.specs.Initial.{after_tries}
use Rattle.cluster_plan.specs.Progress.{go_on, goes_by}
use Rattle.cluster_plan.specs.Recovering.{asks_in, ended_so}
use Rattle.cluster_plan.specs.Refresh.{all_asked, asks, arrivals, as_it_was, remaining, renewed, renewed_by}
use Rattle.cluster_plan.specs.Connections.{state_at}
use Rattle.cluster_plan.specs.Steps.{ask_of, arrived_by, begun_at, begun_by, settled_node, settled_nodes, step_by, stepped, stepping}
use Rattle.cluster_plan.proofs.Missing.{Misses, before_differs, connecting_missed, differs_before, itself_same, other_place, reached_missed}
use Rattle.cluster_plan.proofs.Passing.{begun_step, checked_step, connected_step}
use Rattle.cluster_plan.proofs.Given.{contained}
use Rattle.cluster_plan.proofs.Sorting.{both_true}

-- the addresses of these numbers
abbrev pub looked_up : List NodeAddress → List ℕ → List NodeAddress
looked_up nodes [] = []
looked_up nodes (n ∷ ns) = option_to_list (slice_get nodes n) ++ looked_up nodes ns

looked_append : (nodes : List NodeAddress) (ms ns : List ℕ) → looked_up nodes (ms ++ ns) ≡ looked_up nodes ms ++ looked_up nodes ns
looked_append nodes [] ns = refl
looked_append nodes (m ∷ ms) ns =
    ap (λ rest. option_to_list (slice_get nodes m) ++ rest) (looked_append nodes ms ns)
    ∙ sym (append_assoc (option_to_list (slice_get nodes m)) (looked_up nodes ms) (looked_up nodes ns))

take_next : (nodes : List NodeAddress) (n : ℕ) → take n nodes ++ option_to_list (slice_get nodes n) ≡ take (suc n) nodes
take_next [] zero = refl
take_next [] (suc n) = refl
take_next (a ∷ nodes) zero = refl
take_next (a ∷ nodes) (suc n) = ap (λ rest. a ∷ rest) (take_next nodes n)

looked_first : (nodes : List NodeAddress) (n : ℕ) → looked_up nodes (first_numbers n) ≡ take n nodes
looked_first nodes zero = refl
looked_first nodes (suc n) =
    looked_append nodes (first_numbers n) (n ∷ [])
    ∙ ap (λ front. front ++ (option_to_list (slice_get nodes n) ++ [])) (looked_first nodes n)
    ∙ ap (λ last. take n nodes ++ last) (append-nil (option_to_list (slice_get nodes n)))
    ∙ take_next nodes n

pub looked_all : (nodes : List NodeAddress) → looked_up nodes (first_numbers (length nodes)) ≡ nodes
looked_all nodes =
    let all : length nodes ≤ length nodes = omega arith in
    looked_first nodes (length nodes) ∙ take_all (length nodes) nodes all

pub looked_over : (entries : List NodeEntry) (rows : List SlotRow) (nodes : List Arrival) (numbers : List ℕ) (k : ℕ) → numbers ≡ node_places rows → length numbers ≤ k
    → nodes ++ map (begun_at entries) (looked_up (addresses rows) (drop k numbers)) ≡ map (begun_at entries) (looked_up (addresses rows) numbers) → nodes ≡ map (begun_at entries) (addresses rows)
looked_over entries rows nodes numbers k n end h =
    sym (append-nil nodes)
    ∙ ap (λ ns. nodes ++ map (begun_at entries) (looked_up (addresses rows) ns)) (sym (drop_all k numbers end))
    ∙ h
    ∙ ap (λ ns. map (begun_at entries) (looked_up (addresses rows) ns)) n
    ∙ ap (map (begun_at entries)) (looked_all (addresses rows))

-- at the beginning
pub begun_so : (entries : List NodeEntry) (nodes : List NodeAddress) (more : List Answered) → stepped (map (begun_at entries) nodes) more ≡ arrivals entries nodes more
begun_so entries [] more = refl
begun_so entries (a ∷ nodes) more =
    let one : stepping Last a (begun_by (link_to a entries)) more ≡ reached Last a (link_to a entries) more = begun_step Last a (link_to a entries) more in
    let others : stepped (map (begun_at entries) nodes) more ≡ arrivals entries nodes more = begun_so entries nodes more in
    λ i. (a, one i) ∷ others i

pub begun_places : (entries : List NodeEntry) (nodes : List NodeAddress) → map (λ t. t.address) (map (begun_at entries) nodes) ≡ nodes
begun_places entries [] = refl
begun_places entries (a ∷ nodes) = ap (λ rest. a ∷ rest) (begun_places entries nodes)

-- at the end
settled_step : (t : Arrival) (rest : List (NodeAddress × Reached)) (more : List Answered) (step : Step) → asked_for ((t.address, stepping Last t.address step []) ∷ rest) ≡ []
    → (stepping Last t.address step more ≡ stepping Last t.address step []) × (asked_for rest ≡ [])
settled_step t rest more (Checking link) e = absurd (cc)
settled_step t rest more Connecting e = absurd (cc)
settled_step t rest more (Arrived link) e = (refl, e)

none_open : (ts : List Arrival) (more : List Answered) → asked_for (stepped ts []) ≡ [] → stepped ts more ≡ stepped ts []
none_open [] more e = refl
none_open (t ∷ ts) more e =
    let parts : (stepping Last t.address t.step more ≡ stepping Last t.address t.step []) × (asked_for (stepped ts []) ≡ []) = settled_step t (stepped ts []) more t.step e in
    let here : stepping Last t.address t.step more ≡ stepping Last t.address t.step [] = parts.0 in
    let others : stepped ts more ≡ stepped ts [] = none_open ts more parts.1 in
    λ i. (t.address, here i) ∷ others i

one_arrived : (entries : List NodeEntry) (a : NodeAddress) (r : Reached) (rest : List (NodeAddress × Reached)) → asked_for ((a, r) ∷ rest) ≡ [] → (asked_for rest ≡ [] → remaining entries rest ≡ arrived rest) → remaining entries ((a, r) ∷ rest) ≡ arrived ((a, r) ∷ rest)
one_arrived entries a (asked x) rest e h = absurd (cc)
one_arrived entries a (by_link link) rest e h = ap (λ es. entry a (conn.Connected link) ∷ es) (h e)
one_arrived entries a (by_none error) rest e h = h e

remaining_arrived : (entries : List NodeEntry) (nodes : List (NodeAddress × Reached)) → asked_for nodes ≡ [] → remaining entries nodes ≡ arrived nodes
remaining_arrived entries [] e = refl
remaining_arrived entries (n ∷ nodes) e = one_arrived entries n.0 n.1 nodes e (remaining_arrived entries nodes)

none_by_length : (xs : List Ask) → (length xs == 0) ≡ true → xs ≡ []
none_by_length [] e = refl
none_by_length (x ∷ xs) e = grind (arith, nat_tests)

pub all_arrived : (entries es : List NodeEntry) (rows : List SlotRow) (ts : List Arrival) (more : List Answered) → (length (asked_for (stepped ts [])) == 0) ≡ true → es ≡ arrived (stepped ts [])
    → ended_so es rows None more ≡ renewed_by entries rows (stepped ts more)
all_arrived entries es rows ts more h e =
    let none : asked_for (stepped ts []) ≡ [] = none_by_length (asked_for (stepped ts [])) h in
    let left : es ≡ remaining entries (stepped ts []) = e ∙ sym (remaining_arrived entries (stepped ts []) none) in
    (λ i. ended_so (left i) rows None more)
    ∙ ap (λ xs. record { entries = remaining entries (stepped ts []); rows = rows; held = []; next = all_asked xs }) (sym none)
    ∙ ap (renewed_by entries rows) (sym (none_open ts more none))

-- what is left of two lists of nodes is the same
abbrev pub SameLeft : List NodeEntry → List (NodeAddress × Reached) → List (NodeAddress × Reached) → Type 0
SameLeft entries one other = (remaining entries one ≡ remaining entries other) × (asked_for one ≡ asked_for other)

one_left : (entries : List NodeEntry) (a : NodeAddress) (r : Reached) (one other : List (NodeAddress × Reached)) → SameLeft entries one other → SameLeft entries ((a, r) ∷ one) ((a, r) ∷ other)
one_left entries a (asked x) one other h = (ap (λ es. as_it_was a (state_at a entries) ++ es) h.0, ap (λ xs. x ∷ xs) h.1)
one_left entries a (by_link link) one other h = (ap (λ es. entry a (conn.Connected link) ∷ es) h.0, h.1)
one_left entries a (by_none error) one other h = h

cons_left : (entries : List NodeEntry) (a : NodeAddress) (r s : Reached) (one other : List (NodeAddress × Reached)) → r ≡ s → SameLeft entries one other → SameLeft entries ((a, r) ∷ one) ((a, s) ∷ other)
cons_left entries a r s one other e h = subst (λ l. SameLeft entries ((a, r) ∷ one) ((a, l) ∷ other)) e (one_left entries a r one other h)

gone_left : (entries : List NodeEntry) (a : NodeAddress) (s : Reached) (error : RedisError) (one other : List (NodeAddress × Reached)) → s ≡ by_none error → SameLeft entries one other → SameLeft entries one ((a, s) ∷ other)
gone_left entries a s error one other e h = subst (λ l. SameLeft entries one ((a, l) ∷ other)) (sym e) h

-- each node is another than that of an ask, or waits for just that
abbrev pub IsAt : Ask → Arrival → Type 0
IsAt x t = (same_address t.address x.address ≡ false) ⊎ ((same_address t.address x.address ≡ true) × (ask_of Last t.address t.step ≡ Some x))

abbrev pub AreAt : Ask → List Arrival → Type 0
AreAt x [] = Unit {0}
AreAt x (t ∷ ts) = IsAt x t × AreAt x ts

stepping_missed : (a : NodeAddress) (step : Step) (x : Answered) (more : List Answered) → Misses Last a x → stepping Last a step (x ∷ more) ≡ stepping Last a step more
stepping_missed a (Checking link) x more h = reached_missed Last a (Some link) x more h
stepping_missed a Connecting x more h = connecting_missed Last a x more h
stepping_missed a (Arrived link) x more h = refl

some_inside : (x y : Ask) → ◌≡◌ {A = Option Ask} (Some x) (Some y) → x ≡ y
some_inside x y e = cc

-- what is left of a node behind the answer to its ask
abbrev later_of : NodeAddress → Option Step → List Arrival
later_of a o = map (λ s. record { address = a; step = s }) (option_to_list o)

connect_left : (entries : List NodeEntry) (a : NodeAddress) (o : Option ℕ) (error : RedisError) (s : Reached) (rest : List Arrival) (more : List Answered) (other : List (NodeAddress × Reached)) → s ≡ brought o error → SameLeft entries (stepped rest more) other
    → SameLeft entries (stepped (later_of a (arrived_by o) ++ rest) more) ((a, s) ∷ other)
connect_left entries a None error s rest more other e h = gone_left entries a s error (stepped rest more) other e h
connect_left entries a (Some link) error s rest more other e h = cons_left entries a (by_link link) s (stepped rest more) other (sym e) h

answered_left : (entries : List NodeEntry) (a : NodeAddress) (step : Step) (x : Ask) (found : Answer) (rest : List Arrival) (more : List Answered) (other : List (NodeAddress × Reached)) → ask_of Last a step ≡ Some x → SameLeft entries (stepped rest more) other
    → SameLeft entries (stepped (later_of a (step_by found step) ++ rest) more) ((a, stepping Last a step ((x, found) ∷ more)) ∷ other)
answered_left entries a (Checking link) x found rest more other e h =
    let next : Step = if passes found then Arrived link else Connecting in
    let itself : check Last a link ≡ x = some_inside (check Last a link) x e in
    cons_left entries a (stepping Last a next more) (stepping Last a (Checking link) ((x, found) ∷ more)) (stepped rest more) other
    (sym (checked_step Last a link found more) ∙ ap (λ y. stepping Last a (Checking link) ((y, found) ∷ more)) itself) h
answered_left entries a Connecting x found rest more other e h =
    let itself : x ≡ connect Last a = sym (some_inside (connect Last a) x e) in
    connect_left entries a (link_told found) (error_told found) (stepping Last a Connecting ((x, found) ∷ more)) rest more other
    (ap (λ y. stepping Last a Connecting ((y, found) ∷ more)) itself ∙ connected_step Last a found more) h
answered_left entries a (Arrived link) x found rest more other e h = absurd (cc)

node_left : (entries : List NodeEntry) (x : Answered) (t : Arrival) (rest : List Arrival) (more : List Answered) (other : List (NodeAddress × Reached)) → IsAt x.0 t → SameLeft entries (stepped rest more) other
    → SameLeft entries (stepped (settled_node x.0.address x.1 t ++ rest) more) ((t.address, stepping Last t.address t.step (x ∷ more)) ∷ other)
node_left entries x t rest more other (inl differs) h =
    subst (λ nodes. SameLeft entries (stepped (nodes ++ rest) more) ((t.address, stepping Last t.address t.step (x ∷ more)) ∷ other))
    (sym (left_if (same_address t.address x.0.address) (later_of t.address (step_by x.1 t.step)) (t ∷ []) differs))
    (cons_left entries t.address (stepping Last t.address t.step more) (stepping Last t.address t.step (x ∷ more)) (stepped rest more) other
    (sym (stepping_missed t.address t.step x more (other_place Last t.address x differs))) h)
node_left entries x t rest more other (inr waits) h =
    subst (λ nodes. SameLeft entries (stepped (nodes ++ rest) more) ((t.address, stepping Last t.address t.step (x ∷ more)) ∷ other))
    (sym (taken_if (same_address t.address x.0.address) (later_of t.address (step_by x.1 t.step)) (t ∷ []) waits.0))
    (answered_left entries t.address t.step x.0 x.1 rest more other waits.1 h)

all_left : (entries : List NodeEntry) (x : Answered) (ts : List Arrival) (more : List Answered) → AreAt x.0 ts → SameLeft entries (stepped (settled_nodes x.0.address x.1 ts) more) (stepped ts (x ∷ more))
all_left entries x [] more h = (refl, refl)
all_left entries x (t ∷ ts) more h =
    node_left entries x t (settled_nodes x.0.address x.1 ts) more (stepped ts (x ∷ more)) h.0 (all_left entries x ts more h.1)

pub settled_so : (entries : List NodeEntry) (rows : List SlotRow) (x : Answered) (ts : List Arrival) (more : List Answered) → AreAt x.0 ts
    → renewed_by entries rows (stepped (settled_nodes x.0.address x.1 ts) more) ≡ renewed_by entries rows (stepped ts (x ∷ more))
settled_so entries rows x ts more h =
    let same : SameLeft entries (stepped (settled_nodes x.0.address x.1 ts) more) (stepped ts (x ∷ more)) = all_left entries x ts more h in
    let left : remaining entries (stepped (settled_nodes x.0.address x.1 ts) more) ≡ remaining entries (stepped ts (x ∷ more)) = same.0 in
    let wanted : asked_for (stepped (settled_nodes x.0.address x.1 ts) more) ≡ asked_for (stepped ts (x ∷ more)) = same.1 in
    λ i. record { entries = left i; rows = rows; held = []; next = all_asked (wanted i) }

-- those that are left stand in order
abbrev pub places_of : List Arrival → List NodeAddress
places_of ts = map (λ t. t.address) ts

option_all : (p : NodeAddress → Bool) (a : NodeAddress) (o : Option Step) (rest : List Arrival) → p a ≡ true → list_all p (places_of rest) ≡ true → list_all p (places_of (later_of a o ++ rest)) ≡ true
option_all p a None rest h g = g
option_all p a (Some step) rest h g = both_true (p a) (list_all p (places_of rest)) h g

node_all : (p : NodeAddress → Bool) (a : NodeAddress) (found : Answer) (t : Arrival) (rest : List Arrival) → p t.address ≡ true → list_all p (places_of rest) ≡ true → list_all p (places_of (settled_node a found t ++ rest)) ≡ true
node_all p a found t rest h g =
    chosen (λ nodes. list_all p (places_of (nodes ++ rest)) ≡ true) (same_address t.address a) (later_of t.address (step_by found t.step)) (t ∷ [])
    (λ e. option_all p t.address (step_by found t.step) rest h g)
    (λ e. both_true (p t.address) (list_all p (places_of rest)) h g)

all_settled : (p : NodeAddress → Bool) (a : NodeAddress) (found : Answer) (ts : List Arrival) → list_all p (places_of ts) ≡ true → list_all p (places_of (settled_nodes a found ts)) ≡ true
all_settled p a found [] h = refl
all_settled p a found (t ∷ ts) h =
    node_all p a found t (settled_nodes a found ts) (both_left (p t.address) (list_all p (places_of ts)) h)
    (all_settled p a found ts (both_right (p t.address) (list_all p (places_of ts)) h))

option_order : (a : NodeAddress) (o : Option Step) (rest : List Arrival) → list_all (address_less a) (places_of rest) ≡ true → in_order (places_of rest) ≡ true → in_order (places_of (later_of a o ++ rest)) ≡ true
option_order a None rest h g = g
option_order a (Some step) rest h g = both_true (list_all (address_less a) (places_of rest)) (in_order (places_of rest)) h g

pub settled_order : (a : NodeAddress) (found : Answer) (ts : List Arrival) → in_order (places_of ts) ≡ true → in_order (places_of (settled_nodes a found ts)) ≡ true
settled_order a found [] h = refl
settled_order a found (t ∷ ts) h =
    let behind : list_all (address_less t.address) (places_of (settled_nodes a found ts)) ≡ true = all_settled (address_less t.address) a found ts (both_left (list_all (address_less t.address) (places_of ts)) (in_order (places_of ts)) h) in
    let others : in_order (places_of (settled_nodes a found ts)) ≡ true = settled_order a found ts (both_right (list_all (address_less t.address) (places_of ts)) (in_order (places_of ts)) h) in
    chosen (λ nodes. in_order (places_of (nodes ++ settled_nodes a found ts)) ≡ true) (same_address t.address a) (later_of t.address (step_by found t.step)) (t ∷ [])
    (λ e. option_order t.address (step_by found t.step) (settled_nodes a found ts) behind others)
    (λ e. both_true (list_all (address_less t.address) (places_of (settled_nodes a found ts))) (in_order (places_of (settled_nodes a found ts))) behind others)

-- an ask that is given is that of its node
abbrev pub IsOwn : List Arrival → Ask → Type 0
IsOwn ts x = AreAt x ts × ((b : NodeAddress) → list_all (address_less b) (places_of ts) ≡ true → address_less b x.address ≡ true)

behind_at : (x : Ask) (ts : List Arrival) → list_all (address_less x.address) (places_of ts) ≡ true → AreAt x ts
behind_at x [] h = tt
behind_at x (t ∷ ts) h = (
  inl (before_differs x.address t.address (both_left (address_less x.address t.address) (list_all (address_less x.address) (places_of ts)) h)),
  behind_at x ts (both_right (address_less x.address t.address) (list_all (address_less x.address) (places_of ts)) h),
)

own_here : (t : Arrival) (ts : List Arrival) (x : Ask) → in_order (places_of (t ∷ ts)) ≡ true → ask_of Last t.address t.step ≡ Some x → x.address ≡ t.address → IsOwn (t ∷ ts) x
own_here t ts x h e f = (
  (
    inr (ap (same_address t.address) f ∙ itself_same t.address, e),
    behind_at x ts (ap (λ a. list_all (address_less a) (places_of ts)) f ∙ both_left (list_all (address_less t.address) (places_of ts)) (in_order (places_of ts)) h),
  ),
  λ b g. ap (address_less b) f ∙ both_left (address_less b t.address) (list_all (address_less b) (places_of ts)) g,
)

own_behind : (t : Arrival) (ts : List Arrival) (x : Ask) → in_order (places_of (t ∷ ts)) ≡ true → IsOwn ts x → IsOwn (t ∷ ts) x
own_behind t ts x h own = (
  (inl (differs_before t.address x.address (own.1 t.address (both_left (list_all (address_less t.address) (places_of ts)) (in_order (places_of ts)) h))), own.0),
  λ b g. own.1 b (both_right (address_less b t.address) (list_all (address_less b) (places_of ts)) g),
)

all_behind : (t : Arrival) (ts : List Arrival) (xs : List Ask) → in_order (places_of (t ∷ ts)) ≡ true → All (IsOwn ts) xs → All (IsOwn (t ∷ ts)) xs
all_behind t ts [] h all = All-nil (IsOwn (t ∷ ts))
all_behind t ts (x ∷ xs) h all =
    All-cons (IsOwn (t ∷ ts)) x xs (own_behind t ts x h (All-head (IsOwn ts) x xs all)) (all_behind t ts xs h (All-tail (IsOwn ts) x xs all))

own_asks : (t : Arrival) (ts : List Arrival) (step : Step) → t.step ≡ step → in_order (places_of (t ∷ ts)) ≡ true → All (IsOwn ts) (asked_for (stepped ts [])) → All (IsOwn (t ∷ ts)) (asked_for ((t.address, stepping Last t.address step []) ∷ stepped ts []))
own_asks t ts (Checking link) e h all =
    All-cons (IsOwn (t ∷ ts)) (check Last t.address link) (asked_for (stepped ts [])) (own_here t ts (check Last t.address link) h (ap (ask_of Last t.address) e) refl) (all_behind t ts (asked_for (stepped ts [])) h all)
own_asks t ts Connecting e h all =
    All-cons (IsOwn (t ∷ ts)) (connect Last t.address) (asked_for (stepped ts [])) (own_here t ts (connect Last t.address) h (ap (ask_of Last t.address) e) refl) (all_behind t ts (asked_for (stepped ts [])) h all)
own_asks t ts (Arrived link) e h all = all_behind t ts (asked_for (stepped ts [])) h all

pub all_own : (ts : List Arrival) → in_order (places_of ts) ≡ true → All (IsOwn ts) (asked_for (stepped ts []))
all_own [] h = All-nil (IsOwn [])
all_own (t ∷ ts) h = own_asks t ts t.step refl h (all_own ts (both_right (list_all (address_less t.address) (places_of ts)) (in_order (places_of ts)) h))

pub given_at : (ts : List Arrival) (x : Ask) → in_order (places_of ts) ≡ true → Contains (asked_for (stepped ts [])) x → AreAt x ts
given_at ts x h given = let own : IsOwn ts x = contained (IsOwn ts) (asked_for (stepped ts [])) x given (all_own ts h) in own.0

pub given_among : (xs : List Ask) (x : Ask) → IsGiven x (all_asked xs) → Contains xs x
given_among [] x h = absurd h
given_among (y ∷ xs) x h = h

pub asks_all : (xs : List Ask) → asks_in (all_asked xs) ≡ xs
asks_all [] = refl
asks_all (x ∷ xs) = refl

-- the one ask that is given
pub one_given : (x y : Ask) → IsGiven x (asks (y ∷ [])) → x ≡ y
one_given x y h = sym (contained (λ z. y ≡ z) (y ∷ []) x h (All-cons (λ z. y ≡ z) y [] refl (All-nil (λ z. y ≡ z))))

-- an initial connect that is given
abbrev pub IsInitial : Ask → Type 0
IsInitial x = x ≡ connect Initial x.address

one_initial : (t : Tried) (p : Progress) (more : List (NodeAddress × Reached)) → All IsInitial (asked_for more) → All IsInitial (asked_for ((t.address, goes_by Initial t.address p []) ∷ more))
one_initial t progress.Connecting more h = All-cons IsInitial (connect Initial t.address) (asked_for more) refl h
one_initial t (progress.Arrived link) more h = h
one_initial t progress.Lost more h = h

all_initial : (ts : List Tried) → All IsInitial (asked_for (go_on Initial ts []))
all_initial [] = All-nil IsInitial
all_initial (t ∷ ts) = one_initial t t.progress (go_on Initial ts []) (all_initial ts)

initial_among : (last : RedisError) (entries : List NodeEntry) (rows : List SlotRow) (nodes : List (NodeAddress × Reached)) (xs : List Ask) (x : Ask) → (length xs == 0) ≡ false → All IsInitial xs → IsGiven x (after_tries last entries rows [] nodes xs).next → IsInitial x
initial_among last entries rows nodes [] x some all h = absurd (cc)
initial_among last entries rows nodes (y ∷ ys) x some all h = contained IsInitial (y ∷ ys) x h all

pub connect_given : (last : RedisError) (entries : List NodeEntry) (rows : List SlotRow) (ts : List Tried) (x : Ask) → (length (asked_for (go_on Initial ts [])) == 0) ≡ false
    → IsGiven x (after_tries last entries rows [] (go_on Initial ts []) (asked_for (go_on Initial ts []))).next → x ≡ connect Initial x.address
connect_given last entries rows ts x some h = initial_among last entries rows (go_on Initial ts []) (asked_for (go_on Initial ts [])) x some (all_initial ts) h
