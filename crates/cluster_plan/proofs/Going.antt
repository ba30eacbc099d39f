-- A recovery goes on behind an answer as its plan does.
use Rattle.std.proofs.Common.{◌≡◌, ℕ, ◌==◌, Bool, true, false, List, [], ◌∷◌, ◌++◌, map, length, Option, Some, None, refl, sym, ◌∙◌, ap, append_assoc, append-nil, subst, arith, if◌then◌else◌}
use Rattle.std.specs.List.{Contains}
use Rattle.std.proofs.lemmas.Bool.Decides.{nat_tests}
use Rattle.redis_error.specs.declared.redis_error.RedisError.{RedisError}
use Rattle.redis_error.specs.declared.redis_error.RedisError.TheVariants.{NotFound}
use Rattle.slot_hash.specs.declared.address.NodeAddress.{NodeAddress}
use Rattle.mux_routing.specs.declared.rows.SlotRow.{SlotRow}
use Rattle.mux_routing.specs.Shards.{addresses, in_order}
use Rattle.cluster_plan.specs.declared.asks.Ask.{Ask}
use Rattle.cluster_plan.specs.declared.asks.Answer.{Answer}
use Rattle.cluster_plan.specs.declared.asks.Part.TheVariants.{Initial, First, Second}
use Rattle.cluster_plan.specs.declared.connections.ConnState.{ConnState}
use Rattle.cluster_plan.specs.declared.connections.ConnState.TheVariants as conn
use Rattle.cluster_plan.specs.declared.connections.NodeEntry.{NodeEntry}
use Rattle.cluster_plan.specs.declared.connects.InitialConnects.{InitialConnects}
use Rattle.cluster_plan.specs.declared.connects.InitialEnd.{InitialEnd}
use Rattle.cluster_plan.specs.declared.connects.InitialEnd.TheVariants as end
use Rattle.cluster_plan.specs.declared.recovery_kind.RecoveryKind.{RecoveryKind}
use Rattle.cluster_plan.specs.declared.recovery_kind.RecoveryKind.TheVariants as kind
use Rattle.cluster_plan.specs.declared.recovery_kind.Failure.{Failure}
use Rattle.cluster_plan.specs.declared.recovery_kind.Failure.TheVariants.{Create, Refresh}
use Rattle.cluster_plan.specs.declared.heard.Heard.{Heard}
use Rattle.cluster_plan.specs.declared.state.Pass.{Pass}
use Rattle.cluster_plan.specs.declared.state.State.{State}
use Rattle.cluster_plan.specs.declared.step.Arrival.{Arrival}
use Rattle.cluster_plan.specs.declared.step.Step.{Step}
use Rattle.cluster_plan.specs.declared.step.Step.TheVariants.{Checking, Connecting, Arrived}
use Rattle.cluster_plan.specs.Asks.{Answered, error_told, link_told, passes, rows_told}
use Rattle.cluster_plan.specs.Connections.{connected_link, entry, link_of}
use Rattle.cluster_plan.specs.Connects.{open_asks, plan_behind, plan_from}
use Rattle.cluster_plan.specs.Heard.{heard_by_link, heard_by_rows, heard_of}
use Rattle.cluster_plan.specs.Initial.{after_tries, in_address_order, initial}
use Rattle.cluster_plan.specs.Laws.{IsGiven, IsRecovery}
use Rattle.cluster_plan.specs.Plan.{plan}
use Rattle.cluster_plan.specs.Progress.{go_on}
use Rattle.cluster_plan.specs.Reached.{Reached, asked_for, check, connect}
use Rattle.cluster_plan.specs.Recovering.{after_heard, asked_second, asks_in, end_by, ended_so, entries_of, first_from, has_ended, places, plan_of, second_from}
use Rattle.cluster_plan.specs.Refresh.{asks, after_first, after_second, all_asked, by_connected, first_replies, query, refresh, renewed, renewed_by, second_replies, until_good, visited}
use Rattle.cluster_plan.specs.Steps.{begun_at, begun_by, settled_nodes, stepped}
use Rattle.cluster_plan.proofs.Arriving.{asks_all, begun_places, begun_so, connect_given, given_at, one_given, settled_order, settled_so}
use Rattle.cluster_plan.proofs.Passing.{first_bad, first_good, places_on, places_over, second_bad, second_begun, second_checked, second_connected, second_failed, second_good}

-- orders
pub order_on : (p : Pass) (front : List NodeEntry) → in_order (places (entries_of p)) ≡ true → front ≡ p.passed ++ p.here ∷ [] → in_order (places (front ++ p.rest)) ≡ true
order_on p front o e = ap (λ es. in_order (places (es ++ p.rest))) e ∙ ap in_order (places_on p.passed p.here p.rest) ∙ o

pub order_over : (p : Pass) (front : List NodeEntry) (state : ConnState) → in_order (places (entries_of p)) ≡ true → front ≡ p.passed ++ entry p.here.address state ∷ [] → in_order (places (front ++ p.rest)) ≡ true
order_over p front state o e = ap (λ es. in_order (places (es ++ p.rest))) e ∙ ap in_order (places_over p.passed p.here state p.rest) ∙ o

pub order_begun : (entries : List NodeEntry) (rows : List SlotRow) (nodes : List Arrival) → in_order (addresses rows) ≡ true → nodes ≡ map (begun_at entries) (addresses rows) → in_order (map (λ t. t.address) nodes) ≡ true
order_begun entries rows nodes o e = ap (λ ts. in_order (map (λ t. t.address) ts)) e ∙ ap in_order (begun_places entries (addresses rows)) ∙ o

pub order_left : (nodes left : List Arrival) (x : Ask) (found : Answer) → in_order (map (λ t. t.address) nodes) ≡ true → left ≡ settled_nodes x.address found nodes → in_order (map (λ t. t.address) left) ≡ true
order_left nodes left x found o e = ap (λ ts. in_order (map (λ t. t.address) ts)) e ∙ settled_order x.address found nodes o

-- pass two begins
pub goes_second : (p : Pass) (others : List NodeEntry) (rows : List SlotRow) (last : RedisError) (link : Option ℕ) (step : Step) (more : List Answered) → others ≡ p.here ∷ p.rest → link ≡ link_of p.here.state → step ≡ begun_by link
    → second_from p rows step last more ≡ after_second (p.passed ++ visited others more) rows more (until_good last (second_replies others more))
goes_second p others rows last link step more e l s =
    ap (λ t. second_from p rows t last more) (s ∙ ap begun_by l)
    ∙ second_begun p rows last more
    ∙ sym (ap (λ es. after_second (p.passed ++ visited es more) rows more (until_good last (second_replies es more))) e)

-- pass one goes through the entries
pub goes_first : (p : Pass) (whole left others : List NodeEntry) (rows : List SlotRow) (link : ℕ) (more : List Answered) → left ≡ p.here ∷ p.rest → p.passed ++ left ≡ whole → connected_link p.here.state ≡ Some link
    → ((m : List Answered) → first_replies left m ≡ first_replies others m)
    → first_from p rows link more ≡ after_first whole rows more (until_good NotFound (first_replies others more))
goes_first p whole left others rows link more e w c f =
    ap (λ o. after_first (entries_of p) rows more (until_good NotFound (by_connected p.here.address o more ++ first_replies p.rest more))) (sym c)
    ∙ ap (λ es. after_first (p.passed ++ es) rows more (until_good NotFound (first_replies es more))) (sym e)
    ∙ (λ i. after_first (w i) rows more (until_good NotFound (f more i)))

pub passes_by : (here : NodeEntry) (rest left others : List NodeEntry) (more : List Answered) → left ≡ here ∷ rest → connected_link here.state ≡ None
    → ((m : List Answered) → first_replies left m ≡ first_replies others m) → first_replies rest more ≡ first_replies others more
passes_by here rest left others more e c f =
    ap (λ o. by_connected here.address o more ++ first_replies rest more) (sym c)
    ∙ ap (λ es. first_replies es more) (sym e)
    ∙ f more

pub first_over : (s : State) (passed whole left others : List NodeEntry) (rows : List SlotRow) (more : List Answered) → left ≡ [] → passed ++ left ≡ whole
    → ((m : List Answered) → first_replies left m ≡ first_replies others m)
    → ((m : List Answered) → plan_of s m ≡ after_second (visited passed m) rows m (until_good NotFound (second_replies passed m)))
    → plan_of s more ≡ after_first whole rows more (until_good NotFound (first_replies others more))
first_over s passed whole left others rows more e w f h =
    let all : passed ≡ whole = sym (append-nil passed) ∙ ap (λ es. passed ++ es) (sym e) ∙ w in
    let none : first_replies others more ≡ [] = sym (f more) ∙ ap (λ es. first_replies es more) e in
    h more
    ∙ (λ i. after_second (visited (all i) more) rows more (until_good NotFound (second_replies (all i) more)))
    ∙ sym (ap (λ rs. after_first whole rows more (until_good NotFound rs)) none)

-- pass one
pub goes_first_good : (s : State) (p : Pass) (rows new : List SlotRow) (link : ℕ) (found : Answer) (more : List Answered) → rows_told p.here.address.host found ≡ Some new
    → ((m : List Answered) → plan_of s m ≡ renewed (entries_of p) new m) → plan_of s more ≡ first_from p rows link ((query First p.here.address link, found) ∷ more)
goes_first_good s p rows new link found more t h = h more ∙ sym (first_good p rows new link found more t)

pub goes_past : (s : State) (p : Pass) (rows : List SlotRow) (front : List NodeEntry) (more : List Answered) → front ≡ p.passed ++ p.here ∷ []
    → ((m : List Answered) → plan_of s m ≡ after_first (front ++ p.rest) rows m (until_good NotFound (first_replies p.rest m)))
    → plan_of s more ≡ after_first ((p.passed ++ p.here ∷ []) ++ p.rest) rows more (until_good NotFound (first_replies p.rest more))
goes_past s p rows front more e h = h more ∙ ap (λ l. after_first (l ++ p.rest) rows more (until_good NotFound (first_replies p.rest more))) e

pub goes_first_bad : (s : State) (p : Pass) (rows : List SlotRow) (link : ℕ) (found : Answer) (more : List Answered) → in_order (places (entries_of p)) ≡ true → rows_told p.here.address.host found ≡ None
    → ((m : List Answered) → plan_of s m ≡ after_first ((p.passed ++ p.here ∷ []) ++ p.rest) rows m (until_good NotFound (first_replies p.rest m)))
    → plan_of s more ≡ first_from p rows link ((query First p.here.address link, found) ∷ more)
goes_first_bad s p rows link found more o t h = h more ∙ sym (first_bad p rows link found more o t)

pub goes_renewed_by : (s : State) (p : Pass) (new : List SlotRow) (es : List NodeEntry) (more : List Answered) → es ≡ entries_of p
    → ((m : List Answered) → plan_of s m ≡ renewed es new m) → plan_of s more ≡ renewed (entries_of p) new more
goes_renewed_by s p new es more e h = h more ∙ ap (λ l. renewed l new more) e

-- pass two
pub goes_behind : (s : State) (p : Pass) (rows : List SlotRow) (front : List NodeEntry) (state : ConnState) (last : RedisError) (more : List Answered) → front ≡ p.passed ++ entry p.here.address state ∷ []
    → ((m : List Answered) → plan_of s m ≡ after_second (front ++ visited p.rest m) rows m (until_good last (second_replies p.rest m)))
    → plan_of s more ≡ after_second (p.passed ++ entry p.here.address state ∷ visited p.rest more) rows more (until_good last (second_replies p.rest more))
goes_behind s p rows front state last more e h =
    h more
    ∙ ap (λ l. after_second (l ++ visited p.rest more) rows more (until_good last (second_replies p.rest more))) e
    ∙ ap (λ es. after_second es rows more (until_good last (second_replies p.rest more))) (append_assoc p.passed (entry p.here.address state ∷ []) (visited p.rest more))

pub goes_renewed_with : (s : State) (p : Pass) (new : List SlotRow) (es : List NodeEntry) (state : ConnState) (more : List Answered) → es ≡ p.passed ++ entry p.here.address state ∷ p.rest
    → ((m : List Answered) → plan_of s m ≡ renewed es new m) → plan_of s more ≡ renewed (p.passed ++ entry p.here.address state ∷ p.rest) new more
goes_renewed_with s p new es state more e h = h more ∙ ap (λ l. renewed l new more) e

-- what was heard
heard_link : (p : Pass) (rows : List SlotRow) (last : RedisError) (more : List Answered) (found : Answer) (o : Option ℕ) → in_order (places (entries_of p)) ≡ true → link_told found ≡ o
    → after_heard p rows Connecting last (heard_by_link o (error_told found)) more ≡ second_from p rows Connecting last ((connect Second p.here.address, found) ∷ more)
heard_link p rows last more found None o e = sym (second_failed p rows last more found o e)
heard_link p rows last more found (Some link) o e = sym (second_connected p rows last more link found o e)

heard_rows : (p : Pass) (rows : List SlotRow) (link : ℕ) (last : RedisError) (more : List Answered) (found : Answer) (w : Option (List SlotRow)) → in_order (places (entries_of p)) ≡ true → rows_told p.here.address.host found ≡ w
    → after_heard p rows (Arrived link) last (heard_by_rows w (error_told found)) more ≡ second_from p rows (Arrived link) last ((query Second p.here.address link, found) ∷ more)
heard_rows p rows link last more found None o e = sym (second_bad p rows last more link found o e)
heard_rows p rows link last more found (Some new) o e = sym (second_good p rows new last more link found o e)

heard_so : (p : Pass) (rows : List SlotRow) (step : Step) (last : RedisError) (more : List Answered) (found : Answer) → in_order (places (entries_of p)) ≡ true
    → after_heard p rows step last (heard_of p.here.address.host step found) more ≡ second_from p rows step last ((asked_second p.here.address step, found) ∷ more)
heard_so p rows (Checking link) last more found o = sym (second_checked p rows last more link found o)
heard_so p rows Connecting last more found o = heard_link p rows last more found (link_told found) o refl
heard_so p rows (Arrived link) last more found o = heard_rows p rows link last more found (rows_told p.here.address.host found) o refl

-- the nodes of the new map
pub goes_renewed : (s : State) (entries : List NodeEntry) (rows : List SlotRow) (nodes : List Arrival) (more : List Answered) → nodes ≡ map (begun_at entries) (addresses rows)
    → ((m : List Answered) → plan_of s m ≡ renewed_by entries rows (stepped nodes m)) → plan_of s more ≡ renewed entries rows more
goes_renewed s entries rows nodes more e h =
    h more ∙ ap (λ ts. renewed_by entries rows (stepped ts more)) e ∙ ap (renewed_by entries rows) (begun_so entries (addresses rows) more)

pub goes_settled : (s : State) (entries : List NodeEntry) (rows : List SlotRow) (nodes left : List Arrival) (x : Ask) (found : Answer) (more : List Answered) → in_order (map (λ t. t.address) nodes) ≡ true → Contains (asked_for (stepped nodes [])) x → left ≡ settled_nodes x.address found nodes
    → ((m : List Answered) → plan_of s m ≡ renewed_by entries rows (stepped left m)) → plan_of s more ≡ renewed_by entries rows (stepped nodes ((x, found) ∷ more))
goes_settled s entries rows nodes left x found more o given e h =
    h more
    ∙ ap (λ ts. renewed_by entries rows (stepped ts more)) e
    ∙ settled_so entries rows (x, found) nodes more (given_at nodes x o given)

-- the initial connects
pub goes_over : (s : State) (c : InitialConnects) (over : InitialEnd) (entries links sorted : List NodeEntry) (rows none : List SlotRow) (more : List Answered)
    → ((es : List NodeEntry) (rs : List SlotRow) (m : List Answered) → plan_from c es rs m ≡ plan_behind over es rs m) → over ≡ end.Connected links → sorted ≡ in_address_order links → none ≡ []
    → ((m : List Answered) → plan_of s m ≡ refresh sorted none m) → plan_of s more ≡ plan_from c entries rows more
goes_over s c over entries links sorted rows none more f is e n h =
    h more
    ∙ (λ i. refresh (e i) (n i) more)
    ∙ sym (f entries rows more ∙ ap (λ w. plan_behind w entries rows more) is)

pub goes_without : (c : InitialConnects) (over : InitialEnd) (error : RedisError) (entries : List NodeEntry) (rows : List SlotRow) (more : List Answered)
    → ((es : List NodeEntry) (rs : List SlotRow) (m : List Answered) → plan_from c es rs m ≡ plan_behind over es rs m) → over ≡ end.Failed error
    → ended_so entries rows (Some (Create error)) more ≡ plan_from c entries rows more
goes_without c over error entries rows more f is = sym (f entries rows more ∙ ap (λ w. plan_behind w entries rows more) is)

pub goes_begun : (s : State) (c : InitialConnects) (nodes : List NodeAddress) (entries : List NodeEntry) (rows : List SlotRow) (more : List Answered)
    → ((es : List NodeEntry) (rs : List SlotRow) (m : List Answered) → plan_from c es rs m ≡ initial nodes es rs m)
    → ((m : List Answered) → plan_of s m ≡ plan_from c entries rows m) → plan_of s more ≡ initial nodes entries rows more
goes_begun s c nodes entries rows more f h = h more ∙ f entries rows more

its_connect : (c : InitialConnects) (entries : List NodeEntry) (rows : List SlotRow) (x : Ask) → (length (open_asks c) == 0) ≡ false → IsGiven x (plan_from c entries rows []).next → x ≡ connect Initial x.address
unfolding plan_from open_asks
its_connect c entries rows x o given = connect_given c.last entries rows c.nodes.items x o given

tries_ask : (last : RedisError) (entries : List NodeEntry) (rows : List SlotRow) (nodes : List (NodeAddress × Reached)) (xs : List Ask) → (length xs == 0) ≡ false → (after_tries last entries rows [] nodes xs).next ≡ asks xs
tries_ask last entries rows nodes [] o = absurd (cc)
tries_ask last entries rows nodes (x ∷ xs) o = refl

pub initial_asks : (c : InitialConnects) (entries : List NodeEntry) (rows : List SlotRow) → (length (open_asks c) == 0) ≡ false → asks_in (plan_from c entries rows []).next ≡ open_asks c
unfolding plan_from open_asks
initial_asks c entries rows o = ap asks_in (tries_ask c.last entries rows (go_on Initial c.nodes.items []) (asked_for (go_on Initial c.nodes.items [])) o)

pub initial_goes_on : (c : InitialConnects) (entries : List NodeEntry) (rows : List SlotRow) → (length (open_asks c) == 0) ≡ false → has_ended (plan_from c entries rows []).next ≡ false
unfolding plan_from open_asks
initial_goes_on c entries rows o = ap has_ended (tries_ask c.last entries rows (go_on Initial c.nodes.items []) (asked_for (go_on Initial c.nodes.items [])) o)

pub goes_initial : (s : State) (c new : InitialConnects) (entries : List NodeEntry) (rows : List SlotRow) (x : Ask) (found : Answer) (more : List Answered) → (length (open_asks c) == 0) ≡ false → IsGiven x (plan_from c entries rows []).next
    → ((es : List NodeEntry) (rs : List SlotRow) (m : List Answered) → plan_from new es rs m ≡ plan_from c es rs ((connect Initial x.address, found) ∷ m))
    → ((m : List Answered) → plan_of s m ≡ plan_from new entries rows m) → plan_of s more ≡ plan_from c entries rows ((x, found) ∷ more)
goes_initial s c new entries rows x found more o given f h =
    h more ∙ f entries rows more ∙ ap (λ y. plan_from c entries rows ((y, found) ∷ more)) (sym (its_connect c entries rows x o given))

-- the ask that was answered is the one that is given
pub goes_by_first : (s : State) (p : Pass) (rows : List SlotRow) (link : ℕ) (x : Ask) (found : Answer) (more : List Answered) → IsGiven x (first_from p rows link []).next
    → ((m : List Answered) → plan_of s m ≡ first_from p rows link ((query First p.here.address link, found) ∷ m)) → plan_of s more ≡ first_from p rows link ((x, found) ∷ more)
goes_by_first s p rows link x found more given h =
    h more ∙ ap (λ y. first_from p rows link ((y, found) ∷ more)) (sym (one_given x (query First p.here.address link) given))

second_given : (p : Pass) (rows : List SlotRow) (step : Step) (last : RedisError) (x : Ask) → IsGiven x (second_from p rows step last []).next → x ≡ asked_second p.here.address step
second_given p rows (Checking link) last x given = one_given x (check Second p.here.address link) given
second_given p rows Connecting last x given = one_given x (connect Second p.here.address) given
second_given p rows (Arrived link) last x given = one_given x (query Second p.here.address link) given

pub goes_by_second : (s : State) (p : Pass) (rows : List SlotRow) (step : Step) (last : RedisError) (heard : Heard) (x : Ask) (found : Answer) (more : List Answered) → in_order (places (entries_of p)) ≡ true → IsGiven x (second_from p rows step last []).next
    → heard ≡ heard_of p.here.address.host step found → ((m : List Answered) → plan_of s m ≡ after_heard p rows step last heard m) → plan_of s more ≡ second_from p rows step last ((x, found) ∷ more)
goes_by_second s p rows step last heard x found more o given e h =
    h more
    ∙ ap (λ w. after_heard p rows step last w more) e
    ∙ heard_so p rows step last more found o
    ∙ ap (λ y. second_from p rows step last ((y, found) ∷ more)) (sym (second_given p rows step last x given))

-- what is asked
pub second_asks : (p : Pass) (rows : List SlotRow) (step : Step) (last : RedisError) → asks_in (second_from p rows step last []).next ≡ asked_second p.here.address step ∷ []
second_asks p rows (Checking link) last = refl
second_asks p rows Connecting last = refl
second_asks p rows (Arrived link) last = refl

pub second_goes_on : (p : Pass) (rows : List SlotRow) (step : Step) (last : RedisError) → has_ended (second_from p rows step last []).next ≡ false
second_goes_on p rows (Checking link) last = refl
second_goes_on p rows Connecting last = refl
second_goes_on p rows (Arrived link) last = refl

pub last_asks : (xs : List Ask) → asks_in (all_asked xs) ≡ xs
last_asks xs = asks_all xs

pub last_goes_on : (xs : List Ask) → (length xs == 0) ≡ false → has_ended (all_asked xs) ≡ false
last_goes_on [] h = absurd (cc)
last_goes_on (x ∷ xs) h = refl

pub end_is : (failure : Option Failure) → has_ended (end_by failure []) ≡ true
end_is None = refl
end_is (Some (Create error)) = refl
end_is (Some (Refresh error)) = refl

-- at its end nothing is given
pub none_at_end : (entries : List NodeEntry) (rows : List SlotRow) (failure : Option Failure) (x : Ask) → IsGiven x (ended_so entries rows failure []).next → ⊥
none_at_end entries rows None x h = h
none_at_end entries rows (Some (Create error)) x h = h
none_at_end entries rows (Some (Refresh error)) x h = h

-- the beginnings of each kind
pub no_repair : (k : RecoveryKind) (a : NodeAddress) → IsRecovery k → k ≡ kind.Repair a → ⊥
no_repair k a is e = subst IsRecovery e is

pub begins_initial : (s : State) (k : RecoveryKind) (nodes : List NodeAddress) (entries : List NodeEntry) (rows : List SlotRow) (attempts : Option ℕ) (more : List Answered) → k ≡ kind.Initial
    → ((m : List Answered) → plan_of s m ≡ initial nodes entries rows m) → plan_of s more ≡ plan k nodes entries rows attempts more
unfolding plan
begins_initial s k nodes entries rows attempts more e h = h more ∙ sym (ap (λ l. plan l nodes entries rows attempts more) e)

slots_empty : (nodes : List NodeAddress) (entries : List NodeEntry) (rows : List SlotRow) (attempts : Option ℕ) (more : List Answered) → (length entries == 0) ≡ true → initial nodes entries rows more ≡ plan kind.Slots nodes entries rows attempts more
unfolding plan
slots_empty nodes [] rows attempts more h = refl
slots_empty nodes (e ∷ es) rows attempts more h = grind (arith, nat_tests)

slots_some : (nodes : List NodeAddress) (entries : List NodeEntry) (rows : List SlotRow) (attempts : Option ℕ) (more : List Answered) → (length entries == 0) ≡ false → refresh entries rows more ≡ plan kind.Slots nodes entries rows attempts more
unfolding plan
slots_some nodes [] rows attempts more h = absurd (cc)
slots_some nodes (e ∷ es) rows attempts more h = refl

pub begins_empty : (s : State) (k : RecoveryKind) (nodes : List NodeAddress) (entries : List NodeEntry) (rows : List SlotRow) (attempts : Option ℕ) (more : List Answered) → k ≡ kind.Slots → (length entries == 0) ≡ true
    → ((m : List Answered) → plan_of s m ≡ initial nodes entries rows m) → plan_of s more ≡ plan k nodes entries rows attempts more
begins_empty s k nodes entries rows attempts more e none h =
    h more ∙ slots_empty nodes entries rows attempts more none ∙ sym (ap (λ l. plan l nodes entries rows attempts more) e)

pub begins_slots : (s : State) (k : RecoveryKind) (nodes : List NodeAddress) (entries : List NodeEntry) (rows : List SlotRow) (attempts : Option ℕ) (more : List Answered) → k ≡ kind.Slots → (length entries == 0) ≡ false
    → ((m : List Answered) → plan_of s m ≡ refresh entries rows m) → plan_of s more ≡ plan k nodes entries rows attempts more
begins_slots s k nodes entries rows attempts more e some h =
    h more ∙ slots_some nodes entries rows attempts more some ∙ sym (ap (λ l. plan l nodes entries rows attempts more) e)
