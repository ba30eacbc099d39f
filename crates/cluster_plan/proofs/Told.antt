-- A recovery that ends well has the rows that some node told, and a map of their nodes.
use Rattle.std.proofs.Common.{◌≡◌, ℕ, List, [], ◌∷◌, ◌++◌, Option, Some, None, refl}
use Rattle.std.specs.List.{All, Contains}
use Rattle.std.proofs.lemmas.List.Elements.{All-nil, All-cons, All-head, All-tail, All-contains_itself}
use Rattle.redis_error.specs.declared.redis_error.RedisError.{RedisError}
use Rattle.redis_error.specs.declared.redis_error.RedisError.TheVariants.{NotFound}
use Rattle.resp_value.specs.declared.value.Value.{Value}
use Rattle.resp_value.specs.View.{data_of}
use Rattle.slot_hash.specs.declared.address.NodeAddress.{NodeAddress}
use Rattle.mux_routing.specs.declared.rows.SlotRow.{SlotRow}
use Rattle.mux_routing.specs.Reply.{rows_of}
use Rattle.mux_routing.specs.Shards.{addresses}
use Rattle.cluster_plan.specs.declared.asks.Part.{Part}
use Rattle.cluster_plan.specs.declared.asks.Part.TheVariants.{First, Second, Last}
use Rattle.cluster_plan.specs.declared.asks.Ask.{Ask}
use Rattle.cluster_plan.specs.declared.asks.Answer.{Answer}
use Rattle.cluster_plan.specs.declared.asks.Answer.TheVariants as answer
use Rattle.cluster_plan.specs.declared.connections.ConnState.TheVariants.{Connected}
use Rattle.cluster_plan.specs.declared.connections.NodeEntry.{NodeEntry}
use Rattle.cluster_plan.specs.declared.recovery_kind.RecoveryKind.TheVariants as kind
use Rattle.cluster_plan.specs.Asks.{Answered, answer_to, error_of_reply}
use Rattle.cluster_plan.specs.Connections.{connected_link, link_to, entry}
use Rattle.cluster_plan.specs.Reached.{Reached, asked, by_link, by_none, reached, asked_for, arrived}
use Rattle.cluster_plan.specs.Refresh.{ok, Plan, Reply, awaited, good, bad, query, told, replied, queried, until_good, by_connected, first_replies, reached_again, reply_where, second_replies, visited, arrivals, remaining, all_asked, renewed, after_second, after_first, refresh}
use Rattle.cluster_plan.specs.Initial.{tries, in_address_order, begun_anew, after_tries}
use Rattle.cluster_plan.specs.Plan.{plan}
use Rattle.cluster_plan.specs.Laws.{IsTold, IsConnected, EndsWithRows}

-- a good reply is told by a node
abbrev pub IsOfNode : List Answered → Reply → Type 0
IsOfNode answers (awaited x) = Unit {0}
IsOfNode answers (good rows) = IsTold answers rows
IsOfNode answers (bad error) = Unit {0}

rows_of_node : (answers : List Answered) (part : Part) (a : NodeAddress) (link : ℕ) (v : Value) (o : Option (List SlotRow)) (error : RedisError) → answer_to (query part a link) answers ≡ Some (answer.Value v) → rows_of a.host (data_of v) ≡ o → IsOfNode answers (told o error)
rows_of_node answers part a link v None error e f = tt
rows_of_node answers part a link v (Some rows) error e f = (part, a, link, v, e, f)

replied_by : (answers : List Answered) (part : Part) (a : NodeAddress) (link : ℕ) (o : Option Answer) → answer_to (query part a link) answers ≡ o → IsOfNode answers (replied (query part a link) o)
replied_by answers part a link None e = tt
replied_by answers part a link (Some (answer.Value v)) e = rows_of_node answers part a link v (rows_of a.host (data_of v)) (error_of_reply (data_of v)) e refl
replied_by answers part a link (Some (answer.Connected l)) e = tt
replied_by answers part a link (Some (answer.Failed error)) e = tt
replied_by answers part a link (Some answer.Fired) e = tt

queried_by : (answers : List Answered) (part : Part) (a : NodeAddress) (link : ℕ) → IsOfNode answers (queried part a link answers)
queried_by answers part a link = replied_by answers part a link (answer_to (query part a link) answers) refl

where_by : (answers : List Answered) (a : NodeAddress) (r : Reached) → IsOfNode answers (reply_where a r answers)
where_by answers a (asked x) = tt
where_by answers a (by_link link) = queried_by answers Second a link
where_by answers a (by_none error) = tt

abbrev pub AreOfNodes : List Answered → List Reply → Type 0
AreOfNodes answers [] = Unit {0}
AreOfNodes answers (r ∷ rs) = IsOfNode answers r × AreOfNodes answers rs

until_by : (answers : List Answered) (last : RedisError) (rs : List Reply) → AreOfNodes answers rs → IsOfNode answers (until_good last rs)
until_by answers last [] h = tt
until_by answers last (awaited x ∷ more) h = tt
until_by answers last (good rows ∷ more) h = h.0
until_by answers last (bad error ∷ more) h = until_by answers error more h.1

one_more_by : (answers : List Answered) (a : NodeAddress) (o : Option ℕ) (rs : List Reply) → AreOfNodes answers rs → AreOfNodes answers (by_connected a o answers ++ rs)
one_more_by answers a None rs h = h
one_more_by answers a (Some link) rs h = (queried_by answers First a link, h)

first_by : (answers : List Answered) (entries : List NodeEntry) → AreOfNodes answers (first_replies entries answers)
first_by answers [] = tt
first_by answers (e ∷ es) = one_more_by answers e.address (connected_link e.state) (first_replies es answers) (first_by answers es)

second_by : (answers : List Answered) (entries : List NodeEntry) → AreOfNodes answers (second_replies entries answers)
second_by answers [] = tt
second_by answers (e ∷ es) = (where_by answers e.address (reached_again e answers), second_by answers es)

-- an entry of a new map
abbrev pub IsNew : List NodeAddress → NodeEntry → Type 0
IsNew nodes e = IsConnected e.state × Contains nodes e.address

one_remains : (all : List NodeAddress) (entries : List NodeEntry) (a : NodeAddress) (r : Reached) (more : List (NodeAddress × Reached)) → Contains all a → asked_for ((a, r) ∷ more) ≡ [] → (asked_for more ≡ [] → All (IsNew all) (remaining entries more)) → All (IsNew all) (remaining entries ((a, r) ∷ more))
one_remains all entries a (asked x) more h e rest = absurd (cc)
one_remains all entries a (by_link link) more h e rest = All-cons (IsNew all) (entry a (Connected link)) (remaining entries more) ((link, refl), h) (rest e)
one_remains all entries a (by_none error) more h e rest = rest e

new_remain : (all : List NodeAddress) (entries : List NodeEntry) (nodes : List NodeAddress) (answers : List Answered) → All (Contains all) nodes → asked_for (arrivals entries nodes answers) ≡ [] → All (IsNew all) (remaining entries (arrivals entries nodes answers))
new_remain all entries [] answers h e = All-nil (IsNew all)
new_remain all entries (a ∷ more) answers h e =
    one_remains all entries a (reached Last a (link_to a entries) answers) (arrivals entries more answers) (All-head (Contains all) a more h) e
    (λ f. new_remain all entries more answers (All-tail (Contains all) a more h) f)

-- how a plan that ends well stands
abbrev pub EndsWell : List Answered → Plan → Type 0
EndsWell answers p = p.next ≡ ok → IsTold answers p.rows × All (IsNew (addresses p.rows)) p.entries

none_asked : (xs : List Ask) → all_asked xs ≡ ok → xs ≡ []
none_asked [] e = refl
none_asked (x ∷ xs) e = absurd (cc)

renewed_well : (entries : List NodeEntry) (rows : List SlotRow) (answers : List Answered) → IsTold answers rows → EndsWell answers (renewed entries rows answers)
renewed_well entries rows answers h e =
    (h, new_remain (addresses rows) entries (addresses rows) answers (All-contains_itself (addresses rows)) (none_asked (asked_for (arrivals entries (addresses rows) answers)) e))

second_well : (entries : List NodeEntry) (rows : List SlotRow) (answers : List Answered) (reply : Reply) → IsOfNode answers reply → EndsWell answers (after_second entries rows answers reply)
second_well entries rows answers (awaited x) h e = absurd (cc)
second_well entries rows answers (good new) h e = renewed_well entries new answers h e
second_well entries rows answers (bad last) h e = absurd (cc)

first_well : (entries : List NodeEntry) (rows : List SlotRow) (answers : List Answered) (reply : Reply) → IsOfNode answers reply → EndsWell answers (after_first entries rows answers reply)
first_well entries rows answers (awaited x) h e = absurd (cc)
first_well entries rows answers (good new) h e = renewed_well entries new answers h e
first_well entries rows answers (bad last) h e =
    second_well (visited entries answers) rows answers (until_good NotFound (second_replies entries answers))
    (until_by answers NotFound (second_replies entries answers) (second_by answers entries)) e

refresh_well : (entries : List NodeEntry) (rows : List SlotRow) (answers : List Answered) → EndsWell answers (refresh entries rows answers)
refresh_well entries rows answers e =
    first_well entries rows answers (until_good NotFound (first_replies entries answers))
    (until_by answers NotFound (first_replies entries answers) (first_by answers entries)) e

begun_well : (entries new : List NodeEntry) (rows : List SlotRow) (answers : List Answered) → EndsWell answers (begun_anew NotFound entries rows answers new)
begun_well entries [] rows answers e = absurd (cc)
begun_well entries (n ∷ ns) rows answers e = refresh_well (in_address_order (n ∷ ns)) [] answers e

tries_well : (entries : List NodeEntry) (rows : List SlotRow) (answers : List Answered) (nodes : List (NodeAddress × Reached)) (xs : List Ask) → EndsWell answers (after_tries NotFound entries rows answers nodes xs)
tries_well entries rows answers nodes [] e = begun_well entries (arrived nodes) rows answers e
tries_well entries rows answers nodes (x ∷ xs) e = absurd (cc)

pub ends_with_rows : EndsWithRows
unfolding plan
ends_with_rows kind.Initial nodes entries rows attempts answers h e = tries_well entries rows answers (tries nodes answers) (asked_for (tries nodes answers)) e
ends_with_rows kind.Slots nodes [] rows attempts answers h e = tries_well [] rows answers (tries nodes answers) (asked_for (tries nodes answers)) e
ends_with_rows kind.Slots nodes (n ∷ ns) rows attempts answers h e = refresh_well (n ∷ ns) rows answers e
ends_with_rows (kind.Repair a) nodes entries rows attempts answers h e = absurd h
