-- What a plan asks next has no answer.
use Rattle.std.proofs.Common.{◌≡◌, ℕ, List, [], ◌∷◌, ◌++◌, Option, Some, None, refl, arith}
use Rattle.std.specs.List.{All}
use Rattle.std.proofs.lemmas.List.Elements.{All-nil, All-cons}
use Rattle.redis_error.specs.declared.redis_error.RedisError.{RedisError}
use Rattle.redis_error.specs.declared.redis_error.RedisError.TheVariants.{NotFound}
use Rattle.slot_hash.specs.declared.address.NodeAddress.{NodeAddress}
use Rattle.mux_routing.specs.declared.rows.SlotRow.{SlotRow}
use Rattle.mux_routing.specs.Shards.{addresses}
use Rattle.cluster_plan.specs.declared.asks.Part.{Part}
use Rattle.cluster_plan.specs.declared.asks.Part.TheVariants.{Initial, First, Second, Last}
use Rattle.cluster_plan.specs.declared.asks.Ask.{Ask}
use Rattle.cluster_plan.specs.declared.asks.Answer.{Answer}
use Rattle.cluster_plan.specs.declared.connections.NodeEntry.{NodeEntry}
use Rattle.cluster_plan.specs.Asks.{Answered, answer_to, link_told, passes, error_told, rows_told}
use Rattle.cluster_plan.specs.Connections.{connected_link, link_of, link_to}
use Rattle.cluster_plan.specs.Reached.{Reached, asked, by_link, by_none, connect, check, brought, connected, connecting, checked, reached, asked_for, arrived}
use Rattle.cluster_plan.specs.Refresh.{asks, Reply, awaited, good, bad, query, told, replied, queried, until_good, by_connected, first_replies, reached_again, reply_where, second_replies, visited, arrivals, all_asked, renewed, after_second, after_first, refresh}
use Rattle.cluster_plan.specs.Initial.{tries, in_address_order, begun_anew, after_tries, initial}
use Rattle.cluster_plan.specs.Laws.{GoesOnFrom}
use Rattle.cluster_plan.proofs.Choosing.{of_either}

-- what is asked to reach a node has no answer
abbrev pub IsUnanswered : List Answered → Reached → Type 0
IsUnanswered answers (asked x) = answer_to x answers ≡ None
IsUnanswered answers (by_link link) = Unit {0}
IsUnanswered answers (by_none error) = Unit {0}

brought_open : (answers : List Answered) (o : Option ℕ) (error : RedisError) → IsUnanswered answers (brought o error)
brought_open answers None error = tt
brought_open answers (Some link) error = tt

connected_open : (answers : List Answered) (x : Ask) (o : Option Answer) → answer_to x answers ≡ o → IsUnanswered answers (connected x o)
connected_open answers x None e = e
connected_open answers x (Some answer) e = brought_open answers (link_told answer) (error_told answer)

pub connecting_open : (answers : List Answered) (part : Part) (a : NodeAddress) → IsUnanswered answers (connecting part a answers)
connecting_open answers part a = connected_open answers (connect part a) (answer_to (connect part a) answers) refl

checked_open : (answers : List Answered) (x : Ask) (link : ℕ) (o : Option Answer) (r : Reached) → answer_to x answers ≡ o → IsUnanswered answers r → IsUnanswered answers (checked x link o r)
checked_open answers x link None r e h = e
checked_open answers x link (Some answer) r e h = of_either (IsUnanswered answers) (passes answer) (by_link link) r tt h

pub reached_open : (answers : List Answered) (part : Part) (a : NodeAddress) (o : Option ℕ) → IsUnanswered answers (reached part a o answers)
reached_open answers part a None = connecting_open answers part a
reached_open answers part a (Some link) =
    checked_open answers (check part a link) link (answer_to (check part a link) answers) (connecting part a answers) refl (connecting_open answers part a)

-- what is asked for has no answer
abbrev pub AreUnanswered : List Answered → List Ask → Type 0
AreUnanswered answers [] = Unit {0}
AreUnanswered answers (x ∷ xs) = (answer_to x answers ≡ None) × AreUnanswered answers xs

pub all_open : (answers : List Answered) (xs : List Ask) → AreUnanswered answers xs → All (λ x. answer_to x answers ≡ None) xs
all_open answers [] h = All-nil (λ x. answer_to x answers ≡ None)
all_open answers (x ∷ xs) h = All-cons (λ y. answer_to y answers ≡ None) x xs h.0 (all_open answers xs h.1)

pub one_more_asked : (answers : List Answered) (a : NodeAddress) (r : Reached) (more : List (NodeAddress × Reached)) → IsUnanswered answers r → AreUnanswered answers (asked_for more) → AreUnanswered answers (asked_for ((a, r) ∷ more))
one_more_asked answers a (asked x) more h g = (h, g)
one_more_asked answers a (by_link link) more h g = g
one_more_asked answers a (by_none error) more h g = g

pub tries_open : (answers : List Answered) (nodes : List NodeAddress) → AreUnanswered answers (asked_for (tries nodes answers))
tries_open answers [] = tt
tries_open answers (a ∷ more) = one_more_asked answers a (connecting Initial a answers) (tries more answers) (connecting_open answers Initial a) (tries_open answers more)

pub arrivals_open : (answers : List Answered) (entries : List NodeEntry) (nodes : List NodeAddress) → AreUnanswered answers (asked_for (arrivals entries nodes answers))
arrivals_open answers entries [] = tt
arrivals_open answers entries (a ∷ more) =
    one_more_asked answers a (reached Last a (link_to a entries) answers) (arrivals entries more answers)
    (reached_open answers Last a (link_to a entries)) (arrivals_open answers entries more)

-- what is asked for the slots has no answer
abbrev pub IsOpen : List Answered → Reply → Type 0
IsOpen answers (awaited x) = answer_to x answers ≡ None
IsOpen answers (good rows) = Unit {0}
IsOpen answers (bad error) = Unit {0}

told_open : (answers : List Answered) (o : Option (List SlotRow)) (error : RedisError) → IsOpen answers (told o error)
told_open answers None error = tt
told_open answers (Some rows) error = tt

replied_open : (answers : List Answered) (x : Ask) (o : Option Answer) → answer_to x answers ≡ o → IsOpen answers (replied x o)
replied_open answers x None e = e
replied_open answers x (Some answer) e = told_open answers (rows_told x.address.host answer) (error_told answer)

queried_open : (answers : List Answered) (part : Part) (a : NodeAddress) (link : ℕ) → IsOpen answers (queried part a link answers)
queried_open answers part a link = replied_open answers (query part a link) (answer_to (query part a link) answers) refl

where_open : (answers : List Answered) (a : NodeAddress) (r : Reached) → IsUnanswered answers r → IsOpen answers (reply_where a r answers)
where_open answers a (asked x) h = h
where_open answers a (by_link link) h = queried_open answers Second a link
where_open answers a (by_none error) h = tt

abbrev pub AreOpen : List Answered → List Reply → Type 0
AreOpen answers [] = Unit {0}
AreOpen answers (r ∷ rs) = IsOpen answers r × AreOpen answers rs

until_open : (answers : List Answered) (last : RedisError) (rs : List Reply) → AreOpen answers rs → IsOpen answers (until_good last rs)
until_open answers last [] h = tt
until_open answers last (awaited x ∷ more) h = h.0
until_open answers last (good rows ∷ more) h = tt
until_open answers last (bad error ∷ more) h = until_open answers error more h.1

one_more_connected : (answers : List Answered) (a : NodeAddress) (o : Option ℕ) (rs : List Reply) → AreOpen answers rs → AreOpen answers (by_connected a o answers ++ rs)
one_more_connected answers a None rs h = h
one_more_connected answers a (Some link) rs h = (queried_open answers First a link, h)

first_open : (answers : List Answered) (entries : List NodeEntry) → AreOpen answers (first_replies entries answers)
first_open answers [] = tt
first_open answers (e ∷ es) = one_more_connected answers e.address (connected_link e.state) (first_replies es answers) (first_open answers es)

second_open : (answers : List Answered) (entries : List NodeEntry) → AreOpen answers (second_replies entries answers)
second_open answers [] = tt
second_open answers (e ∷ es) =
    (where_open answers e.address (reached_again e answers) (reached_open answers Second e.address (link_of e.state)), second_open answers es)

-- one ask that has no answer
pub one_open : (answers : List Answered) (x : Ask) → answer_to x answers ≡ None → GoesOnFrom answers (asks (x ∷ []))
one_open answers x h = (omega arith, all_open answers (x ∷ []) (h, tt))

pub asked_open : (answers : List Answered) (xs : List Ask) → AreUnanswered answers xs → GoesOnFrom answers (all_asked xs)
asked_open answers [] h = tt
asked_open answers (x ∷ xs) h = (omega arith, all_open answers (x ∷ xs) h)

renewed_open : (answers : List Answered) (entries : List NodeEntry) (rows : List SlotRow) → GoesOnFrom answers (renewed entries rows answers).next
renewed_open answers entries rows = asked_open answers (asked_for (arrivals entries (addresses rows) answers)) (arrivals_open answers entries (addresses rows))

after_second_open : (answers : List Answered) (entries : List NodeEntry) (rows : List SlotRow) (reply : Reply) → IsOpen answers reply → GoesOnFrom answers (after_second entries rows answers reply).next
after_second_open answers entries rows (awaited x) h = one_open answers x h
after_second_open answers entries rows (good new) h = renewed_open answers entries new
after_second_open answers entries rows (bad error) h = tt

after_first_open : (answers : List Answered) (entries : List NodeEntry) (rows : List SlotRow) (reply : Reply) → IsOpen answers reply → GoesOnFrom answers (after_first entries rows answers reply).next
after_first_open answers entries rows (awaited x) h = one_open answers x h
after_first_open answers entries rows (good new) h = renewed_open answers entries new
after_first_open answers entries rows (bad error) h =
    after_second_open answers (visited entries answers) rows (until_good NotFound (second_replies entries answers))
    (until_open answers NotFound (second_replies entries answers) (second_open answers entries))

pub refresh_open : (answers : List Answered) (entries : List NodeEntry) (rows : List SlotRow) → GoesOnFrom answers (refresh entries rows answers).next
refresh_open answers entries rows =
    after_first_open answers entries rows (until_good NotFound (first_replies entries answers))
    (until_open answers NotFound (first_replies entries answers) (first_open answers entries))

begun_open : (answers : List Answered) (entries new : List NodeEntry) (rows : List SlotRow) → GoesOnFrom answers (begun_anew NotFound entries rows answers new).next
begun_open answers entries [] rows = tt
begun_open answers entries (e ∷ es) rows = refresh_open answers (in_address_order (e ∷ es)) []

after_tries_open : (answers : List Answered) (entries : List NodeEntry) (rows : List SlotRow) (nodes : List (NodeAddress × Reached)) (xs : List Ask) → AreUnanswered answers xs → GoesOnFrom answers (after_tries NotFound entries rows answers nodes xs).next
after_tries_open answers entries rows nodes [] h = begun_open answers entries (arrived nodes) rows
after_tries_open answers entries rows nodes (x ∷ xs) h = (omega arith, all_open answers (x ∷ xs) h)

pub initial_open : (answers : List Answered) (nodes : List NodeAddress) (entries : List NodeEntry) (rows : List SlotRow) → GoesOnFrom answers (initial nodes entries rows answers).next
initial_open answers nodes entries rows = after_tries_open answers entries rows (tries nodes answers) (asked_for (tries nodes answers)) (tries_open answers nodes)
