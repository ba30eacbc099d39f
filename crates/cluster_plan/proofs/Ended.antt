-- What has ended stays as it is.
use Rattle.std.proofs.Common.{◌≡◌, ◌≢◌, ℕ, ◌==◌, Bool, true, false, List, [], ◌∷◌, ◌++◌, Option, Some, None, refl, sym, ◌∙◌, ap, subst, if◌then◌else◌}
use Rattle.std.specs.List.{All}
use Rattle.redis_error.specs.declared.redis_error.RedisError.{RedisError}
use Rattle.redis_error.specs.declared.redis_error.RedisError.TheVariants.{NotFound}
use Rattle.slot_hash.specs.declared.address.NodeAddress.{NodeAddress}
use Rattle.mux_routing.specs.declared.rows.SlotRow.{SlotRow}
use Rattle.mux_routing.specs.Shards.{addresses}
use Rattle.cluster_plan.specs.declared.asks.Part.{Part}
use Rattle.cluster_plan.specs.declared.asks.Part.TheVariants.{Initial, First, Second, Last}
use Rattle.cluster_plan.specs.declared.asks.Ask.{Ask}
use Rattle.cluster_plan.specs.declared.asks.Answer.{Answer}
use Rattle.cluster_plan.specs.declared.connections.NodeEntry.{NodeEntry}
use Rattle.cluster_plan.specs.declared.recovery_kind.Failure.TheVariants.{Create}
use Rattle.cluster_plan.specs.declared.recovery_kind.RecoveryKind.TheVariants as kind
use Rattle.cluster_plan.specs.Asks.{Answered, answer_to, is_ask, link_told, passes, error_told, part_number}
use Rattle.cluster_plan.specs.Connections.{connected_link, link_of, link_to, entry}
use Rattle.cluster_plan.specs.Reached.{Reached, asked, by_link, by_none, connect, check, connected, connecting, checked, reached, asked_for, arrived}
use Rattle.cluster_plan.specs.Refresh.{failed, Plan, Reply, awaited, good, bad, query, replied, queried, until_good, by_connected, first_replies, state_after, reached_again, reply_where, second_replies, behind, visited, arrivals, all_asked, renewed_by, renewed, after_second, second_pass, after_first, refresh}
use Rattle.cluster_plan.specs.Initial.{tries, last_failure, later_failure, in_address_order, begun_anew, after_tries, initial}
use Rattle.cluster_plan.specs.Plan.{plan}
use Rattle.cluster_plan.specs.Laws.{HasEnded, StaysEnded}
use Rattle.cluster_plan.proofs.Creating.{left_last}

-- an answer that there was stays
abbrev pub KeepsAnswer : Option Answer → Option Answer → Type 0
KeepsAnswer None later = Unit {0}
KeepsAnswer (Some found) later = later ≡ Some found

same_kept : (o later : Option Answer) → later ≡ o → KeepsAnswer o later
same_kept None later e = tt
same_kept (Some found) later e = e

pub answer_kept : (x : Ask) (answers more : List Answered) → KeepsAnswer (answer_to x answers) (answer_to x (answers ++ more))
answer_kept x [] more = tt
answer_kept x (a ∷ answers) more =
    elim (is_ask x a.0) as (λ b. KeepsAnswer (if b then Some a.1 else answer_to x answers) (if b then Some a.1 else answer_to x (answers ++ more)))
    [ true ↦ refl | false ↦ answer_kept x answers more ]

-- a node that isn't asked for any more stays as it was reached
abbrev pub KeepsReached : Reached → Reached → Type 0
KeepsReached (asked x) later = Unit {0}
KeepsReached (by_link link) later = later ≡ by_link link
KeepsReached (by_none error) later = later ≡ by_none error

same_reached : (r later : Reached) → later ≡ r → KeepsReached r later
same_reached (asked x) later e = tt
same_reached (by_link link) later e = e
same_reached (by_none error) later e = e

connected_kept : (x : Ask) (o later : Option Answer) → KeepsAnswer o later → KeepsReached (connected x o) (connected x later)
connected_kept x None later h = tt
connected_kept x (Some found) later h = same_reached (connected x (Some found)) (connected x later) (ap (connected x) h)

either_kept : (b : Bool) (link : ℕ) (r later : Reached) → KeepsReached r later → KeepsReached (if b then by_link link else r) (if b then by_link link else later)
either_kept true link r later h = refl
either_kept false link r later h = h

checked_kept : (x : Ask) (link : ℕ) (o later : Option Answer) (r since : Reached) → KeepsAnswer o later → KeepsReached r since → KeepsReached (checked x link o r) (checked x link later since)
checked_kept x link None later r since h g = tt
checked_kept x link (Some found) later r since h g =
    subst (λ l. KeepsReached (checked x link (Some found) r) (checked x link l since)) (sym h) (either_kept (passes found) link r since g)

connecting_kept : (answers more : List Answered) (part : Part) (a : NodeAddress) → KeepsReached (connecting part a answers) (connecting part a (answers ++ more))
connecting_kept answers more part a =
    connected_kept (connect part a) (answer_to (connect part a) answers) (answer_to (connect part a) (answers ++ more)) (answer_kept (connect part a) answers more)

reached_kept : (answers more : List Answered) (part : Part) (a : NodeAddress) (o : Option ℕ) → KeepsReached (reached part a o answers) (reached part a o (answers ++ more))
reached_kept answers more part a None = connecting_kept answers more part a
reached_kept answers more part a (Some link) =
    checked_kept (check part a link) link (answer_to (check part a link) answers) (answer_to (check part a link) (answers ++ more))
    (connecting part a answers) (connecting part a (answers ++ more)) (answer_kept (check part a link) answers more) (connecting_kept answers more part a)

-- where nothing is asked for any more, all stay
one_kept : (a : NodeAddress) (r later : Reached) (rest : List (NodeAddress × Reached)) (others : List (NodeAddress × Reached)) → KeepsReached r later → asked_for ((a, r) ∷ rest) ≡ [] → (asked_for rest ≡ [] → others ≡ rest) → (a, later) ∷ others ≡ (a, r) ∷ rest
one_kept a (asked x) later rest others h e g = absurd (cc)
one_kept a (by_link link) later rest others h e g = let f : others ≡ rest = g e in λ i. (a, h i) ∷ f i
one_kept a (by_none error) later rest others h e g = let f : others ≡ rest = g e in λ i. (a, h i) ∷ f i

pub tries_kept : (nodes : List NodeAddress) (answers more : List Answered) → asked_for (tries nodes answers) ≡ [] → tries nodes (answers ++ more) ≡ tries nodes answers
tries_kept [] answers more e = refl
tries_kept (a ∷ rest) answers more e =
    one_kept a (connecting Initial a answers) (connecting Initial a (answers ++ more)) (tries rest answers) (tries rest (answers ++ more))
    (connecting_kept answers more Initial a) e (tries_kept rest answers more)

arrivals_kept : (entries : List NodeEntry) (nodes : List NodeAddress) (answers more : List Answered) → asked_for (arrivals entries nodes answers) ≡ [] → arrivals entries nodes (answers ++ more) ≡ arrivals entries nodes answers
arrivals_kept entries [] answers more e = refl
arrivals_kept entries (a ∷ rest) answers more e =
    one_kept a (reached Last a (link_to a entries) answers) (reached Last a (link_to a entries) (answers ++ more)) (arrivals entries rest answers) (arrivals entries rest (answers ++ more))
    (reached_kept answers more Last a (link_to a entries)) e (arrivals_kept entries rest answers more)

-- a reply that is there stays
abbrev pub KeepsReply : Reply → Reply → Type 0
KeepsReply (awaited x) later = Unit {0}
KeepsReply (good rows) later = later ≡ good rows
KeepsReply (bad error) later = later ≡ bad error

same_reply : (r later : Reply) → later ≡ r → KeepsReply r later
same_reply (awaited x) later e = tt
same_reply (good rows) later e = e
same_reply (bad error) later e = e

replied_kept : (x : Ask) (o later : Option Answer) → KeepsAnswer o later → KeepsReply (replied x o) (replied x later)
replied_kept x None later h = tt
replied_kept x (Some found) later h = same_reply (replied x (Some found)) (replied x later) (ap (replied x) h)

queried_kept : (answers more : List Answered) (part : Part) (a : NodeAddress) (link : ℕ) → KeepsReply (queried part a link answers) (queried part a link (answers ++ more))
queried_kept answers more part a link =
    replied_kept (query part a link) (answer_to (query part a link) answers) (answer_to (query part a link) (answers ++ more)) (answer_kept (query part a link) answers more)

where_kept : (answers more : List Answered) (a : NodeAddress) (r later : Reached) → KeepsReached r later → KeepsReply (reply_where a r answers) (reply_where a later (answers ++ more))
where_kept answers more a (asked x) later h = tt
where_kept answers more a (by_link link) later h =
    subst (λ l. KeepsReply (queried Second a link answers) (reply_where a l (answers ++ more))) (sym h) (queried_kept answers more Second a link)
where_kept answers more a (by_none error) later h =
    ap (λ l. reply_where a l (answers ++ more)) h

until_kept : (last : RedisError) (r later : Reply) (rs others : List Reply) → KeepsReply r later → ((error : RedisError) → KeepsReply (until_good error rs) (until_good error others)) → KeepsReply (until_good last (r ∷ rs)) (until_good last (later ∷ others))
until_kept last (awaited x) later rs others h g = tt
until_kept last (good rows) later rs others h g = ap (λ l. until_good last (l ∷ others)) h
until_kept last (bad error) later rs others h g =
    subst (λ l. KeepsReply (until_good error rs) (until_good last (l ∷ others))) (sym h) (g error)

one_first_kept : (last : RedisError) (answers more : List Answered) (a : NodeAddress) (o : Option ℕ) (rs others : List Reply) → ((error : RedisError) → KeepsReply (until_good error rs) (until_good error others)) → KeepsReply (until_good last (by_connected a o answers ++ rs)) (until_good last (by_connected a o (answers ++ more) ++ others))
one_first_kept last answers more a None rs others g = g last
one_first_kept last answers more a (Some link) rs others g =
    until_kept last (queried First a link answers) (queried First a link (answers ++ more)) rs others (queried_kept answers more First a link) g

pub first_kept : (last : RedisError) (entries : List NodeEntry) (answers more : List Answered) → KeepsReply (until_good last (first_replies entries answers)) (until_good last (first_replies entries (answers ++ more)))
first_kept last [] answers more = refl
first_kept last (e ∷ es) answers more =
    one_first_kept last answers more e.address (connected_link e.state) (first_replies es answers) (first_replies es (answers ++ more))
    (λ error. first_kept error es answers more)

second_one_kept : (e : NodeEntry) (answers more : List Answered) → KeepsReply (reply_where e.address (reached_again e answers) answers) (reply_where e.address (reached_again e (answers ++ more)) (answers ++ more))
second_one_kept e answers more =
    where_kept answers more e.address (reached_again e answers) (reached_again e (answers ++ more)) (reached_kept answers more Second e.address (link_of e.state))

pub second_kept : (last : RedisError) (entries : List NodeEntry) (answers more : List Answered) → KeepsReply (until_good last (second_replies entries answers)) (until_good last (second_replies entries (answers ++ more)))
second_kept last [] answers more = refl
second_kept last (e ∷ es) answers more =
    until_kept last (reply_where e.address (reached_again e answers) answers) (reply_where e.address (reached_again e (answers ++ more)) (answers ++ more))
    (second_replies es answers) (second_replies es (answers ++ more)) (second_one_kept e answers more) (λ error. second_kept error es answers more)

-- whether a reply is there
abbrev pub IsThere : Reply → Type 0
IsThere (awaited x) = ⊥
IsThere (good rows) = Unit {0}
IsThere (bad error) = Unit {0}

pub kept_reply : (r later : Reply) → KeepsReply r later → IsThere r → later ≡ r
kept_reply (awaited x) later h is = absurd is
kept_reply (good rows) later h is = h
kept_reply (bad error) later h is = h

-- a pass that has come to a reply has come to one at its first entry, or it goes on behind a bad one
abbrev pub IsBad : Reply → Type 0
IsBad (awaited x) = ⊥
IsBad (good rows) = ⊥
IsBad (bad error) = Unit {0}

first_there : (last : RedisError) (r : Reply) (rs : List Reply) → IsThere (until_good last (r ∷ rs)) → IsThere r
first_there last (awaited x) rs h = absurd h
first_there last (good rows) rs h = tt
first_there last (bad error) rs h = tt

others_there : (last : RedisError) (r : Reply) (rs : List Reply) → IsBad r → IsThere (until_good last (r ∷ rs)) → (error : RedisError) × IsThere (until_good error rs)
others_there last (awaited x) rs b h = absurd b
others_there last (good rows) rs b h = absurd b
others_there last (bad error) rs b h = (error, h)

-- so the entries that it has gone through stay as they are
behind_kept : (r later : Reply) (passed since es : List NodeEntry) → KeepsReply r later → IsThere r → (IsBad r → since ≡ passed) → behind later since es ≡ behind r passed es
behind_kept (awaited x) later passed since es h is g = absurd is
behind_kept (good rows) later passed since es h is g = ap (λ l. behind l since es) h
behind_kept (bad error) later passed since es h is g = ap (λ l. behind l since es) h ∙ g tt

reached_there : (a : NodeAddress) (r later : Reached) (answers : List Answered) → KeepsReached r later → IsThere (reply_where a r answers) → later ≡ r
reached_there a (asked x) later answers h is = absurd is
reached_there a (by_link link) later answers h is = h
reached_there a (by_none error) later answers h is = h

pub visited_kept : (last : RedisError) (entries : List NodeEntry) (answers more : List Answered) → IsThere (until_good last (second_replies entries answers)) → visited entries (answers ++ more) ≡ visited entries answers
visited_kept last [] answers more is = refl
visited_kept last (e ∷ es) answers more is =
    let r : Reply = reply_where e.address (reached_again e answers) answers in
    let later : Reply = reply_where e.address (reached_again e (answers ++ more)) (answers ++ more) in
    let here : IsThere (reply_where e.address (reached_again e answers) answers) = first_there last (reply_where e.address (reached_again e answers) answers) (second_replies es answers) is in
    let same : reached_again e (answers ++ more) ≡ reached_again e answers =
    reached_there e.address (reached_again e answers) (reached_again e (answers ++ more)) answers (reached_kept answers more Second e.address (link_of e.state)) here in
    let rest : behind later (visited es (answers ++ more)) es ≡ behind r (visited es answers) es =
    behind_kept r later (visited es answers) (visited es (answers ++ more)) es (second_one_kept e answers more) here
    (λ b. let goes : (error : RedisError) × IsThere (until_good error (second_replies es answers)) = others_there last r (second_replies es answers) b is in
    visited_kept goes.0 es answers more goes.1) in
    λ i. entry e.address (state_after e.state (same i)) ∷ rest i

-- a plan that has ended
abbrev pub Stays : (List Answered → Plan) → List Answered → List Answered → Type 0
Stays p answers more = HasEnded (p answers).next → p (answers ++ more) ≡ p answers

pub none_asked : (xs : List Ask) → HasEnded (all_asked xs) → xs ≡ []
none_asked [] h = refl
none_asked (x ∷ xs) h = absurd h

renewed_stays : (entries : List NodeEntry) (rows : List SlotRow) (answers more : List Answered) → Stays (renewed entries rows) answers more
renewed_stays entries rows answers more h =
    ap (renewed_by entries rows) (arrivals_kept entries (addresses rows) answers more (none_asked (asked_for (arrivals entries (addresses rows) answers)) h))

second_stays : (entries : List NodeEntry) (rows : List SlotRow) (answers more : List Answered) (reply : Reply) → HasEnded (after_second entries rows answers reply).next → after_second entries rows (answers ++ more) reply ≡ after_second entries rows answers reply
second_stays entries rows answers more (awaited x) h = absurd h
second_stays entries rows answers more (good new) h = renewed_stays entries new answers more h
second_stays entries rows answers more (bad error) h = refl

second_there : (entries : List NodeEntry) (rows : List SlotRow) (answers : List Answered) (reply : Reply) → HasEnded (after_second entries rows answers reply).next → IsThere reply
second_there entries rows answers (awaited x) h = h
second_there entries rows answers (good new) h = tt
second_there entries rows answers (bad error) h = tt

first_reply_there : (entries : List NodeEntry) (rows : List SlotRow) (answers : List Answered) (reply : Reply) → HasEnded (after_first entries rows answers reply).next → IsThere reply
first_reply_there entries rows answers (awaited x) h = h
first_reply_there entries rows answers (good new) h = tt
first_reply_there entries rows answers (bad error) h = tt

second_pass_stays : (entries : List NodeEntry) (rows : List SlotRow) (answers more : List Answered) → Stays (second_pass entries rows) answers more
second_pass_stays entries rows answers more h =
    let reply : Reply = until_good NotFound (second_replies entries answers) in
    let there : IsThere reply = second_there (visited entries answers) rows answers reply h in
    let same : until_good NotFound (second_replies entries (answers ++ more)) ≡ reply =
    kept_reply reply (until_good NotFound (second_replies entries (answers ++ more))) (second_kept NotFound entries answers more) there in
    let gone : visited entries (answers ++ more) ≡ visited entries answers = visited_kept NotFound entries answers more there in
    (λ i. after_second (gone i) rows (answers ++ more) (same i)) ∙ second_stays (visited entries answers) rows answers more reply h

first_stays : (entries : List NodeEntry) (rows : List SlotRow) (answers more : List Answered) (reply : Reply) → HasEnded (after_first entries rows answers reply).next → after_first entries rows (answers ++ more) reply ≡ after_first entries rows answers reply
first_stays entries rows answers more (awaited x) h = absurd h
first_stays entries rows answers more (good new) h = renewed_stays entries new answers more h
first_stays entries rows answers more (bad error) h = second_pass_stays entries rows answers more h

refresh_stays : (entries : List NodeEntry) (rows : List SlotRow) (answers more : List Answered) → Stays (refresh entries rows) answers more
refresh_stays entries rows answers more h =
    let reply : Reply = until_good NotFound (first_replies entries answers) in
    let there : IsThere reply = first_reply_there entries rows answers reply h in
    let same : until_good NotFound (first_replies entries (answers ++ more)) ≡ reply =
    kept_reply reply (until_good NotFound (first_replies entries (answers ++ more))) (first_kept NotFound entries answers more) there in
    ap (after_first entries rows (answers ++ more)) same ∙ first_stays entries rows answers more reply h

last_kept : (last : RedisError) (answers more : List Answered) → All (λ x. x.0.part ≢ Initial) more → last_failure last (answers ++ more) ≡ last_failure last answers
last_kept last [] more h = left_last last more h
last_kept last (x ∷ answers) more h = last_kept (if part_number x.0.part == part_number Initial then later_failure (link_told x.1) (error_told x.1) last else last) answers more h

begun_stays : (entries new : List NodeEntry) (rows : List SlotRow) (answers more : List Answered) → All (λ x. x.0.part ≢ Initial) more → HasEnded (begun_anew NotFound entries rows answers new).next → begun_anew NotFound entries rows (answers ++ more) new ≡ begun_anew NotFound entries rows answers new
begun_stays entries [] rows answers more g h =
    let same : last_failure NotFound (answers ++ more) ≡ last_failure NotFound answers = last_kept NotFound answers more g in
    λ i. record { entries = entries; rows = rows; held = []; next = failed (Create (same i)) }
begun_stays entries (n ∷ ns) rows answers more g h = refresh_stays (in_address_order (n ∷ ns)) [] answers more h

tries_stay : (entries : List NodeEntry) (rows : List SlotRow) (answers more : List Answered) (nodes : List (NodeAddress × Reached)) (xs : List Ask) → All (λ x. x.0.part ≢ Initial) more → HasEnded (after_tries NotFound entries rows answers nodes xs).next → (xs ≡ []) × (after_tries NotFound entries rows (answers ++ more) nodes [] ≡ after_tries NotFound entries rows answers nodes xs)
tries_stay entries rows answers more nodes [] g h = (refl, begun_stays entries (arrived nodes) rows answers more g h)
tries_stay entries rows answers more nodes (x ∷ xs) g h = absurd h

initial_stays : (nodes : List NodeAddress) (entries : List NodeEntry) (rows : List SlotRow) (answers more : List Answered) → All (λ x. x.0.part ≢ Initial) more → Stays (initial nodes entries rows) answers more
initial_stays nodes entries rows answers more g h =
    let parts : (asked_for (tries nodes answers) ≡ []) × (after_tries NotFound entries rows (answers ++ more) (tries nodes answers) [] ≡ after_tries NotFound entries rows answers (tries nodes answers) (asked_for (tries nodes answers))) =
    tries_stay entries rows answers more (tries nodes answers) (asked_for (tries nodes answers)) g h in
    let same : tries nodes (answers ++ more) ≡ tries nodes answers = tries_kept nodes answers more parts.0 in
    ap (λ ts. after_tries NotFound entries rows (answers ++ more) ts (asked_for ts)) same
    ∙ ap (after_tries NotFound entries rows (answers ++ more) (tries nodes answers)) parts.0
    ∙ parts.1

pub stays_ended : StaysEnded
unfolding plan
stays_ended kind.Initial nodes entries rows attempts answers more is h g = initial_stays nodes entries rows answers more g h
stays_ended kind.Slots nodes [] rows attempts answers more is h g = initial_stays nodes [] rows answers more g h
stays_ended kind.Slots nodes (n ∷ ns) rows attempts answers more is h g = refresh_stays (n ∷ ns) rows answers more h
stays_ended (kind.Repair a) nodes entries rows attempts answers more is h g = absurd is
