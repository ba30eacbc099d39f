-- An answer that is none to what is asked of a node leaves what comes of it as it was.
use Rattle.std.proofs.Common.{◌≡◌, ℕ, ◌==◌, ◌&&◌, Bool, true, false, List, [], ◌∷◌, ◌++◌, Option, Some, None, refl, sym, ◌∙◌, ap, if◌then◌else◌}
use Rattle.std.specs.List.{list_all}
use Rattle.std.specs.Str.{bytes_eq}
use Rattle.std.proofs.lemmas.Bool.Decides.{nat_tests}
use Rattle.std.proofs.lemmas.Slice.Eq.{bytes_eq-Decides}
use Rattle.std.proofs.Common.{subst, arith}
use Rattle.containers.proofs.Choices.{both_left, both_right, by_test}
use Rattle.redis_error.specs.declared.redis_error.RedisError.TheVariants.{NotFound}
use Rattle.slot_hash.specs.declared.address.NodeAddress.{NodeAddress}
use Rattle.mux_routing.specs.declared.rows.SlotRow.{SlotRow}
use Rattle.mux_routing.specs.Shards.{address_less, addresses}
use Rattle.cluster_retries.proofs.AddressOrder.{not_itself}
use Rattle.cluster_plan.specs.declared.asks.Ask.{Ask}
use Rattle.cluster_plan.specs.declared.asks.Answer.{Answer}
use Rattle.cluster_plan.specs.declared.asks.Part.{Part}
use Rattle.cluster_plan.specs.declared.asks.Part.TheVariants.{First, Second, Last}
use Rattle.cluster_plan.specs.declared.asks.Request.{Request}
use Rattle.cluster_plan.specs.declared.asks.Request.TheVariants as request
use Rattle.cluster_plan.specs.declared.connections.NodeEntry.{NodeEntry}
use Rattle.cluster_plan.specs.Asks.{Answered, answer_to, is_ask, part_number, request_number, same_address}
use Rattle.cluster_plan.specs.Connections.{connected_link, link_of, link_to, entry}
use Rattle.cluster_plan.specs.Reached.{Reached, asked, by_link, by_none, check, checked, connect, connected, connecting, reached}
use Rattle.cluster_plan.specs.Recovering.{places}
use Rattle.cluster_plan.specs.Refresh.{Plan, Reply, awaited, good, bad, query, replied, queried, until_good, by_connected, first_replies, state_after, reached_again, reply_where, second_replies, behind, visited, arrivals, renewed_by, renewed, after_second, second_pass, after_first, refresh}
use Rattle.cluster_plan.proofs.Choosing.{and_false}

-- an answer to no ask of that part about that node
abbrev pub Misses : Part → NodeAddress → Answered → Type 0
Misses part a x = (wanted : Request) → is_ask (record { part = part; address = a; request = wanted }) x.0 ≡ false

-- to one of another part
abbrev pub IsElsewhere : Part → Answered → Type 0
IsElsewhere part x = (part_number part == part_number x.0.part) ≡ false

pub other_part : (part : Part) (a : NodeAddress) (x : Answered) → IsElsewhere part x → Misses part a x
other_part part a x h wanted = ap (λ b. b && (request_number wanted == request_number x.0.request) && same_address a x.0.address) h

-- to one about another node
pub other_place : (part : Part) (a : NodeAddress) (x : Answered) → same_address a x.0.address ≡ false → Misses part a x
other_place part a x h wanted =
    ap (λ b. part_number part == part_number x.0.part && request_number wanted == request_number x.0.request && b) h
    ∙ and_false (part_number part == part_number x.0.part && request_number wanted == request_number x.0.request)

abbrev pub MissesAll : Part → List NodeAddress → Answered → Type 0
MissesAll part [] x = Unit {0}
MissesAll part (a ∷ rest) x = Misses part a x × MissesAll part rest x

pub others_part : (part : Part) (nodes : List NodeAddress) (x : Answered) → IsElsewhere part x → MissesAll part nodes x
others_part part [] x h = tt
others_part part (a ∷ rest) x h = (other_part part a x h, others_part part rest x h)

same_place : (a b : NodeAddress) → same_address b a ≡ true → a ≡ b
same_place a b t =
    let hosts : b.host ≡ a.host = (bytes_eq-Decides b.host a.host).0 (both_left (bytes_eq b.host a.host) (b.port == a.port) t) in
    let tested : (b.port == a.port) ≡ true = both_right (bytes_eq b.host a.host) (b.port == a.port) t in
    let ports : a.port ≡ b.port = grind (arith, nat_tests) in
    let back : a.host ≡ b.host = sym hosts in
    λ i. record { host = back i; port = ports i }

pub before_differs : (a b : NodeAddress) → address_less a b ≡ true → same_address b a ≡ false
before_differs a b h =
    by_test (same_address b a) (same_address b a ≡ false)
    (λ t. let none : address_less a a ≡ true = subst (λ c. address_less a c ≡ true) (sym (same_place a b t)) h in
    let e : ◌≡◌ {A = Bool} true false = sym none ∙ not_itself a in absurd (cc))
    (λ f. f)

pub differs_before : (a b : NodeAddress) → address_less a b ≡ true → same_address a b ≡ false
differs_before a b h =
    by_test (same_address a b) (same_address a b ≡ false)
    (λ t. let none : address_less a a ≡ true = subst (λ c. address_less a c ≡ true) (same_place b a t) h in
    let e : ◌≡◌ {A = Bool} true false = sym none ∙ not_itself a in absurd (cc))
    (λ f. f)

pub itself_same : (a : NodeAddress) → same_address a a ≡ true
itself_same a = let h : bytes_eq a.host a.host ≡ true = (bytes_eq-Decides a.host a.host).1 refl in grind (arith, nat_tests, h)

-- nodes that come behind the one that is asked
pub others_behind : (part : Part) (nodes : List NodeAddress) (x : Answered) → list_all (address_less x.0.address) nodes ≡ true → MissesAll part nodes x
others_behind part [] x h = tt
others_behind part (a ∷ rest) x h = (
  other_place part a x (before_differs x.0.address a (both_left (address_less x.0.address a) (list_all (address_less x.0.address) rest) h)),
  others_behind part rest x (both_right (address_less x.0.address a) (list_all (address_less x.0.address) rest) h),
)

pub answer_missed : (y : Ask) (x : Answered) (more : List Answered) → is_ask y x.0 ≡ false → answer_to y (x ∷ more) ≡ answer_to y more
answer_missed y x more h = ap (λ b. if b then Some x.1 else answer_to y more) h

pub connecting_missed : (part : Part) (a : NodeAddress) (x : Answered) (more : List Answered) → Misses part a x → connecting part a (x ∷ more) ≡ connecting part a more
connecting_missed part a x more h = ap (connected (connect part a)) (answer_missed (connect part a) x more (h request.Connect))

pub reached_missed : (part : Part) (a : NodeAddress) (o : Option ℕ) (x : Answered) (more : List Answered) → Misses part a x → reached part a o (x ∷ more) ≡ reached part a o more
reached_missed part a None x more h = connecting_missed part a x more h
reached_missed part a (Some link) x more h =
    let one : answer_to (check part a link) (x ∷ more) ≡ answer_to (check part a link) more = answer_missed (check part a link) x more (h (request.Check link)) in
    let other : connecting part a (x ∷ more) ≡ connecting part a more = connecting_missed part a x more h in
    λ i. checked (check part a link) link (one i) (other i)

pub queried_missed : (part : Part) (a : NodeAddress) (link : ℕ) (x : Answered) (more : List Answered) → Misses part a x → queried part a link (x ∷ more) ≡ queried part a link more
queried_missed part a link x more h = ap (replied (query part a link)) (answer_missed (query part a link) x more (h (request.Query link)))

by_connected_missed : (a : NodeAddress) (o : Option ℕ) (x : Answered) (more : List Answered) → Misses First a x → by_connected a o (x ∷ more) ≡ by_connected a o more
by_connected_missed a None x more h = refl
by_connected_missed a (Some link) x more h = ap (λ r. r ∷ []) (queried_missed First a link x more h)

pub first_missed : (entries : List NodeEntry) (x : Answered) (more : List Answered) → MissesAll First (places entries) x → first_replies entries (x ∷ more) ≡ first_replies entries more
first_missed [] x more h = refl
first_missed (e ∷ es) x more h =
    let one : by_connected e.address (connected_link e.state) (x ∷ more) ≡ by_connected e.address (connected_link e.state) more = by_connected_missed e.address (connected_link e.state) x more h.0 in
    let others : first_replies es (x ∷ more) ≡ first_replies es more = first_missed es x more h.1 in
    λ i. one i ++ others i

where_missed : (a : NodeAddress) (r : Reached) (x : Answered) (more : List Answered) → Misses Second a x → reply_where a r (x ∷ more) ≡ reply_where a r more
where_missed a (asked y) x more h = refl
where_missed a (by_link link) x more h = queried_missed Second a link x more h
where_missed a (by_none error) x more h = refl

reply_missed : (e : NodeEntry) (x : Answered) (more : List Answered) → Misses Second e.address x → reply_where e.address (reached_again e (x ∷ more)) (x ∷ more) ≡ reply_where e.address (reached_again e more) more
reply_missed e x more h =
    ap (λ r. reply_where e.address r (x ∷ more)) (reached_missed Second e.address (link_of e.state) x more h)
    ∙ where_missed e.address (reached_again e more) x more h

pub second_missed : (entries : List NodeEntry) (x : Answered) (more : List Answered) → MissesAll Second (places entries) x → second_replies entries (x ∷ more) ≡ second_replies entries more
second_missed [] x more h = refl
second_missed (e ∷ es) x more h =
    let one : reply_where e.address (reached_again e (x ∷ more)) (x ∷ more) ≡ reply_where e.address (reached_again e more) more = reply_missed e x more h.0 in
    let others : second_replies es (x ∷ more) ≡ second_replies es more = second_missed es x more h.1 in
    λ i. one i ∷ others i

pub visited_missed : (entries : List NodeEntry) (x : Answered) (more : List Answered) → MissesAll Second (places entries) x → visited entries (x ∷ more) ≡ visited entries more
visited_missed [] x more h = refl
visited_missed (e ∷ es) x more h =
    let one : reply_where e.address (reached_again e (x ∷ more)) (x ∷ more) ≡ reply_where e.address (reached_again e more) more = reply_missed e x more h.0 in
    let here : reached_again e (x ∷ more) ≡ reached_again e more = reached_missed Second e.address (link_of e.state) x more h.0 in
    let others : visited es (x ∷ more) ≡ visited es more = visited_missed es x more h.1 in
    λ i. entry e.address (state_after e.state (here i)) ∷ behind (one i) (others i) es

arrivals_missed : (entries : List NodeEntry) (nodes : List NodeAddress) (x : Answered) (more : List Answered) → IsElsewhere Last x → arrivals entries nodes (x ∷ more) ≡ arrivals entries nodes more
arrivals_missed entries [] x more h = refl
arrivals_missed entries (a ∷ rest) x more h =
    let one : reached Last a (link_to a entries) (x ∷ more) ≡ reached Last a (link_to a entries) more = reached_missed Last a (link_to a entries) x more (other_part Last a x h) in
    let others : arrivals entries rest (x ∷ more) ≡ arrivals entries rest more = arrivals_missed entries rest x more h in
    λ i. (a, one i) ∷ others i

pub renewed_missed : (entries : List NodeEntry) (rows : List SlotRow) (x : Answered) (more : List Answered) → IsElsewhere Last x → renewed entries rows (x ∷ more) ≡ renewed entries rows more
renewed_missed entries rows x more h = ap (renewed_by entries rows) (arrivals_missed entries (addresses rows) x more h)

pub after_second_missed : (entries : List NodeEntry) (rows : List SlotRow) (reply : Reply) (x : Answered) (more : List Answered) → IsElsewhere Last x → after_second entries rows (x ∷ more) reply ≡ after_second entries rows more reply
after_second_missed entries rows (awaited y) x more h = refl
after_second_missed entries rows (good new) x more h = renewed_missed entries new x more h
after_second_missed entries rows (bad error) x more h = refl

second_pass_missed : (entries : List NodeEntry) (rows : List SlotRow) (x : Answered) (more : List Answered) → IsElsewhere Second x → IsElsewhere Last x → second_pass entries rows (x ∷ more) ≡ second_pass entries rows more
second_pass_missed entries rows x more h g =
    let gone : visited entries (x ∷ more) ≡ visited entries more = visited_missed entries x more (others_part Second (places entries) x h) in
    let replies : second_replies entries (x ∷ more) ≡ second_replies entries more = second_missed entries x more (others_part Second (places entries) x h) in
    (λ i. after_second (gone i) rows (x ∷ more) (until_good NotFound (replies i)))
    ∙ after_second_missed (visited entries more) rows (until_good NotFound (second_replies entries more)) x more g

pub after_first_missed : (entries : List NodeEntry) (rows : List SlotRow) (reply : Reply) (x : Answered) (more : List Answered) → IsElsewhere Second x → IsElsewhere Last x → after_first entries rows (x ∷ more) reply ≡ after_first entries rows more reply
after_first_missed entries rows (awaited y) x more h g = refl
after_first_missed entries rows (good new) x more h g = renewed_missed entries new x more g
after_first_missed entries rows (bad error) x more h g = second_pass_missed entries rows x more h g

pub refresh_missed : (entries : List NodeEntry) (rows : List SlotRow) (x : Answered) (more : List Answered) → IsElsewhere First x → IsElsewhere Second x → IsElsewhere Last x → refresh entries rows (x ∷ more) ≡ refresh entries rows more
refresh_missed entries rows x more f h g =
    ap (λ rs. after_first entries rows (x ∷ more) (until_good NotFound rs)) (first_missed entries x more (others_part First (places entries) x f))
    ∙ after_first_missed entries rows (until_good NotFound (first_replies entries more)) x more h g
