-- A pass goes on behind an answer as its plan does.
use Rattle.std.proofs.Common.{◌≡◌, ℕ, ◌==◌, ◌&&◌, Bool, true, false, List, [], ◌∷◌, ◌++◌, Option, Some, None, refl, sym, ◌∙◌, ap, append_assoc, append-nil, if◌then◌else◌}
use Rattle.std.specs.List.{list_all}
use Rattle.containers.proofs.Choices.{both_left, both_right}
use Rattle.redis_error.specs.declared.redis_error.RedisError.{RedisError}
use Rattle.redis_error.specs.declared.redis_error.RedisError.TheVariants.{NotFound}
use Rattle.slot_hash.specs.declared.address.NodeAddress.{NodeAddress}
use Rattle.mux_routing.specs.declared.rows.SlotRow.{SlotRow}
use Rattle.mux_routing.specs.Shards.{address_less, in_order}
use Rattle.cluster_plan.specs.declared.asks.Ask.{Ask}
use Rattle.cluster_plan.specs.declared.asks.Answer.{Answer}
use Rattle.cluster_plan.specs.declared.asks.Part.{Part}
use Rattle.cluster_plan.specs.declared.asks.Part.TheVariants.{First, Second, Last}
use Rattle.cluster_plan.specs.declared.connections.ConnState.{ConnState}
use Rattle.cluster_plan.specs.declared.connections.ConnState.TheVariants as conn
use Rattle.cluster_plan.specs.declared.connections.NodeEntry.{NodeEntry}
use Rattle.cluster_plan.specs.declared.recovery_kind.Failure.TheVariants.{Refresh}
use Rattle.cluster_plan.specs.declared.state.Pass.{Pass}
use Rattle.cluster_plan.specs.declared.step.Step.{Step}
use Rattle.cluster_plan.specs.declared.step.Step.TheVariants.{Checking, Connecting, Arrived}
use Rattle.cluster_plan.specs.Asks.{Answered, answer_to, error_told, is_ask, link_told, part_number, passes, rows_told, same_address}
use Rattle.cluster_plan.specs.Connections.{connected_link, entry, link_of}
use Rattle.cluster_plan.specs.Reached.{Reached, asked, by_link, by_none, brought, check, checked, connect, connected, connecting, reached}
use Rattle.cluster_plan.specs.Recovering.{asked_second, ended_so, entries_of, first_from, places, second_from, second_on}
use Rattle.cluster_plan.specs.Refresh.{Reply, awaited, good, bad, after_first, after_second, behind, first_replies, queried, query, renewed, replied, reply_where, second_replies, state_after, told, until_good, visited}
use Rattle.cluster_plan.specs.Steps.{begun_by, step_by, stepping}
use Rattle.cluster_plan.proofs.Choosing.{and_false}
use Rattle.cluster_plan.proofs.Missing.{IsElsewhere, MissesAll, after_first_missed, after_second_missed, answer_missed, first_missed, others_behind, renewed_missed, second_missed, visited_missed}
use Rattle.cluster_plan.proofs.Staying.{is_ask_itself}

-- orders
pub behind_here : (front : List NodeEntry) (here : NodeEntry) (rest : List NodeEntry) → in_order (places (front ++ here ∷ rest)) ≡ true → list_all (address_less here.address) (places rest) ≡ true
behind_here [] here rest h = both_left (list_all (address_less here.address) (places rest)) (in_order (places rest)) h
behind_here (f ∷ fs) here rest h =
    behind_here fs here rest (both_right (list_all (address_less f.address) (places (fs ++ here ∷ rest))) (in_order (places (fs ++ here ∷ rest))) h)

pub places_over : (front : List NodeEntry) (here : NodeEntry) (state : ConnState) (rest : List NodeEntry) → places ((front ++ entry here.address state ∷ []) ++ rest) ≡ places (front ++ here ∷ rest)
places_over [] here state rest = refl
places_over (f ∷ fs) here state rest = ap (λ nodes. f.address ∷ nodes) (places_over fs here state rest)

pub places_on : (front : List NodeEntry) (here : NodeEntry) (rest : List NodeEntry) → places ((front ++ here ∷ []) ++ rest) ≡ places (front ++ here ∷ rest)
places_on front here rest = ap places (append_assoc front (here ∷ []) rest)

pub whole_again : (front passed : List NodeEntry) (here : NodeEntry) (rest es : List NodeEntry) → front ≡ passed ++ here ∷ [] → es ≡ front ++ rest → es ≡ passed ++ here ∷ rest
whole_again front passed here rest es f e = e ∙ ap (λ xs. xs ++ rest) f ∙ append_assoc passed (here ∷ []) rest

pub whole_with : (front passed : List NodeEntry) (here : NodeEntry) (state : ConnState) (rest es : List NodeEntry) → front ≡ passed ++ entry here.address state ∷ [] → es ≡ front ++ rest → es ≡ passed ++ entry here.address state ∷ rest
whole_with front passed here state rest es f e = whole_again front passed (entry here.address state) rest es f e

-- an ask and its answer
pub answered_itself : (x : Ask) (found : Answer) (more : List Answered) → answer_to x ((x, found) ∷ more) ≡ Some found
answered_itself x found more = ap (λ b. if b then Some found else answer_to x more) (is_ask_itself x)

pub queried_itself : (part : Part) (a : NodeAddress) (link : ℕ) (found : Answer) (more : List Answered) → queried part a link ((query part a link, found) ∷ more) ≡ told (rows_told a.host found) (error_told found)
queried_itself part a link found more = ap (replied (query part a link)) (answered_itself (query part a link) found more)

-- pass two at its beginning, and at its end
pub begun_step : (part : Part) (a : NodeAddress) (o : Option ℕ) (more : List Answered) → stepping part a (begun_by o) more ≡ reached part a o more
begun_step part a None more = refl
begun_step part a (Some link) more = refl

pub second_begun : (p : Pass) (rows : List SlotRow) (last : RedisError) (more : List Answered)
    → second_from p rows (begun_by (link_of p.here.state)) last more
    ≡ after_second (p.passed ++ visited (p.here ∷ p.rest) more) rows more (until_good last (second_replies (p.here ∷ p.rest) more))
second_begun p rows last more = ap (second_on p rows last more) (begun_step Second p.here.address (link_of p.here.state) more)

pub second_over : (passed others : List NodeEntry) (rows : List SlotRow) (last : RedisError) (more : List Answered) → others ≡ []
    → ended_so passed rows (Some (Refresh last)) more ≡ after_second (passed ++ visited others more) rows more (until_good last (second_replies others more))
second_over passed others rows last more e =
    ap (λ es. ended_so es rows (Some (Refresh last)) more) (sym (append-nil passed))
    ∙ sym (ap (λ es. after_second (passed ++ visited es more) rows more (until_good last (second_replies es more))) e)

-- pass one
pub first_good : (p : Pass) (rows new : List SlotRow) (link : ℕ) (found : Answer) (more : List Answered) → rows_told p.here.address.host found ≡ Some new
    → first_from p rows link ((query First p.here.address link, found) ∷ more) ≡ renewed (entries_of p) new more
first_good p rows new link found more h =
    let x : Answered = (query First p.here.address link, found) in
    ap (λ r. after_first (entries_of p) rows (x ∷ more) (until_good NotFound (r ∷ first_replies p.rest (x ∷ more))))
    (queried_itself First p.here.address link found more ∙ ap (λ o. told o (error_told found)) h)
    ∙ renewed_missed (entries_of p) new x more refl

-- of a pass without a good reply the error doesn't matter, where another pass follows
any_last : (entries : List NodeEntry) (rows : List SlotRow) (more : List Answered) (one other : RedisError) (rs : List Reply) → after_first entries rows more (until_good one rs) ≡ after_first entries rows more (until_good other rs)
any_last entries rows more one other [] = refl
any_last entries rows more one other (awaited y ∷ rs) = refl
any_last entries rows more one other (good new ∷ rs) = refl
any_last entries rows more one other (bad error ∷ rs) = refl

pub first_bad : (p : Pass) (rows : List SlotRow) (link : ℕ) (found : Answer) (more : List Answered) → in_order (places (entries_of p)) ≡ true → rows_told p.here.address.host found ≡ None
    → first_from p rows link ((query First p.here.address link, found) ∷ more)
    ≡ after_first ((p.passed ++ p.here ∷ []) ++ p.rest) rows more (until_good NotFound (first_replies p.rest more))
first_bad p rows link found more o h =
    let x : Answered = (query First p.here.address link, found) in
    let none : MissesAll First (places p.rest) x = others_behind First (places p.rest) x (behind_here p.passed p.here p.rest o) in
    ap (λ r. after_first (entries_of p) rows (x ∷ more) (until_good NotFound (r ∷ first_replies p.rest (x ∷ more))))
    (queried_itself First p.here.address link found more ∙ ap (λ o. told o (error_told found)) h)
    ∙ ap (λ rs. after_first (entries_of p) rows (x ∷ more) (until_good (error_told found) rs)) (first_missed p.rest x more none)
    ∙ after_first_missed (entries_of p) rows (until_good (error_told found) (first_replies p.rest more)) x more refl refl
    ∙ any_last (entries_of p) rows more (error_told found) NotFound (first_replies p.rest more)
    ∙ ap (λ es. after_first es rows more (until_good NotFound (first_replies p.rest more))) (sym (append_assoc p.passed (p.here ∷ []) p.rest))

-- pass two, behind an answer: of the nodes behind nothing changes
rest_missed : (p : Pass) (rows : List SlotRow) (last : RedisError) (x : Answered) (more : List Answered) (r : Reached) (reply : Reply) → MissesAll Second (places p.rest) x → IsElsewhere Last x
    → after_second (p.passed ++ entry p.here.address (state_after p.here.state r) ∷ behind reply (visited p.rest (x ∷ more)) p.rest) rows (x ∷ more) (until_good last (reply ∷ second_replies p.rest (x ∷ more)))
    ≡ after_second (p.passed ++ entry p.here.address (state_after p.here.state r) ∷ behind reply (visited p.rest more) p.rest) rows more (until_good last (reply ∷ second_replies p.rest more))
rest_missed p rows last x more r reply here second =
    let gone : visited p.rest (x ∷ more) ≡ visited p.rest more = visited_missed p.rest x more here in
    let replies : second_replies p.rest (x ∷ more) ≡ second_replies p.rest more = second_missed p.rest x more here in
    (λ i. after_second (p.passed ++ entry p.here.address (state_after p.here.state r) ∷ behind reply (gone i) p.rest) rows (x ∷ more) (until_good last (reply ∷ replies i)))
    ∙ after_second_missed (p.passed ++ entry p.here.address (state_after p.here.state r) ∷ behind reply (visited p.rest more) p.rest) rows (until_good last (reply ∷ second_replies p.rest more)) x more second

-- a node that is reached isn't asked for the slots yet
abbrev pub IsNoQuery : NodeAddress → Answered → Type 0
IsNoQuery a x = (link : ℕ) → is_ask (query Second a link) x.0 ≡ false

where_reaching : (a : NodeAddress) (r : Reached) (x : Answered) (more : List Answered) → IsNoQuery a x → reply_where a r (x ∷ more) ≡ reply_where a r more
where_reaching a (asked y) x more h = refl
where_reaching a (by_link link) x more h = ap (replied (query Second a link)) (answer_missed (query Second a link) x more (h link))
where_reaching a (by_none error) x more h = refl

reaching_on : (p : Pass) (rows : List SlotRow) (last : RedisError) (x : Answered) (more : List Answered) (r : Reached) → MissesAll Second (places p.rest) x → IsElsewhere Last x → IsNoQuery p.here.address x
    → second_on p rows last (x ∷ more) r ≡ second_on p rows last more r
reaching_on p rows last x more r none second query =
    ap (λ reply. after_second (p.passed ++ entry p.here.address (state_after p.here.state r) ∷ behind reply (visited p.rest (x ∷ more)) p.rest) rows (x ∷ more) (until_good last (reply ∷ second_replies p.rest (x ∷ more))))
    (where_reaching p.here.address r x more query)
    ∙ rest_missed p rows last x more r (reply_where p.here.address r more) none second

-- how a node is reached behind the answer to its check, or to its connect
no_connect_by_check : (part : Part) (a : NodeAddress) (link : ℕ) → is_ask (connect part a) (check part a link) ≡ false
no_connect_by_check part a link = ap (λ b. b && same_address a a) (and_false (part_number part == part_number part))

passed_or_not : (part : Part) (a : NodeAddress) (link : ℕ) (b : Bool) (more : List Answered) → (if b then by_link link else connecting part a more) ≡ stepping part a (if b then Arrived link else Connecting) more
passed_or_not part a link true more = refl
passed_or_not part a link false more = refl

pub checked_step : (part : Part) (a : NodeAddress) (link : ℕ) (found : Answer) (more : List Answered)
    → stepping part a (Checking link) ((check part a link, found) ∷ more) ≡ stepping part a (if passes found then Arrived link else Connecting) more
checked_step part a link found more =
    let x : Answered = (check part a link, found) in
    let other : connecting part a (x ∷ more) ≡ connecting part a more = ap (connected (connect part a)) (answer_missed (connect part a) x more (no_connect_by_check part a link)) in
    let itself : answer_to (check part a link) (x ∷ more) ≡ Some found = answered_itself (check part a link) found more in
    (λ i. checked (check part a link) link (itself i) (other i)) ∙ passed_or_not part a link (passes found) more

pub connected_step : (part : Part) (a : NodeAddress) (found : Answer) (more : List Answered)
    → connecting part a ((connect part a, found) ∷ more) ≡ brought (link_told found) (error_told found)
connected_step part a found more = ap (connected (connect part a)) (answered_itself (connect part a) found more)

-- what pass two asked of its node was answered
here_misses : (p : Pass) (x : Answered) → x.0.address ≡ p.here.address → in_order (places (entries_of p)) ≡ true → MissesAll Second (places p.rest) x
here_misses p x e o =
    others_behind Second (places p.rest) x (ap (λ a. list_all (address_less a) (places p.rest)) e ∙ behind_here p.passed p.here p.rest o)

no_query_by_check : (a : NodeAddress) (link other : ℕ) → is_ask (query Second a other) (check Second a link) ≡ false
no_query_by_check a link other = refl

no_query_by_connect : (a : NodeAddress) (other : ℕ) → is_ask (query Second a other) (connect Second a) ≡ false
no_query_by_connect a other = refl

connect_on : (p : Pass) (rows : List SlotRow) (last : RedisError) (more : List Answered) (found : Answer) (o : Option ℕ) → in_order (places (entries_of p)) ≡ true → link_told found ≡ o
    → second_from p rows Connecting last ((connect Second p.here.address, found) ∷ more) ≡ second_on p rows last more (brought o (error_told found))
connect_on p rows last more found o order e =
    let x : Answered = (connect Second p.here.address, found) in
    ap (second_on p rows last (x ∷ more)) (connected_step Second p.here.address found more ∙ ap (λ l. brought l (error_told found)) e)
    ∙ reaching_on p rows last x more (brought o (error_told found)) (here_misses p x refl order) refl (no_query_by_connect p.here.address)

pub second_checked : (p : Pass) (rows : List SlotRow) (last : RedisError) (more : List Answered) (link : ℕ) (found : Answer) → in_order (places (entries_of p)) ≡ true
    → second_from p rows (Checking link) last ((check Second p.here.address link, found) ∷ more) ≡ second_from p rows (if passes found then Arrived link else Connecting) last more
second_checked p rows last more link found order =
    let x : Answered = (check Second p.here.address link, found) in
    let next : Step = if passes found then Arrived link else Connecting in
    ap (second_on p rows last (x ∷ more)) (checked_step Second p.here.address link found more)
    ∙ reaching_on p rows last x more (stepping Second p.here.address next more) (here_misses p x refl order) refl (no_query_by_check p.here.address link)

pub second_connected : (p : Pass) (rows : List SlotRow) (last : RedisError) (more : List Answered) (link : ℕ) (found : Answer) → in_order (places (entries_of p)) ≡ true → link_told found ≡ Some link
    → second_from p rows Connecting last ((connect Second p.here.address, found) ∷ more) ≡ second_from p rows (Arrived link) last more
second_connected p rows last more link found order e = connect_on p rows last more found (Some link) order e

pub second_failed : (p : Pass) (rows : List SlotRow) (last : RedisError) (more : List Answered) (found : Answer) → in_order (places (entries_of p)) ≡ true → link_told found ≡ None
    → second_from p rows Connecting last ((connect Second p.here.address, found) ∷ more)
    ≡ after_second (p.passed ++ entry p.here.address conn.Connecting ∷ visited p.rest more) rows more (until_good (error_told found) (second_replies p.rest more))
second_failed p rows last more found order e = connect_on p rows last more found None order e

-- and its slots
query_on : (p : Pass) (rows : List SlotRow) (last : RedisError) (more : List Answered) (link : ℕ) (found : Answer) (o : Option (List SlotRow)) → in_order (places (entries_of p)) ≡ true → rows_told p.here.address.host found ≡ o
    → second_from p rows (Arrived link) last ((query Second p.here.address link, found) ∷ more)
    ≡ after_second (p.passed ++ entry p.here.address (conn.Connected link) ∷ behind (told o (error_told found)) (visited p.rest more) p.rest) rows more (until_good last (told o (error_told found) ∷ second_replies p.rest more))
query_on p rows last more link found o order e =
    let x : Answered = (query Second p.here.address link, found) in
    ap (λ reply. after_second (p.passed ++ entry p.here.address (conn.Connected link) ∷ behind reply (visited p.rest (x ∷ more)) p.rest) rows (x ∷ more) (until_good last (reply ∷ second_replies p.rest (x ∷ more))))
    (queried_itself Second p.here.address link found more ∙ ap (λ l. told l (error_told found)) e)
    ∙ rest_missed p rows last x more (by_link link) (told o (error_told found)) (here_misses p x refl order) refl

pub second_good : (p : Pass) (rows new : List SlotRow) (last : RedisError) (more : List Answered) (link : ℕ) (found : Answer) → in_order (places (entries_of p)) ≡ true → rows_told p.here.address.host found ≡ Some new
    → second_from p rows (Arrived link) last ((query Second p.here.address link, found) ∷ more) ≡ renewed (p.passed ++ entry p.here.address (conn.Connected link) ∷ p.rest) new more
second_good p rows new last more link found order e = query_on p rows last more link found (Some new) order e

pub second_bad : (p : Pass) (rows : List SlotRow) (last : RedisError) (more : List Answered) (link : ℕ) (found : Answer) → in_order (places (entries_of p)) ≡ true → rows_told p.here.address.host found ≡ None
    → second_from p rows (Arrived link) last ((query Second p.here.address link, found) ∷ more)
    ≡ after_second (p.passed ++ entry p.here.address (conn.Connected link) ∷ visited p.rest more) rows more (until_good (error_told found) (second_replies p.rest more))
second_bad p rows last more link found order e = query_on p rows last more link found None order e
