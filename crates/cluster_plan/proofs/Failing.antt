-- As long as links failed alone, a refresh of a map that isn't empty goes on.
use Rattle.std.proofs.Common.{◌≡◌, ℕ, ◌==◌, ◌&&◌, Bool, false, List, [], ◌∷◌, ◌++◌, Option, Some, None, refl, sym, ◌∙◌, ap, subst, if◌then◌else◌}
use Rattle.std.specs.List.{All}
use Rattle.std.proofs.lemmas.List.Elements.{All-head, All-tail}
use Rattle.redis_error.specs.declared.redis_error.RedisError.{RedisError}
use Rattle.redis_error.specs.declared.redis_error.RedisError.TheVariants.{NotFound}
use Rattle.slot_hash.specs.declared.address.NodeAddress.{NodeAddress}
use Rattle.mux_routing.specs.declared.rows.SlotRow.{SlotRow}
use Rattle.cluster_plan.specs.declared.asks.Part.{Part}
use Rattle.cluster_plan.specs.declared.asks.Part.TheVariants.{First, Second}
use Rattle.cluster_plan.specs.declared.asks.Request.{Request}
use Rattle.cluster_plan.specs.declared.asks.Request.TheVariants as request
use Rattle.cluster_plan.specs.declared.asks.Ask.{Ask}
use Rattle.cluster_plan.specs.declared.asks.Answer.{Answer}
use Rattle.cluster_plan.specs.declared.asks.Answer.TheVariants as answer
use Rattle.cluster_plan.specs.declared.connections.NodeEntry.{NodeEntry}
use Rattle.cluster_plan.specs.Asks.{Answered, answer_to, is_ask, part_number, request_number, same_address}
use Rattle.cluster_plan.specs.Connections.{connected_link, link_of}
use Rattle.cluster_plan.specs.Reached.{Reached, asked, by_link, by_none, connect, check, connected, connecting, checked, reached}
use Rattle.cluster_plan.specs.Refresh.{Next, asks, Reply, awaited, good, bad, query, replied, until_good, by_connected, first_replies, reached_again, reply_where, second_replies, visited, after_second, after_first}
use Rattle.cluster_plan.specs.Plan.{plan}
use Rattle.cluster_plan.specs.Laws.{IsOnLink, IsFailed, GoesOnWithoutLinks}
use Rattle.cluster_plan.proofs.Choosing.{of_either, and_false}

abbrev pub FailedOnLink : Answered → Type 0
FailedOnLink x = IsOnLink x.0.request × IsFailed x.1

-- an answer that is found is a failure
abbrev pub FoundFailed : Option Answer → Type 0
FoundFailed None = Unit {0}
FoundFailed (Some found) = IsFailed found

found_failed : (x : Ask) (answers : List Answered) → All FailedOnLink answers → FoundFailed (answer_to x answers)
found_failed x [] h = tt
found_failed x (a ∷ answers) h =
    of_either FoundFailed (is_ask x a.0) (Some a.1) (answer_to x answers) (All-head FailedOnLink a answers h).1
    (found_failed x answers (All-tail FailedOnLink a answers h))

no_connect : (p q : Bool) (r : Request) → IsOnLink r → (p && (0 == request_number r) && q) ≡ false
no_connect p q request.Connect h = absurd h
no_connect p q (request.Check link) h = ap (λ b. b && q) (and_false p)
no_connect p q (request.Query link) h = ap (λ b. b && q) (and_false p)
no_connect p q (request.Wait ms) h = absurd h

connect_unanswered : (part : Part) (a : NodeAddress) (answers : List Answered) → All FailedOnLink answers → answer_to (connect part a) answers ≡ None
connect_unanswered part a [] h = refl
connect_unanswered part a (x ∷ answers) h =
    ap (λ b. if b then Some x.1 else answer_to (connect part a) answers)
    (no_connect (part_number part == part_number x.0.part) (same_address a x.0.address) x.0.request (All-head FailedOnLink x answers h).0)
    ∙ connect_unanswered part a answers (All-tail FailedOnLink x answers h)

-- a node is asked for
abbrev pub IsAskedFor : Reached → Type 0
IsAskedFor (asked x) = Unit {0}
IsAskedFor (by_link link) = ⊥
IsAskedFor (by_none error) = ⊥

connecting_asks : (part : Part) (a : NodeAddress) (answers : List Answered) → All FailedOnLink answers → IsAskedFor (connecting part a answers)
connecting_asks part a answers h = subst (λ o. IsAskedFor (connected (connect part a) o)) (sym (connect_unanswered part a answers h)) tt

checked_asks : (x : Ask) (link : ℕ) (o : Option Answer) (r : Reached) → FoundFailed o → IsAskedFor r → IsAskedFor (checked x link o r)
checked_asks x link None r h g = tt
checked_asks x link (Some (answer.Connected l)) r h g = absurd h
checked_asks x link (Some (answer.Value v)) r h g = absurd h
checked_asks x link (Some (answer.Failed error)) r h g = g
checked_asks x link (Some answer.Fired) r h g = absurd h

reached_asks : (part : Part) (a : NodeAddress) (o : Option ℕ) (answers : List Answered) → All FailedOnLink answers → IsAskedFor (reached part a o answers)
reached_asks part a None answers h = connecting_asks part a answers h
reached_asks part a (Some link) answers h =
    checked_asks (check part a link) link (answer_to (check part a link) answers) (connecting part a answers)
    (found_failed (check part a link) answers h) (connecting_asks part a answers h)

-- no reply is good
abbrev pub IsNoneGood : Reply → Type 0
IsNoneGood (awaited x) = Unit {0}
IsNoneGood (good rows) = ⊥
IsNoneGood (bad error) = Unit {0}

replied_none : (x : Ask) (o : Option Answer) → FoundFailed o → IsNoneGood (replied x o)
replied_none x None h = tt
replied_none x (Some (answer.Connected l)) h = absurd h
replied_none x (Some (answer.Value v)) h = absurd h
replied_none x (Some (answer.Failed error)) h = tt
replied_none x (Some answer.Fired) h = absurd h

abbrev pub AreNoneGood : List Reply → Type 0
AreNoneGood [] = Unit {0}
AreNoneGood (r ∷ rs) = IsNoneGood r × AreNoneGood rs

until_none : (last : RedisError) (rs : List Reply) → AreNoneGood rs → IsNoneGood (until_good last rs)
until_none last [] h = tt
until_none last (awaited x ∷ more) h = tt
until_none last (good rows ∷ more) h = absurd h.0
until_none last (bad error ∷ more) h = until_none error more h.1

one_more_none : (a : NodeAddress) (o : Option ℕ) (answers : List Answered) (rs : List Reply) → All FailedOnLink answers → AreNoneGood rs → AreNoneGood (by_connected a o answers ++ rs)
one_more_none a None answers rs h g = g
one_more_none a (Some link) answers rs h g =
    (replied_none (query First a link) (answer_to (query First a link) answers) (found_failed (query First a link) answers h), g)

first_none : (entries : List NodeEntry) (answers : List Answered) → All FailedOnLink answers → AreNoneGood (first_replies entries answers)
first_none [] answers h = tt
first_none (e ∷ es) answers h = one_more_none e.address (connected_link e.state) answers (first_replies es answers) h (first_none es answers h)

-- one ask comes next
abbrev pub AsksOne : Next → Type 0
AsksOne next = (x : Ask) × (next ≡ asks (x ∷ []))

second_asks : (entries es : List NodeEntry) (rows : List SlotRow) (answers : List Answered) (a : NodeAddress) (r : Reached) → IsAskedFor r → AsksOne (after_second entries rows answers (until_good NotFound (reply_where a r answers ∷ second_replies es answers))).next
second_asks entries es rows answers a (asked x) h = (x, refl)
second_asks entries es rows answers a (by_link link) h = absurd h
second_asks entries es rows answers a (by_none error) h = absurd h

first_asks : (e : NodeEntry) (es : List NodeEntry) (rows : List SlotRow) (answers : List Answered) (reply : Reply) → All FailedOnLink answers → IsNoneGood reply → AsksOne (after_first (e ∷ es) rows answers reply).next
first_asks e es rows answers (awaited x) h g = (x, refl)
first_asks e es rows answers (good new) h g = absurd g
first_asks e es rows answers (bad error) h g =
    second_asks (visited (e ∷ es) answers) es rows answers e.address (reached_again e answers) (reached_asks Second e.address (link_of e.state) answers h)

pub goes_on_without_links : GoesOnWithoutLinks
unfolding plan
goes_on_without_links nodes e es rows attempts answers h =
    first_asks e es rows answers (until_good NotFound (first_replies (e ∷ es) answers)) h
    (until_none NotFound (first_replies (e ∷ es) answers) (first_none (e ∷ es) answers h))
