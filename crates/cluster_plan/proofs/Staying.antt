-- What is asked for stays so, while other asks are answered.
use Rattle.std.proofs.Common.{◌≡◌, ℕ, ◌<◌, ◌==◌, ◌&&◌, Bool, true, false, List, [], ◌∷◌, ◌++◌, length, get_or, Option, Some, None, refl, sym, ◌∙◌, ap, subst, arith, if◌then◌else◌}
use Rattle.std.specs.List.{All, Contains}
use Rattle.std.specs.Str.{bytes_eq}
use Rattle.std.proofs.lemmas.Bool.Decides.{nat_tests}
use Rattle.std.proofs.lemmas.Slice.Eq.{bytes_eq-Decides}
use Rattle.std.proofs.lemmas.List.Elements.{All-nil, All-cons, All-contains, Contains-append_left, Contains-append_right, Contains-push}
use Rattle.redis_error.specs.declared.redis_error.RedisError.{RedisError}
use Rattle.redis_error.specs.declared.redis_error.RedisError.TheVariants.{NotFound}
use Rattle.slot_hash.specs.declared.address.NodeAddress.{NodeAddress}
use Rattle.mux_routing.specs.declared.rows.SlotRow.{SlotRow}
use Rattle.mux_routing.specs.Shards.{addresses}
use Rattle.cluster_plan.specs.declared.asks.Part.{Part}
use Rattle.cluster_plan.specs.declared.asks.Part.TheVariants.{Initial, Last}
use Rattle.cluster_plan.specs.declared.asks.Ask.{Ask}
use Rattle.cluster_plan.specs.declared.asks.Answer.{Answer}
use Rattle.cluster_plan.specs.declared.connections.NodeEntry.{NodeEntry}
use Rattle.cluster_plan.specs.declared.recovery_kind.RecoveryKind.TheVariants as kind
use Rattle.cluster_plan.specs.Asks.{Answered, answer_to, is_ask, link_told, passes, error_told, part_number, request_number, same_address}
use Rattle.cluster_plan.specs.Connections.{link_to}
use Rattle.cluster_plan.specs.Reached.{Reached, asked, by_link, by_none, connect, check, brought, connected, connecting, checked, reached, asked_for, arrived}
use Rattle.cluster_plan.specs.Refresh.{Next, asks, ok, failed, Plan, Reply, awaited, good, bad, until_good, first_replies, second_replies, visited, arrivals, all_asked, renewed, after_second, second_pass, after_first, refresh}
use Rattle.cluster_plan.specs.Initial.{tries, in_address_order, begun_anew, after_tries, initial}
use Rattle.cluster_plan.specs.Plan.{plan}
use Rattle.cluster_plan.specs.Laws.{IsGiven, IsRecovery, StaysAsked}
use Rattle.cluster_plan.proofs.Ended.{KeepsAnswer, answer_kept, tries_kept, KeepsReply, IsThere, first_kept, second_kept, visited_kept}

itself : (n : ℕ) (host : List ℕ) (m p : ℕ) → ((n == n) && (m == m) && (bytes_eq host host && p == p)) ≡ true
itself n host m p = let h : bytes_eq host host ≡ true = (bytes_eq-Decides host host).1 refl in grind (arith, nat_tests, h)

pub is_ask_itself : (x : Ask) → is_ask x x ≡ true
is_ask_itself x = itself (part_number x.part) x.address.host (request_number x.request) x.address.port

-- an ask that has no answer has none while another is answered
abbrev pub StaysOpen : Ask → Ask → Option Answer → Option Answer → Type 0
StaysOpen x y None later = is_ask x y ≡ false → later ≡ None
StaysOpen x y (Some found) later = Unit {0}

open_still : (x y : Ask) (found : Answer) (answers : List Answered) → StaysOpen x y (answer_to x answers) (answer_to x (answers ++ (y, found) ∷ []))
open_still x y found [] = λ e. ap (λ b. if b then Some found else None) e
open_still x y found (a ∷ answers) =
    elim (is_ask x a.0) as (λ b. StaysOpen x y (if b then Some a.1 else answer_to x answers) (if b then Some a.1 else answer_to x (answers ++ (y, found) ∷ [])))
    [ true ↦ tt | false ↦ open_still x y found answers ]

-- a node that is asked for by another ask is asked for still
abbrev pub AsksOn : Ask → Reached → Reached → Type 0
AsksOn y (asked x) later = is_ask x y ≡ false → later ≡ asked x
AsksOn y (by_link link) later = Unit {0}
AsksOn y (by_none error) later = Unit {0}

brought_on : (y : Ask) (o : Option ℕ) (error : RedisError) (later : Reached) → AsksOn y (brought o error) later
brought_on y None error later = tt
brought_on y (Some link) error later = tt

connected_on : (x y : Ask) (o later : Option Answer) → StaysOpen x y o later → AsksOn y (connected x o) (connected x later)
connected_on x y None later h = λ e. ap (connected x) (h e)
connected_on x y (Some found) later h = brought_on y (link_told found) (error_told found) (connected x later)

either_on : (y : Ask) (b : Bool) (link : ℕ) (r later : Reached) → AsksOn y r later → AsksOn y (if b then by_link link else r) (if b then by_link link else later)
either_on y true link r later h = tt
either_on y false link r later h = h

checked_on : (x y : Ask) (link : ℕ) (o later : Option Answer) (r since : Reached) → StaysOpen x y o later → KeepsAnswer o later → AsksOn y r since → AsksOn y (checked x link o r) (checked x link later since)
checked_on x y link None later r since h k g = λ e. ap (λ p. checked x link p since) (h e)
checked_on x y link (Some found) later r since h k g =
    subst (λ p. AsksOn y (checked x link (Some found) r) (checked x link p since)) (sym k) (either_on y (passes found) link r since g)

connecting_on : (y : Ask) (found : Answer) (answers : List Answered) (part : Part) (a : NodeAddress) → AsksOn y (connecting part a answers) (connecting part a (answers ++ (y, found) ∷ []))
connecting_on y found answers part a =
    connected_on (connect part a) y (answer_to (connect part a) answers) (answer_to (connect part a) (answers ++ (y, found) ∷ [])) (open_still (connect part a) y found answers)

reached_on : (y : Ask) (found : Answer) (answers : List Answered) (part : Part) (a : NodeAddress) (o : Option ℕ) → AsksOn y (reached part a o answers) (reached part a o (answers ++ (y, found) ∷ []))
reached_on y found answers part a None = connecting_on y found answers part a
reached_on y found answers part a (Some link) =
    checked_on (check part a link) y link (answer_to (check part a link) answers) (answer_to (check part a link) (answers ++ (y, found) ∷ []))
    (connecting part a answers) (connecting part a (answers ++ (y, found) ∷ []))
    (open_still (check part a link) y found answers) (answer_kept (check part a link) answers ((y, found) ∷ [])) (connecting_on y found answers part a)

-- of several nodes
abbrev pub StillAmong : Ask → List (NodeAddress × Reached) → Ask → Type 0
StillAmong y later z = is_ask z y ≡ false → Contains (asked_for later) z

behind_one : (a : NodeAddress) (r : Reached) (rest : List (NodeAddress × Reached)) (z : Ask) → Contains (asked_for rest) z → Contains (asked_for ((a, r) ∷ rest)) z
behind_one a (asked x) rest z h = Contains-append_right (x ∷ []) (asked_for rest) z h
behind_one a (by_link link) rest z h = h
behind_one a (by_none error) rest z h = h

all_behind : (y : Ask) (a : NodeAddress) (later : Reached) (others : List (NodeAddress × Reached)) (zs : List Ask) → All (StillAmong y others) zs → All (StillAmong y ((a, later) ∷ others)) zs
all_behind y a later others zs h = λ k d lt e. behind_one a later others (get_or zs k d) (h k d lt e)

one_on : (y : Ask) (a : NodeAddress) (r later : Reached) (rest others : List (NodeAddress × Reached)) → AsksOn y r later → All (StillAmong y others) (asked_for rest) → All (StillAmong y ((a, later) ∷ others)) (asked_for ((a, r) ∷ rest))
one_on y a (asked x) later rest others h g =
    All-cons (StillAmong y ((a, later) ∷ others)) x (asked_for rest)
    (λ e. subst (λ l. Contains (asked_for ((a, l) ∷ others)) x) (sym (h e)) (Contains-append_left (x ∷ []) (asked_for others) x (Contains-push [] x)))
    (all_behind y a later others (asked_for rest) g)
one_on y a (by_link link) later rest others h g = all_behind y a later others (asked_for rest) g
one_on y a (by_none error) later rest others h g = all_behind y a later others (asked_for rest) g

tries_on : (y : Ask) (found : Answer) (answers : List Answered) (nodes : List NodeAddress) → All (StillAmong y (tries nodes (answers ++ (y, found) ∷ []))) (asked_for (tries nodes answers))
tries_on y found answers [] = All-nil (StillAmong y [])
tries_on y found answers (a ∷ rest) =
    one_on y a (connecting Initial a answers) (connecting Initial a (answers ++ (y, found) ∷ [])) (tries rest answers) (tries rest (answers ++ (y, found) ∷ []))
    (connecting_on y found answers Initial a) (tries_on y found answers rest)

arrivals_on : (y : Ask) (found : Answer) (answers : List Answered) (entries : List NodeEntry) (nodes : List NodeAddress) → All (StillAmong y (arrivals entries nodes (answers ++ (y, found) ∷ []))) (asked_for (arrivals entries nodes answers))
arrivals_on y found answers entries [] = All-nil (StillAmong y [])
arrivals_on y found answers entries (a ∷ rest) =
    one_on y a (reached Last a (link_to a entries) answers) (reached Last a (link_to a entries) (answers ++ (y, found) ∷ [])) (arrivals entries rest answers) (arrivals entries rest (answers ++ (y, found) ∷ []))
    (reached_on y found answers Last a (link_to a entries)) (arrivals_on y found answers entries rest)

-- among asks that come next
among_asked : (xs : List Ask) (x : Ask) → IsGiven x (all_asked xs) → Contains xs x
among_asked [] x h = absurd h
among_asked (z ∷ zs) x h = h

asked_among : (xs : List Ask) (x : Ask) → Contains xs x → IsGiven x (all_asked xs)
asked_among [] x h = absurd (omega (arith, h.1))
asked_among (z ∷ zs) x h = h

-- of one ask alone none is another
only_one : (z x y : Ask) → Contains (z ∷ []) x → Contains (z ∷ []) y → is_ask x y ≡ false → ⊥
only_one z x y h g e =
    let P : Ask → Type 0 = λ w. z ≡ w in
    let all : All P (z ∷ []) = All-cons P z [] refl (All-nil P) in
    let one : z ≡ x = All-contains P (z ∷ []) x all h in
    let other : z ≡ y = All-contains P (z ∷ []) y all g in
    let f : is_ask x y ≡ true = subst (λ w. is_ask x w ≡ true) (sym one ∙ other) (is_ask_itself x) in
    cc

-- a plan whose asks stay
abbrev pub Goes : Ask → Ask → Plan → Plan → Type 0
Goes x y p later = IsGiven x p.next → IsGiven y p.next → is_ask x y ≡ false → IsGiven x later.next

renewed_on : (x y : Ask) (found : Answer) (answers : List Answered) (entries : List NodeEntry) (rows : List SlotRow) → Goes x y (renewed entries rows answers) (renewed entries rows (answers ++ (y, found) ∷ []))
renewed_on x y found answers entries rows h g e =
    let now : List (NodeAddress × Reached) = arrivals entries (addresses rows) answers in
    let later : List (NodeAddress × Reached) = arrivals entries (addresses rows) (answers ++ (y, found) ∷ []) in
    asked_among (asked_for later) x
    (All-contains (StillAmong y later) (asked_for now) x (arrivals_on y found answers entries (addresses rows)) (among_asked (asked_for now) x h) e)

second_on : (x y : Ask) (found : Answer) (answers : List Answered) (entries since : List NodeEntry) (rows : List SlotRow) (reply later : Reply) → (IsThere reply → since ≡ entries) → KeepsReply reply later → Goes x y (after_second entries rows answers reply) (after_second since rows (answers ++ (y, found) ∷ []) later)
second_on x y found answers entries since rows (awaited z) later s k h g e = absurd (only_one z x y h g e)
second_on x y found answers entries since rows (good new) later s k h g e =
    subst (λ r. IsGiven x (after_second since rows (answers ++ (y, found) ∷ []) r).next) (sym k)
    (subst (λ es. IsGiven x (renewed es new (answers ++ (y, found) ∷ [])).next) (sym (s tt)) (renewed_on x y found answers entries new h g e))
second_on x y found answers entries since rows (bad error) later s k h g e = absurd h

first_on : (x y : Ask) (found : Answer) (answers : List Answered) (entries : List NodeEntry) (rows : List SlotRow) (reply later : Reply) → KeepsReply reply later → Goes x y (after_first entries rows answers reply) (after_first entries rows (answers ++ (y, found) ∷ []) later)
first_on x y found answers entries rows (awaited z) later k h g e = absurd (only_one z x y h g e)
first_on x y found answers entries rows (good new) later k h g e =
    subst (λ r. IsGiven x (after_first entries rows (answers ++ (y, found) ∷ []) r).next) (sym k) (renewed_on x y found answers entries new h g e)
first_on x y found answers entries rows (bad error) later k h g e =
    let more : List Answered = (y, found) ∷ [] in
    subst (λ r. IsGiven x (after_first entries rows (answers ++ more) r).next) (sym k)
    (second_on x y found answers (visited entries answers) (visited entries (answers ++ more)) rows (until_good NotFound (second_replies entries answers)) (until_good NotFound (second_replies entries (answers ++ more)))
    (λ there. visited_kept NotFound entries answers more there) (second_kept NotFound entries answers more) h g e)

refresh_on : (x y : Ask) (found : Answer) (answers : List Answered) (entries : List NodeEntry) (rows : List SlotRow) → Goes x y (refresh entries rows answers) (refresh entries rows (answers ++ (y, found) ∷ []))
refresh_on x y found answers entries rows h g e =
    first_on x y found answers entries rows (until_good NotFound (first_replies entries answers)) (until_good NotFound (first_replies entries (answers ++ (y, found) ∷ [])))
    (first_kept NotFound entries answers ((y, found) ∷ [])) h g e

given_by_tries : (last : RedisError) (entries : List NodeEntry) (rows : List SlotRow) (answers : List Answered) (nodes : List (NodeAddress × Reached)) (xs : List Ask) (x : Ask) → Contains xs x → IsGiven x (after_tries last entries rows answers nodes xs).next
given_by_tries last entries rows answers nodes [] x h = absurd (omega (arith, h.1))
given_by_tries last entries rows answers nodes (z ∷ zs) x h = h

begun_on : (x y : Ask) (found : Answer) (answers : List Answered) (entries new : List NodeEntry) (rows : List SlotRow) → Goes x y (begun_anew NotFound entries rows answers new) (begun_anew NotFound entries rows (answers ++ (y, found) ∷ []) new)
begun_on x y found answers entries [] rows h g e = absurd h
begun_on x y found answers entries (n ∷ ns) rows h g e = refresh_on x y found answers (in_address_order (n ∷ ns)) [] h g e

tries_go_on : (x y : Ask) (found : Answer) (answers : List Answered) (entries : List NodeEntry) (rows : List SlotRow) (now later : List (NodeAddress × Reached)) (xs : List Ask) → asked_for now ≡ xs → (asked_for now ≡ [] → later ≡ now) → All (StillAmong y later) xs
    → Goes x y (after_tries NotFound entries rows answers now xs) (after_tries NotFound entries rows (answers ++ (y, found) ∷ []) later (asked_for later))
tries_go_on x y found answers entries rows now later [] n s all h g e =
    subst (λ l. IsGiven x (after_tries NotFound entries rows (answers ++ (y, found) ∷ []) l (asked_for l)).next) (sym (s n))
    (subst (λ zs. IsGiven x (after_tries NotFound entries rows (answers ++ (y, found) ∷ []) now zs).next) (sym n) (begun_on x y found answers entries (arrived now) rows h g e))
tries_go_on x y found answers entries rows now later (z ∷ zs) n s all h g e =
    given_by_tries NotFound entries rows (answers ++ (y, found) ∷ []) later (asked_for later) x (All-contains (StillAmong y later) (z ∷ zs) x all h e)

initial_on : (x y : Ask) (found : Answer) (answers : List Answered) (nodes : List NodeAddress) (entries : List NodeEntry) (rows : List SlotRow) → Goes x y (initial nodes entries rows answers) (initial nodes entries rows (answers ++ (y, found) ∷ []))
initial_on x y found answers nodes entries rows h g e =
    tries_go_on x y found answers entries rows (tries nodes answers) (tries nodes (answers ++ (y, found) ∷ [])) (asked_for (tries nodes answers)) refl
    (tries_kept nodes answers ((y, found) ∷ [])) (tries_on y found answers nodes) h g e

pub stays_asked : StaysAsked
unfolding plan
stays_asked kind.Initial nodes entries rows attempts answers x y found is h g e = initial_on x y found answers nodes entries rows h g e
stays_asked kind.Slots nodes [] rows attempts answers x y found is h g e = initial_on x y found answers nodes [] rows h g e
stays_asked kind.Slots nodes (n ∷ ns) rows attempts answers x y found is h g e = refresh_on x y found answers (n ∷ ns) rows h g e
stays_asked (kind.Repair a) nodes entries rows attempts answers x y found is h g e = absurd is
