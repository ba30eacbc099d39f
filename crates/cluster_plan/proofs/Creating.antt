-- A reconnect asks each initial address, and fails where none was connected.
use Rattle.std.proofs.Common.{◌≡◌, ◌≢◌, ℕ, ◌==◌, false, List, [], ◌∷◌, ◌++◌, map, Option, Some, None, refl, sym, ◌∙◌, ap, arith, if◌then◌else◌}
use Rattle.std.specs.List.{All}
use Rattle.std.proofs.lemmas.Bool.Decides.{nat_tests}
use Rattle.std.proofs.lemmas.List.Elements.{All-nil, All-cons, All-head, All-tail}
use Rattle.redis_error.specs.declared.redis_error.RedisError.{RedisError}
use Rattle.redis_error.specs.declared.redis_error.RedisError.TheVariants.{NotFound}
use Rattle.slot_hash.specs.declared.address.NodeAddress.{NodeAddress}
use Rattle.mux_routing.specs.declared.rows.SlotRow.{SlotRow}
use Rattle.mux_routing.specs.Shards.{addresses}
use Rattle.cluster_plan.specs.declared.asks.Part.{Part}
use Rattle.cluster_plan.specs.declared.asks.Part.TheVariants.{Initial, First, Second, Last, Attempt}
use Rattle.cluster_plan.specs.declared.asks.Ask.{Ask}
use Rattle.cluster_plan.specs.declared.asks.Answer.{Answer}
use Rattle.cluster_plan.specs.declared.asks.Answer.TheVariants as answer
use Rattle.cluster_plan.specs.declared.connections.NodeEntry.{NodeEntry}
use Rattle.cluster_plan.specs.declared.recovery_kind.Failure.TheVariants.{Create}
use Rattle.cluster_plan.specs.Asks.{Answered, answer_to, link_told, error_told, part_number}
use Rattle.cluster_plan.specs.Reached.{Reached, connect, brought, connected, asked_for, arrived}
use Rattle.cluster_plan.specs.Refresh.{Next, asks, failed, Reply, awaited, good, bad, until_good, first_replies, second_replies, visited, arrivals, all_asked, after_second, after_first}
use Rattle.cluster_plan.specs.Initial.{tries, last_failure, later_failure, in_address_order, begun_anew, after_tries}
use Rattle.cluster_plan.specs.Plan.{plan}
use Rattle.cluster_plan.specs.Laws.{ConnectsEach, HasFailed, FailsWhereNone, LastCounts, ReconnectsWhereNone}

all_connects : (nodes : List NodeAddress) → asked_for (tries nodes []) ≡ map (connect Initial) nodes
all_connects [] = refl
all_connects (a ∷ more) = ap (λ xs. connect Initial a ∷ xs) (all_connects more)

pub connects_each : ConnectsEach
unfolding plan
connects_each a more entries rows attempts = ap (λ xs. asks (connect Initial a ∷ xs)) (all_connects more)

-- what three lists say of the first of them: none of the others is asked for, and none arrived
abbrev pub OthersCameToNothing : List (NodeAddress × Reached) → Type 0
OthersCameToNothing rest = (asked_for rest ≡ []) × (arrived rest ≡ [])

one_brought : (a : NodeAddress) (o : Option ℕ) (error : RedisError) (rest : List (NodeAddress × Reached)) → asked_for ((a, brought o error) ∷ rest) ≡ [] → arrived ((a, brought o error) ∷ rest) ≡ [] → (o ≡ None) × OthersCameToNothing rest
one_brought a None error rest e f = (refl, (e, f))
one_brought a (Some link) error rest e f = absurd (cc)

one_failed : (a : NodeAddress) (x : Ask) (o : Option Answer) (rest : List (NodeAddress × Reached)) → asked_for ((a, connected x o) ∷ rest) ≡ [] → arrived ((a, connected x o) ∷ rest) ≡ [] → HasFailed o × OthersCameToNothing rest
one_failed a x None rest e f = absurd (cc)
one_failed a x (Some found) rest e f = one_brought a (link_told found) (error_told found) rest e f

abbrev pub NoneCame : List Answered → NodeAddress → Type 0
NoneCame answers a = HasFailed (answer_to (connect Initial a) answers)

all_failed : (nodes : List NodeAddress) (answers : List Answered) → asked_for (tries nodes answers) ≡ [] → arrived (tries nodes answers) ≡ [] → All (NoneCame answers) nodes
all_failed [] answers e f = All-nil (NoneCame answers)
all_failed (a ∷ more) answers e f =
    let parts : NoneCame answers a × OthersCameToNothing (tries more answers) = one_failed a (connect Initial a) (answer_to (connect Initial a) answers) (tries more answers) e f in
    All-cons (NoneCame answers) a more parts.0 (all_failed more answers parts.1.0 parts.1.1)

none_brought : (a : NodeAddress) (o : Option ℕ) (error : RedisError) (rest : List (NodeAddress × Reached)) → o ≡ None → OthersCameToNothing rest → OthersCameToNothing ((a, brought o error) ∷ rest)
none_brought a None error rest e h = h
none_brought a (Some link) error rest e h = absurd (cc)

none_connected : (a : NodeAddress) (x : Ask) (o : Option Answer) (rest : List (NodeAddress × Reached)) → HasFailed o → OthersCameToNothing rest → OthersCameToNothing ((a, connected x o) ∷ rest)
none_connected a x None rest h g = absurd h
none_connected a x (Some found) rest h g = none_brought a (link_told found) (error_told found) rest h g

came_to_nothing : (nodes : List NodeAddress) (answers : List Answered) → All (NoneCame answers) nodes → OthersCameToNothing (tries nodes answers)
came_to_nothing [] answers h = (refl, refl)
came_to_nothing (a ∷ more) answers h =
    none_connected a (connect Initial a) (answer_to (connect Initial a) answers) (tries more answers) (All-head (NoneCame answers) a more h)
    (came_to_nothing more answers (All-tail (NoneCame answers) a more h))

-- a refresh never fails for want of an initial link
abbrev pub IsNoCreation : Next → Type 0
IsNoCreation next = (error : RedisError) → next ≡ failed (Create error) → ⊥

asked_no_creation : (xs : List Ask) → IsNoCreation (all_asked xs)
asked_no_creation [] error e = cc
asked_no_creation (x ∷ xs) error e = cc

second_no_creation : (entries : List NodeEntry) (rows : List SlotRow) (answers : List Answered) (reply : Reply) → IsNoCreation (after_second entries rows answers reply).next
second_no_creation entries rows answers (awaited x) error e = cc
second_no_creation entries rows answers (good new) error e = asked_no_creation (asked_for (arrivals entries (addresses new) answers)) error e
second_no_creation entries rows answers (bad last) error e = cc

first_no_creation : (entries : List NodeEntry) (rows : List SlotRow) (answers : List Answered) (reply : Reply) → IsNoCreation (after_first entries rows answers reply).next
first_no_creation entries rows answers (awaited x) error e = cc
first_no_creation entries rows answers (good new) error e = asked_no_creation (asked_for (arrivals entries (addresses new) answers)) error e
first_no_creation entries rows answers (bad last) error e =
    second_no_creation (visited entries answers) rows answers (until_good NotFound (second_replies entries answers)) error e

same_error : (x y : RedisError) → failed (Create x) ≡ failed (Create y) → y ≡ x
same_error x y e = cc

abbrev pub FailsBy : List Answered → RedisError → List (NodeAddress × Reached) → Type 0
FailsBy answers error nodes = OthersCameToNothing nodes × (error ≡ last_failure NotFound answers)

begun_fails : (entries new : List NodeEntry) (rows : List SlotRow) (answers : List Answered) (error : RedisError) → (begun_anew NotFound entries rows answers new).next ≡ failed (Create error) → (new ≡ []) × (error ≡ last_failure NotFound answers)
begun_fails entries [] rows answers error e = (refl, same_error (last_failure NotFound answers) error e)
begun_fails entries (n ∷ ns) rows answers error e =
    absurd (first_no_creation (in_address_order (n ∷ ns)) [] answers (until_good NotFound (first_replies (in_address_order (n ∷ ns)) answers)) error e)

tries_fail : (entries : List NodeEntry) (rows : List SlotRow) (answers : List Answered) (error : RedisError) (nodes : List (NodeAddress × Reached)) (xs : List Ask) → (after_tries NotFound entries rows answers nodes xs).next ≡ failed (Create error) → (xs ≡ []) × (arrived nodes ≡ []) × (error ≡ last_failure NotFound answers)
tries_fail entries rows answers error nodes [] e =
    let parts : (arrived nodes ≡ []) × (error ≡ last_failure NotFound answers) = begun_fails entries (arrived nodes) rows answers error e in
    (refl, parts.0, parts.1)
tries_fail entries rows answers error nodes (x ∷ xs) e = absurd (cc)

so_it_fails : (entries : List NodeEntry) (rows : List SlotRow) (answers : List Answered) (error : RedisError) (nodes : List (NodeAddress × Reached)) (xs : List Ask) (new : List NodeEntry) → xs ≡ [] → new ≡ [] → arrived nodes ≡ new → error ≡ last_failure NotFound answers → (after_tries NotFound entries rows answers nodes xs).next ≡ failed (Create error)
so_it_fails entries rows answers error nodes (x ∷ xs) new e f g h = absurd (cc)
so_it_fails entries rows answers error nodes [] (n ∷ ns) e f g h = absurd (cc)
so_it_fails entries rows answers error nodes [] [] e f g h =
    ap (λ new. (begun_anew NotFound entries rows answers new).next) g ∙ ap (λ last. failed (Create last)) (sym h)

pub fails_where_none : FailsWhereNone
unfolding plan
fails_where_none nodes entries rows attempts answers error = (
  λ e.
      let parts : (asked_for (tries nodes answers) ≡ []) × (arrived (tries nodes answers) ≡ []) × (error ≡ last_failure NotFound answers) =
      tries_fail entries rows answers error (tries nodes answers) (asked_for (tries nodes answers)) e in
      (all_failed nodes answers parts.0 parts.1, parts.2),
  λ h.
      let none : OthersCameToNothing (tries nodes answers) = came_to_nothing nodes answers h.0 in
      so_it_fails entries rows answers error (tries nodes answers) (asked_for (tries nodes answers)) [] none.0 refl none.1 h.1,
)

pub not_initial : (part : Part) → part ≢ Initial → (part_number part == 0) ≡ false
not_initial Initial h = absurd (h refl)
not_initial First h = refl
not_initial Second h = refl
not_initial Last h = refl
not_initial (Attempt n) h = grind (arith, nat_tests)

-- an answer of another part leaves the last failure as it was
pub left_last : (last : RedisError) (after : List Answered) → All (λ x. x.0.part ≢ Initial) after → last_failure last after ≡ last
left_last last [] h = refl
left_last last (x ∷ after) h =
    ap (λ b. last_failure (if b then later_failure (link_told x.1) (error_told x.1) last else last) after) (not_initial x.0.part (All-head (λ y. y.0.part ≢ Initial) x after h))
    ∙ left_last last after (All-tail (λ y. y.0.part ≢ Initial) x after h)

last_from : (last : RedisError) (before after : List Answered) (a : NodeAddress) (error : RedisError) → All (λ x. x.0.part ≢ Initial) after → last_failure last (before ++ (connect Initial a, answer.Failed error) ∷ after) ≡ error
last_from last [] after a error h = left_last error after h
last_from last (x ∷ before) after a error h = last_from (if part_number x.0.part == part_number Initial then later_failure (link_told x.1) (error_told x.1) last else last) before after a error h

pub last_counts : LastCounts
last_counts before after a error h = last_from NotFound before after a error h

pub reconnects_where_none : ReconnectsWhereNone
unfolding plan
reconnects_where_none nodes rows attempts answers = refl
