-- What an answer to an initial connect makes of the connects goes on as they did with that answer.
use Rattle.std.proofs.Common.{◌≡◌, ℕ, ◌≤◌, ◌==◌, ◌&&◌, Bool, true, false, List, [], ◌∷◌, ◌++◌, map, length, take, drop, Option, Some, None, refl, sym, ◌∙◌, ap, subst, arith, if◌then◌else◌}
use Rattle.std.proofs.lemmas.List.{take-append-le, take_all}
use Rattle.redis_error.specs.declared.redis_error.RedisError.{RedisError}
use Rattle.redis_error.specs.declared.redis_error.RedisError.TheVariants.{NotFound}
use Rattle.slot_hash.specs.declared.address.NodeAddress.{NodeAddress}
use Rattle.mux_routing.specs.declared.rows.SlotRow.{SlotRow}
use Rattle.cluster_plan.specs.declared.asks.Part.TheVariants.{Initial}
use Rattle.cluster_plan.specs.declared.asks.Ask.{Ask}
use Rattle.cluster_plan.specs.declared.asks.Answer.{Answer}
use Rattle.cluster_plan.specs.declared.connections.ConnState.TheVariants as state
use Rattle.cluster_plan.specs.declared.connections.NodeEntry.{NodeEntry}
use Rattle.cluster_plan.specs.declared.recovery_kind.Failure.TheVariants.{Create}
use Rattle.cluster_plan.specs.declared.progress.Progress.{Progress}
use Rattle.cluster_plan.specs.declared.progress.Progress.TheVariants.{Connecting, Arrived, Lost}
use Rattle.cluster_plan.specs.declared.progress.Tried.{Tried}
use Rattle.cluster_plan.specs.Asks.{Answered, answer_to, is_ask, same_address, link_told, error_told}
use Rattle.cluster_plan.specs.Connections.{entry}
use Rattle.cluster_plan.specs.Reached.{Reached, asked, by_link, by_none, connect, brought, connected, connecting, asked_for, arrived}
use Rattle.cluster_plan.specs.Refresh.{Plan, asks, failed, refresh}
use Rattle.cluster_plan.specs.Initial.{last_failure, later_failure, links_of, in_address_order, begun_anew, after_tries}
use Rattle.cluster_plan.specs.Progress.{goes_by, go_on, progress_by, settled_by, settled}
use Rattle.cluster_plan.proofs.Missing.{refresh_missed}

-- the answers to come, behind that of an initial connect
abbrev pub behind_connect : NodeAddress → Answer → List Answered → List Answered
behind_connect a found more = (connect Initial a, found) ∷ more

-- the same, but for the errors of nodes that failed
abbrev pub Alike : Reached → Reached → Type 0
Alike (asked x) later = later ≡ asked x
Alike (by_link link) later = later ≡ by_link link
Alike (by_none error) later = (other : RedisError) × (later ≡ by_none other)

same_alike : (r later : Reached) → later ≡ r → Alike r later
same_alike (asked x) later e = e
same_alike (by_link link) later e = e
same_alike (by_none error) later e = (error, e)

brought_alike : (o : Option ℕ) (part_address : NodeAddress) (error : RedisError) (more : List Answered) → Alike (brought o error) (goes_by Initial part_address (progress_by o) more)
brought_alike None a error more = (NotFound, refl)
brought_alike (Some link) a error more = refl

-- a node that is being connected, with or without an answer to it in front
connecting_alike : (a b : NodeAddress) (found : Answer) (more : List Answered) → Alike (connecting Initial b (behind_connect a found more)) (goes_by Initial b (if same_address b a then progress_by (link_told found) else Connecting) more)
connecting_alike a b found more =
    elim (same_address b a) as (λ same. Alike (connected (connect Initial b) (if same then Some found else answer_to (connect Initial b) more)) (goes_by Initial b (if same then progress_by (link_told found) else Connecting) more)) [
      | true ↦ brought_alike (link_told found) b (error_told found) more
      | false ↦ same_alike (connecting Initial b more) (connecting Initial b more) refl
    ]

goes_alike : (a b : NodeAddress) (found : Answer) (p : Progress) (more : List Answered) → Alike (goes_by Initial b p (behind_connect a found more)) (goes_by Initial b (settled_by (same_address b a) (link_told found) p) more)
goes_alike a b found Connecting more = connecting_alike a b found more
goes_alike a b found (Arrived link) more = refl
goes_alike a b found Lost more = (NotFound, refl)

abbrev pub AllAlike : List (NodeAddress × Reached) → List (NodeAddress × Reached) → Type 0
AllAlike [] later = later ≡ []
AllAlike (x ∷ xs) later = (r : Reached) × (rest : List (NodeAddress × Reached)) × (later ≡ (x.0, r) ∷ rest) × Alike x.1 r × AllAlike xs rest

all_alike : (a : NodeAddress) (found : Answer) (ts : List Tried) (more : List Answered) → AllAlike (go_on Initial ts (behind_connect a found more)) (go_on Initial (map (settled a (link_told found)) ts) more)
all_alike a found [] more = refl
all_alike a found (t ∷ ts) more = (
  goes_by Initial t.address (settled_by (same_address t.address a) (link_told found) t.progress) more,
  go_on Initial (map (settled a (link_told found)) ts) more,
  refl,
  goes_alike a t.address found t.progress more,
  all_alike a found ts more,
)

-- so what is asked for, what arrived and what is held are the same
asked_one : (a : NodeAddress) (r later : Reached) (more others : List (NodeAddress × Reached)) → Alike r later → asked_for others ≡ asked_for more → asked_for ((a, later) ∷ others) ≡ asked_for ((a, r) ∷ more)
asked_one a (asked x) later more others h e = ap (λ l. asked_for ((a, l) ∷ others)) h ∙ ap (λ xs. x ∷ xs) e
asked_one a (by_link link) later more others h e = ap (λ l. asked_for ((a, l) ∷ others)) h ∙ e
asked_one a (by_none error) later more others h e = ap (λ l. asked_for ((a, l) ∷ others)) h.1 ∙ e

arrived_one : (a : NodeAddress) (r later : Reached) (more others : List (NodeAddress × Reached)) → Alike r later → arrived others ≡ arrived more → arrived ((a, later) ∷ others) ≡ arrived ((a, r) ∷ more)
arrived_one a (asked x) later more others h e = ap (λ l. arrived ((a, l) ∷ others)) h ∙ e
arrived_one a (by_link link) later more others h e = ap (λ l. arrived ((a, l) ∷ others)) h ∙ ap (λ xs. entry a (state.Connected link) ∷ xs) e
arrived_one a (by_none error) later more others h e = ap (λ l. arrived ((a, l) ∷ others)) h.1 ∙ e

links_one : (a : NodeAddress) (r later : Reached) (more others : List (NodeAddress × Reached)) → Alike r later → links_of others ≡ links_of more → links_of ((a, later) ∷ others) ≡ links_of ((a, r) ∷ more)
links_one a (asked x) later more others h e = ap (λ l. links_of ((a, l) ∷ others)) h ∙ e
links_one a (by_link link) later more others h e = ap (λ l. links_of ((a, l) ∷ others)) h ∙ ap (λ xs. link ∷ xs) e
links_one a (by_none error) later more others h e = ap (λ l. links_of ((a, l) ∷ others)) h.1 ∙ e

pub asked_same : (xs later : List (NodeAddress × Reached)) → AllAlike xs later → asked_for later ≡ asked_for xs
asked_same [] later h = ap asked_for h
asked_same (x ∷ xs) later h = ap asked_for h.2 ∙ asked_one x.0 x.1 h.0 xs h.1 h.3 (asked_same xs h.1 h.4)

arrived_same : (xs later : List (NodeAddress × Reached)) → AllAlike xs later → arrived later ≡ arrived xs
arrived_same [] later h = ap arrived h
arrived_same (x ∷ xs) later h = ap arrived h.2 ∙ arrived_one x.0 x.1 h.0 xs h.1 h.3 (arrived_same xs h.1 h.4)

links_same : (xs later : List (NodeAddress × Reached)) → AllAlike xs later → links_of later ≡ links_of xs
links_same [] later h = ap links_of h
links_same (x ∷ xs) later h = ap links_of h.2 ∙ links_one x.0 x.1 h.0 xs h.1 h.3 (links_same xs h.1 h.4)

begun_same : (a : NodeAddress) (found : Answer) (last : RedisError) (entries new : List NodeEntry) (rows : List SlotRow) (more : List Answered) → begun_anew (later_failure (link_told found) (error_told found) last) entries rows more new ≡ begun_anew last entries rows (behind_connect a found more) new
begun_same a found last entries [] rows more = refl
begun_same a found last entries (n ∷ ns) rows more = sym (refresh_missed (in_address_order (n ∷ ns)) [] (connect Initial a, found) more refl refl refl)

tries_same : (a : NodeAddress) (found : Answer) (last : RedisError) (entries : List NodeEntry) (rows : List SlotRow) (more : List Answered) (xs later : List (NodeAddress × Reached)) (ys : List Ask) → arrived later ≡ arrived xs → links_of later ≡ links_of xs
    → after_tries (later_failure (link_told found) (error_told found) last) entries rows more later ys ≡ after_tries last entries rows (behind_connect a found more) xs ys
tries_same a found last entries rows more xs later [] e f =
    ap (begun_anew (later_failure (link_told found) (error_told found) last) entries rows more) e ∙ begun_same a found last entries (arrived xs) rows more
tries_same a found last entries rows more xs later (y ∷ ys) e f = λ i. record { entries = entries; rows = rows; held = f i; next = asks (y ∷ ys) }

-- how the plan goes on behind an answer
pub answered_same : (a : NodeAddress) (found : Answer) (last : RedisError) (ts : List Tried) (entries : List NodeEntry) (rows : List SlotRow) (more : List Answered)
    → after_tries (later_failure (link_told found) (error_told found) last) entries rows more (go_on Initial (map (settled a (link_told found)) ts) more) (asked_for (go_on Initial (map (settled a (link_told found)) ts) more))
    ≡ after_tries last entries rows (behind_connect a found more) (go_on Initial ts (behind_connect a found more)) (asked_for (go_on Initial ts (behind_connect a found more)))
answered_same a found last ts entries rows more =
    let xs : List (NodeAddress × Reached) = go_on Initial ts (behind_connect a found more) in
    let later : List (NodeAddress × Reached) = go_on Initial (map (settled a (link_told found)) ts) more in
    let alike : AllAlike xs later = all_alike a found ts more in
    ap (after_tries (later_failure (link_told found) (error_told found) last) entries rows more later) (asked_same xs later alike)
    ∙ tries_same a found last entries rows more xs later (asked_for xs) (arrived_same xs later alike) (links_same xs later alike)

pub answered_by : (last new : RedisError) (ts later : List Tried) (a : NodeAddress) (found : Answer) (link : Option ℕ) (entries : List NodeEntry) (rows : List SlotRow) (more : List Answered)
    → link ≡ link_told found → later ≡ map (settled a link) ts → new ≡ later_failure link (error_told found) last
    → after_tries new entries rows more (go_on Initial later more) (asked_for (go_on Initial later more))
    ≡ after_tries last entries rows ((connect Initial a, found) ∷ more) (go_on Initial ts ((connect Initial a, found) ∷ more)) (asked_for (go_on Initial ts ((connect Initial a, found) ∷ more)))
answered_by last new ts later a found link entries rows more is e f =
    let settles : later ≡ map (settled a (link_told found)) ts = e ∙ ap (λ l. map (settled a l) ts) is in
    let fails : new ≡ later_failure (link_told found) (error_told found) last = f ∙ ap (λ l. later_failure l (error_told found) last) is in
    (λ i. after_tries (fails i) entries rows more (go_on Initial (settles i) more) (asked_for (go_on Initial (settles i) more))) ∙ answered_same a found last ts entries rows more

-- what is written back to a vector through a slice as long as it
pub whole_items : {A : Type 0} (n : ℕ) (ws xs : List A) → length ws ≡ n → take n (ws ++ drop (length ws) xs) ≡ ws
whole_items n ws xs e =
    let enough : n ≤ length ws = omega arith in
    let all : length ws ≤ n = omega arith in
    take-append-le n ws (drop (length ws) xs) enough ∙ take_all n ws all
