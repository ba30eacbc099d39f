-- The connects of a reconnect at its beginning, and at their end.
use Rattle.std.proofs.Common.{◌≡◌, ℕ, ◌==◌, true, false, List, [], ◌∷◌, ◌++◌, map, length, Option, Some, None, refl, sym, ◌∙◌, ap, arith}
use Rattle.std.proofs.lemmas.Bool.Decides.{nat_tests}
use Rattle.redis_error.specs.declared.redis_error.RedisError.{RedisError}
use Rattle.redis_error.specs.declared.redis_error.RedisError.TheVariants.{NotFound}
use Rattle.slot_hash.specs.declared.address.NodeAddress.{NodeAddress}
use Rattle.mux_routing.specs.declared.rows.SlotRow.{SlotRow}
use Rattle.cluster_plan.specs.declared.asks.Part.TheVariants.{Initial}
use Rattle.cluster_plan.specs.declared.asks.Ask.{Ask}
use Rattle.cluster_plan.specs.declared.connections.ConnState.TheVariants as state
use Rattle.cluster_plan.specs.declared.connections.NodeEntry.{NodeEntry}
use Rattle.cluster_plan.specs.declared.connects.InitialEnd.{InitialEnd}
use Rattle.cluster_plan.specs.declared.connects.InitialEnd.TheVariants as end
use Rattle.cluster_plan.specs.declared.progress.Progress.{Progress}
use Rattle.cluster_plan.specs.declared.progress.Progress.TheVariants.{Connecting, Arrived, Lost}
use Rattle.cluster_plan.specs.declared.progress.Tried.{Tried}
use Rattle.cluster_plan.specs.Asks.{Answered}
use Rattle.cluster_plan.specs.Connections.{entry}
use Rattle.cluster_plan.specs.Reached.{Reached, asked, by_link, by_none, connect, connecting, asked_for, arrived}
use Rattle.cluster_plan.specs.Refresh.{Plan}
use Rattle.cluster_plan.specs.Initial.{last_failure, tries, begun_anew, after_tries, initial}
use Rattle.cluster_plan.specs.Progress.{begun, goes_by, go_on}
use Rattle.cluster_plan.specs.Connects.{plan_behind}

go_on_begun : (nodes : List NodeAddress) (more : List Answered) → go_on Initial (map begun nodes) more ≡ tries nodes more
go_on_begun [] more = refl
go_on_begun (a ∷ rest) more = ap (λ xs. (a, connecting Initial a more) ∷ xs) (go_on_begun rest more)

pub begins_so : (nodes : List NodeAddress) (entries : List NodeEntry) (rows : List SlotRow) (more : List Answered) → after_tries NotFound entries rows more (go_on Initial (map begun nodes) more) (asked_for (go_on Initial (map begun nodes) more)) ≡ initial nodes entries rows more
begins_so nodes entries rows more = ap (λ ts. after_tries NotFound entries rows more ts (asked_for ts)) (go_on_begun nodes more)

-- where nothing is open, nothing goes on
goes_by_same : (a : NodeAddress) (p : Progress) (rest : List (NodeAddress × Reached)) (more : List Answered) → asked_for ((a, goes_by Initial a p []) ∷ rest) ≡ [] → (goes_by Initial a p more ≡ goes_by Initial a p []) × (asked_for rest ≡ [])
goes_by_same a Connecting rest more e = absurd (cc)
goes_by_same a (Arrived link) rest more e = (refl, e)
goes_by_same a Lost rest more e = (refl, e)

pub nothing_open : (ts : List Tried) (more : List Answered) → asked_for (go_on Initial ts []) ≡ [] → go_on Initial ts more ≡ go_on Initial ts []
nothing_open [] more e = refl
nothing_open (t ∷ ts) more e =
    let parts : (goes_by Initial t.address t.progress more ≡ goes_by Initial t.address t.progress []) × (asked_for (go_on Initial ts []) ≡ []) = goes_by_same t.address t.progress (go_on Initial ts []) more e in
    let here : goes_by Initial t.address t.progress more ≡ goes_by Initial t.address t.progress [] = parts.0 in
    let others : go_on Initial ts more ≡ go_on Initial ts [] = nothing_open ts more parts.1 in
    λ i. (t.address, here i) ∷ others i

-- so the plan goes on as its end says
unfoldable pub end_of : RedisError → List NodeEntry → InitialEnd
end_of last [] = end.Failed last
end_of last (e ∷ es) = end.Connected (e ∷ es)

begun_behind : (last : RedisError) (entries new : List NodeEntry) (rows : List SlotRow) (more : List Answered) → begun_anew last entries rows more new ≡ plan_behind (end_of last new) entries rows more
unfolding end_of
begun_behind last entries [] rows more = refl
begun_behind last entries (e ∷ es) rows more = refl

empty_by_length : {A : Type 0} (xs : List A) → (length xs == 0) ≡ true → xs ≡ []
empty_by_length [] e = refl
empty_by_length (x ∷ xs) e = grind (arith, nat_tests)

pub ends_so : (last : RedisError) (ts : List Tried) (entries : List NodeEntry) (rows : List SlotRow) (more : List Answered) → (length (asked_for (go_on Initial ts [])) == 0) ≡ true
    → after_tries last entries rows more (go_on Initial ts more) (asked_for (go_on Initial ts more)) ≡ plan_behind (end_of last (arrived (go_on Initial ts []))) entries rows more
ends_so last ts entries rows more h =
    let e : asked_for (go_on Initial ts []) ≡ [] = empty_by_length (asked_for (go_on Initial ts [])) h in
    ap (λ xs. after_tries last entries rows more xs (asked_for xs)) (nothing_open ts more e)
    ∙ ap (after_tries last entries rows more (go_on Initial ts [])) e
    ∙ begun_behind last entries (arrived (go_on Initial ts [])) rows more

pub ends_failed : (last : RedisError) (ts : List Tried) (es : List NodeEntry) (entries : List NodeEntry) (rows : List SlotRow) (more : List Answered) → (length (asked_for (go_on Initial ts [])) == 0) ≡ true
    → es ≡ arrived (go_on Initial ts []) → (length es == 0) ≡ true
    → after_tries last entries rows more (go_on Initial ts more) (asked_for (go_on Initial ts more)) ≡ plan_behind (end.Failed last) entries rows more
unfolding end_of
ends_failed last ts es entries rows more h e f =
    ends_so last ts entries rows more h ∙ ap (λ new. plan_behind (end_of last new) entries rows more) (sym e ∙ empty_by_length es f)

end_connected : (last : RedisError) (es : List NodeEntry) → (length es == 0) ≡ false → end_of last es ≡ end.Connected es
unfolding end_of
end_connected last [] f = absurd (cc)
end_connected last (e ∷ es) f = refl

pub ends_connected : (last : RedisError) (ts : List Tried) (es : List NodeEntry) (entries : List NodeEntry) (rows : List SlotRow) (more : List Answered) → (length (asked_for (go_on Initial ts [])) == 0) ≡ true
    → es ≡ arrived (go_on Initial ts []) → (length es == 0) ≡ false
    → after_tries last entries rows more (go_on Initial ts more) (asked_for (go_on Initial ts more)) ≡ plan_behind (end.Connected es) entries rows more
ends_connected last ts es entries rows more h e f =
    ends_so last ts entries rows more h
    ∙ ap (λ new. plan_behind (end_of last new) entries rows more) (sym e)
    ∙ ap (λ w. plan_behind w entries rows more) (end_connected last es f)
