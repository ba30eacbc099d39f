-- A recovery by what has come of it so far: how its plan goes on.
use Rattle.std.specs.Prelude.{◌≡◌, ◌==◌, ℕ, Bool, true, false, List, [], ◌∷◌, ◌++◌, map, length, Option, Some, None}
use Rattle.redis_error.specs.declared.redis_error.RedisError.{RedisError}
use Rattle.redis_error.specs.declared.redis_error.RedisError.TheVariants.{NotFound}
use Rattle.slot_hash.specs.declared.address.NodeAddress.{NodeAddress}
use Rattle.mux_routing.specs.declared.rows.SlotRow.{SlotRow}
use Rattle.mux_routing.specs.Shards.{in_order}
use Rattle.cluster_plan.specs.declared.asks.Ask.{Ask}
use Rattle.cluster_plan.specs.declared.asks.Part.TheVariants.{First, Second}
use Rattle.cluster_plan.specs.declared.connections.ConnState.{ConnState}
use Rattle.cluster_plan.specs.declared.connections.ConnState.TheVariants as conn
use Rattle.cluster_plan.specs.declared.connections.NodeEntry.{NodeEntry}
use Rattle.cluster_plan.specs.declared.heard.Heard.{Heard}
use Rattle.cluster_plan.specs.declared.heard.Heard.TheVariants as heard
use Rattle.cluster_plan.specs.declared.recovery.Recovery.{Recovery}
use Rattle.cluster_plan.specs.declared.recovery_kind.Failure.{Failure}
use Rattle.cluster_plan.specs.declared.recovery_kind.Failure.TheVariants.{Create, Refresh}
use Rattle.cluster_plan.specs.declared.state.Pass.{Pass}
use Rattle.cluster_plan.specs.declared.state.State.{State}
use Rattle.cluster_plan.specs.declared.state.State.TheVariants as state
use Rattle.cluster_plan.specs.declared.step.Step.{Step}
use Rattle.cluster_plan.specs.declared.step.Step.TheVariants.{Checking, Connecting, Arrived}
use Rattle.cluster_plan.specs.Asks.{Answered}
use Rattle.cluster_plan.specs.Connections.{entry}
use Rattle.cluster_plan.specs.Connects.{open_asks, plan_from}
use Rattle.cluster_plan.specs.Initial.{last_failure}
use Rattle.cluster_plan.specs.Reached.{Reached, asked_for, check, connect}
use Rattle.cluster_plan.specs.Refresh.{Next, asks, ok, failed, Plan, after_first, after_second, behind, first_replies, queried, query, renewed, renewed_by, reply_where, second_replies, state_after, until_good, visited}
use Rattle.cluster_plan.specs.Steps.{stepped, stepping}

-- the addresses of entries, in their order
abbrev pub places : List NodeEntry → List NodeAddress
places entries = map (λ e. e.address) entries

-- the entries of a pass
abbrev pub entries_of : Pass → List NodeEntry
entries_of p = p.passed ++ p.here ∷ p.rest

-- pass one, where this link is asked for the slots
abbrev pub first_from : Pass → List SlotRow → ℕ → List Answered → Plan
first_from p rows link more =
    after_first (entries_of p) rows more (until_good NotFound (queried First p.here.address link more ∷ first_replies p.rest more))

-- pass two, where the node is reached so, and this error was the last
abbrev pub second_on : Pass → List SlotRow → RedisError → List Answered → Reached → Plan
second_on p rows last more r =
    after_second (p.passed ++ entry p.here.address (state_after p.here.state r) ∷ behind (reply_where p.here.address r more) (visited p.rest more) p.rest) rows more
    (until_good last (reply_where p.here.address r more ∷ second_replies p.rest more))

abbrev pub second_from : Pass → List SlotRow → Step → RedisError → List Answered → Plan
second_from p rows step last more = second_on p rows last more (stepping Second p.here.address step more)

-- what becomes of the entry of a node that was reached, or failed
abbrev pub entered : Step → ConnState
entered (Checking link) = conn.Connecting
entered Connecting = conn.Connecting
entered (Arrived link) = conn.Connected link

-- how pass two goes on by what it heard of a node that was reached so
abbrev pub after_heard : Pass → List SlotRow → Step → RedisError → Heard → List Answered → Plan
after_heard p rows step last (heard.Goes next) more = second_from p rows next last more
after_heard p rows step last (heard.Rows new) more = renewed (p.passed ++ entry p.here.address (entered step) ∷ p.rest) new more
after_heard p rows step last (heard.Error error) more =
    after_second (p.passed ++ entry p.here.address (entered step) ∷ visited p.rest more) rows more (until_good error (second_replies p.rest more))

-- what pass two asks of a node: to reach it, and then for the slots
abbrev pub asked_second : NodeAddress → Step → Ask
asked_second a (Checking link) = check Second a link
asked_second a Connecting = connect Second a
asked_second a (Arrived link) = query Second a link

-- an end; the last failure of the initial connects is that of the last one that was answered
abbrev pub end_by : Option Failure → List Answered → Next
end_by None more = ok
end_by (Some (Create error)) more = failed (Create (last_failure error more))
end_by (Some (Refresh error)) more = failed (Refresh error)

abbrev pub ended_so : List NodeEntry → List SlotRow → Option Failure → List Answered → Plan
ended_so entries rows failure more = record { entries = entries; rows = rows; held = []; next = end_by failure more }

-- how the plan of a recovery goes on, by the answers to come
unfoldable pub plan_of : State → List Answered → Plan
plan_of (state.Initial connects entries rows) more = plan_from connects entries rows more
plan_of (state.First pass rows link) more = first_from pass rows link more
plan_of (state.Second pass rows step last) more = second_from pass rows step last more
plan_of (state.Last entries rows nodes) more = renewed_by entries rows (stepped nodes more)
plan_of (state.Ended entries rows failure) more = ended_so entries rows failure more

-- the asks that come next, none at an end
abbrev pub asks_in : Next → List Ask
asks_in (asks xs) = xs
asks_in ok = []
asks_in (failed failure) = []

abbrev pub has_ended : Next → Bool
has_ended (asks xs) = false
has_ended ok = true
has_ended (failed failure) = true

-- what is true of every recovery that goes on: its nodes are distinct and in order, and something is asked
abbrev pub IsSound : State → Type 0
IsSound (state.Initial connects entries rows) = (length (open_asks connects) == 0) ≡ false
IsSound (state.First pass rows link) = in_order (places (entries_of pass)) ≡ true
IsSound (state.Second pass rows step last) = in_order (places (entries_of pass)) ≡ true
IsSound (state.Last entries rows nodes) = (in_order (map (λ t. t.address) nodes) ≡ true) × ((length (asked_for (stepped nodes [])) == 0) ≡ false)
IsSound (state.Ended entries rows failure) = Unit {0}

-- the same of a recovery
unfoldable pub plan_on : Recovery → List Answered → Plan
plan_on r more = plan_of r.state more

abbrev pub IsWhole : Recovery → Type 0
IsWhole r = IsSound r.state
