-- A repair of one node's link: attempts, each of which checks or connects it, and a wait after each that failed.
use Rattle.std.specs.Prelude.{ℕ, ◌+◌, ◌*◌, ◌^◌, ◌-◌, ◌==◌, min, nat_lt, Bool, true, false, List, [], ◌∷◌, Option, Some, None, if◌then◌else◌}
use Rattle.slot_hash.specs.declared.address.NodeAddress.{NodeAddress}
use Rattle.mux_routing.specs.declared.rows.SlotRow.{SlotRow}
use Rattle.mux_routing.specs.Shards.{addresses}
use Rattle.cluster_plan.specs.declared.asks.Part.TheVariants.{Attempt}
use Rattle.cluster_plan.specs.declared.asks.Request.TheVariants as request
use Rattle.cluster_plan.specs.declared.asks.Ask.{Ask}
use Rattle.cluster_plan.specs.declared.connections.ConnState.{ConnState}
use Rattle.cluster_plan.specs.declared.connections.ConnState.TheVariants.{Connected, Reconnecting, Connecting}
use Rattle.cluster_plan.specs.declared.connections.NodeEntry.{NodeEntry}
use Rattle.cluster_plan.specs.Asks.{Answered, request_number, same_address}
use Rattle.cluster_plan.specs.Connections.{link_in, put, state_at, without}
use Rattle.cluster_plan.specs.Reached.{Reached, asked, by_link, by_none, reached}
use Rattle.cluster_plan.specs.Refresh.{asks, ok, Plan}

-- how many waits have fired
abbrev pub waits_over : List Answered → ℕ
waits_over [] = 0
waits_over (x ∷ more) = (if request_number x.0.request == 3 then 1 else 0) + waits_over more

-- the wait after an attempt: 50 milliseconds after the first, doubled each time, up to 1,000
abbrev pub wait_ms : ℕ → ℕ
wait_ms n = min (50 * 2 ^ (n - 1)) 1_000

abbrev pub wait : NodeAddress → ℕ → Ask
wait a n = record { part = Attempt n; address = a; request = request.Wait (wait_ms n) }

abbrev pub is_among : NodeAddress → List NodeAddress → Bool
is_among a [] = false
is_among a (b ∷ bs) = if same_address a b then true else is_among a bs

-- whether more attempts are set than were made before this one
abbrev pub is_set : ℕ → Option ℕ → Bool
is_set n None = true
is_set n (Some most) = if nat_lt most n then false else true

abbrev pub repairing : List NodeEntry → List SlotRow → Ask → Plan
repairing entries rows x = record { entries = entries; rows = rows; held = []; next = asks (x ∷ []) }

abbrev pub repaired : List NodeEntry → List SlotRow → Plan
repaired entries rows = record { entries = entries; rows = rows; held = []; next = ok }

-- an attempt that fails is followed by its wait
abbrev pub attempted : NodeAddress → List NodeEntry → List SlotRow → ℕ → Reached → Plan
attempted a entries rows n (asked x) = repairing entries rows x
attempted a entries rows n (by_link link) = repaired (put a (Connected link) entries) rows
attempted a entries rows n (by_none error) = repairing entries rows (wait a n)

-- the attempt of that number is made where the node is in the slot map, and so many attempts are set; else its entry goes
abbrev pub attempt : NodeAddress → List NodeEntry → List SlotRow → Option ℕ → ℕ → List Answered → Plan
attempt a entries rows attempts n answers =
    if is_among a (addresses rows)
    then (if is_set n attempts
    then attempted a entries rows n (reached (Attempt n) a (link_in (state_at a entries)) answers)
    else repaired (without a entries) rows)
    else repaired (without a entries) rows

abbrev pub while_not_connected : Option ConnState → List NodeEntry → List SlotRow → Plan → Plan
while_not_connected None entries rows go_on = go_on
while_not_connected (Some (Connected link)) entries rows go_on = repaired entries rows
while_not_connected (Some (Reconnecting link)) entries rows go_on = go_on
while_not_connected (Some Connecting) entries rows go_on = go_on

-- a repair, by the entries and the rows of the turn: it ends where the entry is connected
abbrev pub repair : NodeAddress → List NodeEntry → List SlotRow → Option ℕ → List Answered → Plan
repair a entries rows attempts answers =
    while_not_connected (state_at a entries) entries rows (attempt a entries rows attempts (waits_over answers + 1) answers)
