-- A refresh of the slots: CLUSTER SLOTS is asked until a reply is good, and then the nodes of the new map are reached.
use Rattle.std.specs.Prelude.{ℕ, List, [], ◌∷◌, ◌++◌, Option, Some, None}
use Rattle.redis_error.specs.declared.redis_error.RedisError.{RedisError}
use Rattle.redis_error.specs.declared.redis_error.RedisError.TheVariants.{NotFound}
use Rattle.slot_hash.specs.declared.address.NodeAddress.{NodeAddress}
use Rattle.mux_routing.specs.declared.rows.SlotRow.{SlotRow}
use Rattle.mux_routing.specs.Shards.{addresses}
use Rattle.cluster_plan.specs.declared.asks.Part.{Part}
use Rattle.cluster_plan.specs.declared.asks.Part.TheVariants.{First, Second, Last}
use Rattle.cluster_plan.specs.declared.asks.Request.TheVariants as request
use Rattle.cluster_plan.specs.declared.asks.Ask.{Ask}
use Rattle.cluster_plan.specs.declared.asks.Answer.{Answer}
use Rattle.cluster_plan.specs.declared.connections.ConnState.{ConnState}
use Rattle.cluster_plan.specs.declared.connections.ConnState.TheVariants.{Connected, Connecting}
use Rattle.cluster_plan.specs.declared.connections.NodeEntry.{NodeEntry}
use Rattle.cluster_plan.specs.declared.recovery_kind.Failure.{Failure}
use Rattle.cluster_plan.specs.declared.recovery_kind.Failure.TheVariants.{Refresh}
use Rattle.cluster_plan.specs.Asks.{Answered, answer_to, rows_told, error_told}
use Rattle.cluster_plan.specs.Connections.{connected_link, link_of, link_to, state_at, entry}
use Rattle.cluster_plan.specs.Reached.{Reached, asked, by_link, by_none, reached, asked_for}

-- what comes next of a plan: asks, all at once, or its end
pub data Next : Type 0 where
  asks : List Ask → Next
  ok : Next
  failed : Failure → Next

-- how a plan stands: the map and the rows as it leaves them so far, the links that it holds beside the map, and what
-- comes next
pub record Plan : Type 0 where
  pub entries : List NodeEntry
  pub rows : List SlotRow
  pub held : List ℕ
  pub next : Next

-- the reply to a query: it isn't there yet, good, or none that is good
pub data Reply : Type 0 where
  awaited : Ask → Reply
  good : List SlotRow → Reply
  bad : RedisError → Reply

abbrev pub query : Part → NodeAddress → ℕ → Ask
query part a link = record { part = part; address = a; request = request.Query link }

abbrev pub told : Option (List SlotRow) → RedisError → Reply
told None error = bad error
told (Some rows) error = good rows

abbrev pub replied : Ask → Option Answer → Reply
replied x None = awaited x
replied x (Some answer) = told (rows_told x.address.host answer) (error_told answer)

-- what a link replies to CLUSTER SLOTS
abbrev pub queried : Part → NodeAddress → ℕ → List Answered → Reply
queried part a link answers = replied (query part a link) (answer_to (query part a link) answers)

-- one after another, until a reply is good: without one the last error counts
abbrev pub until_good : RedisError → List Reply → Reply
until_good last [] = bad last
until_good last (awaited x ∷ more) = awaited x
until_good last (good rows ∷ more) = good rows
until_good last (bad error ∷ more) = until_good error more

abbrev pub by_connected : NodeAddress → Option ℕ → List Answered → List Reply
by_connected a None answers = []
by_connected a (Some link) answers = queried First a link answers ∷ []

-- the replies of the connected links, in order
abbrev pub first_replies : List NodeEntry → List Answered → List Reply
first_replies [] answers = []
first_replies (e ∷ es) answers = by_connected e.address (connected_link e.state) answers ++ first_replies es answers

-- pass two reaches the node of an entry
abbrev pub reached_again : NodeEntry → List Answered → Reached
reached_again e answers = reached Second e.address (link_of e.state) answers

-- and a node that was reached is asked for the slots
abbrev pub reply_where : NodeAddress → Reached → List Answered → Reply
reply_where a (asked x) answers = awaited x
reply_where a (by_link link) answers = queried Second a link answers
reply_where a (by_none error) answers = bad error

-- the replies of all entries, in order
abbrev pub second_replies : List NodeEntry → List Answered → List Reply
second_replies [] answers = []
second_replies (e ∷ es) answers = reply_where e.address (reached_again e answers) answers ∷ second_replies es answers

-- an entry that pass two reached is connected, and one whose node failed is connecting
abbrev pub state_after : ConnState → Reached → ConnState
state_after state (asked x) = state
state_after state (by_link link) = Connected link
state_after state (by_none error) = Connecting

abbrev pub behind : Reply → List NodeEntry → List NodeEntry → List NodeEntry
behind (awaited x) passed as_they_were = as_they_were
behind (good rows) passed as_they_were = as_they_were
behind (bad error) passed as_they_were = passed

-- the entries as pass two leaves them: it goes through them in order, until a reply is good
abbrev pub visited : List NodeEntry → List Answered → List NodeEntry
visited [] answers = []
visited (e ∷ es) answers =
    entry e.address (state_after e.state (reached_again e answers)) ∷ behind (reply_where e.address (reached_again e answers) answers) (visited es answers) es

-- every node of the new map is checked or connected
abbrev pub arrivals : List NodeEntry → List NodeAddress → List Answered → List (NodeAddress × Reached)
arrivals entries [] answers = []
arrivals entries (a ∷ more) answers = (a, reached Last a (link_to a entries) answers) ∷ arrivals entries more answers

abbrev pub as_it_was : NodeAddress → Option ConnState → List NodeEntry
as_it_was a None = []
as_it_was a (Some state) = entry a state ∷ []

-- the entries of the new map alone: a node that was reached is connected, one that failed leaves the map, and one that is
-- asked for stands as it did
abbrev pub remaining : List NodeEntry → List (NodeAddress × Reached) → List NodeEntry
remaining entries [] = []
remaining entries ((a, asked x) ∷ more) = as_it_was a (state_at a entries) ++ remaining entries more
remaining entries ((a, by_link link) ∷ more) = entry a (Connected link) ∷ remaining entries more
remaining entries ((a, by_none error) ∷ more) = remaining entries more

abbrev pub all_asked : List Ask → Next
all_asked [] = ok
all_asked (x ∷ xs) = asks (x ∷ xs)

abbrev pub renewed_by : List NodeEntry → List SlotRow → List (NodeAddress × Reached) → Plan
renewed_by entries rows nodes = record { entries = remaining entries nodes; rows = rows; held = []; next = all_asked (asked_for nodes) }

-- after a good reply, from these entries
abbrev pub renewed : List NodeEntry → List SlotRow → List Answered → Plan
renewed entries rows answers = renewed_by entries rows (arrivals entries (addresses rows) answers)

abbrev pub querying : List NodeEntry → List SlotRow → Ask → Plan
querying entries rows x = record { entries = entries; rows = rows; held = []; next = asks (x ∷ []) }

abbrev pub after_second : List NodeEntry → List SlotRow → List Answered → Reply → Plan
after_second entries rows answers (awaited x) = querying entries rows x
after_second entries rows answers (good new) = renewed entries new answers
after_second entries rows answers (bad error) = record { entries = entries; rows = rows; held = []; next = failed (Refresh error) }

-- pass two: without a good reply the refresh fails with the last error
abbrev pub second_pass : List NodeEntry → List SlotRow → List Answered → Plan
second_pass entries rows answers = after_second (visited entries answers) rows answers (until_good NotFound (second_replies entries answers))

abbrev pub after_first : List NodeEntry → List SlotRow → List Answered → Reply → Plan
after_first entries rows answers (awaited x) = querying entries rows x
after_first entries rows answers (good new) = renewed entries new answers
after_first entries rows answers (bad error) = second_pass entries rows answers

-- a refresh of these entries and rows: pass one, and where it has no good reply, pass two
abbrev pub refresh : List NodeEntry → List SlotRow → List Answered → Plan
refresh entries rows answers = after_first entries rows answers (until_good NotFound (first_replies entries answers))
