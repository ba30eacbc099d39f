-- What an answer means in pass two, where a node is reached, and asked for the slots where it was.
use Rattle.std.specs.Prelude.{◌≡◌, ℕ, true, List, Option, Some, None, if◌then◌else◌}
use Rattle.redis_error.specs.declared.redis_error.RedisError.{RedisError}
use Rattle.mux_routing.specs.declared.rows.SlotRow.{SlotRow}
use Rattle.mux_routing.specs.Reply.{are_rows}
use Rattle.cluster_plan.specs.declared.asks.Answer.{Answer}
use Rattle.cluster_plan.specs.declared.heard.Heard.{Heard}
use Rattle.cluster_plan.specs.declared.heard.Heard.TheVariants.{Goes, Rows, Error}
use Rattle.cluster_plan.specs.declared.step.Step.{Step}
use Rattle.cluster_plan.specs.declared.step.Step.TheVariants.{Checking, Connecting, Arrived}
use Rattle.cluster_plan.specs.Asks.{error_told, link_told, passes, rows_told}

-- the answer to a connect
abbrev pub heard_by_link : Option ℕ → RedisError → Heard
heard_by_link None error = Error error
heard_by_link (Some link) error = Goes (Arrived link)

-- the answer to a query
abbrev pub heard_by_rows : Option (List SlotRow) → RedisError → Heard
heard_by_rows None error = Error error
heard_by_rows (Some rows) error = Rows rows

-- the answer of a node of this host, by how far it was reached
abbrev pub heard_of : List ℕ → Step → Answer → Heard
heard_of host (Checking link) found = Goes (if passes found then Arrived link else Connecting)
heard_of host Connecting found = heard_by_link (link_told found) (error_told found)
heard_of host (Arrived link) found = heard_by_rows (rows_told host found) (error_told found)

-- rows that were heard are of the shape of rows
abbrev pub AreHeard : Heard → Type 0
AreHeard (Goes step) = Unit {0}
AreHeard (Rows rows) = are_rows rows ≡ true
AreHeard (Error error) = Unit {0}
