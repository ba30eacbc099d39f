-- A node is checked or connected: the link that there is is checked by PING, and where the check fails, or there is no
-- link, the node is connected.
use Rattle.std.specs.Prelude.{ℕ, List, [], ◌∷◌, Option, Some, None, if◌then◌else◌}
use Rattle.redis_error.specs.declared.redis_error.RedisError.{RedisError}
use Rattle.slot_hash.specs.declared.address.NodeAddress.{NodeAddress}
use Rattle.cluster_plan.specs.declared.asks.Part.{Part}
use Rattle.cluster_plan.specs.declared.asks.Request.TheVariants as request
use Rattle.cluster_plan.specs.declared.asks.Ask.{Ask}
use Rattle.cluster_plan.specs.declared.asks.Answer.{Answer}
use Rattle.cluster_plan.specs.Asks.{Answered, answer_to, link_told, passes, error_told}
use Rattle.cluster_plan.specs.declared.connections.NodeEntry.{NodeEntry}
use Rattle.cluster_plan.specs.declared.connections.ConnState.TheVariants.{Connected}
use Rattle.cluster_plan.specs.Connections.{entry}

-- a node is asked for still, was reached by a link, or failed
pub data Reached : Type 0 where
  asked : Ask → Reached
  by_link : ℕ → Reached
  by_none : RedisError → Reached

abbrev pub connect : Part → NodeAddress → Ask
connect part a = record { part = part; address = a; request = request.Connect }

abbrev pub check : Part → NodeAddress → ℕ → Ask
check part a link = record { part = part; address = a; request = request.Check link }

abbrev pub brought : Option ℕ → RedisError → Reached
brought None error = by_none error
brought (Some link) error = by_link link

abbrev pub connected : Ask → Option Answer → Reached
connected x None = asked x
connected x (Some answer) = brought (link_told answer) (error_told answer)

-- a node is connected
abbrev pub connecting : Part → NodeAddress → List Answered → Reached
connecting part a answers = connected (connect part a) (answer_to (connect part a) answers)

abbrev pub checked : Ask → ℕ → Option Answer → Reached → Reached
checked x link None otherwise = asked x
checked x link (Some answer) otherwise = if passes answer then by_link link else otherwise

-- a node is checked or connected, by the link that there is of it
abbrev pub reached : Part → NodeAddress → Option ℕ → List Answered → Reached
reached part a None answers = connecting part a answers
reached part a (Some link) answers = checked (check part a link) link (answer_to (check part a link) answers) (connecting part a answers)

-- what is asked for still, of several nodes
abbrev pub asked_for : List (NodeAddress × Reached) → List Ask
asked_for [] = []
asked_for ((a, asked x) ∷ more) = x ∷ asked_for more
asked_for ((a, by_link link) ∷ more) = asked_for more
asked_for ((a, by_none error) ∷ more) = asked_for more

-- those that were reached, by their links
abbrev pub arrived : List (NodeAddress × Reached) → List NodeEntry
arrived [] = []
arrived ((a, asked x) ∷ more) = arrived more
arrived ((a, by_link link) ∷ more) = entry a (Connected link) ∷ arrived more
arrived ((a, by_none error) ∷ more) = arrived more
