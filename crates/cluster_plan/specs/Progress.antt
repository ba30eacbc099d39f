-- How far the connecting of nodes has come, and how it goes on.
use Rattle.std.specs.Prelude.{ℕ, Bool, List, [], ◌∷◌, Option, Some, None, if◌then◌else◌}
use Rattle.redis_error.specs.declared.redis_error.RedisError.TheVariants.{NotFound}
use Rattle.slot_hash.specs.declared.address.NodeAddress.{NodeAddress}
use Rattle.cluster_plan.specs.declared.asks.Part.{Part}
use Rattle.cluster_plan.specs.declared.asks.Ask.{Ask}
use Rattle.cluster_plan.specs.declared.asks.Answer.{Answer}
use Rattle.cluster_plan.specs.declared.progress.Progress.{Progress}
use Rattle.cluster_plan.specs.declared.progress.Progress.TheVariants.{Connecting, Arrived, Lost}
use Rattle.cluster_plan.specs.declared.progress.Tried.{Tried}
use Rattle.cluster_plan.specs.Asks.{Answered, same_address}
use Rattle.cluster_plan.specs.Reached.{Reached, by_link, by_none, connecting}

-- how the connecting of a node goes on, by the answers to come; the error of a node that failed isn't kept
abbrev pub goes_by : Part → NodeAddress → Progress → List Answered → Reached
goes_by part a Connecting more = connecting part a more
goes_by part a (Arrived link) more = by_link link
goes_by part a Lost more = by_none NotFound

abbrev pub go_on : Part → List Tried → List Answered → List (NodeAddress × Reached)
go_on part [] more = []
go_on part (t ∷ ts) more = (t.address, goes_by part t.address t.progress more) ∷ go_on part ts more

-- what an answer to its connect makes of a node that is being connected
abbrev pub progress_by : Option ℕ → Progress
progress_by None = Lost
progress_by (Some link) = Arrived link

abbrev pub settled_by : Bool → Option ℕ → Progress → Progress
settled_by same link Connecting = if same then progress_by link else Connecting
settled_by same link (Arrived old) = Arrived old
settled_by same link Lost = Lost

abbrev pub settled : NodeAddress → Option ℕ → Tried → Tried
settled a link t = record { address = t.address; progress = settled_by (same_address t.address a) link t.progress }

-- a node that is being connected
abbrev pub begun : NodeAddress → Tried
begun a = record { address = a; progress = Connecting }
