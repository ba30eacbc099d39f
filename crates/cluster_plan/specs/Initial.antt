-- A reconnect to the initial addresses: each is connected, all at once, and a refresh of the links that there are follows.
use Rattle.std.specs.Prelude.{ℕ, ◌==◌, List, [], ◌∷◌, Option, Some, None, if◌then◌else◌}
use Rattle.redis_error.specs.declared.redis_error.RedisError.{RedisError}
use Rattle.redis_error.specs.declared.redis_error.RedisError.TheVariants.{NotFound}
use Rattle.slot_hash.specs.declared.address.NodeAddress.{NodeAddress}
use Rattle.mux_routing.specs.declared.rows.SlotRow.{SlotRow}
use Rattle.cluster_plan.specs.declared.asks.Part.TheVariants.{Initial}
use Rattle.cluster_plan.specs.declared.asks.Ask.{Ask}
use Rattle.cluster_plan.specs.declared.connections.NodeEntry.{NodeEntry}
use Rattle.cluster_plan.specs.declared.recovery_kind.Failure.TheVariants.{Create}
use Rattle.cluster_plan.specs.Asks.{Answered, part_number, error_told, link_told}
use Rattle.cluster_plan.specs.Connections.{put}
use Rattle.cluster_plan.specs.Reached.{Reached, asked, by_link, by_none, connecting, asked_for, arrived}
use Rattle.cluster_plan.specs.Refresh.{asks, failed, Plan, refresh}

-- every initial address is connected
abbrev pub tries : List NodeAddress → List Answered → List (NodeAddress × Reached)
tries [] answers = []
tries (a ∷ more) answers = (a, connecting Initial a answers) ∷ tries more answers

abbrev pub later_failure : Option ℕ → RedisError → RedisError → RedisError
later_failure None error last = error
later_failure (Some link) error last = last

-- the last failure of an initial connect, in the order of the answers
abbrev pub last_failure : RedisError → List Answered → RedisError
last_failure last [] = last
last_failure last (x ∷ more) = last_failure (if part_number x.0.part == part_number Initial then later_failure (link_told x.1) (error_told x.1) last else last) more

abbrev pub links_of : List (NodeAddress × Reached) → List ℕ
links_of [] = []
links_of ((a, asked x) ∷ more) = links_of more
links_of ((a, by_link link) ∷ more) = link ∷ links_of more
links_of ((a, by_none error) ∷ more) = links_of more

-- the entries in the order of their addresses
abbrev pub in_address_order : List NodeEntry → List NodeEntry
in_address_order [] = []
in_address_order (e ∷ es) = put e.address e.state (in_address_order es)

-- where none succeeded, it fails with the last failure; else the map becomes these links, and the slot map empty
abbrev pub begun_anew : RedisError → List NodeEntry → List SlotRow → List Answered → List NodeEntry → Plan
begun_anew last entries rows answers [] = record { entries = entries; rows = rows; held = []; next = failed (Create (last_failure last answers)) }
begun_anew last entries rows answers (e ∷ es) = refresh (in_address_order (e ∷ es)) [] answers

-- what stands, stays until all were answered
abbrev pub after_tries : RedisError → List NodeEntry → List SlotRow → List Answered → List (NodeAddress × Reached) → List Ask → Plan
after_tries last entries rows answers nodes (x ∷ xs) = record { entries = entries; rows = rows; held = links_of nodes; next = asks (x ∷ xs) }
after_tries last entries rows answers nodes [] = begun_anew last entries rows answers (arrived nodes)

-- a reconnect to these addresses, from a map and its rows
abbrev pub initial : List NodeAddress → List NodeEntry → List SlotRow → List Answered → Plan
initial nodes entries rows answers = after_tries NotFound entries rows answers (tries nodes answers) (asked_for (tries nodes answers))
