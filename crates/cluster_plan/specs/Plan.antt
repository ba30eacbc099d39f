-- The plan of a recovery or of a repair.
use Rattle.std.specs.Prelude.{ℕ, List, [], ◌∷◌, Option}
use Rattle.slot_hash.specs.declared.address.NodeAddress.{NodeAddress}
use Rattle.mux_routing.specs.declared.rows.SlotRow.{SlotRow}
use Rattle.cluster_plan.specs.declared.connections.NodeEntry.{NodeEntry}
use Rattle.cluster_plan.specs.declared.recovery_kind.RecoveryKind.{RecoveryKind}
use Rattle.cluster_plan.specs.declared.recovery_kind.RecoveryKind.TheVariants.{Initial, Slots, Repair}
use Rattle.cluster_plan.specs.Asks.{Answered}
use Rattle.cluster_plan.specs.Initial.{initial}
use Rattle.cluster_plan.specs.Refresh.{Plan, refresh}
use Rattle.cluster_plan.specs.Repair.{repair}

-- how a plan stands after these answers, from the distinct initial addresses, the entries and the rows at its beginning (for
-- a repair those of the turn), and how many attempts of a repair are set; a refresh of an empty map is a reconnect
unfoldable pub plan : RecoveryKind → List NodeAddress → List NodeEntry → List SlotRow → Option ℕ → List Answered → Plan
plan Initial nodes entries rows attempts answers = initial nodes entries rows answers
plan Slots nodes [] rows attempts answers = initial nodes [] rows answers
plan Slots nodes (e ∷ es) rows attempts answers = refresh (e ∷ es) rows answers
plan (Repair a) nodes entries rows attempts answers = repair a entries rows attempts answers
