-- The connects with which a reconnect begins, by what has come of them so far.
use Rattle.std.specs.Prelude.{List, [], ◌∷◌}
use Rattle.mux_routing.specs.declared.rows.SlotRow.{SlotRow}
use Rattle.cluster_plan.specs.declared.asks.Part.TheVariants.{Initial}
use Rattle.cluster_plan.specs.declared.asks.Ask.{Ask}
use Rattle.cluster_plan.specs.declared.connections.NodeEntry.{NodeEntry}
use Rattle.cluster_plan.specs.declared.connects.InitialConnects.{InitialConnects}
use Rattle.cluster_plan.specs.declared.connects.InitialEnd.{InitialEnd}
use Rattle.cluster_plan.specs.declared.connects.InitialEnd.TheVariants.{Connected, Failed}
use Rattle.cluster_plan.specs.declared.recovery_kind.Failure.TheVariants.{Create}
use Rattle.cluster_plan.specs.Asks.{Answered}
use Rattle.cluster_plan.specs.Reached.{asked_for}
use Rattle.cluster_plan.specs.Refresh.{Plan, failed, refresh}
use Rattle.cluster_plan.specs.Initial.{after_tries, in_address_order, last_failure}
use Rattle.cluster_plan.specs.Progress.{go_on}

-- how the plan of a reconnect goes on from them, by the answers to come, with the map and the rows that stand meanwhile
unfoldable pub plan_from : InitialConnects → List NodeEntry → List SlotRow → List Answered → Plan
plan_from c entries rows more = after_tries c.last entries rows more (go_on Initial c.nodes.items more) (asked_for (go_on Initial c.nodes.items more))

-- the asks that have no answer yet
unfoldable pub open_asks : InitialConnects → List Ask
open_asks c = asked_for (go_on Initial c.nodes.items [])

-- how the plan goes on where all were answered: it fails, or a refresh of the new map follows
abbrev pub plan_behind : InitialEnd → List NodeEntry → List SlotRow → List Answered → Plan
plan_behind (Connected links) entries rows more = refresh (in_address_order links) [] more
plan_behind (Failed error) entries rows more = record { entries = entries; rows = rows; held = []; next = failed (Create (last_failure error more)) }
