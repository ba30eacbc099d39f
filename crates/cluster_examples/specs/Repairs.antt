-- Repairs of one node's link.
use Rattle.std.specs.Prelude.{ℕ, List, [], ◌∷◌, map, Option, Some, None}
use Rattle.mux_routing.specs.declared.rows.SlotRow.{SlotRow}
use Rattle.cluster_plan.specs.declared.asks.Part.TheVariants.{Attempt}
use Rattle.cluster_plan.specs.declared.asks.Ask.{Ask}
use Rattle.cluster_plan.specs.declared.asks.Answer.{Answer}
use Rattle.cluster_plan.specs.declared.asks.Answer.TheVariants.{Connected, Fired}
use Rattle.cluster_plan.specs.declared.asks.Request.TheVariants.{Wait}
use Rattle.cluster_plan.specs.declared.connections.ConnState.{ConnState}
use Rattle.cluster_plan.specs.declared.connections.ConnState.TheVariants as state
use Rattle.cluster_plan.specs.declared.connections.NodeEntry.{NodeEntry}
use Rattle.cluster_plan.specs.declared.recovery_kind.RecoveryKind.TheVariants as kind
use Rattle.cluster_plan.specs.declared.repair.RepairStep.{RepairStep}
use Rattle.cluster_plan.specs.declared.repair.RepairStep.TheVariants as step
use Rattle.cluster_plan.specs.Asks.{Answered}
use Rattle.cluster_plan.specs.Connections.{entry}
use Rattle.cluster_plan.specs.Reached.{connect, check}
use Rattle.cluster_plan.specs.Refresh.{Next, asks, ok, Plan}
use Rattle.cluster_plan.specs.Repair.{wait}
use Rattle.cluster_plan.specs.Repairing.{plan_by}
use Rattle.cluster_plan.specs.Plan.{plan}
use Rattle.cluster_examples.specs.Stories.{node, refused, closed, okay, all_slots}
use Rattle.cluster_examples.specs.Turns.{turns}

-- a repair of the node of port 7000, where the map has this of it alone, with these rows, and two attempts
abbrev pub from : ConnState → List SlotRow → List Answered → Plan
from has rows answers = plan (kind.Repair (node 7_000)) (node 7_000 ∷ []) (entry (node 7_000) has ∷ []) rows (Some 2) answers

-- each attempt checks the old link or connects, and each that fails is followed by its wait, the last too; then the entry goes
abbrev pub two_attempts : List Answered
two_attempts =
    (check (Attempt 1) (node 7_000) 0, closed)
    ∷ (connect (Attempt 1) (node 7_000), refused)
    ∷ (wait (node 7_000) 1, Fired)
    ∷ (check (Attempt 2) (node 7_000) 0, closed)
    ∷ (connect (Attempt 2) (node 7_000), refused)
    ∷ (wait (node 7_000) 2, Fired)
    ∷ []

abbrev pub comes_of_attempts : List Next
comes_of_attempts =
    asks (check (Attempt 1) (node 7_000) 0 ∷ [])
    ∷ asks (connect (Attempt 1) (node 7_000) ∷ [])
    ∷ asks (wait (node 7_000) 1 ∷ [])
    ∷ asks (check (Attempt 2) (node 7_000) 0 ∷ [])
    ∷ asks (connect (Attempt 2) (node 7_000) ∷ [])
    ∷ asks (wait (node 7_000) 2 ∷ [])
    ∷ ok
    ∷ []

abbrev pub gone : List SlotRow → Plan
gone rows = record { entries = []; rows = rows; held = []; next = ok }

-- a connect that succeeds makes the entry connected
abbrev pub reached_anew : List Answered
reached_anew = (connect (Attempt 1) (node 7_000), Connected 5) ∷ []

abbrev pub stands : ℕ → Plan
stands link = record { entries = entry (node 7_000) (state.Connected link) ∷ []; rows = all_slots 7_000 ∷ []; held = []; next = ok }

-- the milliseconds of the first seven waits
abbrev pub waits : List ℕ
waits = 50 ∷ 100 ∷ 200 ∷ 400 ∷ 800 ∷ 1_000 ∷ 1_000 ∷ []

-- a map, and the map with which a repair begins
abbrev pub begins : List (List NodeEntry × List NodeEntry)
begins =
    (entry (node 7_000) (state.Connected 0) ∷ [], entry (node 7_000) (state.Reconnecting 0) ∷ [])
    ∷ ([], entry (node 7_000) state.Connecting ∷ [])
    ∷ (entry (node 7_001) (state.Connected 1) ∷ [], entry (node 7_000) state.Connecting ∷ entry (node 7_001) (state.Connected 1) ∷ [])
    ∷ []

-- how a repair of that node goes: what the map has of it, the port of the node that has all slots, how many attempts are set,
-- what each ask is told, and what the repair does in each turn
pub record Course : Type 0 where
  pub has : ConnState
  pub slots_at : ℕ
  pub attempts : Option ℕ
  pub told : List Answer
  pub steps : List RepairStep

abbrev pub plans_of : Course → List Plan
plans_of c = turns (plan (kind.Repair (node 7_000)) [] (entry (node 7_000) c.has ∷ []) (all_slots c.slots_at ∷ []) c.attempts) c.told

abbrev pub plans_by_steps : Course → List Plan
plans_by_steps c = map (plan_by (node 7_000) (entry (node 7_000) c.has ∷ []) (all_slots c.slots_at ∷ [])) c.steps

abbrev pub wait_50 : Ask
wait_50 = record { part = Attempt 1; address = node 7_000; request = Wait 50 }

abbrev pub courses : List Course
courses =
    -- a check is passed
    record { has = state.Reconnecting 3; slots_at = 7_000; attempts = None; told = okay ∷ []; steps = step.Asks (check (Attempt 1) (node 7_000) 3) ∷ step.Connected 3 ∷ [] }
    -- it fails, and the node is connected
    ∷ record {
      has = state.Reconnecting 3;
      slots_at = 7_000;
      attempts = None;
      told = closed ∷ Connected 5 ∷ [];
      steps = step.Asks (check (Attempt 1) (node 7_000) 3) ∷ step.Asks (connect (Attempt 1) (node 7_000)) ∷ step.Connected 5 ∷ [];
    }
    -- the connect fails: a wait, and the second attempt
    ∷ record {
      has = state.Connecting;
      slots_at = 7_000;
      attempts = None;
      told = refused ∷ Fired ∷ [];
      steps = step.Asks (connect (Attempt 1) (node 7_000)) ∷ step.Asks wait_50 ∷ step.Asks (connect (Attempt 2) (node 7_000)) ∷ [];
    }
    -- where one attempt is set, the entry leaves behind its wait
    ∷ record {
      has = state.Connecting;
      slots_at = 7_000;
      attempts = Some 1;
      told = refused ∷ Fired ∷ [];
      steps = step.Asks (connect (Attempt 1) (node 7_000)) ∷ step.Asks wait_50 ∷ step.Leaves ∷ [];
    }
    -- it leaves at once where the rows don't have it
    ∷ record { has = state.Connecting; slots_at = 7_001; attempts = None; told = Connected 5 ∷ []; steps = step.Leaves ∷ [] }
    -- and where it is connected, it stays
    ∷ record { has = state.Connected 7; slots_at = 7_000; attempts = None; told = []; steps = step.Stays ∷ [] }
    ∷ []
