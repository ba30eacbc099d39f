-- The turns of a plan and of a repair, by what each ask is told.
use Rattle.std.specs.Prelude.{◌≡◌, ◌≤◌, ◌+◌, Bool, true, false, List, [], ◌∷◌}
use Rattle.mux_routing.specs.declared.rows.SlotRow.{SlotRow}
use Rattle.cluster_plan.specs.declared.asks.Ask.{Ask}
use Rattle.cluster_plan.specs.declared.asks.Answer.{Answer}
use Rattle.cluster_plan.specs.declared.connections.NodeEntry.{NodeEntry}
use Rattle.cluster_plan.specs.declared.repair.Repair.{Repair}
use Rattle.cluster_plan.specs.declared.repair.RepairStep.{RepairStep}
use Rattle.cluster_plan.specs.declared.repair.RepairStep.TheVariants as step
use Rattle.cluster_plan.specs.Asks.{Answered}
use Rattle.cluster_plan.specs.Refresh.{Next, asks, ok, failed, Plan}
use Rattle.cluster_plan.specs.Repairing.{IsItsAsk, repair_from}

abbrev pub where_one_asked : Next → (Ask → List Plan) → List Plan
where_one_asked (asks []) behind = []
where_one_asked (asks (x ∷ [])) behind = behind x
where_one_asked (asks (x ∷ y ∷ more)) behind = []
where_one_asked ok behind = []
where_one_asked (failed failure) behind = []

-- how a plan that asks one thing at a time stands at first, and behind each answer to what it asks, until it ends or nothing
-- more is told
abbrev pub turns : (List Answered → Plan) → List Answer → List Plan
turns p [] = p [] ∷ []
turns p (told ∷ more) = p [] ∷ where_one_asked (p []).next (λ x. turns (λ answers. p ((x, told) ∷ answers)) more)

-- what a step asks, if it asks something, is an ask of the repair
abbrev pub IsItsStep : Repair → RepairStep → Type 0
IsItsStep r (step.Asks x) = IsItsAsk r x
IsItsStep r (step.Connected link) = Unit {0}
IsItsStep r step.Leaves = Unit {0}
IsItsStep r step.Stays = Unit {0}

-- what a repair is behind the answer to an ask: it goes on as its plan does, is of the same node, and has counted one attempt
-- at most
abbrev pub IsBehind : Repair → Ask → Answer → Repair → Type 0
IsBehind r x told later =
    ((entries : List NodeEntry) (rows : List SlotRow) (answers : List Answered) → repair_from later entries rows answers ≡ repair_from r entries rows ((x, told) ∷ answers))
    × (later.address ≡ r.address) × (later.attempt ≤ r.attempt + 1)

-- what a step of a repair asks is told the first of these, if it asks something and there is one; else nothing comes of it
abbrev pub IsTold : Repair → RepairStep → List Answer → Repair → List Answer → Bool → Type 0
IsTold r (step.Asks x) [] later rest is = is ≡ false
IsTold r (step.Asks x) (told ∷ more) later rest is = (is ≡ true) × (rest ≡ more) × IsBehind r x told later
IsTold r (step.Connected link) told later rest is = is ≡ false
IsTold r step.Leaves told later rest is = is ≡ false
IsTold r step.Stays told later rest is = is ≡ false
