-- The turns of a repair are those of its plan.
use Rattle.std.proofs.Common.{◌≡◌, ◌<◌, ◌≤◌, ◌+◌, true, false, List, [], ◌∷◌, ◌++◌, length, map, refl, sym, ◌∙◌, ap, subst, append-nil, arith}
use Rattle.slot_hash.specs.declared.address.NodeAddress.{NodeAddress}
use Rattle.mux_routing.specs.declared.rows.SlotRow.{SlotRow}
use Rattle.cluster_plan.specs.declared.asks.Ask.{Ask}
use Rattle.cluster_plan.specs.declared.asks.Answer.{Answer}
use Rattle.cluster_plan.specs.declared.connections.NodeEntry.{NodeEntry}
use Rattle.cluster_plan.specs.declared.repair.Repair.{Repair}
use Rattle.cluster_plan.specs.declared.repair.RepairStep.{RepairStep}
use Rattle.cluster_plan.specs.declared.repair.RepairStep.TheVariants as step
use Rattle.cluster_plan.specs.Asks.{Answered}
use Rattle.cluster_plan.specs.Refresh.{asks, ok, Plan}
use Rattle.cluster_plan.specs.Laws.{IsGiven}
use Rattle.cluster_plan.specs.Repair.{repairing}
use Rattle.cluster_plan.specs.Repairing.{plan_by, repair_from}
use Rattle.cluster_examples.specs.Turns.{IsItsStep, IsTold, turns, where_one_asked}

-- a step that is that of the plan asks what the repair asks
pub is_its_step : (r : Repair) (s : RepairStep) (entries : List NodeEntry) (rows : List SlotRow) → plan_by r.address entries rows s ≡ repair_from r entries rows [] → IsItsStep r s
is_its_step r (step.Asks x) entries rows e = (entries, rows, subst (λ p. IsGiven x p.next) e (0, omega arith, refl))
is_its_step r (step.Connected link) entries rows e = tt
is_its_step r step.Leaves entries rows e = tt
is_its_step r step.Stays entries rows e = tt

-- plans that are the same give the same turns
same_turns : (p q : List Answered → Plan) (told : List Answer) → ((answers : List Answered) → p answers ≡ q answers) → turns p told ≡ turns q told
same_turns p q told h = λ i. turns (λ answers. h answers i) told

appended : (f : RepairStep → Plan) (steps : List RepairStep) (s : RepairStep) (rest : List Plan) → map f (steps ++ s ∷ []) ++ rest ≡ map f steps ++ f s ∷ rest
appended f [] s rest = refl
appended f (t ∷ steps) s rest = ap (λ more. f t ∷ more) (appended f steps s rest)

-- a turn that asks is followed by those behind its answer
asks_on : (p later : List Answered → Plan) (x : Ask) (told : Answer) (more : List Answer) (now : Plan) → now ≡ p [] → now.next ≡ asks (x ∷ []) → ((answers : List Answered) → later answers ≡ p ((x, told) ∷ answers))
    → now ∷ turns later more ≡ turns p (told ∷ more)
asks_on p later x told more now e asked same =
    let behind : Ask → List Plan = λ y. turns (λ answers. p ((y, told) ∷ answers)) more in
    let next : asks (x ∷ []) ≡ (p []).next = sym asked ∙ ap (λ q. q.next) e in
    let rest : turns later more ≡ where_one_asked (p []).next behind = same_turns later (λ answers. p ((x, told) ∷ answers)) more same ∙ ap (λ n. where_one_asked n behind) next in
    λ i. e i ∷ rest i

-- what the turns come to, with those so far
abbrev pub TurnsOf : NodeAddress → List NodeEntry → List SlotRow → List RepairStep → List Plan → List Plan → Type 0
TurnsOf a entries rows steps more whole = map (plan_by a entries rows) steps ++ more ≡ whole

-- before the first turn
pub none_yet : (p q : List Answered → Plan) (a : NodeAddress) (entries : List NodeEntry) (rows : List SlotRow) (steps : List RepairStep) (rest told : List Answer)
    → steps ≡ [] → rest ≡ told → ((answers : List Answered) → p answers ≡ q answers) → TurnsOf a entries rows steps (turns p rest) (turns q told)
none_yet p q a entries rows steps rest told e r h = ap (λ s. map (plan_by a entries rows) s ++ turns p rest) e ∙ ap (turns p) r ∙ same_turns p q told h

-- a turn behind which it goes on
pub turn_told : (r later : Repair) (s : RepairStep) (before rest : List Answer) (a : NodeAddress) (entries : List NodeEntry) (rows : List SlotRow) (steps : List RepairStep) (whole : List Plan)
    → plan_by r.address entries rows s ≡ repair_from r entries rows [] → IsTold r s before later rest true
    → TurnsOf a entries rows steps (turns (repair_from r entries rows) before) whole → TurnsOf a entries rows (steps ++ s ∷ []) (turns (repair_from later entries rows) rest) whole
turn_told r later (step.Asks x) [] rest a entries rows steps whole is t h = cc
turn_told r later (step.Asks x) (told ∷ more) rest a entries rows steps whole is t h =
    appended (plan_by a entries rows) steps (step.Asks x) (turns (repair_from later entries rows) rest)
    ∙ ap (λ m. map (plan_by a entries rows) steps ++ repairing entries rows x ∷ turns (repair_from later entries rows) m) t.1
    ∙ ap (λ m. map (plan_by a entries rows) steps ++ m) (asks_on (repair_from r entries rows) (repair_from later entries rows) x told more (repairing entries rows x) is refl (t.2.0 entries rows))
    ∙ h
turn_told r later (step.Connected link) before rest a entries rows steps whole is t h = cc
turn_told r later step.Leaves before rest a entries rows steps whole is t h = cc
turn_told r later step.Stays before rest a entries rows steps whole is t h = cc

-- the last turn
ends_so : (r : Repair) (s : RepairStep) (told : Answer) (more : List Answer) (a : NodeAddress) (entries : List NodeEntry) (rows : List SlotRow)
    → r.address ≡ a → plan_by r.address entries rows s ≡ repair_from r entries rows [] → (plan_by r.address entries rows s).next ≡ ok → plan_by a entries rows s ∷ [] ≡ turns (repair_from r entries rows) (told ∷ more)
ends_so r s told more a entries rows e is done =
    let p : List Answered → Plan = repair_from r entries rows in
    let behind : Ask → List Plan = λ y. turns (λ answers. p ((y, told) ∷ answers)) more in
    let now : plan_by a entries rows s ≡ p [] = ap (λ b. plan_by b entries rows s) (sym e) ∙ is in
    let next : ok ≡ (p []).next = sym done ∙ ap (λ q. q.next) is in
    let none : [] ≡ where_one_asked (p []).next behind = ap (λ n. where_one_asked n behind) next in
    λ i. now i ∷ none i

nothing_told : (r : Repair) (s : RepairStep) (a : NodeAddress) (entries : List NodeEntry) (rows : List SlotRow)
    → r.address ≡ a → plan_by r.address entries rows s ≡ repair_from r entries rows [] → plan_by a entries rows s ∷ [] ≡ turns (repair_from r entries rows) []
nothing_told r s a entries rows e is =
    let now : plan_by a entries rows s ≡ repair_from r entries rows [] = ap (λ b. plan_by b entries rows s) (sym e) ∙ is in
    λ i. now i ∷ []

last_turn : (r later : Repair) (s : RepairStep) (before rest : List Answer) (a : NodeAddress) (entries : List NodeEntry) (rows : List SlotRow)
    → r.address ≡ a → plan_by r.address entries rows s ≡ repair_from r entries rows [] → IsTold r s before later rest false → plan_by a entries rows s ∷ [] ≡ turns (repair_from r entries rows) before
last_turn r later s [] rest a entries rows e is t = nothing_told r s a entries rows e is
last_turn r later (step.Asks x) (told ∷ more) rest a entries rows e is t = let wrong : false ≡ true = t.0 in cc
last_turn r later (step.Connected link) (told ∷ more) rest a entries rows e is t = ends_so r (step.Connected link) told more a entries rows e is refl
last_turn r later step.Leaves (told ∷ more) rest a entries rows e is t = ends_so r step.Leaves told more a entries rows e is refl
last_turn r later step.Stays (told ∷ more) rest a entries rows e is t = ends_so r step.Stays told more a entries rows e is refl

pub turn_ends : (r later : Repair) (s : RepairStep) (before rest : List Answer) (a : NodeAddress) (entries : List NodeEntry) (rows : List SlotRow) (steps : List RepairStep) (whole : List Plan)
    → r.address ≡ a → plan_by r.address entries rows s ≡ repair_from r entries rows [] → IsTold r s before later rest false
    → TurnsOf a entries rows steps (turns (repair_from r entries rows) before) whole → map (plan_by a entries rows) (steps ++ s ∷ []) ≡ whole
turn_ends r later s before rest a entries rows steps whole e is t h =
    let f : RepairStep → Plan = plan_by a entries rows in
    sym (append-nil (map f (steps ++ s ∷ []))) ∙ appended f steps s []
    ∙ ap (λ m. map f steps ++ m) (last_turn r later s before rest a entries rows e is t) ∙ h

-- what stays of the numbers and of the node while it goes on
pub node_told : (r later : Repair) (s : RepairStep) (before rest : List Answer) (a : NodeAddress) → r.address ≡ a → IsTold r s before later rest true → later.address ≡ a
node_told r later (step.Asks x) [] rest a e t = cc
node_told r later (step.Asks x) (told ∷ more) rest a e t = t.2.1 ∙ e
node_told r later (step.Connected link) before rest a e t = cc
node_told r later step.Leaves before rest a e t = cc
node_told r later step.Stays before rest a e t = cc

pub room_told : (r later : Repair) (s : RepairStep) (before rest : List Answer) → IsTold r s before later rest true → (later.attempt + length rest ≤ r.attempt + length before) × (length rest < length before)
room_told r later (step.Asks x) [] rest t = cc
room_told r later (step.Asks x) (told ∷ more) rest t = let e : length rest ≡ length more = ap length t.1 in (omega (arith, t.2.2), omega arith)
room_told r later (step.Connected link) before rest t = cc
room_told r later step.Leaves before rest t = cc
room_told r later step.Stays before rest t = cc
