-- What a repair does in a turn is what comes next of its plan.
use Rattle.std.proofs.Common.{◌≡◌, ℕ, ◌+◌, Bool, true, false, List, [], ◌++◌, Option, Some, None, option_map, refl, sym, ◌∙◌, ap, append-nil, arith, if◌then◌else◌}
use Rattle.containers.proofs.Choices.{left_if, taken_if}
use Rattle.mux_routing.specs.declared.rows.SlotRow.{SlotRow}
use Rattle.mux_routing.specs.Shards.{addresses}
use Rattle.cluster_plan.specs.declared.asks.Part.TheVariants.{Attempt}
use Rattle.cluster_plan.specs.declared.asks.Request.TheVariants as request
use Rattle.cluster_plan.specs.declared.connections.ConnState.{ConnState}
use Rattle.cluster_plan.specs.declared.connections.ConnState.TheVariants as conn
use Rattle.cluster_plan.specs.declared.connections.NodeEntry.{NodeEntry}
use Rattle.cluster_plan.specs.declared.progress.Progress.{Progress}
use Rattle.cluster_plan.specs.declared.progress.Progress.TheVariants as progress
use Rattle.cluster_plan.specs.declared.repair.AttemptStep.{AttemptStep}
use Rattle.cluster_plan.specs.declared.repair.AttemptStep.TheVariants as attempt_step
use Rattle.cluster_plan.specs.declared.repair.Repair.{Repair}
use Rattle.cluster_plan.specs.declared.repair.RepairStep.TheVariants as step
use Rattle.cluster_plan.specs.Connections.{link_in, state_at, without}
use Rattle.cluster_plan.specs.Reached.{Reached, check, checked, connect, connected, connecting, reached}
use Rattle.cluster_plan.specs.Refresh.{Plan}
use Rattle.cluster_plan.specs.Repair.{attempt, attempted, is_among, is_set, repaired, wait_ms, waits_over, while_not_connected}
use Rattle.cluster_plan.specs.Repairing.{check_answer, connect_answer, is_connected, known, plan_by, repair_from, step_by}
use Rattle.cluster_plan.proofs.Mending.{check_is, connect_is}

-- a step of an attempt is that of its plan, whatever the entries and the rows of the turn
abbrev pub Follows : Repair → AttemptStep → Reached → Type 0
Follows r s way = (entries : List NodeEntry) (rows : List SlotRow) → plan_by r.address entries rows (step_by r s) ≡ attempted r.address entries rows r.attempt way

-- the node is connected, by what has come of that
connecting_as : (r : Repair) (p : Progress) → r.connect ≡ p → connecting (Attempt r.attempt) r.address (known r) ≡ connected (connect (Attempt r.attempt) r.address) (connect_answer p)
connecting_as r p e = ap (connected (connect (Attempt r.attempt) r.address)) (connect_is r ∙ ap connect_answer e)

pub connects : (r : Repair) → r.connect ≡ progress.Connecting → Follows r (attempt_step.Asks request.Connect) (connecting (Attempt r.attempt) r.address (known r))
connects r e entries rows = sym (ap (attempted r.address entries rows r.attempt) (connecting_as r progress.Connecting e))

pub arrives : (r : Repair) (link : ℕ) → r.connect ≡ progress.Arrived link → Follows r (attempt_step.Connected link) (connecting (Attempt r.attempt) r.address (known r))
arrives r link e entries rows = sym (ap (attempted r.address entries rows r.attempt) (connecting_as r (progress.Arrived link) e))

pub waits : (r : Repair) → r.connect ≡ progress.Lost → Follows r (attempt_step.Asks (request.Wait (wait_ms r.attempt))) (connecting (Attempt r.attempt) r.address (known r))
waits r e entries rows = sym (ap (attempted r.address entries rows r.attempt) (connecting_as r progress.Lost e))

-- the node is reached, by what has come of its check
reached_as : (r : Repair) (link : ℕ) (o : Option Bool) → r.check ≡ o
    → reached (Attempt r.attempt) r.address (Some link) (known r) ≡ checked (check (Attempt r.attempt) r.address link) link (option_map check_answer o) (connecting (Attempt r.attempt) r.address (known r))
reached_as r link o e =
    ap (λ l. checked (check (Attempt r.attempt) r.address link) link l (connecting (Attempt r.attempt) r.address (known r))) (check_is r link ∙ ap (option_map check_answer) e)

pub checks : (r : Repair) (link : ℕ) → r.check ≡ None → Follows r (attempt_step.Asks (request.Check link)) (reached (Attempt r.attempt) r.address (Some link) (known r))
checks r link e entries rows = sym (ap (attempted r.address entries rows r.attempt) (reached_as r link None e))

pub passes_check : (r : Repair) (link : ℕ) → r.check ≡ Some true → Follows r (attempt_step.Connected link) (reached (Attempt r.attempt) r.address (Some link) (known r))
passes_check r link e entries rows = sym (ap (attempted r.address entries rows r.attempt) (reached_as r link (Some true) e))

pub fails_check : (r : Repair) (s : AttemptStep) (link : ℕ) → r.check ≡ Some false → Follows r s (connecting (Attempt r.attempt) r.address (known r)) → Follows r s (reached (Attempt r.attempt) r.address (Some link) (known r))
fails_check r s link e h entries rows = h entries rows ∙ sym (ap (attempted r.address entries rows r.attempt) (reached_as r link (Some false) e))

while_open : (state : Option ConnState) (entries : List NodeEntry) (rows : List SlotRow) (p : Plan) → is_connected state ≡ false → while_not_connected state entries rows p ≡ p
while_open None entries rows p e = refl
while_open (Some (conn.Connected link)) entries rows p e = absurd (cc)
while_open (Some (conn.Reconnecting link)) entries rows p e = refl
while_open (Some conn.Connecting) entries rows p e = refl

while_over : (state : Option ConnState) (entries : List NodeEntry) (rows : List SlotRow) (p : Plan) → is_connected state ≡ true → while_not_connected state entries rows p ≡ repaired entries rows
while_over None entries rows p e = absurd (cc)
while_over (Some (conn.Connected link)) entries rows p e = refl
while_over (Some (conn.Reconnecting link)) entries rows p e = absurd (cc)
while_over (Some conn.Connecting) entries rows p e = absurd (cc)

pub next_stays : (r : Repair) (state : Option ConnState) (entries : List NodeEntry) (rows : List SlotRow) → state ≡ state_at r.address entries → is_connected state ≡ true → plan_by r.address entries rows step.Stays ≡ repair_from r entries rows []
unfolding repair_from
next_stays r state entries rows s e =
    sym (while_over (state_at r.address entries) entries rows (attempt r.address entries rows r.attempts (waits_over [] + r.attempt) (known r ++ [])) (ap is_connected (sym s) ∙ e))

-- the attempt of this turn
turn_is : (r : Repair) (state : Option ConnState) (entries : List NodeEntry) (rows : List SlotRow) → state ≡ state_at r.address entries → is_connected state ≡ false → repair_from r entries rows [] ≡ attempt r.address entries rows r.attempts r.attempt (known r)
unfolding repair_from
turn_is r state entries rows s e =
    let number : waits_over [] + r.attempt ≡ r.attempt = omega arith in
    while_open (state_at r.address entries) entries rows (attempt r.address entries rows r.attempts (waits_over [] + r.attempt) (known r ++ [])) (ap is_connected (sym s) ∙ e)
    ∙ ap (λ n. attempt r.address entries rows r.attempts n (known r ++ [])) number
    ∙ ap (attempt r.address entries rows r.attempts r.attempt) (append-nil (known r))

pub next_outside : (r : Repair) (state : Option ConnState) (entries : List NodeEntry) (rows : List SlotRow) → state ≡ state_at r.address entries → is_connected state ≡ false → is_among r.address (addresses rows) ≡ false
    → plan_by r.address entries rows step.Leaves ≡ repair_from r entries rows []
next_outside r state entries rows s e out =
    sym (turn_is r state entries rows s e
    ∙ left_if (is_among r.address (addresses rows))
    (if is_set r.attempt r.attempts then attempted r.address entries rows r.attempt (reached (Attempt r.attempt) r.address (link_in (state_at r.address entries)) (known r)) else repaired (without r.address entries) rows)
    (repaired (without r.address entries) rows) out)

pub next_spent : (r : Repair) (state : Option ConnState) (entries : List NodeEntry) (rows : List SlotRow) → state ≡ state_at r.address entries → is_connected state ≡ false → is_among r.address (addresses rows) ≡ true → is_set r.attempt r.attempts ≡ false
    → plan_by r.address entries rows step.Leaves ≡ repair_from r entries rows []
next_spent r state entries rows s e inside spent =
    let way : Reached = reached (Attempt r.attempt) r.address (link_in (state_at r.address entries)) (known r) in
    sym (turn_is r state entries rows s e
    ∙ taken_if (is_among r.address (addresses rows)) (if is_set r.attempt r.attempts then attempted r.address entries rows r.attempt way else repaired (without r.address entries) rows) (repaired (without r.address entries) rows) inside
    ∙ left_if (is_set r.attempt r.attempts) (attempted r.address entries rows r.attempt way) (repaired (without r.address entries) rows) spent)

pub next_attempts : (r : Repair) (s : AttemptStep) (state : Option ConnState) (link : Option ℕ) (entries : List NodeEntry) (rows : List SlotRow) → state ≡ state_at r.address entries → is_connected state ≡ false → is_among r.address (addresses rows) ≡ true → is_set r.attempt r.attempts ≡ true → link ≡ link_in state
    → Follows r s (reached (Attempt r.attempt) r.address link (known r)) → plan_by r.address entries rows (step_by r s) ≡ repair_from r entries rows []
next_attempts r s state link entries rows at e inside set l h =
    let way : Reached = reached (Attempt r.attempt) r.address (link_in (state_at r.address entries)) (known r) in
    h entries rows
    ∙ ap (λ o. attempted r.address entries rows r.attempt (reached (Attempt r.attempt) r.address o (known r))) (l ∙ ap link_in at)
    ∙ sym (turn_is r state entries rows at e
    ∙ taken_if (is_among r.address (addresses rows)) (if is_set r.attempt r.attempts then attempted r.address entries rows r.attempt way else repaired (without r.address entries) rows) (repaired (without r.address entries) rows) inside
    ∙ taken_if (is_set r.attempt r.attempts) (attempted r.address entries rows r.attempt way) (repaired (without r.address entries) rows) set)
