-- Stories of plans: what comes next at first, and after each answer. All nodes are at the host h.
use Rattle.std.specs.Prelude.{ℕ, pos, List, [], ◌∷◌, ◌++◌, codes}
use Rattle.resp_value.specs.declared.value.Value.TheVariants.{Array, Okay}
use Rattle.resp_value.specs.Data.{Data, array, int, nil, items_of}
use Rattle.redis_error.specs.declared.fault_kind.FaultKind.TheVariants.{Refused, Reset}
use Rattle.redis_error.specs.declared.redis_error.RedisError.TheVariants.{Io, Closed}
use Rattle.slot_hash.specs.declared.address.NodeAddress.{NodeAddress}
use Rattle.mux_routing.specs.declared.rows.SlotRow.{SlotRow}
use Rattle.cluster_plan.specs.declared.asks.Answer.{Answer}
use Rattle.cluster_plan.specs.declared.asks.Answer.TheVariants.{Value, Failed}
use Rattle.cluster_plan.specs.Asks.{Answered}
use Rattle.cluster_plan.specs.Refresh.{Next, Plan}

abbrev pub next_after_each : (List Answered → Plan) → List Answered → List Answered → List Next
next_after_each p before [] = []
next_after_each p before (x ∷ more) = (p (before ++ x ∷ [])).next ∷ next_after_each p (before ++ x ∷ []) more

-- what comes next of a plan at first, and after each of these answers
abbrev pub story : (List Answered → Plan) → List Answered → List Next
story p answers = (p []).next ∷ next_after_each p [] answers

-- a node by its port
abbrev pub node : ℕ → NodeAddress
node port = record { host = codes "h"; port = port }

abbrev pub refused : Answer
refused = Failed (Io Refused)

abbrev pub reset : Answer
reset = Failed (Io Reset)

abbrev pub closed : Answer
closed = Failed Closed

abbrev pub okay : Answer
okay = Value Okay

-- all slots at the node of that port; in a reply its host is that of the node that answers
abbrev pub all_slots : ℕ → SlotRow
all_slots port = record { start = 0; end = 16_383; primary = node port; replicas = [] }

abbrev pub told_row : ℕ → Data
told_row port = array (items_of (int (pos 0) ∷ int (pos 16_383) ∷ array (items_of (nil ∷ int (pos port) ∷ [])) ∷ []))

abbrev pub slots_at : ℕ → Answer
slots_at port = Value (Array (told_row port ∷ []))

-- the first half of the slots at one node, and the second at another
abbrev pub half_row : ℕ → ℕ → ℕ → Data
half_row start end port = array (items_of (int (pos start) ∷ int (pos end) ∷ array (items_of (nil ∷ int (pos port) ∷ [])) ∷ []))

abbrev pub slots_at_both : ℕ → ℕ → Answer
slots_at_both one other = Value (Array (half_row 0 8_191 one ∷ half_row 8_192 16_383 other ∷ []))

abbrev pub both_halves : ℕ → ℕ → List SlotRow
both_halves one other =
    record { start = 0; end = 8_191; primary = node one; replicas = [] } ∷ record { start = 8_192; end = 16_383; primary = node other; replicas = [] } ∷ []

-- a reply of another shape, and one that has no rows
abbrev pub no_rows : Answer
no_rows = Value Okay

abbrev pub empty_rows : Answer
empty_rows = Value (Array [])
