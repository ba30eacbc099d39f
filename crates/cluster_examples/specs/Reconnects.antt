-- Reconnects to the initial addresses.
use Rattle.std.specs.Prelude.{List, [], ◌∷◌, None}
use Rattle.redis_error.specs.declared.fault_kind.FaultKind.TheVariants.{Reset}
use Rattle.redis_error.specs.declared.redis_error.RedisError.TheVariants.{Io}
use Rattle.cluster_plan.specs.declared.asks.Part.TheVariants.{Initial, First, Last}
use Rattle.cluster_plan.specs.declared.asks.Answer.TheVariants.{Connected}
use Rattle.cluster_plan.specs.declared.connections.ConnState.TheVariants as state
use Rattle.cluster_plan.specs.declared.recovery_kind.Failure.TheVariants.{Create}
use Rattle.cluster_plan.specs.declared.recovery_kind.RecoveryKind.TheVariants as kind
use Rattle.cluster_plan.specs.Asks.{Answered}
use Rattle.cluster_plan.specs.Connections.{entry}
use Rattle.cluster_plan.specs.Reached.{connect, check}
use Rattle.cluster_plan.specs.Refresh.{Next, asks, ok, failed, Plan, query}
use Rattle.cluster_plan.specs.Plan.{plan}
use Rattle.cluster_examples.specs.Stories.{node, refused, reset, okay, slots_at, slots_at_both, all_slots, both_halves}

abbrev pub of_one : List Answered → Plan
of_one answers = plan kind.Initial (node 7_000 ∷ []) [] [] None answers

abbrev pub of_two : List Answered → Plan
of_two answers = plan kind.Initial (node 7_001 ∷ node 7_000 ∷ []) [] [] None answers

-- one node is connected, tells that all slots are its own, and is checked
abbrev pub one_well : List Answered
one_well = (connect Initial (node 7_000), Connected 0) ∷ (query First (node 7_000) 0, slots_at 7_000) ∷ (check Last (node 7_000) 0, okay) ∷ []

abbrev pub comes_of_one : List Next
comes_of_one = asks (connect Initial (node 7_000) ∷ []) ∷ asks (query First (node 7_000) 0 ∷ []) ∷ asks (check Last (node 7_000) 0 ∷ []) ∷ ok ∷ []

abbrev pub one_stands : Plan
one_stands = record { entries = entry (node 7_000) (state.Connected 0) ∷ []; rows = all_slots 7_000 ∷ []; held = []; next = ok }

-- of two nodes both are connected at once, in the order in which they are set; the later failure counts
abbrev pub both_refused : List Answered
both_refused = (connect Initial (node 7_000), refused) ∷ (connect Initial (node 7_001), reset) ∷ []

abbrev pub comes_of_refusals : List Next
comes_of_refusals =
    asks (connect Initial (node 7_001) ∷ connect Initial (node 7_000) ∷ []) ∷ asks (connect Initial (node 7_001) ∷ []) ∷ failed (Create (Io Reset)) ∷ []

-- where one is connected, the failure of the other doesn't count; the link is held until all were answered
abbrev pub one_of_two : List Answered
one_of_two = (connect Initial (node 7_001), Connected 0) ∷ (connect Initial (node 7_000), refused) ∷ []

abbrev pub comes_of_one_of_two : List Next
comes_of_one_of_two =
    asks (connect Initial (node 7_001) ∷ connect Initial (node 7_000) ∷ []) ∷ asks (connect Initial (node 7_000) ∷ []) ∷ asks (query First (node 7_001) 0 ∷ []) ∷ []

abbrev pub first_held : Plan
first_held = record { entries = []; rows = []; held = 0 ∷ []; next = asks (connect Initial (node 7_000) ∷ []) }

-- both are connected, and asked in the order of their addresses; then both are checked at once, and the one that fails both
-- its check and its connect leaves the map
abbrev pub one_leaves : List Answered
one_leaves =
    (connect Initial (node 7_001), Connected 0)
    ∷ (connect Initial (node 7_000), Connected 1)
    ∷ (query First (node 7_000) 1, slots_at_both 7_000 7_001)
    ∷ (check Last (node 7_001) 0, reset)
    ∷ (connect Last (node 7_001), refused)
    ∷ (check Last (node 7_000) 1, okay)
    ∷ []

abbrev pub comes_of_leaving : List Next
comes_of_leaving =
    asks (connect Initial (node 7_001) ∷ connect Initial (node 7_000) ∷ [])
    ∷ asks (connect Initial (node 7_000) ∷ [])
    ∷ asks (query First (node 7_000) 1 ∷ [])
    ∷ asks (check Last (node 7_000) 1 ∷ check Last (node 7_001) 0 ∷ [])
    ∷ asks (check Last (node 7_000) 1 ∷ connect Last (node 7_001) ∷ [])
    ∷ asks (check Last (node 7_000) 1 ∷ [])
    ∷ ok
    ∷ []

abbrev pub other_stands : Plan
other_stands = record { entries = entry (node 7_000) (state.Connected 1) ∷ []; rows = both_halves 7_000 7_001; held = []; next = ok }

-- the order of the failures counts
abbrev pub refused_last : List Answered
refused_last = (connect Initial (node 7_001), reset) ∷ (connect Initial (node 7_000), refused) ∷ []

-- and that of other answers doesn't
abbrev pub leaves_otherwise : List Answered
leaves_otherwise =
    (connect Initial (node 7_000), Connected 1)
    ∷ (connect Initial (node 7_001), Connected 0)
    ∷ (query First (node 7_000) 1, slots_at_both 7_000 7_001)
    ∷ (check Last (node 7_000) 1, okay)
    ∷ (check Last (node 7_001) 0, reset)
    ∷ (connect Last (node 7_001), refused)
    ∷ []

-- what wasn't asked is no answer
abbrev pub not_asked : List Answered
not_asked = (connect Initial (node 7_001), Connected 9) ∷ (connect Last (node 7_000), Connected 8) ∷ (query First (node 7_000) 0, slots_at 7_000) ∷ []
