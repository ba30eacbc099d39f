-- Refreshes of the slots.
use Rattle.std.specs.Prelude.{List, [], ◌∷◌, None}
use Rattle.redis_error.specs.declared.fault_kind.FaultKind.TheVariants.{Refused}
use Rattle.redis_error.specs.declared.redis_error.RedisError.TheVariants.{Io, Parse}
use Rattle.cluster_plan.specs.declared.asks.Part.TheVariants.{Initial, First, Second, Last}
use Rattle.cluster_plan.specs.declared.asks.Answer.TheVariants.{Connected}
use Rattle.cluster_plan.specs.declared.connections.ConnState.TheVariants as state
use Rattle.cluster_plan.specs.declared.connections.NodeEntry.{NodeEntry}
use Rattle.cluster_plan.specs.declared.recovery_kind.Failure.TheVariants.{Refresh}
use Rattle.cluster_plan.specs.declared.recovery_kind.RecoveryKind.TheVariants as kind
use Rattle.cluster_plan.specs.Asks.{Answered}
use Rattle.cluster_plan.specs.Connections.{entry}
use Rattle.cluster_plan.specs.Reached.{connect, check}
use Rattle.cluster_plan.specs.Refresh.{Next, asks, ok, failed, Plan, query}
use Rattle.cluster_plan.specs.Plan.{plan}
use Rattle.cluster_examples.specs.Stories.{node, refused, closed, okay, no_rows, empty_rows, slots_at, all_slots}

-- a refresh of a map without an entry, of one of one connected node, and of one whose second node is being repaired
abbrev pub of_none : List Answered → Plan
of_none answers = plan kind.Slots (node 7_000 ∷ []) [] [] None answers

abbrev pub one_entry : List NodeEntry
one_entry = entry (node 7_000) (state.Connected 0) ∷ []

abbrev pub of_one : List Answered → Plan
of_one answers = plan kind.Slots (node 7_000 ∷ []) one_entry (all_slots 7_000 ∷ []) None answers

abbrev pub of_two : List Answered → Plan
of_two answers =
    plan kind.Slots (node 7_000 ∷ []) (entry (node 7_000) (state.Connected 0) ∷ entry (node 7_001) (state.Reconnecting 1) ∷ []) (all_slots 7_000 ∷ []) None answers

-- an empty map is connected from the initial addresses
abbrev pub comes_of_none : List Next
comes_of_none = asks (connect Initial (node 7_000) ∷ []) ∷ []

-- an empty reply is good: all links go
abbrev pub emptied : List Answered
emptied = (query First (node 7_000) 0, empty_rows) ∷ []

abbrev pub nothing_stands : Plan
nothing_stands = record { entries = []; rows = []; held = []; next = ok }

-- a node that stands outside the new map goes, and a new one is connected
abbrev pub moved_on : List Answered
moved_on = (query First (node 7_000) 0, slots_at 7_002) ∷ (connect Last (node 7_002), Connected 2) ∷ []

abbrev pub comes_of_moving : List Next
comes_of_moving = asks (query First (node 7_000) 0 ∷ []) ∷ asks (connect Last (node 7_002) ∷ []) ∷ ok ∷ []

abbrev pub new_stands : Plan
new_stands = record { entries = entry (node 7_002) (state.Connected 2) ∷ []; rows = all_slots 7_002 ∷ []; held = []; next = ok }

-- pass one asks the connected link alone; its reply is bad, and pass two checks each link, connects where the check fails,
-- and asks again
abbrev pub second_time : List Answered
second_time =
    (query First (node 7_000) 0, no_rows)
    ∷ (check Second (node 7_000) 0, okay)
    ∷ (query Second (node 7_000) 0, closed)
    ∷ (check Second (node 7_001) 1, closed)
    ∷ (connect Second (node 7_001), Connected 2)
    ∷ (query Second (node 7_001) 2, slots_at 7_001)
    ∷ (check Last (node 7_001) 2, okay)
    ∷ []

abbrev pub comes_second : List Next
comes_second =
    asks (query First (node 7_000) 0 ∷ [])
    ∷ asks (check Second (node 7_000) 0 ∷ [])
    ∷ asks (query Second (node 7_000) 0 ∷ [])
    ∷ asks (check Second (node 7_001) 1 ∷ [])
    ∷ asks (connect Second (node 7_001) ∷ [])
    ∷ asks (query Second (node 7_001) 2 ∷ [])
    ∷ asks (check Last (node 7_001) 2 ∷ [])
    ∷ ok
    ∷ []

abbrev pub second_stands : Plan
second_stands = record { entries = entry (node 7_001) (state.Connected 2) ∷ []; rows = all_slots 7_001 ∷ []; held = []; next = ok }

-- without a good reply the last error counts, here that of the last connect; the node that was reached is connected, and the
-- one whose connect failed is connecting
abbrev pub none_good : List Answered
none_good =
    (query First (node 7_000) 0, closed)
    ∷ (check Second (node 7_000) 0, closed)
    ∷ (connect Second (node 7_000), Connected 3)
    ∷ (query Second (node 7_000) 3, no_rows)
    ∷ (check Second (node 7_001) 1, closed)
    ∷ (connect Second (node 7_001), refused)
    ∷ []

abbrev pub failure_stands : Plan
failure_stands =
    record {
      entries = entry (node 7_000) (state.Connected 3) ∷ entry (node 7_001) state.Connecting ∷ [];
      rows = all_slots 7_000 ∷ [];
      held = [];
      next = failed (Refresh (Io Refused));
    }

-- a reply of another shape is `Parse`
abbrev pub bad_twice : List Answered
bad_twice = (query First (node 7_000) 0, no_rows) ∷ (check Second (node 7_000) 0, okay) ∷ (query Second (node 7_000) 0, no_rows) ∷ []

abbrev pub comes_of_bad : List Next
comes_of_bad =
    asks (query First (node 7_000) 0 ∷ []) ∷ asks (check Second (node 7_000) 0 ∷ []) ∷ asks (query Second (node 7_000) 0 ∷ []) ∷ failed (Refresh Parse) ∷ []
