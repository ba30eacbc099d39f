-- What is done to a map of links keeps its order.
use Rattle.std.specs.Prelude.{◌≡◌, true, List}
use Rattle.slot_hash.specs.declared.address.NodeAddress.{NodeAddress}
use Rattle.cluster_plan.specs.Connections.{mark_reconnecting, put, without}
use Rattle.cluster_plan.specs.declared.connections.ConnState.{ConnState}
use Rattle.cluster_plan.specs.declared.connections.NodeEntry.{NodeEntry}
use Rattle.route_choice.specs.Entries.{are_ordered}

-- with a node's entry put in or replaced
abbrev pub StaysInOrderWith : Type 0
StaysInOrderWith = (a : NodeAddress) (state : ConnState) (entries : List NodeEntry) → are_ordered entries ≡ true → are_ordered (put a state entries) ≡ true

-- without a node's entry
abbrev pub StaysInOrderWithout : Type 0
StaysInOrderWithout = (a : NodeAddress) (entries : List NodeEntry) → are_ordered entries ≡ true → are_ordered (without a entries) ≡ true

-- as the repair of a node begins
abbrev pub RepairKeepsOrder : Type 0
RepairKeepsOrder = (a : NodeAddress) (entries : List NodeEntry) → are_ordered entries ≡ true → are_ordered (mark_reconnecting a entries) ≡ true
