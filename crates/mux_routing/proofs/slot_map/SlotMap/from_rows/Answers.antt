use Rattle.mux_routing.proofs.Members.{are_named}
use Rattle.mux_routing.proofs.slot_map.SlotMap.from_rows.Goals as goal

pub returns-clause-named : goal.returns-clause-named
returns-clause-named c = are_named _
