use Rattle.std.proofs.Common.{rules}
use Rattle.mux_routing.proofs.Leading.{leaders_by}
use Rattle.mux_routing.proofs.slot_map.SlotMap.primaries.Goals as goal

pub returns-clause-leaders : goal.returns-clause-leaders
returns-clause-leaders c = leaders_by c.args.self.now _ (search rules)
