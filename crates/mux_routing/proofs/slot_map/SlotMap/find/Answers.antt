use Rattle.std.proofs.Common.{rules}
use Rattle.mux_routing.proofs.Answering.{primary_nowhere, primary_somewhere}
use Rattle.mux_routing.proofs.slot_map.SlotMap.find.Goals as goal

pub returns-in_err-shard-clause-address : goal.returns-in_err-shard-clause-address
returns-in_err-shard-clause-address g c = primary_nowhere c.args.slot c.args.self.now _ (search rules)

pub returns-clause-address : goal.returns-clause-address
returns-clause-address g c = primary_somewhere c.args.slot c.args.self.now _ (search rules)
