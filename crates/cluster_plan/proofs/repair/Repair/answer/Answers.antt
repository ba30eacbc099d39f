use Rattle.cluster_plan.proofs.Mending.{mends_no_query}
use Rattle.cluster_plan.proofs.repair.Repair.answer.Goals as goal

pub unreachable-requires : goal.unreachable-requires
unreachable-requires c = mends_no_query c.args.self.now c.args.ask.now c.in-Query.field-0 c.requires.given c.in-Query.is
