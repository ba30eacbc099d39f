use Rattle.cluster_plan.proofs.Ended.{stays_ended}
use Rattle.cluster_plan.proofs.laws.what_has_ended_stays_ended.Goals as goal

pub returns : goal.returns
returns c = stays_ended
