use Rattle.cluster_plan.proofs.Staying.{stays_asked}
use Rattle.cluster_plan.proofs.laws.what_is_asked_for_stays_so.Goals as goal

pub returns : goal.returns
returns c = stays_asked
