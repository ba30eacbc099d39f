use Rattle.cluster_retries.proofs.Judging.{action_stays}
use Rattle.cluster_retries.proofs.laws.without_retries_the_action_stays.Goals as goal

pub returns : goal.returns
returns c = action_stays
