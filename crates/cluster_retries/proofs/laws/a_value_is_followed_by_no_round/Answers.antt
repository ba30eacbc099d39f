use Rattle.cluster_retries.proofs.Judging.{values_are_answered}
use Rattle.cluster_retries.proofs.laws.a_value_is_followed_by_no_round.Goals as goal

pub returns : goal.returns
returns c = values_are_answered
