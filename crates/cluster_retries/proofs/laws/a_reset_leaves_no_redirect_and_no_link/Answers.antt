use Rattle.cluster_retries.proofs.Resetting.{neither_is_left, once_is_enough}
use Rattle.cluster_retries.proofs.laws.a_reset_leaves_no_redirect_and_no_link.Goals as goal

pub returns : goal.returns
returns c = record { neither = neither_is_left; once = once_is_enough }
