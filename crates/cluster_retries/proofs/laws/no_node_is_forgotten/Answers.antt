use Rattle.cluster_retries.proofs.Joining.{no_node_is_lost}
use Rattle.cluster_retries.proofs.laws.no_node_is_forgotten.Goals as goal

pub returns : goal.returns
returns c = no_node_is_lost
