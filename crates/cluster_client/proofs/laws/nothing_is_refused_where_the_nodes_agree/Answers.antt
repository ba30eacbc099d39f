use Rattle.cluster_client.proofs.Agreeing.{nodes_agree}
use Rattle.cluster_client.proofs.laws.nothing_is_refused_where_the_nodes_agree.Goals as goal

pub returns : goal.returns
returns c = nodes_agree
