use Rattle.cluster_client.proofs.Telling.{or_unset, unwrap_unset}
use Rattle.cluster_client.proofs.laws.what_is_not_set_is_told_of_the_first_node.Goals as goal

pub returns : goal.returns
returns c = record {
  password = λ params first e. or_unset params.password first.password e;
  username = λ params first e. or_unset params.username first.username e;
  protocol = λ params first e. unwrap_unset params.protocol first.protocol e;
  database = λ params first e. unwrap_unset params.database_id first.db e;
}
