use Rattle.cluster_client.proofs.Telling.{or_set, unwrap_set}
use Rattle.cluster_client.proofs.laws.what_is_set_is_told.Goals as goal

pub returns : goal.returns
returns c = record {
  password = λ params first text e. or_set params.password first.password text e;
  username = λ params first text e. or_set params.username first.username text e;
  protocol = λ params first version e. unwrap_set params.protocol first.protocol version e;
  database = λ params first db e. unwrap_set params.database_id first.db db e;
}
