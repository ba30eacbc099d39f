use Rattle.std.proofs.Common.{refl}
use Rattle.cluster_examples.proofs.clients.this_is_said_to_every_node.Goals as goal

pub returns : goal.returns
returns c = record {
  database = refl;
  set_database = refl;
  first_protocol = refl;
  set_protocol = refl;
  set_password = refl;
  nobody = refl;
}
