use Rattle.std.proofs.Common.{refl}
use Rattle.cluster_examples.proofs.clients.these_clients_are_built.Goals as goal

pub returns : goal.returns
returns c = refl
