use Rattle.std.proofs.Common.{refl}
use Rattle.cluster_examples.proofs.clients.these_clients_are_refused.Goals as goal

pub returns : goal.returns
returns c = record { once = refl; twice = refl; no_address = λ params. refl }
