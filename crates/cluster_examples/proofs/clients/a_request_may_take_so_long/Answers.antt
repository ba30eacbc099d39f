use Rattle.std.proofs.Common.{refl}
use Rattle.cluster_examples.proofs.clients.a_request_may_take_so_long.Goals as goal

pub returns : goal.returns
returns c = record { matched = refl; unlimited = refl; longer = refl }
