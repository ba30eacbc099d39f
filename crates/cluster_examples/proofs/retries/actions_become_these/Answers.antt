use Rattle.std.proofs.Common.{refl}
use Rattle.mux_routing.specs.Shards.{address_less}
use Rattle.cluster_retries.specs.Actions.{joined}
use Rattle.cluster_examples.specs.Retries.{joined_actions, joined_by}
use Rattle.cluster_examples.proofs.Computed.{gives}
use Rattle.cluster_examples.proofs.retries.actions_become_these.Goals as goal

pub returns : goal.returns
unfolding joined address_less
returns c = gives joined_by joined_actions refl
