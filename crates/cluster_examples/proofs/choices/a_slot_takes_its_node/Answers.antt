use Rattle.std.proofs.Common.{refl}
use Rattle.mux_routing.specs.Shards.{address_less, shard_at}
use Rattle.route_choice.specs.Resolver.{resolution}
use Rattle.cluster_examples.proofs.choices.a_slot_takes_its_node.Goals as goal

pub returns : goal.returns
unfolding address_less shard_at resolution
returns c = record { primary = refl; optional = refl; required = refl; random = refl; in_turn = refl }
