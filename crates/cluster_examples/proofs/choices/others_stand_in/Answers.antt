use Rattle.std.proofs.Common.{refl}
use Rattle.mux_routing.specs.Shards.{address_less, shard_at}
use Rattle.route_choice.specs.Resolver.{resolution}
use Rattle.cluster_examples.proofs.choices.others_stand_in.Goals as goal

pub returns : goal.returns
unfolding address_less shard_at resolution
returns c = record { replica = refl; primary = refl; replica_first = refl; random = refl; both_draws = refl; behind_a_pick = refl; without_a_pick = refl; no_row = refl; none = refl; empty = refl }
