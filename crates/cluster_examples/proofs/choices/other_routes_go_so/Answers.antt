use Rattle.std.proofs.Common.{refl}
use Rattle.mux_routing.specs.Shards.{address_less, shard_at}
use Rattle.route_choice.specs.Resolver.{resolution}
use Rattle.cluster_examples.proofs.choices.other_routes_go_so.Goals as goal

pub returns : goal.returns
unfolding address_less shard_at resolution
returns c = record { any = refl; only = refl; none = refl; address = refl; repaired = refl; moved = refl; ask = refl; ask_repaired = refl; link = refl }
