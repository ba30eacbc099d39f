use Rattle.std.proofs.Common.{refl}
use Rattle.mux_routing.specs.Shards.{address_less, primaries, shard_at}
use Rattle.route_choice.specs.Parts.{part_resolution}
use Rattle.cluster_examples.proofs.choices.parts_go_so.Goals as goal

pub returns : goal.returns
unfolding address_less primaries shard_at part_resolution
returns c = record { all = refl; primaries = refl; none = refl; routes = refl; picks = refl; draws = refl; no_stand_in = refl; several_missing = refl; no_link = refl }
