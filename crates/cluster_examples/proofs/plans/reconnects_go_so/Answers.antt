use Rattle.std.proofs.Common.{refl}
use Rattle.mux_routing.specs.Reply.{node_of, row_of}
use Rattle.mux_routing.specs.Shards.{address_less}
use Rattle.cluster_plan.specs.Plan.{plan}
use Rattle.cluster_examples.proofs.plans.reconnects_go_so.Goals as goal

pub returns : goal.returns
unfolding plan address_less node_of row_of
returns c = record { one = refl; one_ends = refl; none = refl; one_of_two = refl; leaves = refl; leaves_ends = refl }
