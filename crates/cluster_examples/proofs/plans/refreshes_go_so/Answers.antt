use Rattle.std.proofs.Common.{refl}
use Rattle.mux_routing.specs.Reply.{node_of, row_of}
use Rattle.mux_routing.specs.Shards.{address_less}
use Rattle.cluster_plan.specs.Plan.{plan}
use Rattle.cluster_examples.proofs.plans.refreshes_go_so.Goals as goal

pub returns : goal.returns
unfolding plan address_less node_of row_of
returns c = record { none = refl; emptied = refl; moving = refl; moving_ends = refl; second = refl; second_ends = refl; none_good = refl; bad = refl }
