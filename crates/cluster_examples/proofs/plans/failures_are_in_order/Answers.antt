use Rattle.std.proofs.Common.{refl}
use Rattle.mux_routing.specs.Reply.{node_of, row_of}
use Rattle.mux_routing.specs.Shards.{address_less}
use Rattle.cluster_plan.specs.Plan.{plan}
use Rattle.cluster_examples.proofs.plans.failures_are_in_order.Goals as goal

pub returns : goal.returns
unfolding plan address_less node_of row_of
returns c = record { refused = refl; reset = refl; others = refl; not_asked = refl }
