use Rattle.std.proofs.Common.{refl}
use Rattle.mux_routing.specs.Shards.{address_less}
use Rattle.cluster_plan.specs.Connections.{mark_reconnecting}
use Rattle.cluster_plan.specs.Plan.{plan}
use Rattle.cluster_examples.proofs.plans.repairs_go_so.Goals as goal

pub returns : goal.returns
unfolding plan address_less mark_reconnecting
returns c = record { attempts = refl; attempts_end = refl; reached = refl; connected = refl; outside = refl; waits = refl; begins = refl; courses = refl }
