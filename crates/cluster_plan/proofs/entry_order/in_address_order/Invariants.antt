use Rattle.std.proofs.Common.{◌≡◌, vec_len}
use Rattle.cluster_plan.specs.Initial.{in_address_order}
use Rattle.cluster_plan.proofs.Sorting.{put_all}
use Rattle.cluster_plan.proofs.entry_order.in_address_order.Given as goal

abbrev pub invariant-loop-entry : goal.invariant-loop-entry
invariant-loop-entry l = put_all l.left.items l.sorted ≡ in_address_order l.fn.entries

abbrev pub decreases-loop-entry : goal.decreases-loop-entry
decreases-loop-entry l = vec_len l.left
