use Rattle.cluster_plan.specs.Initial.{in_address_order}
use Rattle.cluster_plan.proofs.Sorting.{begun_sorting, sorted_on}
use Rattle.cluster_plan.proofs.entry_order.in_address_order.Goals as goal

pub loop-entry-init : goal.loop-entry-init
loop-entry-init c = begun_sorting c.into_vec-left.result.items c.new-sorted.result c.args.entries c.into_vec-left.ensures c.new-sorted.ensures

pub loop-entry-preserved : goal.loop-entry-preserved
loop-entry-preserved c =
    sorted_on c.loop-entry.left.items c.pop.new.self.items c.loop-entry.sorted c.in_ok-sorted.sorted (in_address_order c.args.entries) c.in-Some.entry
    c.in-Some.ensures.items c.in_ok-sorted.ensures c.loop-entry.invariant
