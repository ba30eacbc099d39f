use Rattle.std.proofs.Common.{◌≡◌, ◌++◌, length}
use Rattle.cluster_plan.proofs.entry_order.appended.Given as goal

abbrev pub invariant-loop-entry : goal.invariant-loop-entry
invariant-loop-entry l = l.entries ++ l.rest ≡ l.fn.front ++ l.fn.others

abbrev pub decreases-loop-entry : goal.decreases-loop-entry
decreases-loop-entry l = length l.rest
