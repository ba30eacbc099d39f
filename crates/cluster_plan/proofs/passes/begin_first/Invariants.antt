use Rattle.std.proofs.Common.{◌≡◌, ◌++◌, List, length}
use Rattle.cluster_plan.specs.Asks.{Answered}
use Rattle.cluster_plan.specs.Refresh.{first_replies}
use Rattle.cluster_plan.proofs.passes.begin_first.Given as goal

abbrev pub invariant-loop-here : goal.invariant-loop-here
invariant-loop-here l = (l.passed ++ l.rest ≡ l.fn.front ++ l.fn.others) × ((more : List Answered) → first_replies l.rest more ≡ first_replies l.fn.others more) × (l.slots ≡ l.fn.slots)

abbrev pub decreases-loop-here : goal.decreases-loop-here
decreases-loop-here l = length l.rest
