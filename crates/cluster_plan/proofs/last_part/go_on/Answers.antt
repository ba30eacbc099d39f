use Rattle.std.proofs.Common.{◌≡◌, ◌==◌, [], true, length, rules}
use Rattle.cluster_plan.specs.Reached.{asked_for}
use Rattle.cluster_plan.specs.Recovering.{plan_of}
use Rattle.cluster_plan.specs.Steps.{stepped}
use Rattle.cluster_plan.proofs.Arriving.{all_arrived}
use Rattle.cluster_plan.proofs.last_part.go_on.Goals as goal

pub returns-clause-is : goal.returns-clause-is
unfolding plan_of
returns-clause-is c =
    let none : (length (asked_for (stepped c.args.nodes [])) == 0) ≡ true = search rules in
    λ more. all_arrived c.args.entries c.in_ok-entries.entries c.args.slots c.args.nodes more none c.in_ok-entries.ensures
