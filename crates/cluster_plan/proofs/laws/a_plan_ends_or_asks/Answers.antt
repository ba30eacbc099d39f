use Rattle.cluster_plan.proofs.Given.{goes_on}
use Rattle.cluster_plan.proofs.laws.a_plan_ends_or_asks.Goals as goal

pub returns : goal.returns
returns c = goes_on
