use Rattle.cluster_plan.proofs.Given.{gives_once}
use Rattle.cluster_plan.proofs.laws.each_ask_is_given_once.Goals as goal

pub returns : goal.returns
returns c = gives_once
