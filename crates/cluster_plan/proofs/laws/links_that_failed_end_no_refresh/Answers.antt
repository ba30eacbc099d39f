use Rattle.cluster_plan.proofs.Failing.{goes_on_without_links}
use Rattle.cluster_plan.proofs.laws.links_that_failed_end_no_refresh.Goals as goal

pub returns : goal.returns
returns c = goes_on_without_links
