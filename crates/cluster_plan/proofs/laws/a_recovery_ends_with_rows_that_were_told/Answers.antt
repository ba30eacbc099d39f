use Rattle.cluster_plan.proofs.Told.{ends_with_rows}
use Rattle.cluster_plan.proofs.laws.a_recovery_ends_with_rows_that_were_told.Goals as goal

pub returns : goal.returns
returns c = ends_with_rows
