use Rattle.cluster_plan.proofs.Repairing.{asks_one, keeps_to_attempts, changes_one}
use Rattle.cluster_plan.proofs.laws.a_repair_makes_one_attempt_after_another.Goals as goal

pub returns : goal.returns
returns c = record { one = asks_one; attempts = keeps_to_attempts; entry = changes_one }
