use Rattle.sub_tracker.proofs.Decided.{same_pipeline}
use Rattle.sub_tracker.proofs.laws.one_pipeline_resubscribes.Goals as goal

pub returns : goal.returns
returns c = same_pipeline
