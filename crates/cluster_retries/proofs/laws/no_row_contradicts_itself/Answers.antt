use Rattle.cluster_retries.proofs.Judging.{each_row_is_sound}
use Rattle.cluster_retries.proofs.laws.no_row_contradicts_itself.Goals as goal

pub returns : goal.returns
returns c = each_row_is_sound
