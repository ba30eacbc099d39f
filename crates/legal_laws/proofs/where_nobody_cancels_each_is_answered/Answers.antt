use Rattle.legal_laws.proofs.Submissions.HandedIn.{each_answered}
use Rattle.legal_laws.proofs.where_nobody_cancels_each_is_answered.Goals as goal

pub returns : goal.returns
returns c = each_answered
