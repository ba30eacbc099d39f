use Rattle.legal_laws.proofs.Submissions.Rising.{starts_rise}
use Rattle.legal_laws.proofs.starts_follow_the_submissions.Goals as goal

pub returns : goal.returns
returns c = starts_rise
