use Rattle.legal_laws.proofs.Submissions.Permits.{keeps_permits}
use Rattle.legal_laws.proofs.permits_never_exceed_the_limit.Goals as goal

pub returns : goal.returns
returns c = keeps_permits
