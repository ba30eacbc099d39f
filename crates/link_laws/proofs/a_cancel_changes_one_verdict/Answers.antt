use Rattle.link_laws.proofs.Cancels.{cancel_stays}
use Rattle.link_laws.proofs.a_cancel_changes_one_verdict.Goals as goal

pub returns : goal.returns
returns c = cancel_stays
