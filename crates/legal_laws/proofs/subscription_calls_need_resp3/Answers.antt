use Rattle.legal_laws.proofs.Submissions.Answers.{unspoken_refused}
use Rattle.legal_laws.proofs.subscription_calls_need_resp3.Goals as goal

pub returns : goal.returns
returns c = unspoken_refused
