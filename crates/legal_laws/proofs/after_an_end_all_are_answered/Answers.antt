use Rattle.legal_laws.proofs.Submissions.Answers.{one_over}
use Rattle.legal_laws.proofs.after_an_end_all_are_answered.Goals as goal

pub returns : goal.returns
returns c = one_over
