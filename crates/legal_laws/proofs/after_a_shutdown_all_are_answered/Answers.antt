use Rattle.legal_laws.proofs.Submissions.Answers.{exactly_one}
use Rattle.legal_laws.proofs.after_a_shutdown_all_are_answered.Goals as goal

pub returns : goal.returns
returns c = exactly_one
