use Rattle.legal_laws.proofs.Submissions.Answers.{at_most_one}
use Rattle.legal_laws.proofs.a_legal_trace_answers_once.Goals as goal

pub returns : goal.returns
returns c = at_most_one
