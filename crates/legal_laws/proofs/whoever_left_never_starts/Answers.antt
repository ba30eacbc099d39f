use Rattle.legal_laws.proofs.Submissions.Fired.{fired_start_no_more}
use Rattle.legal_laws.proofs.Submissions.Leaving.{left_start_no_more, timed_out_start_no_more}
use Rattle.legal_laws.proofs.whoever_left_never_starts.Goals as goal

pub returns-clause-left : goal.returns-clause-left
returns-clause-left c = left_start_no_more

pub returns-clause-timed_out : goal.returns-clause-timed_out
returns-clause-timed_out c = timed_out_start_no_more

pub returns-clause-fired : goal.returns-clause-fired
returns-clause-fired c = fired_start_no_more
