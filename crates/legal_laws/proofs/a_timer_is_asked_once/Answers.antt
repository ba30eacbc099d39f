use Rattle.legal_laws.proofs.Submissions.Timers.{asks_timers}
use Rattle.legal_laws.proofs.Internal.Timed.{times_renewals}
use Rattle.legal_laws.proofs.a_timer_is_asked_once.Goals as goal

pub returns-clause-of_submissions : goal.returns-clause-of_submissions
returns-clause-of_submissions c = asks_timers

pub returns-clause-of_renewals : goal.returns-clause-of_renewals
returns-clause-of_renewals c = times_renewals
