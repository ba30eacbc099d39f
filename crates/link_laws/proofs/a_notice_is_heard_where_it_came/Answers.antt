use Rattle.link_laws.proofs.Runs.{run_notices}
use Rattle.link_laws.proofs.Unheard.{performed_unheard}
use Rattle.link_laws.proofs.a_notice_is_heard_where_it_came.Goals as goal

pub returns : goal.returns
returns c = record { heard = run_notices; only = performed_unheard }
