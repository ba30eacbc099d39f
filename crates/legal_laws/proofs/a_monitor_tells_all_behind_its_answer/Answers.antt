use Rattle.legal_laws.proofs.Notices.Reports.{tells_reports}
use Rattle.legal_laws.proofs.a_monitor_tells_all_behind_its_answer.Goals as goal

pub returns : goal.returns
returns c = tells_reports
