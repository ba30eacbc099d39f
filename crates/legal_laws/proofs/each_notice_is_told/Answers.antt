use Rattle.legal_laws.proofs.Notices.Among.{tells_in_order}
use Rattle.legal_laws.proofs.Notices.Suits.{tells_notices}
use Rattle.legal_laws.proofs.each_notice_is_told.Goals as goal

pub returns-clause-told : goal.returns-clause-told
returns-clause-told c = tells_notices

pub returns-clause-in_order : goal.returns-clause-in_order
returns-clause-in_order c = tells_in_order
