use Rattle.legal_laws.proofs.Notices.Dealt.{tells_messages}
use Rattle.legal_laws.proofs.Notices.Values.{confirmations_are_none}
use Rattle.legal_laws.proofs.a_message_is_told_where_it_came.Goals as goal

pub returns-clause-told : goal.returns-clause-told
returns-clause-told c = tells_messages

pub returns-clause-unconfirmed : goal.returns-clause-unconfirmed
returns-clause-unconfirmed c = confirmations_are_none
