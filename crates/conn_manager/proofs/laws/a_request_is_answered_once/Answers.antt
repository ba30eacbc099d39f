use Rattle.conn_manager.proofs.Once.{answered_once}
use Rattle.conn_manager.proofs.laws.a_request_is_answered_once.Goals as goal

pub returns : goal.returns
returns c = answered_once
