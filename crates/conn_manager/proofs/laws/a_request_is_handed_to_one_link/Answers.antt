use Rattle.conn_manager.proofs.Handed.{handed_once}
use Rattle.conn_manager.proofs.Last.{handed_to_the_last}
use Rattle.conn_manager.proofs.laws.a_request_is_handed_to_one_link.Goals as goal

pub returns : goal.returns
returns c = record { once = handed_once; last = handed_to_the_last }
