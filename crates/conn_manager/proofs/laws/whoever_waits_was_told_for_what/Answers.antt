use Rattle.conn_manager.proofs.Waits.{waits_are_told}
use Rattle.conn_manager.proofs.laws.whoever_waits_was_told_for_what.Goals as goal

pub returns : goal.returns
returns c = waits_are_told
