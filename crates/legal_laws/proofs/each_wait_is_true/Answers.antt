use Rattle.legal_laws.proofs.Waits.True.{waits_are_true}
use Rattle.legal_laws.proofs.each_wait_is_true.Goals as goal

pub returns : goal.returns
returns c = waits_are_true
