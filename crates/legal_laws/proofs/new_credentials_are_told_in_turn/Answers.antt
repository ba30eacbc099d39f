use Rattle.legal_laws.proofs.Internal.Telling.{tells_in_turn}
use Rattle.legal_laws.proofs.new_credentials_are_told_in_turn.Goals as goal

pub returns : goal.returns
returns c = tells_in_turn
