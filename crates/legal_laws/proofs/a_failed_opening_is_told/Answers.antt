use Rattle.legal_laws.proofs.Generations.Creation.{opening_is_told}
use Rattle.legal_laws.proofs.a_failed_opening_is_told.Goals as goal

pub returns : goal.returns
returns c = opening_is_told
