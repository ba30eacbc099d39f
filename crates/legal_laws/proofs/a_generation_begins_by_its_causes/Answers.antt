use Rattle.legal_laws.proofs.Generations.Generations.{comes_back}
use Rattle.legal_laws.proofs.a_generation_begins_by_its_causes.Goals as goal

pub returns : goal.returns
returns c = comes_back
