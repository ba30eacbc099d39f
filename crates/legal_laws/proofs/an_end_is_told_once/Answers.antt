use Rattle.legal_laws.proofs.Links.Parted.{tells_ends}
use Rattle.legal_laws.proofs.an_end_is_told_once.Goals as goal

pub returns : goal.returns
returns c = tells_ends
