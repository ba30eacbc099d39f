use Rattle.legal_laws.proofs.Links.Opened.{starts_opened}
use Rattle.legal_laws.proofs.nothing_starts_before_the_setup.Goals as goal

pub returns : goal.returns
returns c = starts_opened
