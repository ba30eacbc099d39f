use Rattle.legal_laws.proofs.Links.Bounds.{stays_within}
use Rattle.legal_laws.proofs.no_message_starts_past_the_boundary.Goals as goal

pub returns : goal.returns
returns c = stays_within
