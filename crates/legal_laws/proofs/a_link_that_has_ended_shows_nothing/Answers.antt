use Rattle.legal_laws.proofs.Links.Late.{late_is_nothing}
use Rattle.legal_laws.proofs.a_link_that_has_ended_shows_nothing.Goals as goal

pub returns : goal.returns
returns c = late_is_nothing
