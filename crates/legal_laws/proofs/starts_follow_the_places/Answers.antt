use Rattle.legal_laws.proofs.Submissions.ByPlace.{starts_by_place}
use Rattle.legal_laws.proofs.starts_follow_the_places.Goals as goal

pub returns : goal.returns
returns c = starts_by_place
