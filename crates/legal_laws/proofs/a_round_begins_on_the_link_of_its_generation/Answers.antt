use Rattle.legal_laws.proofs.Submissions.Rounding.{keeps_rounds}
use Rattle.legal_laws.proofs.a_round_begins_on_the_link_of_its_generation.Goals as goal

pub returns : goal.returns
returns c = keeps_rounds
