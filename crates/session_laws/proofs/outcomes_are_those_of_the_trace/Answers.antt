use Rattle.session_laws.proofs.Turn.Legality.{replay_outcomes}
use Rattle.session_laws.proofs.outcomes_are_those_of_the_trace.Goals as goal

pub returns : goal.returns
returns c = replay_outcomes
