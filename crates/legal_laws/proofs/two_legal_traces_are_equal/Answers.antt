use Rattle.legal_laws.proofs.Traces.Equal.{legal_is_one}
use Rattle.legal_laws.proofs.two_legal_traces_are_equal.Goals as goal

pub returns : goal.returns
returns c = legal_is_one
