use Rattle.legal_laws.proofs.Traces.Segments.{in_segments}
use Rattle.legal_laws.proofs.a_turn_has_five_segments.Goals as goal

pub returns : goal.returns
returns c = in_segments
