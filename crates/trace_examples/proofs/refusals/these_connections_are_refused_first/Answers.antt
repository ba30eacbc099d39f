use Rattle.std.proofs.Common.{refl}
use Rattle.trace_examples.proofs.refusals.these_connections_are_refused_first.Goals as goal

pub returns : goal.returns
returns c = record { all = refl; url = refl; push = refl; limit = refl; limit_unheard = refl; buffer = refl; uncounted = refl; none = refl; unheard = refl }
