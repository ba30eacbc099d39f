use Rattle.std.proofs.Common.{refl}
use Rattle.trace_examples.proofs.refusals.these_managers_are_refused_first.Goals as goal

pub returns : goal.returns
returns c = record { all = refl; base = refl; push = refl; limit = refl; buffer = refl; uncounted = refl; none = refl }
