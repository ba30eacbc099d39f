use Rattle.std.proofs.Common.{refl}
use Rattle.trace_examples.proofs.refusals.queues_hold_so_many.Goals as goal

pub returns : goal.returns
returns c = record { sizes = refl; limits = refl }
