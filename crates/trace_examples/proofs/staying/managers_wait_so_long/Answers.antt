use Rattle.std.proofs.Common.{refl}
use Rattle.trace_examples.proofs.staying.managers_wait_so_long.Goals as goal

pub returns : goal.returns
returns c = refl
