use Rattle.trace_examples.proofs.Called.{done_early}
use Rattle.trace_examples.proofs.nor_is_this_call.Goals as goal

pub returns : goal.returns
returns c = done_early
