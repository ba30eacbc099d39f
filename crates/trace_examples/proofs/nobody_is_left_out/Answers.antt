use Rattle.trace_examples.proofs.LeftOut.{forgotten, never_offered, held_back_last}
use Rattle.trace_examples.proofs.nobody_is_left_out.Goals as goal

pub returns : goal.returns
returns c = record { forgotten = forgotten; never_offered = never_offered; held_back_last = held_back_last }
