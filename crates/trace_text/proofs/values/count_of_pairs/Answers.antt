use Rattle.trace_text.proofs.Children.{count_of_members}
use Rattle.trace_text.proofs.values.count_of_pairs.Goals as goal

pub returns : goal.returns
returns c = rw (← c.as_slice.ensures) (count_of_members c.as_slice.result.now)
