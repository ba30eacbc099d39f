use Rattle.trace_text.proofs.Children.{count_of_items}
use Rattle.trace_text.proofs.values.count_of.Goals as goal

pub returns-clause-count : goal.returns-clause-count
returns-clause-count c = rw (← c.as_slice.ensures) (count_of_items c.as_slice.result.now)
