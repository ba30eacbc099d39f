use Rattle.std.proofs.Common.{sym}
use Rattle.resp_write.proofs.Children.{count_of_items}
use Rattle.resp_write.proofs.value_text.count_of.Goals as goal

pub returns-clause-count : goal.returns-clause-count
returns-clause-count c = rw (← c.as_slice.ensures) (sym (count_of_items c.as_slice.result.now))
