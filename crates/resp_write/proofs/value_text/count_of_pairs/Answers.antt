use Rattle.std.proofs.Common.{sym}
use Rattle.resp_write.proofs.Children.{count_of_members}
use Rattle.resp_write.proofs.value_text.count_of_pairs.Goals as goal

pub returns : goal.returns
returns c = rw (← c.as_slice.ensures) (sym (count_of_members c.as_slice.result.now))
