use Rattle.resp_laws.proofs.Pipelines.{all_read, exactly_read, nothing_left}
use Rattle.resp_laws.proofs.packed_commands_are_read_back_in_order.Goals as goal

pub returns : goal.returns
returns c = record {
  exactly = exactly_read;
  nothing_left = nothing_left;
  in_front = λ commands rest h. (all_read commands rest h).are;
  left = λ commands rest h. (all_read commands rest h).left;
  spoiled = λ commands rest h. (all_read commands rest h).spoiled;
}
