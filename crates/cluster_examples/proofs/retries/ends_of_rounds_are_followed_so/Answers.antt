use Rattle.std.proofs.Common.{refl}
use Rattle.resp_value.specs.ErrorTable.{method_of}
use Rattle.cluster_retries.specs.Table.{following}
use Rattle.cluster_examples.specs.Retries.{follows, node_rows, other_rows, values}
use Rattle.cluster_examples.proofs.Computed.{gives}
use Rattle.cluster_examples.proofs.retries.ends_of_rounds_are_followed_so.Goals as goal

pub returns : goal.returns
unfolding following method_of
returns c = record {
  of_nodes = gives follows node_rows refl;
  of_others = gives follows other_rows refl;
  values = gives follows values refl;
}
