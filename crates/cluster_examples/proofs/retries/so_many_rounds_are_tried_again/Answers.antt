use Rattle.std.proofs.Common.{refl}
use Rattle.cluster_examples.specs.Retries.{left_behind, rounds}
use Rattle.cluster_examples.proofs.Computed.{gives}
use Rattle.cluster_examples.proofs.retries.so_many_rounds_are_tried_again.Goals as goal

pub returns : goal.returns
returns c = gives left_behind rounds refl
