use Rattle.std.proofs.Common.{refl}
use Rattle.cluster_examples.specs.PartTries.{picked_in_turn, turns_taken}
use Rattle.cluster_examples.proofs.Computed.{gives}
use Rattle.cluster_examples.proofs.choices.replicas_are_picked_in_turn.Goals as goal

pub returns : goal.returns
returns c = gives picked_in_turn turns_taken refl
