use Rattle.std.proofs.Common.{refl}
use Rattle.trace_examples.proofs.messages.faults_are_these_to_messages.Goals as goal

pub returns : goal.returns
returns c = record { reset = refl; broken = refl; unread = refl; ended = refl; shut = refl; behind = refl; felt = refl }
