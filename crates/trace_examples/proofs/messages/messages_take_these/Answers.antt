use Rattle.std.proofs.Common.{refl}
use Rattle.trace_examples.proofs.messages.messages_take_these.Goals as goal

pub returns : goal.returns
returns c = record { items = refl; permits = refl; inside = refl }
