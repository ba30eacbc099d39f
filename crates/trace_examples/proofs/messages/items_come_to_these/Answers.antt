use Rattle.std.proofs.Common.{refl}
use Rattle.trace_examples.proofs.messages.items_come_to_these.Goals as goal

pub returns : goal.returns
returns c = record { multi = refl; one = refl; both = refl; executed = refl; refused = refl; alone = refl; kept = refl; skipped = refl; confirmed = refl }
