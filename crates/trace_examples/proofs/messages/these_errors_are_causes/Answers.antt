use Rattle.std.proofs.Common.{refl}
use Rattle.resp_value.specs.ErrorTable.{method_of}
use Rattle.trace_examples.proofs.messages.these_errors_are_causes.Goals as goal

pub returns : goal.returns
unfolding method_of
returns c = record { failed = refl; served = refl; unended = refl }
