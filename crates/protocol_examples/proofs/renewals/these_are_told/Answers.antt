use Rattle.protocol_examples.proofs.Renewed.{bytes, count, swapped, as_setup}
use Rattle.protocol_examples.proofs.renewals.these_are_told.Goals as goal

pub returns : goal.returns
returns c = record { bytes = bytes; count = count; swapped = swapped; as_setup = as_setup }
