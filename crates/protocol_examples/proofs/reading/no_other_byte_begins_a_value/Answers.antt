use Rattle.protocol_examples.proofs.FirstBytes.{begins_none}
use Rattle.protocol_examples.proofs.reading.no_other_byte_begins_a_value.Goals as goal

pub returns : goal.returns
returns c = begins_none
