use Rattle.protocol_examples.proofs.Addresses.{each_address}
use Rattle.protocol_examples.proofs.routing.these_texts_are_addresses.Goals as goal

pub returns : goal.returns
returns c = each_address
