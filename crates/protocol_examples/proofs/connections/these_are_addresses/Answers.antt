use Rattle.protocol_examples.proofs.Urls.{name, database, every_part, first_protocol}
use Rattle.protocol_examples.proofs.connections.these_are_addresses.Goals as goal

pub returns : goal.returns
returns c = record { name = name; database = database; every_part = every_part; first_protocol = first_protocol }
