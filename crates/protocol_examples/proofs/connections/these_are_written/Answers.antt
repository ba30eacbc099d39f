use Rattle.protocol_examples.proofs.Urls.{written, every_part_written, read}
use Rattle.protocol_examples.proofs.connections.these_are_written.Goals as goal

pub returns : goal.returns
returns c = record { database = written; every_part = every_part_written; read = read }
