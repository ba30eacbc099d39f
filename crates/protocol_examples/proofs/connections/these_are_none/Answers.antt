use Rattle.protocol_examples.proofs.Urls.{encrypted, no_host, port, no_database, password, protocol, long}
use Rattle.protocol_examples.proofs.connections.these_are_none.Goals as goal

pub returns : goal.returns
returns c = record { encrypted = encrypted; no_host = no_host; port = port; database = no_database; password = password; protocol = protocol; long = long }
