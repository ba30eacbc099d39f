use Rattle.std.proofs.Common.{refl}
use Rattle.protocol_examples.proofs.Setups.{newer_bytes, older_bytes, newer_user, older_user, unnamed}
use Rattle.protocol_examples.proofs.connections.these_are_setups.Goals as goal

pub returns : goal.returns
returns c = record { newer_bytes = newer_bytes; newer_commands = refl; older_bytes = older_bytes; older_commands = refl; older_user = older_user; newer_user = newer_user; no_password = λ name. refl; unnamed = unnamed }
