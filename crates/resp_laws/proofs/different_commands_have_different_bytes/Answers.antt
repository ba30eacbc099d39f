use Rattle.resp_laws.proofs.Commands.{same_command}
use Rattle.resp_laws.proofs.different_commands_have_different_bytes.Goals as goal

pub returns : goal.returns
returns c = same_command
