use Rattle.resp_laws.proofs.Commands.{reads_back, reads_within}
use Rattle.resp_laws.proofs.a_packed_command_is_read_back.Goals as goal

pub returns : goal.returns
returns c = record { reads = reads_back; within = λ limits name rest args allowed deep h. reads_within limits allowed name rest args deep h }
