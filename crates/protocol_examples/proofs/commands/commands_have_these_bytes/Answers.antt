use Rattle.std.proofs.Common.{refl}
use Rattle.std.specs.Fmt.{digits}
use Rattle.resp_write.specs.Pack.{pack, pack_pipeline}
use Rattle.driver_model.specs.Request.{packed_bytes}
use Rattle.protocol_examples.specs.Packing.{packed_commands, packed_pipelines, packed_submissions}
use Rattle.protocol_examples.proofs.Computed.{gives}
use Rattle.protocol_examples.proofs.commands.commands_have_these_bytes.Goals as goal

pub returns : goal.returns
unfolding digits
returns c = record { commands = gives pack packed_commands refl; pipelines = gives pack_pipeline packed_pipelines refl; submissions = gives packed_bytes packed_submissions refl }
