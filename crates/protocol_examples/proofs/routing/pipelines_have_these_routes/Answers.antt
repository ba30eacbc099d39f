use Rattle.std.proofs.Common.{refl}
use Rattle.slot_hash.specs.Crc.{after_byte}
use Rattle.command_table.specs.Commands.{two_word_commands, one_word_commands}
use Rattle.command_table.specs.Lookup.{one_word_form, two_word_form}
use Rattle.protocol_examples.specs.Routes.{agreed_by, pipelines_routed}
use Rattle.protocol_examples.proofs.Computed.{gives}
use Rattle.protocol_examples.proofs.routing.pipelines_have_these_routes.Goals as goal

pub returns : goal.returns
unfolding after_byte two_word_commands one_word_commands one_word_form two_word_form
returns c = gives agreed_by pipelines_routed refl
